use Rattle.std.proofs.Common.{◌≡◌, drop, refl, ◌∙◌, arith}
use Rattle.cog_server.specs.Scripted.{sizes_left}
use Rattle.cog_server.proofs.ScriptedLemmas.{next_turn}
use Rattle.cog_server.proofs.scripted.ScriptedOutletOutlet.write.Goals as goal
use Rattle.cog_server.proofs.scripted.ScriptedOutletOutlet.write.Goals.{then-n-eq0+then-not-is_empty, else-n-eq0}

pub returns-clause-turn : goal.returns-clause-turn
returns-clause-turn c =
    let s = c.if-n-eq0.self in
    let same : drop 1 (drop s.writes s.pieces.items) ≡ drop 1 (sizes_left c.args.self.now) =
    elim c.if-n-eq0.branch [
      | then-n-eq0+then-not-is_empty w ↦ rw w.self-is refl
      | else-n-eq0 w ↦ rw w.self-is refl
    ] in
    next_turn s.pieces.items s.writes c.saturating_add-self.result 18446744073709551615 (omega (arith, s.pieces.ok.0)) c.saturating_add-self.ensures ∙ same
