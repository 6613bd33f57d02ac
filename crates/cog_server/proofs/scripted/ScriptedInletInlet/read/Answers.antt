use Rattle.std.proofs.Common.{◌≡◌, ℕ, List, length, take, drop, ◌++◌, ◌+◌, ◌-◌, sym, ap, ◌∙◌, arith, length-take}
use Rattle.std.proofs.lemmas.List.{take_at}
use Rattle.cog_server.proofs.ScriptedLemmas.{next_turn}
use Rattle.cog_server.proofs.SentLemmas.{take_both}
use Rattle.cog_server.proofs.scripted.ScriptedInletInlet.read.Goals as goal

pub returns-clause-bytes : goal.returns-clause-bytes
returns-clause-bytes c =
    let s = c.args.self.now in
    let n = c.min-n.result in
    let room = c.args.room.now in
    let new = c.copy_from_slice.new.self in
    let k : (s.position + n) - s.position ≡ n = omega arith in
    let is : new ≡ take n (drop s.position s.bytes.items) =
    c.copy_from_slice.ensures.after ∙ ap (λ (m : ℕ). take m (drop s.position c.deref.result.now)) k
    ∙ ap (λ (xs : List ℕ). take n (drop s.position xs)) c.deref.ensures.value in
    let full : length new ≡ n = omega (arith, length-take n room) in
    take_both s.position n s.bytes.items
    ∙ ap (λ (t : List ℕ). take s.position s.bytes.items ++ t) (sym (take_at new (drop n room) n full ∙ is))

pub returns-clause-turn : goal.returns-clause-turn
returns-clause-turn c some =
    let s = c.args.self.now in
    next_turn s.pieces.items s.reads c.saturating_add-self.result 18446744073709551615 (omega (arith, s.pieces.ok.0)) c.saturating_add-self.ensures
