use Rattle.std.proofs.Common.{◌≡◌, Option, ap, sym, subst, ◌∙◌}
use Rattle.std.specs.Prelude.{IfSome}
use Rattle.cog_reader.specs.declared.state.PendingQuery.{PendingQuery}
use Rattle.cog_reader.specs.Reader.{ReaderState, IsState, Takes}
use Rattle.cog_reader.proofs.ReaderLemmas.{given_sound, given_takes, holding}
use Rattle.cog_reader.proofs.reader.Reader.give.Goals as goal

pub give-requires-clause-state : goal.give-requires-clause-state
give-requires-clause-state c = (
  c.self.inside.file_length,
  subst (λ (o : Option PendingQuery). IfSome o (λ a. IsState c.self.inside.file_length c.self.inside.walk c.self.inside.kept a.state)) c.in-Some.is c.self.invariant.state,
)

pub invariant_of-self-2 : goal.invariant_of-self-2
invariant_of-self-2 c =
    let i = c.self.inside in
    let state = subst (λ (o : Option PendingQuery). IfSome o (λ a. IsState i.file_length i.walk i.kept a.state)) c.in-Some.is c.self.invariant.state in
    given_sound i.file_length c.args.bytes.now i.walk c.give.new.walk i.kept c.give.new.kept i.tile_cache c.give.new.tile_cache c.in-Some.pending c.give.new.self (c.in_ok-give.ensures.gives i.file_length state)

pub returns-clause-takes : goal.returns-clause-takes
returns-clause-takes c =
    let i = c.self.inside in
    let state = subst (λ (o : Option PendingQuery). IfSome o (λ a. IsState i.file_length i.walk i.kept a.state)) c.in-Some.is c.self.invariant.state in
    let old : c.args.self.now ≡ holding i.file_length i.walk i.kept i.tile_cache c.in-Some.pending = sym c.self.view_is ∙ ap (λ (o : Option PendingQuery). record { file_length = i.file_length; walk = i.walk; kept = i.kept; tiles = i.tile_cache; pending = o }) c.in-Some.is in
    subst (λ (r : ReaderState). Takes c.args.bytes.now r (holding i.file_length c.give.new.walk c.give.new.kept c.give.new.tile_cache c.give.new.self)) (sym old)
    (given_takes i.file_length c.args.bytes.now i.walk c.give.new.walk i.kept c.give.new.kept i.tile_cache c.give.new.tile_cache c.in-Some.pending c.give.new.self c.in_ok-give.ensures.query (c.in_ok-give.ensures.gives i.file_length state))
