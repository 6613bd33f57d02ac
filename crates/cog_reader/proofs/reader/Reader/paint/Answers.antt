use Rattle.std.proofs.Common.{◌≡◌, Option, ap, sym, subst, ◌∙◌}
use Rattle.std.specs.Prelude.{IfSome}
use Rattle.cog_reader.specs.declared.state.PendingQuery.{PendingQuery}
use Rattle.cog_reader.specs.Reader.{ReaderState, IsState, Takes}
use Rattle.cog_reader.proofs.ReaderLemmas.{given_sound, given_takes, holding}
use Rattle.cog_reader.proofs.reader.Reader.paint.Goals as goal

pub invariant_of-self : goal.invariant_of-self
invariant_of-self g c =
    let i = c.self.inside in
    let bytes = g.B.Bytes.bytes c.args.bytes.now in
    let state = subst (λ (o : Option PendingQuery). IfSome o (λ a. IsState i.file_length i.walk i.kept a.state)) c.in-Some.is c.self.invariant.state in
    given_sound i.file_length bytes i.walk i.walk i.kept i.kept i.tile_cache i.tile_cache c.in-Some.pending c.paint.new.self (c.paint.ensures.gives i.file_length i.walk i.tile_cache c.self.invariant.kept state)

pub returns-clause-takes : goal.returns-clause-takes
returns-clause-takes g c =
    let i = c.self.inside in
    let bytes = g.B.Bytes.bytes c.args.bytes.now in
    let state = subst (λ (o : Option PendingQuery). IfSome o (λ a. IsState i.file_length i.walk i.kept a.state)) c.in-Some.is c.self.invariant.state in
    let old : c.args.self.now ≡ holding i.file_length i.walk i.kept i.tile_cache c.in-Some.pending = sym c.self.view_is ∙ ap (λ (o : Option PendingQuery). record { file_length = i.file_length; walk = i.walk; kept = i.kept; tiles = i.tile_cache; pending = o }) c.in-Some.is in
    subst (λ (r : ReaderState). Takes bytes r (holding i.file_length i.walk i.kept i.tile_cache c.paint.new.self)) (sym old)
    (given_takes i.file_length bytes i.walk i.walk i.kept i.kept i.tile_cache i.tile_cache c.in-Some.pending c.paint.new.self c.paint.ensures.query (c.paint.ensures.gives i.file_length i.walk i.tile_cache c.self.invariant.kept state))
