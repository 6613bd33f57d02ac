use Rattle.std.proofs.Common.{sym, subst}
use Rattle.cog_reader.specs.declared.state.State.{State}
use Rattle.cog_reader.specs.declared.state.State.TheVariants.{Tiles}
use Rattle.cog_reader.specs.Reader.{IsState}
use Rattle.cog_reader.specs.Give.{Gives}
use Rattle.cog_reader.proofs.GiveLemmas.{at_state, gives_on}
use Rattle.cog_reader.proofs.state.PendingQuery.paint.Goals as goal

pub returns-clause-gives : goal.returns-clause-gives
returns-clause-gives g c file_length w tiles keeps state =
    let bytes = g.B.Bytes.bytes c.args.bytes.now in
    let k = c.args.kept.now in
    let old = c.in-Tiles.builder in
    let new = c.paint.new.builder in
    let here = subst (IsState file_length w k) c.in-Tiles.is state in
    subst (λ (t : State). Gives file_length bytes c.args.self.now.query (at_state w k tiles t) (at_state w k tiles (Tiles new))) (sym c.in-Tiles.is)
    (gives_on file_length bytes c.args.self.now.query (at_state w k tiles (Tiles old)) (at_state w k tiles (Tiles new)) (c.paint.ensures file_length w tiles here.0 here.1 keeps))
