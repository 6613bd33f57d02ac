use Rattle.std.proofs.Common.{◌≡◌, true, length, Option, sym, subst}
use Rattle.tiff_dir.specs.declared.fault.FileFault.{FileFault}
use Rattle.tiff_dir.specs.Window.{is_packed}
use Rattle.cog_reader.specs.declared.state.State.{State}
use Rattle.cog_reader.specs.declared.state.State.TheVariants.{Answered, Tiles}
use Rattle.cog_reader.specs.declared.outcome.Outcome.TheVariants.{Fault}
use Rattle.cog_reader.specs.Reader.{AreTiles, IsState}
use Rattle.cog_reader.specs.Give.{AcceptsRange, Gives}
use Rattle.cog_reader.proofs.GiveLemmas.{at_state, gives_fault, gives_on, len_wanted}
use Rattle.cog_reader.proofs.state.PendingQuery.unpack.Goals as goal

pub returns-in-Some-clause-gives : goal.returns-in-Some-clause-gives
returns-in-Some-clause-gives g c file_length w keeps state =
    let bytes = g.B.Bytes.bytes c.args.bytes.now in
    let k = c.args.kept.now in
    let old = c.in-Tiles.builder in
    let new = c.unpack.new.builder in
    let here = subst (IsState file_length w k) c.in-Tiles.is state in
    let wanted = len_wanted w k old (length bytes) (subst (λ (t : State). AreTiles (λ c. is_packed c ≡ true) k t (length bytes)) c.in-Tiles.is c.requires.tiles).1 in
    subst (λ (t : State). Gives file_length bytes c.args.self.now.query (at_state w k c.args.tile_cache.now t) (at_state w k c.unpack.new.tile_cache (Answered (Fault c.in-Some.fault)))) (sym c.in-Tiles.is)
    (gives_fault file_length bytes c.args.self.now.query (at_state w k c.args.tile_cache.now (Tiles old)) (at_state w k c.unpack.new.tile_cache (Tiles new)) c.in-Some.fault keeps wanted
    (subst (λ (o : Option FileFault). AcceptsRange file_length bytes (at_state w k c.args.tile_cache.now (Tiles old)) (at_state w k c.unpack.new.tile_cache (Tiles new)) o) c.in-Some.is (c.unpack.ensures file_length w here.0 here.1 keeps)))

pub returns-in-None-clause-gives : goal.returns-in-None-clause-gives
returns-in-None-clause-gives g c file_length w keeps state =
    let bytes = g.B.Bytes.bytes c.args.bytes.now in
    let k = c.args.kept.now in
    let old = c.in-Tiles.builder in
    let new = c.unpack.new.builder in
    let here = subst (IsState file_length w k) c.in-Tiles.is state in
    subst (λ (t : State). Gives file_length bytes c.args.self.now.query (at_state w k c.args.tile_cache.now t) (at_state w k c.unpack.new.tile_cache (Tiles new))) (sym c.in-Tiles.is)
    (gives_on file_length bytes c.args.self.now.query (at_state w k c.args.tile_cache.now (Tiles old)) (at_state w k c.unpack.new.tile_cache (Tiles new))
    (subst (λ (o : Option FileFault). AcceptsRange file_length bytes (at_state w k c.args.tile_cache.now (Tiles old)) (at_state w k c.unpack.new.tile_cache (Tiles new)) o) c.in-None.is (c.unpack.ensures file_length w here.0 here.1 keeps)))
