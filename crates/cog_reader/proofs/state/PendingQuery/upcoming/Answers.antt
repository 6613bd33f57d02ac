use Rattle.std.proofs.Common.{sym, subst}
use Rattle.cog_reader.specs.Reader.{IsState}
use Rattle.cog_reader.specs.ReaderStep.{ComesLater}
use Rattle.cog_reader.proofs.state.PendingQuery.upcoming.Goals as goal

pub returns-in-Tiles : goal.returns-in-Tiles
returns-in-Tiles c =
    let a = c.args in
    let sound = subst (IsState a.file.now.file_length a.file.now.walk.now a.file.now.kept.now) c.in-Tiles.is c.requires in
    subst (λ s. ComesLater a.file.now.file_length a.file.now.walk.now a.file.now.kept.now s a.index c.upcoming-in-Tiles.result) (sym c.in-Tiles.is)
    (c.upcoming-in-Tiles.ensures a.file.now.file_length a.file.now.walk.now a.file.now.kept.now sound.1)

pub returns-in-GeoFields : goal.returns-in-GeoFields
returns-in-GeoFields c =
    let a = c.args in
    subst (λ s. ComesLater a.file.now.file_length a.file.now.walk.now a.file.now.kept.now s a.index c.upcoming-in-GeoFields.result) (sym c.in-GeoFields.is)
    (c.upcoming-in-GeoFields.ensures a.file.now.walk.now a.file.now.kept.now)
