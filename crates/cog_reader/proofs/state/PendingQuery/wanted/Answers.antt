use Rattle.std.proofs.Common.{sym, subst}
use Rattle.cog_reader.specs.Reader.{IsState}
use Rattle.cog_reader.specs.ReaderStep.{ComesNext}
use Rattle.cog_reader.proofs.state.PendingQuery.wanted.Goals as goal

pub returns-in-Directories : goal.returns-in-Directories
returns-in-Directories c =
    let a = c.args in
    subst (λ s. ComesNext a.file.now.file_length a.file.now.walk.now a.file.now.kept.now s c.wanted.result) (sym c.in-Directories.is) (c.wanted.ensures a.file.now.kept.now)

pub returns-in-Tiles : goal.returns-in-Tiles
returns-in-Tiles c =
    let a = c.args in
    let sound = subst (IsState a.file.now.file_length a.file.now.walk.now a.file.now.kept.now) c.in-Tiles.is c.requires in
    subst (λ s. ComesNext a.file.now.file_length a.file.now.walk.now a.file.now.kept.now s c.wanted-in-Tiles.result) (sym c.in-Tiles.is)
    (c.wanted-in-Tiles.ensures a.file.now.file_length a.file.now.walk.now a.file.now.kept.now sound.1)

pub returns-in-GeoFields : goal.returns-in-GeoFields
returns-in-GeoFields c =
    let a = c.args in
    subst (λ s. ComesNext a.file.now.file_length a.file.now.walk.now a.file.now.kept.now s c.wanted-in-GeoFields.result) (sym c.in-GeoFields.is)
    (c.wanted-in-GeoFields.ensures a.file.now.walk.now a.file.now.kept.now)
