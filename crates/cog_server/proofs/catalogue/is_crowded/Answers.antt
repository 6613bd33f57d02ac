use Rattle.std.proofs.Common.{◌≡◌, Bool, true, false, length, map, sym, ap, ◌∙◌}
use Rattle.std.specs.Prelude.{nat_le, ◌&&◌, is_none}
use Rattle.std.proofs.lemmas.List.{length-map}
use Rattle.http_range.specs.declared.publication.TheConstants.{NAMES_LIMIT}
use Rattle.http_range.specs.Book.{published}
use Rattle.cog_server.specs.Catalogue.{publication}
use Rattle.cog_server.proofs.CatalogueLemmas.{none_by, none_placed, some_by}
use Rattle.cog_server.proofs.catalogue.is_crowded.Goals as goal

pub returns-then-is_none : goal.returns-then-is_none
returns-then-is_none c =
    let files = c.args.files.now in
    let none : is_none (published c.args.name.now (map publication files)) ≡ true =
    sym (none_placed c.args.name.now files c.place_of.result c.place_of.ensures) ∙ none_by c.place_of.result c.if-is_none.ensures in
    sym (ap (λ (b : Bool). b && nat_le NAMES_LIMIT (length (map publication files))) none ∙ ap (nat_le NAMES_LIMIT) (length-map files publication))

pub returns-else-is_none : goal.returns-else-is_none
returns-else-is_none c =
    let files = c.args.files.now in
    let some : is_none (published c.args.name.now (map publication files)) ≡ false =
    sym (none_placed c.args.name.now files c.place_of.result c.place_of.ensures) ∙ some_by c.place_of.result c.if-is_none.ensures in
    c.if-is_none.false ∙ sym (ap (λ (b : Bool). b && nat_le NAMES_LIMIT (length (map publication files))) some)
