-- The files of a server as publications.
use Rattle.std.specs.Prelude.{ℕ, [], ◌∷◌, ◌++◌, slice_set, Option, Some, None}
use Rattle.std.specs.Rc.{rc_slice_items}
use Rattle.http_range.specs.Book.{Publication, Catalogue}
use Rattle.cog_server.specs.declared.published.Published.{Published}

abbrev pub publication : Published → Publication
publication p = record { name = p.name.items; tag = p.tag; file = rc_slice_items p.file }

-- `p` is stored at a place, or at the end
abbrev pub put_at : Option ℕ → Publication → Catalogue → Catalogue
put_at None p catalogue = catalogue ++ p ∷ []
put_at (Some i) p catalogue = slice_set catalogue i p
