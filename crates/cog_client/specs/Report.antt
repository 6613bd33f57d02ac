-- What a report says, and when it is true.
use Rattle.std.specs.Prelude.{◌≡◌, ℕ, List, Option, Some}
use Rattle.std.specs.Option.{option_map}
use Rattle.std.specs.Global.{Vec}
use Rattle.tiff_dir.specs.declared.query.Query.{Query}
use Rattle.tiff_dir.specs.declared.fault.FileFault.{FileFault}
use Rattle.http_range.specs.Book.{Publication, Book, In}
use Rattle.geokeys.specs.Same.{Content, contents}
use Rattle.cog_reader.specs.declared.outcome.Outcome.{Outcome}
use Rattle.cog_reader.specs.declared.outcome.Outcome.TheVariants as outcomes
use Rattle.cog_reader.specs.Outcome.{IsTrueOf}
use Rattle.cog_client.specs.declared.report.Report.{Report}

-- ---- what is said of a file, wherever it lies in memory

pub data Said : Type 0 where
  Shows : (width height samples bits : ℕ) (pixels : List ℕ) → Said
  Tells : (sides : List (ℕ × ℕ)) (minor : ℕ) (keys : List (ℕ × Content)) (scale tiepoints transformation : Option (List (List ℕ))) → Said
  Refuses : FileFault → Said

abbrev pub items_in : Option (Vec (List ℕ)) → Option (List (List ℕ))
items_in o = option_map (λ v. v.items) o

abbrev pub said_of : Outcome → Said
said_of (outcomes.Window v) = Shows v.w v.h v.samples v.bits v.pixels.items
said_of (outcomes.Info i) =
    Tells i.sides.items i.geo.minor (contents i.geo.keys.items) (items_in i.scale) (items_in i.tiepoints) (items_in i.transformation)
said_of (outcomes.Fault fault) = Refuses fault

-- the query, the ETag of the file, and what is said of it
pub record Told : Type 0 where
  pub query : Query
  pub tag : List ℕ
  pub said : Said

abbrev pub told : Report → Told
told r = record { query = r.query; tag = r.tag; said = said_of r.outcome }

-- ---- when it is true

-- The report answers the query. It is true of one file that was published under the name: the one whose ETag the report has.
pub record IsTrueReport (r : Report) (name : List ℕ) (query : Option Query) (book : Book) : Type 0 where
  pub asked : query ≡ Some r.query
  pub source : Publication
  pub published : In source book
  pub of_name : source.name ≡ name
  pub of_tag : source.tag ≡ r.tag
  pub holds : IsTrueOf source.file r.query r.outcome

-- A report that says the same as a true one is true.
abbrev pub TruthIsTold : Type 0
TruthIsTold = (r s : Report) (name : List ℕ) (query : Option Query) (book : Book) →
    told r ≡ told s → IsTrueReport r name query book → IsTrueReport s name query book
