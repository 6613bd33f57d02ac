use Rattle.std.proofs.Common.{sym, arith}
use Rattle.tiff_dir.specs.declared.level.Kind.TheVariants as kinds
use Rattle.tiff_dir.specs.Profile.{geo_rule}
use Rattle.tiff_dir.proofs.GeoLemmas.{typed_by, is_double, is_ascii, is_short, some_of, some_exactly}
use Rattle.tiff_dir.proofs.geo.GeoEntries.places.Goals as goal

pub returns-clause-typed : goal.returns-clause-typed
returns-clause-typed c = record {
  directory = typed_by (geo_rule 0) kinds.Short c.args.self.directory c.in_ok-directory.directory is_short (some_of 1) (sym c.in_ok-directory.ensures.place) c.in_ok-directory.ensures.near;
  doubles = typed_by (geo_rule 1) kinds.Double c.args.self.doubles c.in_ok-doubles.doubles is_double (some_of 1) (sym c.in_ok-doubles.ensures.place) c.in_ok-doubles.ensures.near;
  ascii = typed_by (geo_rule 2) kinds.Ascii c.args.self.ascii c.in_ok-ascii.ascii is_ascii (some_of 1) (sym c.in_ok-ascii.ensures.place) c.in_ok-ascii.ensures.near;
  scale = typed_by (geo_rule 3) kinds.Double c.args.self.scale c.in_ok-scale.scale is_double (λ n is. some_exactly 3 n (omega arith) is) (sym c.in_ok-scale.ensures.place) c.in_ok-scale.ensures.near;
  tiepoints = typed_by (geo_rule 4) kinds.Double c.args.self.tiepoints c.in_ok-tiepoints.tiepoints is_double (some_of 6) (sym c.in_ok-tiepoints.ensures.place) c.in_ok-tiepoints.ensures.near;
  transformation = typed_by (geo_rule 5) kinds.Double c.args.self.transformation c.in_ok-transformation.transformation is_double (λ n is. some_exactly 16 n (omega arith) is) (sym c.in_ok-transformation.ensures.place) c.in_ok-transformation.ensures.near;
}
