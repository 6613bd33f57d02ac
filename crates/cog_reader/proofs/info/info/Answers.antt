use Rattle.std.proofs.Common.{List, map, Some, ap, sym, subst, ◌∙◌}
use Rattle.std.specs.Option.{option_map}
use Rattle.tiff_dir.specs.declared.geo.GeoPlaces.{GeoPlaces}
use Rattle.tiff_dir.specs.Geo.{key_source}
use Rattle.tiff_dir.specs.Keys.{KeySource, IsFaultOfKeys}
use Rattle.tiff_dir.specs.Walk.{WalkAgrees}
use Rattle.geokeys.specs.Doubles.{doubles_in}
use Rattle.geokeys.specs.Keys.{AreKeys, IsKeyError}
use Rattle.cog_reader.specs.GeoFields.{geo_bytes, IsReadOf}
use Rattle.cog_reader.specs.ReaderStep.{IsInfoError}
use Rattle.cog_reader.proofs.InfoLemmas.{file_parts, info_error, info_sound, items_are, parts_source, passed_on, sides_told}
use Rattle.cog_reader.proofs.info.info.Goals as goal

pub returns-in_err-geo-clause-refused : goal.returns-in_err-geo-clause-refused
returns-in_err-geo-clause-refused c =
    passed_on c.from_residual.result c.in_err-geo.field-0.0 (λ e. (f : List _) → WalkAgrees c.args.walk.now f → IsReadOf f c.args.fields.now → IsInfoError f e) c.from_residual.ensures.1
    (λ f agrees read. (
    let x = c.args.fields.now in
    let parts = file_parts f x _ _ _ _ _ _ read c.requires.read c.parts-parts.ensures.parts in
    info_error f c.in_err-geo.field-0.0 (subst (λ (s : KeySource). IsKeyError s c.in_err-geo.field-0.0) (parts_source f c.order-order.result x _ _ _ _ _ _ (c.order-order.ensures.order f agrees) c.parts-parts.ensures.typed read c.requires.read parts) c.in_err-geo.ensures.refused)
    ))

pub returns-clause-info : goal.returns-clause-info
returns-clause-info c f agrees read =
    let x = c.args.fields.now in
    let o = c.order-order.result in
    let named = c.order-order.ensures.order f agrees in
    let parts = file_parts f x _ _ _ _ _ _ read c.requires.read c.parts-parts.ensures.parts in
    let source = parts_source f o x _ _ _ _ _ _ named c.parts-parts.ensures.typed read c.requires.read parts in record {
      sound = info_sound f x (c.law_what_comes.ensures.clean c.args.walk.now f agrees c.requires.ended) read c.requires.read (λ fault bad. c.in_ok-geo.ensures.sound fault (subst (λ (s : KeySource). IsFaultOfKeys s fault) (sym source) bad));
      order = o;
      order_is = named;
      sides_are = ap (map Some) c.in_ok-sides.ensures ∙ sides_told f c.levels.result.now (c.levels.ensures.levels f agrees);
      keys = subst (λ (b : List _). AreKeys (key_source f) o b (geo_bytes f 34737) c.in_ok-geo.geo) parts.doubles_is (subst (λ (b : List _). AreKeys (key_source f) o c.parts-parts.result.doubles.now b c.in_ok-geo.geo) parts.ascii_is
          (subst (λ (s : KeySource). AreKeys s o c.parts-parts.result.doubles.now c.parts-parts.result.ascii.now c.in_ok-geo.geo) source c.in_ok-geo.ensures.keys));
      scale = items_are f o 33550 x.places.scale c.parts-parts.result.scale.now _ read.places.scale parts.scale_is
          (c.in_ok-items.ensures ∙ ap (λ (g : GeoPlaces). option_map (λ _. doubles_in o c.parts-parts.result.scale.now) g.scale) c.places-places.ensures.places);
      tiepoints = items_are f o 33922 x.places.tiepoints c.parts-parts.result.tiepoints.now _ read.places.tiepoints parts.tiepoints_is
          (c.in_ok-items-2.ensures ∙ ap (λ (g : GeoPlaces). option_map (λ _. doubles_in o c.parts-parts.result.tiepoints.now) g.tiepoints) c.places-places.ensures.places);
      transformation = items_are f o 34264 x.places.transformation c.parts-parts.result.transformation.now _ read.places.transformation parts.transformation_is
          (c.in_ok-items-3.ensures ∙ ap (λ (g : GeoPlaces). option_map (λ _. doubles_in o c.parts-parts.result.transformation.now) g.transformation) c.places-places.ensures.places);
    }
