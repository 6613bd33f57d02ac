-- A report that tells the same as a true one is true: truth speaks of what is said, wherever it lies in memory.
use Rattle.tiff_dir.specs.declared.tags.TheConstants.{BITS_PER_SAMPLE, GEO_ASCII_PARAMS, GEO_DOUBLE_PARAMS, MODEL_PIXEL_SCALE, MODEL_TIEPOINT, MODEL_TRANSFORMATION, SAMPLES_PER_PIXEL}
use Rattle.std.proofs.Common.{◌≡◌, ℕ, zero, suc, ◌+◌, ◌*◌, List, [], ◌∷◌, length, map, Option, Some, None, refl, sym, ap, ◌∙◌, subst}
use Rattle.std.specs.Prelude.{IfSome, slice_get, unwrap_or}
use Rattle.std.specs.List.{slice_range}
use Rattle.std.specs.Option.{option_map}
use Rattle.std.proofs.lemmas.List.{length-map}
use Rattle.tiff_dir.specs.declared.fault.FileFault.{FileFault}
use Rattle.tiff_dir.specs.declared.order.Order.{Order}
use Rattle.tiff_dir.specs.declared.query.Query.{Query}
use Rattle.tiff_dir.specs.declared.query.Query.TheVariants as queries
use Rattle.tiff_dir.specs.Fault.{sides}
use Rattle.tiff_dir.specs.Faulty.{IsFaulty, IsWindow}
use Rattle.tiff_dir.specs.File.{order_of}
use Rattle.tiff_dir.specs.Geo.{key_source}
use Rattle.tiff_dir.specs.Keys.{KeySource, key_count, key_number}
use Rattle.tiff_dir.specs.Level.{level_directories, level_value}
use Rattle.tiff_dir.specs.Profile.{sample_bytes}
use Rattle.tiff_dir.specs.Query.{Rectangle, rectangle}
use Rattle.geokeys.specs.declared.geo.Geo.{Geo}
use Rattle.geokeys.specs.declared.geo.Key.{Key}
use Rattle.geokeys.specs.declared.geo.KeyValue.{KeyValue}
use Rattle.geokeys.specs.declared.geo.KeyValue.TheVariants as values
use Rattle.geokeys.specs.Doubles.{doubles_in}
use Rattle.geokeys.specs.Keys.{AreKeys, IsKey, IsValue}
use Rattle.geokeys.specs.Same.{Content, Number, Items, Text, content_of, contents, key_content}
use Rattle.cog_reader.specs.declared.outcome.Info.{Info}
use Rattle.cog_reader.specs.declared.outcome.Outcome.{Outcome}
use Rattle.cog_reader.specs.declared.outcome.Outcome.TheVariants as outcomes
use Rattle.cog_reader.specs.declared.outcome.Window.{Window}
use Rattle.cog_reader.specs.GeoFields.{geo_bytes}
use Rattle.cog_reader.specs.Outcome.{IsInfoOf, IsTrueOf, IsWindowOf, items_of}
use Rattle.tile_plan.specs.Samples.{samples_in}
use Rattle.cog_client.specs.Report.{Refuses, Said, Shows, Tells, Told, TruthIsTold, items_in, said_of}

-- ---- windows

-- what a window says is true of the file
record AreSamplesOf (f : List ℕ) (q : Query) (width height samples bits : ℕ) (pixels : List ℕ) : Type 0 where
  window : IsWindow f q (samples_in bits pixels)
  asked : Rectangle
  asked_is : rectangle f q ≡ Some asked
  width_is : width ≡ asked.width
  height_is : height ≡ asked.height
  samples_are : level_value f asked.level SAMPLES_PER_PIXEL 0 ≡ Some samples
  bits_are : level_value f asked.level BITS_PER_SAMPLE 0 ≡ Some bits
  size : length pixels ≡ width * height * (samples * sample_bytes bits)

samples_true : (f : List ℕ) (q : Query) (v : Window) → IsWindowOf f q v → AreSamplesOf f q v.w v.h v.samples v.bits v.pixels.items
samples_true f q v h = record {
  window = h.window;
  asked = h.asked;
  asked_is = h.asked_is;
  width_is = h.width;
  height_is = h.height;
  samples_are = h.samples;
  bits_are = h.bits;
  size = h.size;
}

window_true : (f : List ℕ) (q : Query) (v : Window) → AreSamplesOf f q v.w v.h v.samples v.bits v.pixels.items → IsWindowOf f q v
window_true f q v h = record {
  window = h.window;
  asked = h.asked;
  asked_is = h.asked_is;
  width = h.width_is;
  height = h.height_is;
  samples = h.samples_are;
  bits = h.bits_are;
  size = h.size;
}

-- ---- keys

abbrev IsContent : Order → List ℕ → List ℕ → ℕ → ℕ → ℕ → Content → Type 0
IsContent order doubles ascii location count first (Number number) = (location ≡ 0) × (number ≡ first)
IsContent order doubles ascii location count first (Items items) =
    (location ≡ GEO_DOUBLE_PARAMS) × (items ≡ doubles_in order (slice_range doubles (8 * first) (8 * (first + count))))
IsContent order doubles ascii location count first (Text bytes) =
    (location ≡ GEO_ASCII_PARAMS) × (bytes ≡ slice_range ascii first (first + count))

content_true : (order : Order) (doubles ascii : List ℕ) (location count first : ℕ) (v : KeyValue) → IsValue order doubles ascii location count first v → IsContent order doubles ascii location count first (content_of v)
content_true order doubles ascii location count first (values.Short number) h = h
content_true order doubles ascii location count first (values.Doubles items) h = h
content_true order doubles ascii location count first (values.Ascii bytes) h = h

value_true : (order : Order) (doubles ascii : List ℕ) (location count first : ℕ) (v : KeyValue) → IsContent order doubles ascii location count first (content_of v) → IsValue order doubles ascii location count first v
value_true order doubles ascii location count first (values.Short number) h = h
value_true order doubles ascii location count first (values.Doubles items) h = h
value_true order doubles ascii location count first (values.Ascii bytes) h = h

record IsContentOfKey (s : KeySource) (order : Order) (doubles ascii : List ℕ) (i : ℕ) (key : ℕ × Content) : Type 0 where
  location : ℕ
  count : ℕ
  first : ℕ
  id_is : key_number s i 0 ≡ Some key.0
  location_is : key_number s i 1 ≡ Some location
  count_is : key_number s i 2 ≡ Some count
  first_is : key_number s i 3 ≡ Some first
  value_is : IsContent order doubles ascii location count first key.1

key_true : (s : KeySource) (order : Order) (doubles ascii : List ℕ) (i : ℕ) (o : Option Key) → IfSome o (IsKey s order doubles ascii i) → IfSome (option_map key_content o) (IsContentOfKey s order doubles ascii i)
key_true s order doubles ascii i None h = tt
key_true s order doubles ascii i (Some key) h = record {
  location = h.location;
  count = h.count;
  first = h.first;
  id_is = h.id_is;
  location_is = h.location_is;
  count_is = h.count_is;
  first_is = h.first_is;
  value_is = content_true order doubles ascii h.location h.count h.first key.value h.value_is;
}

true_key : (s : KeySource) (order : Order) (doubles ascii : List ℕ) (i : ℕ) (o : Option Key) → IfSome (option_map key_content o) (IsContentOfKey s order doubles ascii i) → IfSome o (IsKey s order doubles ascii i)
true_key s order doubles ascii i None h = tt
true_key s order doubles ascii i (Some key) h = record {
  location = h.location;
  count = h.count;
  first = h.first;
  id_is = h.id_is;
  location_is = h.location_is;
  count_is = h.count_is;
  first_is = h.first_is;
  value_is = value_true order doubles ascii h.location h.count h.first key.value h.value_is;
}

key_at : (keys : List Key) (i : ℕ) → slice_get (contents keys) i ≡ option_map key_content (slice_get keys i)
key_at [] i = refl
key_at (k ∷ keys) zero = refl
key_at (k ∷ keys) (suc i) = key_at keys i

record AreContents (s : KeySource) (order : Order) (doubles ascii : List ℕ) (minor : ℕ) (keys : List (ℕ × Content)) : Type 0 where
  minor_is : minor ≡ unwrap_or (s.value 2) 0
  count_is : length keys ≡ unwrap_or (key_count s) 0
  each : (i : ℕ) → IfSome (slice_get keys i) (IsContentOfKey s order doubles ascii i)

contents_true : (s : KeySource) (order : Order) (doubles ascii : List ℕ) (geo : Geo) → AreKeys s order doubles ascii geo → AreContents s order doubles ascii geo.minor (contents geo.keys.items)
contents_true s order doubles ascii geo h = record {
  minor_is = h.minor_is;
  count_is = length-map geo.keys.items key_content ∙ h.count_is;
  each = λ i. subst (λ o. IfSome o (IsContentOfKey s order doubles ascii i)) (sym (key_at geo.keys.items i)) (key_true s order doubles ascii i (slice_get geo.keys.items i) (h.each i));
}

keys_true : (s : KeySource) (order : Order) (doubles ascii : List ℕ) (geo : Geo) → AreContents s order doubles ascii geo.minor (contents geo.keys.items) → AreKeys s order doubles ascii geo
keys_true s order doubles ascii geo h = record {
  minor_is = h.minor_is;
  count_is = sym (length-map geo.keys.items key_content) ∙ h.count_is;
  each = λ i. true_key s order doubles ascii i (slice_get geo.keys.items i) (subst (λ o. IfSome o (IsContentOfKey s order doubles ascii i)) (key_at geo.keys.items i) (h.each i));
}

-- ---- info

record AreFactsOf (f : List ℕ) (shown : List (ℕ × ℕ)) (minor : ℕ) (contained : List (ℕ × Content)) (s t x : Option (List (List ℕ))) : Type 0 where
  sound : (fault : FileFault) → IsFaulty f queries.Info fault → ⊥
  order : Order
  order_is : order_of f ≡ Some order
  sides_are : map Some shown ≡ map (sides f) (level_directories f)
  keys : AreContents (key_source f) order (geo_bytes f GEO_DOUBLE_PARAMS) (geo_bytes f GEO_ASCII_PARAMS) minor contained
  scale : s ≡ items_of order f MODEL_PIXEL_SCALE
  tiepoints : t ≡ items_of order f MODEL_TIEPOINT
  transformation : x ≡ items_of order f MODEL_TRANSFORMATION

facts_true : (f : List ℕ) (i : Info) → IsInfoOf f i → AreFactsOf f i.sides.items i.geo.minor (contents i.geo.keys.items) (items_in i.scale) (items_in i.tiepoints) (items_in i.transformation)
facts_true f i h = record {
  sound = h.sound;
  order = h.order;
  order_is = h.order_is;
  sides_are = h.sides_are;
  keys = contents_true (key_source f) h.order (geo_bytes f GEO_DOUBLE_PARAMS) (geo_bytes f GEO_ASCII_PARAMS) i.geo h.keys;
  scale = h.scale;
  tiepoints = h.tiepoints;
  transformation = h.transformation;
}

info_true : (f : List ℕ) (i : Info) → AreFactsOf f i.sides.items i.geo.minor (contents i.geo.keys.items) (items_in i.scale) (items_in i.tiepoints) (items_in i.transformation) → IsInfoOf f i
info_true f i h = record {
  sound = h.sound;
  order = h.order;
  order_is = h.order_is;
  sides_are = h.sides_are;
  keys = keys_true (key_source f) h.order (geo_bytes f GEO_DOUBLE_PARAMS) (geo_bytes f GEO_ASCII_PARAMS) i.geo h.keys;
  scale = h.scale;
  tiepoints = h.tiepoints;
  transformation = h.transformation;
}

-- ---- reports

-- what is said is true of the file
abbrev IsSaidOf : List ℕ → Query → Said → Type 0
IsSaidOf f q (Shows width height samples bits pixels) = AreSamplesOf f q width height samples bits pixels
IsSaidOf f q (Tells shown minor contained s t x) = (q ≡ queries.Info) × AreFactsOf f shown minor contained s t x
IsSaidOf f q (Refuses fault) = IsFaulty f q fault

said_true : (f : List ℕ) (q : Query) (o : Outcome) → IsTrueOf f q o → IsSaidOf f q (said_of o)
said_true f q (outcomes.Window v) h = samples_true f q v h
said_true f q (outcomes.Info i) h = (h.0, facts_true f i h.1)
said_true f q (outcomes.Fault fault) h = h

true_said : (f : List ℕ) (q : Query) (o : Outcome) → IsSaidOf f q (said_of o) → IsTrueOf f q o
true_said f q (outcomes.Window v) h = window_true f q v h
true_said f q (outcomes.Info i) h = (h.0, info_true f i h.1)
true_said f q (outcomes.Fault fault) h = h

pub truth_is_told : TruthIsTold
truth_is_told r s name query book same h =
    let asked : r.query ≡ s.query = ap (λ (t : Told). t.query) same in
    let tag : r.tag ≡ s.tag = ap (λ (t : Told). t.tag) same in
    let said : said_of r.outcome ≡ said_of s.outcome = ap (λ (t : Told). t.said) same in
    let f = h.source.file in
    record {
      asked = h.asked ∙ ap Some asked;
      source = h.source;
      published = h.published;
      of_name = h.of_name;
      of_tag = h.of_tag ∙ tag;
      holds = subst (λ q. IsTrueOf f q s.outcome) asked (true_said f r.query s.outcome (subst (IsSaidOf f r.query) said (said_true f r.query r.outcome h.holds)));
    }
