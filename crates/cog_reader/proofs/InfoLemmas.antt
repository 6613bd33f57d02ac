-- What the bytes of the geo fields tell of the file.
use Rattle.std.proofs.Common.{◌≡◌, ℕ, suc, ◌+◌, ◌-◌, ◌*◌, ◌/◌, ◌<◌, ◌≤◌, ◌++◌, ◌∷◌, [], inl, inr, Bool, true, false, if◌then◌else◌, List, length, take, drop, map, get_or, Option, Some, None, refl, sym, subst, ap, ◌∙◌, arith, append-nil, zero-mul, mul-one, length-take, length-drop}
use Rattle.std.specs.Prelude.{◌||◌, ◌==◌, nat_le, nat_lt, IfErr, IfSome, IsErrAnd, Result, Ok, Err}
use Rattle.std.specs.Option.{option_map, option_map_or}
use Rattle.std.specs.List.{cons_option, flat_map, list_any}
use Rattle.std.proofs.Math.Path.{fun_ext}
use Rattle.std.proofs.lemmas.Bool.{eqb-true, ne_eqb, false≢true, le-leb, leb-true, lt-leb, ltb-false, ltb-true}
use Rattle.std.proofs.lemmas.List.{get_or-take, get_or-drop, take_all, length-map}
use Rattle.std.proofs.lemmas.Nat.{div-mul-add}
use Rattle.std.proofs.lemmas.Option.{none-some}
use Rattle.tiff_dir.specs.declared.fault.FileFault.{FileFault}
use Rattle.tiff_dir.specs.declared.fault.FileFault.TheVariants.{PastEnd, KeyHead, KeyOrder, KeyPlace}
use Rattle.tiff_dir.specs.declared.geo.GeoPlaces.{GeoPlaces}
use Rattle.tiff_dir.specs.declared.level.Kind.{Kind}
use Rattle.tiff_dir.specs.declared.level.Kind.TheVariants as kind
use Rattle.tiff_dir.specs.declared.level.Level.{Level}
use Rattle.tiff_dir.specs.declared.level.Place.{Place}
use Rattle.tiff_dir.specs.declared.order.Order.{Order}
use Rattle.tiff_dir.specs.declared.order.Order.TheVariants.{Little, Big}
use Rattle.tiff_dir.specs.declared.query.Query.TheVariants.{Info}
use Rattle.tiff_dir.specs.File.{◌>>=◌, Field, kind_of, size_of, order_of, number, field, field_value, value, values_at, default_of, has_all_tags}
use Rattle.tiff_dir.specs.Level.{Grid, Layout, compression_of, grid_at, depth_at, layout_at, layouts, level_directories, place_of}
use Rattle.extents.specs.Extent.{bytes_in, ends_past}
use Rattle.tiff_dir.specs.Needs.{extent_of_place}
use Rattle.tiff_dir.specs.Number.{number_in}
use Rattle.tiff_dir.specs.Geo.{geo_place, geo_ranges, item_count}
use Rattle.tiff_dir.specs.Geo as file
use Rattle.tiff_dir.specs.Keys.{KeySource, IsFaultOfKeys}
use Rattle.tiff_dir.specs.declared.fault.WalkError.{WalkError}
use Rattle.tiff_dir.specs.declared.fault.WalkError.TheVariants.{File, Memory}
use Rattle.tiff_dir.specs.declared.level.Compression.{Compression}
use Rattle.tiff_dir.specs.Described.{described, layout_of, AreLevels}
use Rattle.tiff_dir.specs.Fault.{sides, IsFaultOfDirectories}
use Rattle.tiff_dir.specs.Faulty.{IsFaulty, IsFaultOfInfo}
use Rattle.tiff_dir.specs.Query.{needs_of_query}
use Rattle.geokeys.specs.Doubles.{doubles_in}
use Rattle.cog_reader.specs.Outcome.{level_sides, items_of}
use Rattle.cog_reader.specs.ReaderStep.{IsInfoError}
use Rattle.tiff_dir.specs.Walk.{AreGeoPlaces, AreTyped, IsGeoFieldAt, IsGeoPlace}
use Rattle.geokeys.specs.Keys as keys
use Rattle.geokeys.specs.Keys.{number_at}
use Rattle.cog_reader.specs.GeoFields.{geo_bytes, len_of_field, present_in, AreFieldParts, IsReadOf, FieldsState}
use Rattle.cog_reader.proofs.FieldLemmas.{geo_ranges_are}

pub passed_on : {A E : Type 0} (result : Result A E) (error : E) (P : E → Type 0) → IsErrAnd result (λ e. e ≡ error) → P error → IfErr result P
passed_on (Ok a) error P bad good = absurd bad
passed_on (Err e) error P is good = subst P (sym is) good

-- ---- the bytes of a field

abbrev field_bytes : List ℕ → Option Place → List ℕ
field_bytes f o = option_map_or (λ p. bytes_in f (extent_of_place p)) o []

bytes_at : (f : List ℕ) (tag : ℕ) (o : Option Place) → IsGeoFieldAt f tag o → field_bytes f o ≡ geo_bytes f tag
unfolding geo_place
bytes_at f tag None is = ap (λ o. option_map_or (λ p. bytes_in f (extent_of_place p)) (o >>= place_of f) []) (sym is)
bytes_at f tag (Some p) is = ap (λ o. option_map_or (λ p. bytes_in f (extent_of_place p)) o []) (sym is)

-- the field ends in the file
abbrev IsInside : List ℕ → Option Place → Type 0
IsInside f o = IfSome o (λ p. p.first + p.len ≤ length f)

slice_len : (f : List ℕ) (p : Place) → p.first + p.len ≤ length f → length (bytes_in f (extent_of_place p)) ≡ p.len
slice_len f p fits = (let cut = length-take (p.first + p.len - p.first) (drop p.first f) in omega (arith, cut, length-drop p.first f, fits))

bytes_len : (f : List ℕ) (o : Option Place) → IsInside f o → length (field_bytes f o) ≡ len_of_field o
bytes_len f None inside = refl
bytes_len f (Some p) inside = slice_len f p inside

-- ---- all of them, one after the other

joined_cons : (f : List ℕ) (o : Option Place) (ps : List Place) → flat_map (bytes_in f) (map extent_of_place (cons_option o ps)) ≡ field_bytes f o ++ flat_map (bytes_in f) (map extent_of_place ps)
joined_cons f None ps = refl
joined_cons f (Some p) ps = refl

inside_cons : (f : List ℕ) (o : Option Place) (ps : List Place) → list_any (ends_past f) (map extent_of_place (cons_option o ps)) ≡ false → IsInside f o × (list_any (ends_past f) (map extent_of_place ps) ≡ false)
inside_cons f None ps is = (tt, is)
inside_cons f (Some p) ps is = (let parts = both (ends_past f (extent_of_place p)) (list_any (ends_past f) (map extent_of_place ps)) is in (ltb-false (length f) (p.first + p.len) parts.0, parts.1)) where
  both : (a b : Bool) → (a || b) ≡ false → (a ≡ false) × (b ≡ false)
  both true b is = absurd (false≢true (sym is))
  both false b is = (refl, is)

cut_same : (xs ys us vs : List ℕ) → xs ++ us ≡ ys ++ vs → length xs ≡ length ys → (xs ≡ ys) × (us ≡ vs)
cut_same [] [] us vs is len = (refl, is)
cut_same [] (y ∷ ys) us vs is len = absurd (omega (arith, len))
cut_same (x ∷ xs) [] us vs is len = absurd (omega (arith, len))
cut_same (x ∷ xs) (y ∷ ys) us vs is len =
    let head : x ≡ y = cc in
    let tail : xs ++ us ≡ ys ++ vs = cc in
    let rest = cut_same xs ys us vs tail (omega (arith, len)) in
    (ap (λ z. z ∷ xs) head ∙ ap (λ l. y ∷ l) rest.0, rest.1)

-- the parts are the fields' bytes
pub record AreFilesParts (f directory doubles ascii scale tiepoints transformation : List ℕ) : Type 0 where
  pub directory_is : directory ≡ geo_bytes f 34735
  pub doubles_is : doubles ≡ geo_bytes f 34736
  pub ascii_is : ascii ≡ geo_bytes f 34737
  pub scale_is : scale ≡ geo_bytes f 33550
  pub tiepoints_is : tiepoints ≡ geo_bytes f 33922
  pub transformation_is : transformation ≡ geo_bytes f 34264

-- each field ends in the file
pub record AreInside (f : List ℕ) (g : GeoPlaces) : Type 0 where
  pub directory : IsInside f g.directory
  pub doubles : IsInside f g.doubles
  pub ascii : IsInside f g.ascii
  pub scale : IsInside f g.scale
  pub tiepoints : IsInside f g.tiepoints
  pub transformation : IsInside f g.transformation

all_ranges : (f : List ℕ) (r : FieldsState) → IsReadOf f r → r.given ≡ length (present_in r.places) → take r.given (geo_ranges f) ≡ map extent_of_place (present_in r.places)
all_ranges f r read all =
    let same = geo_ranges_are f r.places read.places in
    take_all r.given (geo_ranges f) (omega (arith, all, ap length same, length-map (present_in r.places) extent_of_place)) ∙ same

pub all_inside : (f : List ℕ) (r : FieldsState) → IsReadOf f r → r.given ≡ length (present_in r.places) → AreInside f r.places
all_inside f r read all =
    let g = r.places in
    let a = inside_cons f g.directory _ (sym (ap (list_any (ends_past f)) (all_ranges f r read all)) ∙ read.inside) in
    let b = inside_cons f g.doubles _ a.1 in
    let c = inside_cons f g.ascii _ b.1 in
    let d = inside_cons f g.scale _ c.1 in
    let e = inside_cons f g.tiepoints _ d.1 in
    let h = inside_cons f g.transformation [] e.1 in
    record { directory = a.0; doubles = b.0; ascii = c.0; scale = d.0; tiepoints = e.0; transformation = h.0 }

pub file_parts : (f : List ℕ) (r : FieldsState) (a b c d e h : List ℕ) → IsReadOf f r → r.given ≡ length (present_in r.places) → AreFieldParts r.places r.bytes a b c d e h → AreFilesParts f a b c d e h
file_parts f r a b c d e h read all parts =
    let g = r.places in
    let i = all_inside f r read all in
    let bytes = sym parts.joined ∙ read.bytes_are ∙ ap (flat_map (bytes_in f)) (all_ranges f r read all) in
    let x = cut_same a (field_bytes f g.directory) _ _ (bytes ∙ joined_cons f g.directory _) (parts.directory_len ∙ sym (bytes_len f g.directory i.directory)) in
    let y = cut_same b (field_bytes f g.doubles) _ _ (x.1 ∙ joined_cons f g.doubles _) (parts.doubles_len ∙ sym (bytes_len f g.doubles i.doubles)) in
    let z = cut_same c (field_bytes f g.ascii) _ _ (y.1 ∙ joined_cons f g.ascii _) (parts.ascii_len ∙ sym (bytes_len f g.ascii i.ascii)) in
    let u = cut_same d (field_bytes f g.scale) _ _ (z.1 ∙ joined_cons f g.scale _) (parts.scale_len ∙ sym (bytes_len f g.scale i.scale)) in
    let v = cut_same e (field_bytes f g.tiepoints) _ _ (u.1 ∙ joined_cons f g.tiepoints _) (parts.tiepoints_len ∙ sym (bytes_len f g.tiepoints i.tiepoints)) in
    let w : h ≡ field_bytes f g.transformation = v.1 ∙ joined_cons f g.transformation [] ∙ append-nil (field_bytes f g.transformation) in record {
      directory_is = x.0 ∙ bytes_at f 34735 g.directory read.places.directory;
      doubles_is = y.0 ∙ bytes_at f 34736 g.doubles read.places.doubles;
      ascii_is = z.0 ∙ bytes_at f 34737 g.ascii read.places.ascii;
      scale_is = u.0 ∙ bytes_at f 33550 g.scale read.places.scale;
      tiepoints_is = v.0 ∙ bytes_at f 33922 g.tiepoints read.places.tiepoints;
      transformation_is = w ∙ bytes_at f 34264 g.transformation read.places.transformation;
    }

-- ---- values by their place

value_at : (f : List ℕ) (tag i : ℕ) (p : Place) → geo_place f tag ≡ Some p → value f 0 tag i ≡ (if nat_lt i p.count then number f (p.first + i * size_of p.kind) (size_of p.kind) else None)
unfolding geo_place value field_value place_of
value_at f tag i p is = of_field (field f 0 tag) is where
  by : (e : Field) (k : Option Kind) (n : Option ℕ)
      → (k >>= λ kind. n >>= λ count. values_at f e (count * size_of kind) >>= λ first. Some (record { first = first; len = count * size_of kind; count = count; kind = kind })) ≡ Some p
      → (k >>= λ kind. n >>= λ count. values_at f e (count * size_of kind) >>= λ at. if nat_lt i count then number f (at + i * size_of kind) (size_of kind) else None)
      ≡ (if nat_lt i p.count then number f (p.first + i * size_of p.kind) (size_of p.kind) else None)
  by e None n is = absurd (none-some p is)
  by e (Some k) None is = absurd (none-some p is)
  by e (Some k) (Some n) is = at (values_at f e (n * size_of k)) is where
    at : (o : Option ℕ) → (o >>= λ first. Some (record { first = first; len = n * size_of k; count = n; kind = k })) ≡ Some p
        → (o >>= λ at. if nat_lt i n then number f (at + i * size_of k) (size_of k) else None) ≡ (if nat_lt i p.count then number f (p.first + i * size_of p.kind) (size_of p.kind) else None)
    at None is = absurd (none-some p is)
    at (Some x) is =
        let same : record { first = x; len = n * size_of k; count = n; kind = k } ≡ p = cc in
        ap (λ (q : Place). if nat_lt i q.count then number f (q.first + i * size_of q.kind) (size_of q.kind) else None) same

  of_field : (o : Option Field) → (o >>= place_of f) ≡ Some p → option_map_or (λ e. field_value f e i) o (if has_all_tags f 0 then default_of tag else None) ≡ (if nat_lt i p.count then number f (p.first + i * size_of p.kind) (size_of p.kind) else None)
  of_field None is = absurd (none-some p is)
  of_field (Some e) is = by e (e.kind >>= kind_of) e.count is

count_at : (f : List ℕ) (tag : ℕ) (p : Place) → geo_place f tag ≡ Some p → (e : Field) × (field f 0 tag ≡ Some e) × (e.count ≡ Some p.count)
unfolding geo_place place_of
count_at f tag p is = of_field (field f 0 tag) refl is where
  by : (e : Field) (k : Option Kind) (n : Option ℕ)
      → (k >>= λ kind. n >>= λ count. values_at f e (count * size_of kind) >>= λ first. Some (record { first = first; len = count * size_of kind; count = count; kind = kind })) ≡ Some p → n ≡ Some p.count
  by e None n is = absurd (none-some p is)
  by e (Some k) None is = absurd (none-some p is)
  by e (Some k) (Some n) is = at (values_at f e (n * size_of k)) is where
    at : (o : Option ℕ) → (o >>= λ first. Some (record { first = first; len = n * size_of k; count = n; kind = k })) ≡ Some p → Some n ≡ Some p.count
    at None is = absurd (none-some p is)
    at (Some x) is =
        let same : record { first = x; len = n * size_of k; count = n; kind = k } ≡ p = cc in
        ap (λ (q : Place). Some q.count) same

  of_field : (o : Option Field) → field f 0 tag ≡ o → (o >>= place_of f) ≡ Some p → (e : Field) × (field f 0 tag ≡ Some e) × (e.count ≡ Some p.count)
  of_field None there is = absurd (none-some p is)
  of_field (Some e) there is = (e, there, by e (e.kind >>= kind_of) e.count is)

-- ---- what keys are read from

-- a number of the directory, in its bytes and in the file
two_bytes : (order : Order) (at to : ℕ) (xs ys : List ℕ) → get_or xs at 0 ≡ get_or ys to 0 → get_or xs (suc at) 0 ≡ get_or ys (suc to) 0 → number_in order at 2 xs ≡ number_in order to 2 ys
unfolding number_in
two_bytes Little at to xs ys first second = rw (first, second) refl
two_bytes Big at to xs ys first second = rw (first, second) refl

number_same : (f : List ℕ) (order : Order) (p : Place) (i : ℕ) → p.first + p.len ≤ length f → p.len ≡ p.count * 2 → i < p.count → number_in order (2 * i) 2 (bytes_in f (extent_of_place p)) ≡ number_in order (p.first + i * 2) 2 f
number_same f order p i inside len less =
    let even : p.first + 2 * i ≡ p.first + i * 2 = omega arith in
    let odd : p.first + suc (2 * i) ≡ suc (p.first + i * 2) = omega arith in
    two_bytes order (2 * i) (p.first + i * 2) (bytes_in f (extent_of_place p)) f (byte (2 * i) (omega (arith, len, less)) ∙ ap (λ k. get_or f k 0) even)
    (byte (suc (2 * i)) (omega (arith, len, less)) ∙ ap (λ k. get_or f k 0) odd) where
      byte : (k : ℕ) → k < p.first + p.len - p.first → get_or (bytes_in f (extent_of_place p)) k 0 ≡ get_or f (p.first + k) 0
      byte k less = get_or-take (p.first + p.len - p.first) (drop p.first f) k 0 less ∙ get_or-drop p.first f k 0

number_there : (f : List ℕ) (order : Order) (at : ℕ) → order_of f ≡ Some order → at + 2 ≤ length f → number f at 2 ≡ Some (number_in order at 2 f)
unfolding number
number_there f order at named fits = rw (named, le-leb (at + 2) (length f) fits) refl

source_value : (f : List ℕ) (order : Order) (o : Option Place) (i : ℕ) → order_of f ≡ Some order → has_all_tags f 0 ≡ true → IsGeoFieldAt f 34735 o → IsGeoPlace kind.Short o → IsInside f o
    → number_at order (field_bytes f o) i ≡ value f 0 34735 i
unfolding number_at value
source_value f order None i named whole is typed inside = rw (is, whole) (at (nat_le (2 * i + 2) 0) refl) where
  at : (b : Bool) → nat_le (2 * i + 2) 0 ≡ b → (if b then Some (number_in order (2 * i) 2 []) else None) ≡ None
  at true fits = absurd (let h = leb-true (2 * i + 2) 0 fits in omega (arith, h))
  at false none = refl
source_value f order (Some p) i named whole is typed inside = at (nat_lt i p.count) refl where
  len : p.len ≡ p.count * 2
  len = typed.1

  size : length (bytes_in f (extent_of_place p)) ≡ p.count * 2
  size = slice_len f p inside ∙ len

  told : value f 0 34735 i ≡ (if nat_lt i p.count then number f (p.first + i * 2) 2 else None)
  told = value_at f 34735 i p is ∙ ap (λ k. if nat_lt i p.count then number f (p.first + i * size_of k) (size_of k) else None) typed.0

  at : (b : Bool) → nat_lt i p.count ≡ b → (if nat_le (2 * i + 2) (length (bytes_in f (extent_of_place p))) then Some (number_in order (2 * i) 2 (bytes_in f (extent_of_place p))) else None) ≡ value f 0 34735 i
  at true less =
      let lt = ltb-true i p.count less in
      ap (λ b. if b then Some (number_in order (2 * i) 2 (bytes_in f (extent_of_place p))) else None) (le-leb (2 * i + 2) (length (bytes_in f (extent_of_place p))) (omega (arith, size, lt)))
      ∙ ap Some (number_same f order p i inside len lt) ∙ sym (number_there f order (p.first + i * 2) named (omega (arith, inside, len, lt)))
      ∙ sym (ap (λ b. if b then number f (p.first + i * 2) 2 else None) less) ∙ sym told
  at false past =
      let ge = ltb-false i p.count past in
      ap (λ b. if b then Some (number_in order (2 * i) 2 (bytes_in f (extent_of_place p))) else None) (lt-leb (2 * i + 2) (length (bytes_in f (extent_of_place p))) (omega (arith, size, ge)))
      ∙ sym (ap (λ b. if b then number f (p.first + i * 2) 2 else None) past) ∙ sym told

source_count : (f : List ℕ) (o : Option Place) → IsGeoFieldAt f 34735 o → IsGeoPlace kind.Short o → IsInside f o
    → (if length (field_bytes f o) == 0 then None else Some (length (field_bytes f o) / 2)) ≡ (field f 0 34735 >>= λ e. e.count)
source_count f None is typed inside = sym (ap (λ o. o >>= λ (e : Field). e.count) is)
source_count f (Some p) is typed inside =
    let (e, there, count) = count_at f 34735 p is in
    let size = slice_len f p inside ∙ typed.1 in
    let some : (length (bytes_in f (extent_of_place p)) == 0) ≡ false = ne_eqb (length (bytes_in f (extent_of_place p))) 0 (λ none. absurd (let t = typed.2 in omega (arith, none, size, t, typed.1))) in
    ap (λ b. if b then None else Some (length (bytes_in f (extent_of_place p)) / 2)) some ∙ ap (λ n. Some (n / 2)) size ∙ ap Some (half p.count)
    ∙ sym (ap (λ o. o >>= λ (e : Field). e.count) there ∙ count) where
      half : (n : ℕ) → n * 2 / 2 ≡ n
      half n = ap (λ k. k / 2) (plain n) ∙ div-mul-add n 2 0 (omega arith) where
        plain : (n : ℕ) → n * 2 ≡ n * 2 + 0
        plain n = omega arith

-- how many items a field has
items_told : (f : List ℕ) (tag : ℕ) (k : Kind) (o : Option Place) → has_all_tags f 0 ≡ true → IsGeoFieldAt f tag o → IsGeoPlace k o → IsInside f o
    → (n : ℕ) × (item_count f tag ≡ Some n) × (length (field_bytes f o) ≡ n * size_of k)
items_told f tag k None whole is typed inside = (0, rw (is, whole) refl, sym (zero-mul (size_of k)))
items_told f tag k (Some p) whole is typed inside =
    let (e, there, count) = count_at f tag p is in
    (p.count, ap (λ o. option_map_or (λ (e : Field). e.count) o (if has_all_tags f 0 then Some 0 else None)) there ∙ count, slice_len f p inside ∙ typed.1)

source_items : (f : List ℕ) (g : GeoPlaces) (tag : ℕ) → AreGeoPlaces f g → AreTyped g → AreInside f g
    → keys.item_count (field_bytes f g.doubles) (field_bytes f g.ascii) tag ≡ (if tag == 34736 || tag == 34737 then item_count f tag else None)
source_items f g tag are typed inside = at (tag == 34736) refl (tag == 34737) refl where
  at : (a : Bool) → (tag == 34736) ≡ a → (b : Bool) → (tag == 34737) ≡ b
      → (if a then Some (length (field_bytes f g.doubles) / 8) else if b then Some (length (field_bytes f g.ascii)) else None) ≡ (if a || b then item_count f tag else None)
  at true here b is_b =
      let (n, told, len) = items_told f 34736 kind.Double g.doubles are.whole are.doubles typed.doubles inside.doubles in
      ap (λ m. Some (m / 8)) len ∙ ap Some (eighth n) ∙ sym told ∙ ap (item_count f) (sym (eqb-true tag 34736 here)) where
        eighth : (n : ℕ) → n * 8 / 8 ≡ n
        eighth n = ap (λ k. k / 8) (plain n) ∙ div-mul-add n 8 0 (omega arith) where
          plain : (n : ℕ) → n * 8 ≡ n * 8 + 0
          plain n = omega arith
  at false other true here =
      let (n, told, len) = items_told f 34737 kind.Ascii g.ascii are.whole are.ascii typed.ascii inside.ascii in
      ap Some (len ∙ mul-one n) ∙ sym told ∙ ap (item_count f) (sym (eqb-true tag 34737 here))
  at false other false never = refl

-- the bytes of the fields are the source that the file is
pub source_is : (f : List ℕ) (order : Order) (g : GeoPlaces) → order_of f ≡ Some order → AreGeoPlaces f g → AreTyped g → AreInside f g
    → keys.key_source order (field_bytes f g.directory) (field_bytes f g.doubles) (field_bytes f g.ascii) ≡ file.key_source f
source_is f order g named are typed inside =
    same (fun_ext (λ i. source_value f order g.directory i named are.whole are.directory typed.directory inside.directory))
    (source_count f g.directory are.directory typed.directory inside.directory)
    (fun_ext (λ tag. source_items f g tag are typed inside)) where
      same : {v w : ℕ → Option ℕ} {c d : Option ℕ} {i j : ℕ → Option ℕ} → v ≡ w → c ≡ d → i ≡ j
          → (let a : KeySource = record { value = v; count = c; items = i } in let b : KeySource = record { value = w; count = d; items = j } in a ≡ b)
      same e h k = cc

-- the source that keys are read from, in the parts
pub parts_source : (f : List ℕ) (order : Order) (r : FieldsState) (a b c d e h : List ℕ) → order_of f ≡ Some order → AreTyped r.places → IsReadOf f r → r.given ≡ length (present_in r.places) → AreFilesParts f a b c d e h
    → keys.key_source order a b c ≡ file.key_source f
parts_source f order r a b c d e h named typed read all parts =
    let g = r.places in
    ap (λ x. keys.key_source order x b c) (parts.directory_is ∙ sym (bytes_at f 34735 g.directory read.places.directory))
    ∙ ap (λ x. keys.key_source order (field_bytes f g.directory) x c) (parts.doubles_is ∙ sym (bytes_at f 34736 g.doubles read.places.doubles))
    ∙ ap (λ x. keys.key_source order (field_bytes f g.directory) (field_bytes f g.doubles) x) (parts.ascii_is ∙ sym (bytes_at f 34737 g.ascii read.places.ascii))
    ∙ source_is f order g named read.places typed (all_inside f r read all)

-- ---- faults

key_fault : (f : List ℕ) (fault : FileFault) → IsFaultOfKeys (file.key_source f) fault → IsFaultOfInfo f fault
key_fault f KeyHead bad = inr bad
key_fault f KeyOrder bad = inr bad
key_fault f KeyPlace bad = inr bad
key_fault f _ bad = absurd bad

pub info_error : (f : List ℕ) (e : WalkError) → keys.IsKeyError (file.key_source f) e → IsInfoError f e
unfolding IsFaulty
info_error f (File fault) bad = inr (key_fault f fault bad)
info_error f Memory bad = tt

none_past : (f : List ℕ) (r : FieldsState) → IsReadOf f r → r.given ≡ length (present_in r.places) → list_any (ends_past f) (geo_ranges f) ≡ false
none_past f r read all =
    let same = geo_ranges_are f r.places read.places in
    let whole = take_all r.given (geo_ranges f) (omega (arith, all, ap length same, length-map (present_in r.places) extent_of_place)) in
    ap (list_any (ends_past f)) (sym whole) ∙ read.inside

pub info_sound : (f : List ℕ) (r : FieldsState) → ((fault : FileFault) → IsFaultOfDirectories f fault → ⊥) → IsReadOf f r → r.given ≡ length (present_in r.places)
    → ((fault : FileFault) → IsFaultOfKeys (file.key_source f) fault → ⊥) → (fault : FileFault) → IsFaulty f Info fault → ⊥
unfolding IsFaulty needs_of_query
info_sound f r clean read all sound fault (inl bad) = clean fault bad
info_sound f r clean read all sound fault (inr bad) = at fault bad where
  at : (fault : FileFault) → IsFaultOfInfo f fault → ⊥
  at PastEnd bad = false≢true (sym (none_past f r read all) ∙ bad)
  at fault (inl geo) = read.places.sound fault geo
  at fault (inr key) = sound fault key

-- ---- sides

abbrev two : ℕ → ℕ → Option (ℕ × ℕ)
two width length = Some (width, length)

sides_at : (f : List ℕ) (k : ℕ) (l : Layout) → layout_at f k ≡ Some l → sides f k ≡ Some (l.grid.width, l.grid.length)
unfolding layout_at grid_at sides
sides_at f k l is =
    go (value f k 256 0) (value f k 257 0) (value f k 322 0) (value f k 323 0) (value f k 277 0) (depth_at f k) (value f k 259 0 >>= compression_of) (field f k 324 >>= place_of f) (field f k 325 >>= place_of f) is where
      go : (w h tw tl s b : Option ℕ) (c : Option Compression) (o n : Option Place)
          → ((w >>= λ width. h >>= λ length. tw >>= λ tile_width. tl >>= λ tile_length. Some (record { width = width; length = length; tile_width = tile_width; tile_length = tile_length }))
          >>= λ grid. s >>= λ samples. b >>= λ bits. c >>= λ compression. o >>= λ offsets. n >>= λ counts.
          Some (record { grid = grid; samples = samples; bits = bits; compression = compression; offsets = offsets; counts = counts })) ≡ Some l
          → (w >>= λ width. h >>= λ length. two width length) ≡ two l.grid.width l.grid.length
      go None h tw tl s b c o n is = absurd (none-some l is)
      go (Some w) None tw tl s b c o n is = absurd (none-some l is)
      go (Some w) (Some h) None tl s b c o n is = absurd (none-some l is)
      go (Some w) (Some h) (Some tw) None s b c o n is = absurd (none-some l is)
      go (Some w) (Some h) (Some tw) (Some tl) None b c o n is = absurd (none-some l is)
      go (Some w) (Some h) (Some tw) (Some tl) (Some s) None c o n is = absurd (none-some l is)
      go (Some w) (Some h) (Some tw) (Some tl) (Some s) (Some b) None o n is = absurd (none-some l is)
      go (Some w) (Some h) (Some tw) (Some tl) (Some s) (Some b) (Some c) None n is = absurd (none-some l is)
      go (Some w) (Some h) (Some tw) (Some tl) (Some s) (Some b) (Some c) (Some o) None is = absurd (none-some l is)
      go (Some w) (Some h) (Some tw) (Some tl) (Some s) (Some b) (Some c) (Some o) (Some n) is =
          let grid : Grid = record { width = w; length = h; tile_width = tw; tile_length = tl } in
          let same : record { grid = grid; samples = s; bits = b; compression = c; offsets = o; counts = n } ≡ l = cc in
          ap (λ (m : Layout). two m.grid.width m.grid.length) same

each_sides : (f : List ℕ) (ls : List Level) (ds : List ℕ) → map described ls ≡ map (layout_at f) ds → map Some (map level_sides ls) ≡ map (sides f) ds
each_sides f [] [] is = refl
each_sides f [] (d ∷ ds) is = absurd (let e = ap length is in omega (arith, e))
each_sides f (l ∷ ls) [] is = absurd (let e = ap length is in omega (arith, e))
each_sides f (l ∷ ls) (d ∷ ds) is =
    let head : described l ≡ layout_at f d = cc in
    let tail : map described ls ≡ map (layout_at f) ds = cc in
    ap (λ o. o ∷ map Some (map level_sides ls)) (sym (sides_at f d (layout_of l) (sym head))) ∙ ap (λ xs. sides f d ∷ xs) (each_sides f ls ds tail)

pub sides_told : (f : List ℕ) (ls : List Level) → AreLevels f ls → map Some (map level_sides ls) ≡ map (sides f) (level_directories f)
unfolding layouts
sides_told f ls are = each_sides f ls (level_directories f) are

-- ---- items

pub items_are : (f : List ℕ) (order : Order) (tag : ℕ) (o : Option Place) (bytes : List ℕ) (items : Option (List (List ℕ))) → IsGeoFieldAt f tag o → bytes ≡ geo_bytes f tag → items ≡ option_map (λ _. doubles_in order bytes) o
    → items ≡ items_of order f tag
unfolding geo_place
items_are f order tag None bytes items is same told = told ∙ ap (λ x. option_map (λ p. doubles_in order (bytes_in f (extent_of_place p))) (x >>= place_of f)) (sym is)
items_are f order tag (Some p) bytes items is same told =
    let here : geo_bytes f tag ≡ bytes_in f (extent_of_place p) = ap (λ o. option_map_or (λ p. bytes_in f (extent_of_place p)) o []) is in
    told ∙ ap (λ b. Some (doubles_in order b)) (same ∙ here) ∙ sym (ap (option_map (λ p. doubles_in order (bytes_in f (extent_of_place p)))) is)
