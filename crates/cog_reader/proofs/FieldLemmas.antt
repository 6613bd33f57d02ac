-- Geo fields that are read one after another.
use Rattle.std.proofs.Common.{◌≡◌, ℕ, zero, suc, ◌+◌, ◌<◌, ◌≤◌, length-append, zero-add, ◌++◌, ◌∷◌, [], false, List, length, take, drop, map, Option, Some, None, refl, sym, subst, ap, ◌∙◌, arith, append-nil, length-take, length-drop}
use Rattle.std.specs.Prelude.{slice_get, IsSomeAnd, IfSome}
use Rattle.std.specs.Option.{option_map}
use Rattle.std.specs.List.{cons_option, flat_map, list_any}
use Rattle.std.proofs.lemmas.Grind.{flat_map-append}
use Rattle.std.proofs.lemmas.List.{take_more, take_all, take-map, map-append, take-append-drop}
use Rattle.std.proofs.lemmas.List.Sums.{sum_by_push, sum_by-cons}
use Rattle.std.proofs.lemmas.List.Folds.{list_any-append}
use Rattle.std.proofs.lemmas.Option.{none-some, slice_get_within, get_or_from_slice_get}
use Rattle.tiff_dir.specs.declared.geo.GeoPlaces.{GeoPlaces}
use Rattle.tiff_dir.specs.declared.level.Kind.{Kind}
use Rattle.tiff_dir.specs.declared.level.Place.{Place}
use Rattle.tiff_dir.specs.File.{◌>>=◌}
use Rattle.tiff_dir.specs.Level.{place_of}
use Rattle.tiff_dir.specs.Geo.{geo_place, geo_ranges}
use Rattle.extents.specs.Extent.{ends_past}
use Rattle.tiff_dir.specs.Needs.{field_range, extent_of_place}
use Rattle.extents.specs.Extent.{bytes_in}
use Rattle.tiff_dir.specs.Walk.{AreGeoPlaces, AreTyped, IsArrayOf, IsGeoFieldAt, IsGeoPlace}
use Rattle.cog_reader.specs.GeoFields.{len_of_field, present_in, total, AreFieldParts, AreFields, IsReadOf, FieldsState}
use Rattle.cog_reader.proofs.ArrayLemmas.{inside_array}

-- ---- the ranges of the fields

range_at : (f : List ℕ) (tag : ℕ) (p : Option Place) → IsGeoFieldAt f tag p → field_range f 0 tag ≡ option_map extent_of_place p
unfolding geo_place field_range
range_at f tag None is = ap (λ o. o >>= place_of f >>= λ p. Some (extent_of_place p)) is
range_at f tag (Some p) is = ap (λ o. o >>= λ p. Some (extent_of_place p)) is

map_cons : {X Y : Type 0} (g : X → Y) (o : Option X) (xs : List X) (ys : List Y) (y : Option Y) → y ≡ option_map g o → ys ≡ map g xs → cons_option y ys ≡ map g (cons_option o xs)
map_cons g None xs ys y is rest = ap (λ o. cons_option o ys) is ∙ rest
map_cons g (Some x) xs ys y is rest = ap (λ o. cons_option o ys) is ∙ ap (λ l. g x ∷ l) rest

-- they are those of the places that are there
pub geo_ranges_are : (f : List ℕ) (p : GeoPlaces) → AreGeoPlaces f p → geo_ranges f ≡ map extent_of_place (present_in p)
unfolding geo_ranges
geo_ranges_are f p are =
    map_cons extent_of_place p.directory _ _ _ (range_at f 34735 p.directory are.directory)
    (map_cons extent_of_place p.doubles _ _ _ (range_at f 34736 p.doubles are.doubles)
    (map_cons extent_of_place p.ascii _ _ _ (range_at f 34737 p.ascii are.ascii)
    (map_cons extent_of_place p.scale _ _ _ (range_at f 33550 p.scale are.scale)
    (map_cons extent_of_place p.tiepoints _ _ _ (range_at f 33922 p.tiepoints are.tiepoints)
    (map_cons extent_of_place p.transformation _ _ _ (range_at f 34264 p.transformation are.transformation) refl)))))

-- ---- one field more

next_front : {X : Type 0} (xs : List X) (i : ℕ) (x : X) → slice_get xs i ≡ Some x → take (i + 1) xs ≡ take i xs ++ x ∷ []
next_front xs i x is = take_more xs i x (slice_get_within xs i x is) ∙ ap (λ y. take i xs ++ y ∷ []) (get_or_from_slice_get xs i x x is)

-- the place that is next
pub next_place : (ps : List Place) (i len : ℕ) → IsSomeAnd (slice_get ps i) (λ p. len ≡ p.len) → (p : Place) × (slice_get ps i ≡ Some p) × (len ≡ p.len)
next_place ps i len wanted = at (slice_get ps i) refl wanted where
  at : (o : Option Place) → slice_get ps i ≡ o → IsSomeAnd o (λ p. len ≡ p.len) → (p : Place) × (slice_get ps i ≡ Some p) × (len ≡ p.len)
  at None is bad = absurd bad
  at (Some p) is good = (p, is, good)

pub reading_more : (places : GeoPlaces) (i : ℕ) (bytes more new : List ℕ) (p : Place) → AreFields places i bytes → slice_get (present_in places) i ≡ Some p → length more ≡ p.len → new ≡ bytes ++ more
    → AreFields places (i + 1) new
reading_more places i bytes more new p r is len same = let present = present_in places in record {
  typed = r.typed;
  within = (let less = slice_get_within present i p is in omega (arith, less));
  whole =
      ap length same ∙ length-append bytes more
      ∙ (let e = r.whole in omega (arith, e, len) ∙ sym (sum_by_push (λ (p : Place). p.len) (take i present) p))
      ∙ ap total (sym (next_front present i p is));
}

-- the next field ends in the file
inside_field : (f : List ℕ) (p : Place) (bytes : List ℕ) → IsArrayOf f p bytes → length bytes ≡ p.len → 0 < p.len → ends_past f (extent_of_place p) ≡ false
inside_field f p bytes is len some = inside_array f p bytes is len some

ranges_more : (f : List ℕ) (r : FieldsState) (p : Place) → AreGeoPlaces f r.places → slice_get (present_in r.places) r.given ≡ Some p
    → take (r.given + 1) (geo_ranges f) ≡ take r.given (geo_ranges f) ++ extent_of_place p ∷ []
ranges_more f r p are is =
    let same = geo_ranges_are f r.places are in
    ap (take (r.given + 1)) same ∙ take-map extent_of_place (r.given + 1) (present_in r.places)
    ∙ ap (map extent_of_place) (next_front (present_in r.places) r.given p is)
    ∙ map-append extent_of_place (take r.given (present_in r.places)) (p ∷ [])
    ∙ ap (λ l. l ++ extent_of_place p ∷ []) (sym (take-map extent_of_place r.given (present_in r.places)) ∙ ap (take r.given) (sym same))

pub read_more : (f : List ℕ) (r : FieldsState) (p : Place) (bytes : List ℕ) → IsReadOf f r → slice_get (present_in r.places) r.given ≡ Some p → IsArrayOf f p bytes → length bytes ≡ p.len → 0 < p.len
    → IsReadOf f (record r { given = r.given + 1; bytes = r.bytes ++ bytes })
read_more f r p bytes read is given len some =
    let more = ranges_more f r p read.places is in record {
      places = read.places;
      bytes_are =
          ap (λ l. l ++ bytes) read.bytes_are ∙ ap (λ l. flat_map (bytes_in f) (take r.given (geo_ranges f)) ++ l) (given ∙ sym (append-nil (bytes_in f (extent_of_place p))))
          ∙ sym (flat_map-append (bytes_in f) (take r.given (geo_ranges f)) (extent_of_place p ∷ [])) ∙ ap (flat_map (bytes_in f)) (sym more);
      inside =
          ap (list_any (ends_past f)) more ∙ list_any-append (ends_past f) (take r.given (geo_ranges f)) (extent_of_place p ∷ [])
          ∙ rw (read.inside, inside_field f p bytes given len some) refl;
    }

-- ---- a geo field has some bytes

each_cons : (P : Place → Type 0) (o : Option Place) (ps : List Place) → IfSome o P → ((i : ℕ) (p : Place) → slice_get ps i ≡ Some p → P p) → (i : ℕ) (p : Place) → slice_get (cons_option o ps) i ≡ Some p → P p
each_cons P None ps here rest i p is = rest i p is
each_cons P (Some q) ps here rest zero p is = (let same : q ≡ p = cc in subst P same here)
each_cons P (Some q) ps here rest (suc i) p is = rest i p is

some_len : (k : Kind) (o : Option Place) → IsGeoPlace k o → IfSome o (λ p. 0 < p.len)
some_len k None typed = tt
some_len k (Some p) typed = typed.2

pub some_bytes : (g : GeoPlaces) → AreTyped g → (i : ℕ) (p : Place) → slice_get (present_in g) i ≡ Some p → 0 < p.len
some_bytes g t =
    let P : Place → Type 0 = λ p. 0 < p.len in
    each_cons P g.directory _ (some_len _ g.directory t.directory)
    (each_cons P g.doubles _ (some_len _ g.doubles t.doubles)
    (each_cons P g.ascii _ (some_len _ g.ascii t.ascii)
    (each_cons P g.scale _ (some_len _ g.scale t.scale)
    (each_cons P g.tiepoints _ (some_len _ g.tiepoints t.tiepoints)
    (each_cons P g.transformation _ (some_len _ g.transformation t.transformation) (λ i p is. absurd (none-some p is)))))))

few_len : (k : Kind) (o : Option Place) → IsGeoPlace k o → IfSome o (λ p. p.len ≤ 65536)
few_len k None typed = tt
few_len k (Some p) typed = typed.3

pub few_bytes : (g : GeoPlaces) → AreTyped g → (i : ℕ) (p : Place) → slice_get (present_in g) i ≡ Some p → p.len ≤ 65536
few_bytes g t =
    let P : Place → Type 0 = λ p. p.len ≤ 65536 in
    each_cons P g.directory _ (few_len _ g.directory t.directory)
    (each_cons P g.doubles _ (few_len _ g.doubles t.doubles)
    (each_cons P g.ascii _ (few_len _ g.ascii t.ascii)
    (each_cons P g.scale _ (few_len _ g.scale t.scale)
    (each_cons P g.tiepoints _ (few_len _ g.tiepoints t.tiepoints)
    (each_cons P g.transformation _ (few_len _ g.transformation t.transformation) (λ i p is. absurd (none-some p is)))))))

-- ---- all of them

total_cons : (o : Option Place) (ps : List Place) → total (cons_option o ps) ≡ len_of_field o + total ps
total_cons None ps = sym (zero-add (total ps))
total_cons (Some p) ps = sum_by-cons (λ (p : Place). p.len) p ps

pub total_six : (g : GeoPlaces) → total (present_in g) ≡ len_of_field g.directory + (len_of_field g.doubles + (len_of_field g.ascii + (len_of_field g.scale + (len_of_field g.tiepoints + (len_of_field g.transformation + 0)))))
total_six g =
    total_cons g.directory _ ∙ ap (λ n. len_of_field g.directory + n) (total_cons g.doubles _ ∙ ap (λ n. len_of_field g.doubles + n) (total_cons g.ascii _ ∙ ap (λ n. len_of_field g.ascii + n)
    (total_cons g.scale _ ∙ ap (λ n. len_of_field g.scale + n) (total_cons g.tiepoints _ ∙ ap (λ n. len_of_field g.tiepoints + n) (total_cons g.transformation [])))))

-- a part is cut off
record IsCut (n : ℕ) (bytes front rest : List ℕ) : Type 0 where
  joined : bytes ≡ front ++ rest
  front_len : length front ≡ n
  rest_len : length bytes ≡ n + length rest

cut : (n : ℕ) (bytes front rest : List ℕ) → n ≤ length bytes → front ≡ take n bytes → rest ≡ drop n bytes → IsCut n bytes front rest
cut n bytes front rest fits front_is rest_is =
    let a : length front ≡ n = ap length front_is ∙ (let k = length-take n bytes in omega (arith, k, fits)) in
    let b = ap length rest_is ∙ length-drop n bytes in record {
      joined = sym (take-append-drop n bytes) ∙ ap (λ l. l ++ drop n bytes) (sym front_is) ∙ ap (λ l. front ++ l) (sym rest_is);
      front_len = a;
      rest_len = omega (arith, b, fits);
    }

pub all_parts : (g : GeoPlaces) (bytes a ra b rb c rc d rd e re h rh : List ℕ) → length bytes ≡ total (present_in g)
    → a ≡ take (len_of_field g.directory) bytes → ra ≡ drop (len_of_field g.directory) bytes → b ≡ take (len_of_field g.doubles) ra → rb ≡ drop (len_of_field g.doubles) ra
    → c ≡ take (len_of_field g.ascii) rb → rc ≡ drop (len_of_field g.ascii) rb → d ≡ take (len_of_field g.scale) rc → rd ≡ drop (len_of_field g.scale) rc
    → e ≡ take (len_of_field g.tiepoints) rd → re ≡ drop (len_of_field g.tiepoints) rd → h ≡ take (len_of_field g.transformation) re → AreFieldParts g bytes a b c d e h
all_parts g bytes a ra b rb c rc d rd e re h rh whole a_is ra_is b_is rb_is c_is rc_is d_is rd_is e_is re_is h_is =
    let six = whole ∙ total_six g in
    let ka = cut (len_of_field g.directory) bytes a ra (omega (arith, six)) a_is ra_is in
    let kb = cut (len_of_field g.doubles) ra b rb (omega (arith, six, ka.rest_len)) b_is rb_is in
    let kc = cut (len_of_field g.ascii) rb c rc (omega (arith, six, ka.rest_len, kb.rest_len)) c_is rc_is in
    let kd = cut (len_of_field g.scale) rc d rd (omega (arith, six, ka.rest_len, kb.rest_len, kc.rest_len)) d_is rd_is in
    let ke = cut (len_of_field g.tiepoints) rd e re (omega (arith, six, ka.rest_len, kb.rest_len, kc.rest_len, kd.rest_len)) e_is re_is in
    let last : h ≡ re = h_is ∙ take_all (len_of_field g.transformation) re (omega (arith, six, ka.rest_len, kb.rest_len, kc.rest_len, kd.rest_len, ke.rest_len)) in record {
      joined = ka.joined ∙ ap (λ l. a ++ l) (kb.joined ∙ ap (λ l. b ++ l) (kc.joined ∙ ap (λ l. c ++ l) (kd.joined ∙ ap (λ l. d ++ l) (ke.joined ∙ ap (λ l. e ++ l) (sym last)))));
      directory_len = ka.front_len;
      doubles_len = kb.front_len;
      ascii_len = kc.front_len;
      scale_len = kd.front_len;
      tiepoints_len = ke.front_len;
      transformation_len = ap length last ∙ omega (arith, six, ka.rest_len, kb.rest_len, kc.rest_len, kd.rest_len, ke.rest_len);
    }
