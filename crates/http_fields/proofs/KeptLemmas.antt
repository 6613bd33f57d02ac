-- A line that isn't refused may be added, and its bytes are counted.
use Rattle.std.proofs.Common.{◌≡◌, ℕ, ◌+◌, ◌<◌, ◌≤◌, Bool, true, false, cond, List, [], ◌∷◌, ◌++◌, length, take, get_or, refl, sym, ap, subst, ◌∙◌, arith, append_assoc, append-nil, length-append, Option, Some, None}
use Rattle.std.specs.Prelude.{◌&&◌, not, nat_lt, nat_le}
use Rattle.std.specs.List.{flat_map, list_all}
use Rattle.std.proofs.lemmas.Bool.{and_from, false≢true, leb-true, ltb-true}
use Rattle.std.proofs.lemmas.Grind.{flat_map-append}
use Rattle.std.proofs.lemmas.List.{take_more, map-append}
use Rattle.std.proofs.lemmas.List.Folds.{list_all-append}
use Rattle.httparse.specs.Grammar.{is_token}
use Rattle.http_fields.specs.declared.request_fields.FieldError.{FieldError}
use Rattle.http_fields.specs.declared.request_fields.FieldError.TheVariants.{Name, Reserved, Value, Lines, Bytes}
use Rattle.http_fields.specs.declared.request_fields.RequestField.{RequestField}
use Rattle.http_fields.specs.Text.{FieldLine, line}
use Rattle.http_fields.specs.RequestFields.{AreExtra, has_room, is_extra, is_field_value, is_reserved}
use Rattle.http_fields.specs.FieldRefusal.{field_refusal}
use Rattle.http_fields.specs.KeptFields.{line_of, lines_of}
use Rattle.http_fields.proofs.LineLemmas.{length-line}

-- the bytes of one line more
pub long_more : (lines : List FieldLine) (l : FieldLine) → length (flat_map line (lines ++ l ∷ [])) ≡ length (flat_map line lines) + (length l.0 + length l.1 + 4)
long_more lines l =
    ap length (flat_map-append line lines (l ∷ [])) ∙ length-append (flat_map line lines) (flat_map line (l ∷ []))
    ∙ ap (λ n. length (flat_map line lines) + n) (length-append (line l) [] ∙ omega (arith, length-line l))

pub lines_add : (fields : List RequestField) (f : RequestField) → lines_of (fields ++ f ∷ []) ≡ lines_of fields ++ line_of f ∷ []
lines_add fields f = map-append line_of fields (f ∷ [])

passed : (t : Bool) (e : FieldError) (rest : Option FieldError) → cond t (Some e) rest ≡ None → (t ≡ false) × (rest ≡ None)
passed true e rest h = absurd (cc)
passed false e rest h = (refl, h)

holds : (t : Bool) → not t ≡ false → t ≡ true
holds true h = refl
holds false h = absurd (false≢true (sym h))

pub extra_more : (lines : List FieldLine) (l : FieldLine) → AreExtra lines → field_refusal lines l ≡ None → AreExtra (lines ++ l ∷ [])
extra_more lines l are none =
    let a = passed (not (is_token l.0)) Name _ none in
    let b = passed (is_reserved l.0) Reserved _ a.1 in
    let c = passed (not (is_field_value l.1)) Value _ b.1 in
    let d = passed (not (nat_lt (length lines) 16)) Lines _ c.1 in
    let e = passed (not (has_room lines l)) Bytes _ d.1 in
    let room : length (flat_map line lines) + (length l.0 + length l.1 + 4) ≤ 1024 = leb-true _ _ (holds (has_room lines l) e.0) in
    let few : length lines < 16 = ltb-true _ _ (holds (nat_lt (length lines) 16) d.0) in
    let free : not (is_reserved l.0) ≡ true = ap not b.0 in
    let is : is_extra l ≡ true = and_from _ _ (and_from _ _ (holds (is_token l.0) a.0) free) (holds (is_field_value l.1) c.0) in
    record {
      each = list_all-append is_extra lines (l ∷ []) ∙ and_from _ _ are.each (and_from _ _ is refl);
      few = omega (arith, length-append lines (l ∷ []));
      short = omega (arith, long_more lines l);
    }

-- so it is where the line is kept
pub kept_more : (old new : List RequestField) (f : RequestField) (name value : List ℕ) (size : ℕ) → new ≡ old ++ f ∷ [] → f.name.items ≡ name → f.value.items ≡ value
    → AreExtra (lines_of old) → size ≡ length (flat_map line (lines_of old)) → field_refusal (lines_of old) (name, value) ≡ None
    → AreExtra (lines_of new) × (size + (length name + length value + 4) ≡ length (flat_map line (lines_of new)))
kept_more old new f name value size is named valued are sized none =
    let l : FieldLine = (name, value) in
    let line_is : line_of f ≡ l = λ i. (named i, valued i) in
    let same : lines_of new ≡ lines_of old ++ l ∷ [] =
    ap lines_of is ∙ lines_add old f ∙ ap (λ (x : FieldLine). lines_of old ++ x ∷ []) line_is in (
      subst AreExtra (sym same) (extra_more (lines_of old) l are none),
      ap (λ n. n + (length name + length value + 4)) sized ∙ sym (ap (λ (ls : List FieldLine). length (flat_map line ls)) same ∙ long_more (lines_of old) l),
    )

-- the lines of one field more
fields_more : (fields : List RequestField) (i : ℕ) (d : RequestField) → i < length fields
    → flat_map line (lines_of (take (i + 1) fields)) ≡ flat_map line (lines_of (take i fields)) ++ line (line_of (get_or fields i d))
fields_more fields i d inside =
    let before = take i fields in
    let x = get_or fields i d in
    ap (λ (fs : List RequestField). flat_map line (lines_of fs)) (take_more fields i d inside) ∙ ap (flat_map line) (lines_add before x)
    ∙ flat_map-append line (lines_of before) (line_of x ∷ []) ∙ ap (λ (t : List ℕ). flat_map line (lines_of before) ++ t) (append-nil (line (line_of x)))

pub written_more : (fields : List RequestField) (i : ℕ) (x : RequestField) (start before after : List ℕ) → i < length fields → x ≡ get_or fields i x
    → before ≡ start ++ flat_map line (lines_of (take i fields)) → after ≡ before ++ line (line_of x)
    → after ≡ start ++ flat_map line (lines_of (take (i + 1) fields))
written_more fields i x start before after inside at was now =
    let lines = flat_map line (lines_of (take i fields)) in
    now ∙ ap (λ (t : List ℕ). t ++ line (line_of x)) was ∙ append_assoc start lines (line (line_of x))
    ∙ ap (λ (t : List ℕ). start ++ t) (ap (λ (f : RequestField). lines ++ line (line_of f)) at ∙ sym (fields_more fields i x inside))
