-- Looking for an entry by its tag, and counting entries.
use Rattle.std.proofs.Common.{◌≡◌, ℕ, suc, ◌+◌, ◌==◌, Bool, true, false, List, length, Option, Some, None, refl, sym, ap, ◌∙◌, arith}
use Rattle.std.specs.Prelude.{is_some}
use Rattle.std.specs.Option.{option_map, option_map_or}
use Rattle.std.specs.List.{cons_option}
use Rattle.reference_support.specs.declared.fields.Entry.{Entry}
use Rattle.reference_support.specs.Entry.{field_of}
use Rattle.tiff_dir.specs.File.{Field, field_at, fields_from}
use Rattle.tiff_dir.specs.Table.{field_with_tag}

-- the first entry, if its tag is there, and the others
first_of : (at next n left : ℕ) (f : List ℕ) → next ≡ at + 12 → n ≡ left + 1 → fields_from f at n ≡ cons_option (field_at f at) (fields_from f next left)
unfolding fields_from
first_of at next n left f e1 e2 =
    let e : n ≡ suc left = omega arith in
    rw (e, e1) refl

pub none_of : (at n : ℕ) (tag : ℕ) (f : List ℕ) → n ≡ 0 → field_with_tag tag (fields_from f at n) ≡ None
unfolding fields_from
none_of at n tag f e = rw e refl

pub no_fields : (at n : ℕ) (f : List ℕ) → n ≡ 0 → length (fields_from f at n) ≡ 0
unfolding fields_from
no_fields at n f e = rw e refl

-- whether an entry that may be there has the tag
abbrev tagged : ℕ → Option Field → Bool
tagged tag o = option_map_or (λ e. e.tag == tag) o false

pub passed : (at next n left tag : ℕ) (f : List ℕ) (o : Option Field) → next ≡ at + 12 → n ≡ left + 1 → o ≡ field_at f at → tagged tag o ≡ false → field_with_tag tag (fields_from f next left) ≡ field_with_tag tag (fields_from f at n)
passed at next n left tag f o e1 e2 is other = sym (ap (field_with_tag tag) (first_of at next n left f e1 e2) ∙ ap (λ x. field_with_tag tag (cons_option x (fields_from f next left))) (sym is) ∙ go o other) where
  go : (x : Option Field) → tagged tag x ≡ false → field_with_tag tag (cons_option x (fields_from f next left)) ≡ field_with_tag tag (fields_from f next left)
  go None other = refl
  go (Some e) other = rw other refl

pub here : (at n tag : ℕ) (f : List ℕ) (o : Option Field) (left : ℕ) → n ≡ left + 1 → o ≡ field_at f at → tagged tag o ≡ true → o ≡ field_with_tag tag (fields_from f at n)
here at n tag f o left e2 is same = sym (ap (field_with_tag tag) (first_of at (at + 12) n left f refl e2) ∙ ap (λ x. field_with_tag tag (cons_option x (fields_from f (at + 12) left))) (sym is) ∙ go o same) where
  go : (x : Option Field) → tagged tag x ≡ true → field_with_tag tag (cons_option x (fields_from f (at + 12) left)) ≡ x
  go None same = absurd (cc)
  go (Some e) same = rw same refl

pub seen_tag : (tag : ℕ) (o : Option Entry) → tagged tag (option_map field_of o) ≡ option_map_or (λ (e : Entry). e.tag == tag) o false
seen_tag tag None = refl
seen_tag tag (Some e) = refl

pub seen_some : (o : Option Entry) → is_some (option_map field_of o) ≡ is_some o
seen_some None = refl
seen_some (Some e) = refl

pub counted : (at next n left : ℕ) (f : List ℕ) (o : Option Field) → next ≡ at + 12 → n ≡ left + 1 → o ≡ field_at f at → is_some o ≡ true → length (fields_from f at n) ≡ length (fields_from f next left) + 1
counted at next n left f o e1 e2 is there = ap length (first_of at next n left f e1 e2) ∙ ap (λ x. length (cons_option x (fields_from f next left))) (sym is) ∙ one o there where
  one : (x : Option Field) → is_some x ≡ true → length (cons_option x (fields_from f next left)) ≡ length (fields_from f next left) + 1
  one None there = absurd (cc)
  one (Some e) there = omega arith

pub not_counted : (at next n left : ℕ) (f : List ℕ) (o : Option Field) → next ≡ at + 12 → n ≡ left + 1 → o ≡ field_at f at → is_some o ≡ false → length (fields_from f at n) ≡ length (fields_from f next left)
not_counted at next n left f o e1 e2 is there = ap length (first_of at next n left f e1 e2) ∙ ap (λ x. length (cons_option x (fields_from f next left))) (sym is) ∙ none o there where
  none : (x : Option Field) → is_some x ≡ false → length (cons_option x (fields_from f next left)) ≡ length (fields_from f next left)
  none None there = refl
  none (Some e) there = absurd (cc)
