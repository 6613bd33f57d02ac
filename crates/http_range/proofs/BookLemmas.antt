-- Publications under their names, and the tags that tell them apart.
use Rattle.std.proofs.Common.{◌≡◌, ◌≢◌, ℕ, suc, ◌^◌, ◌<◌, ◌≤◌, Bool, true, false, cond, ◌&&◌, List, [], ◌∷◌, ◌++◌, length, drop, get_or, inl, inr, refl, sym, ap, ◌∙◌, subst, arith, append_assoc, length-append, codes, Option, Some}
use Rattle.std.specs.Prelude.{decimal}
use Rattle.std.specs.Char.{is_ascii_digit}
use Rattle.std.specs.List.{list_all, before_first, after_first}
use Rattle.std.specs.Str.{bytes_eq, all_ascii_digits}
use Rattle.std.proofs.Math.Dec.{eqb}
use Rattle.std.proofs.lemmas.Bool.{and_parts, cases_lt, le-leb}
use Rattle.std.proofs.lemmas.Bool.Decides.{nat_tests}
use Rattle.std.proofs.lemmas.Fmt.{decimal_injective}
use Rattle.std.proofs.lemmas.List.Folds.{list_all-append}
use Rattle.std.proofs.lemmas.Slice.Eq.{bytes_eq-Decides}
use Rattle.std.proofs.lemmas.List.Sums.{AllPass-from_list_all}
use Rattle.httparse.proofs.GrammarLemmas.{cons-append}
use Rattle.http_fields.specs.Tag.{is_tag_byte, is_opaque_tag, is_kept_tag}
use Rattle.http_range.specs.Book.{Publication, IsPublication, Book, In, Catalogue, IsCatalogue, published, publish, publication_tag}
use Rattle.http_range.specs.Laws.{TagsTellOne, TagsTellPublications, PublicationTagsAreKept, PublishReplaces, PublishedIsNamed}
use Rattle.http_fields.specs.Laws.{PartsAreRead}
use Rattle.http_range.proofs.PlaceLemmas.{digit_range, digits_miss, before_at, after_at}
use Rattle.http_range.proofs.ReplyLemmas.{length_20}

-- ---- places in a book

-- a publication of a book has a place there
place_in : (p : Publication) (book : Book) → In p book → (k : ℕ) × (k < length book) × ((d : Publication) → get_or book k d ≡ p)
place_in p [] i = absurd i
place_in p (q ∷ book) (inl same) = (0, omega arith, λ d. sym same)
place_in p (q ∷ book) (inr later) = let at = place_in p book later in (suc at.0, omega (arith, at.1), at.2)

-- where tags are distinct, one tag has one place
pub tags_tell_one : TagsTellOne
tags_tell_one book distinct p q i j tags =
    let a = place_in p book i in
    let b = place_in q book j in
    let same : (get_or book a.0 p).tag ≡ (get_or book b.0 p).tag = ap tag_of (a.2 p) ∙ tags ∙ ap tag_of (sym (b.2 p)) in
    elim (cases_lt a.0 b.0) [
      | inl before ↦ absurd (distinct a.0 b.0 p before b.1 same)
      | inr after ↦ elim (cases_lt b.0 a.0) [
        | inl before ↦ absurd (distinct b.0 a.0 p before a.1 (sym same))
        | inr here ↦
            (let e : a.0 ≡ b.0 = omega (arith, after, here) in
            sym (a.2 p) ∙ ap (λ (k : ℕ). get_or book k p) e ∙ b.2 p)
      ]
    ]
  where
    tag_of : Publication → List ℕ
    tag_of p = p.tag

-- ---- names

pub same_bytes : (xs ys : List ℕ) → bytes_eq xs ys ≡ true → xs ≡ ys
same_bytes xs ys = (bytes_eq-Decides xs ys).0

pub bytes_same : (xs ys : List ℕ) → xs ≡ ys → bytes_eq xs ys ≡ true
bytes_same xs ys = (bytes_eq-Decides xs ys).1

pub other_bytes : (xs ys : List ℕ) → xs ≢ ys → bytes_eq xs ys ≡ false
other_bytes xs ys other = by_test (bytes_eq xs ys) refl
  where
    by_test : (t : Bool) → bytes_eq xs ys ≡ t → bytes_eq xs ys ≡ false
    by_test true is = absurd (other (same_bytes xs ys is))
    by_test false is = is

pub published_named : (name : List ℕ) (catalogue : Catalogue) (p : Publication) → published name catalogue ≡ Some p → p.name ≡ name
published_named name [] p is = absurd (cc)
published_named name (q ∷ catalogue) p is = by_test (bytes_eq q.name name) refl (published_named name catalogue p) is
  where
    by_test : (t : Bool) → bytes_eq q.name name ≡ t → (published name catalogue ≡ Some p → p.name ≡ name)
        → cond t (Some q) (published name catalogue) ≡ Some p → p.name ≡ name
    by_test true same later is = let e : q ≡ p = cc in ap (λ (r : Publication). r.name) (sym e) ∙ same_bytes q.name name same
    by_test false other later is = later is

pub published_own : (name : List ℕ) (catalogue : Catalogue) (p : Publication) → published name catalogue ≡ Some p
    → published p.name catalogue ≡ Some p
published_own name catalogue p is =
    ap (λ (n : List ℕ). published n catalogue) (published_named name catalogue p is) ∙ is

pub published_lawful : (name : List ℕ) (catalogue : Catalogue) (p : Publication) → IsCatalogue catalogue
    → published name catalogue ≡ Some p → IsPublication p
published_lawful name [] p lawful is = absurd (cc)
published_lawful name (q ∷ catalogue) p lawful is =
    by_test (bytes_eq q.name name) (published_lawful name catalogue p lawful.1) is
  where
    by_test : (t : Bool) → (published name catalogue ≡ Some p → IsPublication p)
        → cond t (Some q) (published name catalogue) ≡ Some p → IsPublication p
    by_test true later is = let e : q ≡ p = cc in subst IsPublication e lawful.0
    by_test false later is = later is

publish_stands : (p : Publication) (catalogue : Catalogue) → published p.name (publish p catalogue) ≡ Some p
publish_stands p [] = rw (bytes_same p.name p.name refl)
publish_stands p (q ∷ catalogue) = by_test (bytes_eq q.name p.name) refl (publish_stands p catalogue)
  where
    by_test : (t : Bool) → bytes_eq q.name p.name ≡ t → published p.name (publish p catalogue) ≡ Some p
        → published p.name (cond t (p ∷ catalogue) (q ∷ publish p catalogue)) ≡ Some p
    by_test true same later = rw (bytes_same p.name p.name refl)
    by_test false other later = rw other later

publish_others : (p : Publication) (catalogue : Catalogue) (name : List ℕ) → name ≢ p.name
    → published name (publish p catalogue) ≡ published name catalogue
publish_others p [] name apart = rw (other_bytes p.name name (λ e. apart (sym e)))
publish_others p (q ∷ catalogue) name apart = by_test (bytes_eq q.name p.name) refl (publish_others p catalogue name apart)
  where
    by_test : (t : Bool) → bytes_eq q.name p.name ≡ t → published name (publish p catalogue) ≡ published name catalogue
        → published name (cond t (p ∷ catalogue) (q ∷ publish p catalogue)) ≡ published name (q ∷ catalogue)
    by_test true same later =
        rw (
          other_bytes p.name name (λ e. apart (sym e)),
          other_bytes q.name name (λ e. apart (sym e ∙ same_bytes q.name p.name same)),
        )
    by_test false other later = ap (λ (o : Option Publication). cond (bytes_eq q.name name) (Some q) o) later

publish_lawful : (p : Publication) (catalogue : Catalogue) → IsPublication p → IsCatalogue catalogue
    → IsCatalogue (publish p catalogue)
publish_lawful p [] is lawful = (is, tt)
publish_lawful p (q ∷ catalogue) is lawful =
    by_test (bytes_eq q.name p.name) (publish_lawful p catalogue is lawful.1)
  where
    by_test : (t : Bool) → IsCatalogue (publish p catalogue) → IsCatalogue (cond t (p ∷ catalogue) (q ∷ publish p catalogue))
    by_test true later = (is, lawful.1)
    by_test false later = (lawful.0, later)

pub publish_replaces : PublishReplaces
publish_replaces = record { stands = publish_stands; others = publish_others; lawful = publish_lawful }

pub published_is_named : PublishedIsNamed
published_is_named = record { named = published_named; lawful = published_lawful }

-- ---- tags

-- the tag, grouped from its front
tag_grouped : (x y : List ℕ)
    → codes "\"" ++ x ++ codes "-" ++ y ++ codes "\"" ≡ 34 ∷ (x ++ 45 ∷ (y ++ 34 ∷ []))
tag_grouped x y = simp (append_assoc, cons-append)

record HasNumbers (tag x y : List ℕ) : Type 0 where
  epoch : before_first (λ b. eqb b 45) (drop 1 tag) ≡ x
  number : before_first (λ b. eqb b 34) (after_first (λ b. eqb b 45) (drop 1 tag)) ≡ y

digit_tag : (b : ℕ) → is_ascii_digit b ≡ true → is_tag_byte b ≡ true
digit_tag b h = let range = digit_range b h in grind (arith, nat_tests)

digits_tag : (ds : List ℕ) → all_ascii_digits ds ≡ true → list_all is_tag_byte ds ≡ true
digits_tag [] h = refl
digits_tag (d ∷ ds) h =
    let parts = and_parts (is_ascii_digit d) (all_ascii_digits ds) h in
    rw (digit_tag d parts.0, digits_tag ds parts.1)

middle_tag : (x y : List ℕ) → list_all is_tag_byte x ≡ true → list_all is_tag_byte y ≡ true
    → list_all is_tag_byte (x ++ 45 ∷ y) ≡ true
middle_tag x y px py = rw (list_all-append is_tag_byte x (45 ∷ y), px) py

and_true : (a b : Bool) → a ≡ true → b ≡ true → (a && b) ≡ true
and_true a b ha hb = rw (ha, hb)

module _ (laws : PartsAreRead) where
  tag_numbers : (e n : ℕ) → e < 2 ^ 64 → n < 2 ^ 64 → HasNumbers (publication_tag e n) (decimal e) (decimal n)
  unfolding publication_tag
  tag_numbers e n se sn =
      let x = decimal e in
      let y = decimal n in
      let rest = y ++ 34 ∷ [] in
      let dash = digits_miss 45 (omega arith) x (laws.decimals.digits e se) in
      let quote = digits_miss 34 (omega arith) y (laws.decimals.digits n sn) in
      rw (tag_grouped x y) (record {
        epoch = before_at (λ b. eqb b 45) x 45 rest dash refl;
        number =
            ap (before_first (λ b. eqb b 34)) (after_at (λ b. eqb b 45) x 45 rest dash refl)
            ∙ before_at (λ b. eqb b 34) y 34 [] quote refl;
      })

  pub law_tags_tell_publications : TagsTellPublications
  law_tags_tell_publications e n f m se sn sf sm same =
      let a = tag_numbers e n se sn in
      let b = tag_numbers f m sf sm in (
        decimal_injective e f se sf
            (sym a.epoch ∙ ap (λ (t : List ℕ). before_first (λ b. eqb b 45) (drop 1 t)) same ∙ b.epoch),
        decimal_injective n m sn sm
            (sym a.number ∙ ap (λ (t : List ℕ). before_first (λ b. eqb b 34) (after_first (λ b. eqb b 45) (drop 1 t))) same ∙ b.number),
      )

  kept_by : (x y : List ℕ) → list_all is_tag_byte x ≡ true → list_all is_tag_byte y ≡ true → length x ≤ 20 → length y ≤ 20
      → is_kept_tag (codes "\"" ++ x ++ codes "-" ++ y ++ codes "\"") ≡ true
  kept_by x y px py sx sy =
      let m = x ++ 45 ∷ y in
      let grouped : codes "\"" ++ x ++ codes "-" ++ y ++ codes "\"" ≡ 34 ∷ (m ++ 34 ∷ []) =
      tag_grouped x y ∙ ap (λ (t : List ℕ). 34 ∷ t) (sym (append_assoc x (45 ∷ y) (34 ∷ []))) in
      let small : length (34 ∷ (m ++ 34 ∷ [])) ≤ 64 =
      omega (arith, length-append m (34 ∷ []), length-append x (45 ∷ y)) in
      let kept : is_kept_tag (34 ∷ (m ++ 34 ∷ [])) ≡ true =
      and_true (is_opaque_tag (34 ∷ (m ++ 34 ∷ []))) _ ((laws.quoted.opaque (34 ∷ (m ++ 34 ∷ []))).1 (m, refl, AllPass-from_list_all is_tag_byte m (middle_tag x y px py))) (le-leb (length (34 ∷ (m ++ 34 ∷ []))) 64 small) in
      subst (λ (t : List ℕ). is_kept_tag t ≡ true) (sym grouped) kept

  pub publication_tags_kept : PublicationTagsAreKept
  unfolding publication_tag
  publication_tags_kept e n se sn =
      kept_by (decimal e) (decimal n) (digits_tag (decimal e) (laws.decimals.digits e se)) (digits_tag (decimal n) (laws.decimals.digits n sn)) (length_20 e se)
      (length_20 n sn)
