-- Lists of entity tags, as they are read, are those of the grammar.
use Rattle.std.proofs.Common.{◌≡◌, ℕ, ◌<◌, Bool, true, false, cond, not, ◌&&◌, ◌||◌, List, [], ◌∷◌, ◌++◌, map, length, refl, sym, ap, ◌∙◌, subst, arith, inl, inr, append-nil, codes, reverse}
use Rattle.std.specs.Prelude.{◌⊎◌, All}
use Rattle.std.specs.List.{join_with_byte, list_all, list_any, onto_first}
use Rattle.std.specs.Str.{bytes_eq}
use Rattle.std.proofs.Math.Dec.{eqb}
use Rattle.std.proofs.lemmas.Bool.{and_parts, eqb-true}
use Rattle.std.proofs.lemmas.Bool.Decides.{nat_tests}
use Rattle.std.proofs.lemmas.List.{append_assoc, length-reverse, reverse-append, reverse-reverse}
use Rattle.std.proofs.lemmas.List.Folds.{Any-from_list_any, list_any-from_Any}
use Rattle.std.proofs.lemmas.Slice.Eq.{bytes_eq-Decides}
use Rattle.std.proofs.lemmas.List.Elements.{All-cons, All-tail, All-get_or}
use Rattle.std.proofs.lemmas.List.Sums.{list_all-from_AllPass}
use Rattle.httparse.specs.Grammar.{AllPass, is_ows, is_uri_byte, skip_ows, trim_ows}
use Rattle.httparse.proofs.TrimLemmas.{AllPass-reverse}
use Rattle.http_fields.specs.Tag.{is_tag_byte, is_opaque_tag, is_weak_tag}
use Rattle.http_fields.specs.Members.{parts_from, members}
use Rattle.http_fields.specs.Conditional.{any_match, is_match, may_be_listed}
use Rattle.http_fields.specs.Lists.{Element, IsElement, IsTagList, HasMatch, element_text}
use Rattle.http_fields.specs.Laws.{ListsAreMatched}
use Rattle.http_fields.proofs.MembersLemmas.{is_open}
use Rattle.http_fields.proofs.VisibleLemmas.{skip_none}
use Rattle.http_fields.proofs.TagLemmas.{tag_pass, tag_nonempty, opaque_parts, tags_are_quoted}

-- ---- the white space round a part

spaces_before : (xs : List ℕ) → (before : List ℕ) × (xs ≡ before ++ skip_ows xs) × AllPass is_ows before
spaces_before [] = ([], refl, λ k d inside. absurd (omega arith))
spaces_before (b ∷ bytes) = by_test (is_ows b) refl (spaces_before bytes)
  where
    by_test : (t : Bool) → is_ows b ≡ t → (before : List ℕ) × (bytes ≡ before ++ skip_ows bytes) × AllPass is_ows before
        → (before : List ℕ) × (b ∷ bytes ≡ before ++ cond t (skip_ows bytes) (b ∷ bytes)) × AllPass is_ows before
    by_test true is later = (b ∷ later.0, ap (λ (t : List ℕ). b ∷ t) later.1, All-cons (λ b. is_ows b ≡ true) b later.0 is later.2)
    by_test false is later = ([], refl, λ k d inside. absurd (omega arith))

-- a part is its member with white space round it
pub element_of : (part : List ℕ)
    → (e : Element) × (element_text e ≡ part) × (e.member ≡ trim_ows part) × AllPass is_ows e.before × AllPass is_ows e.after
unfolding trim_ows
element_of part =
    let front = spaces_before part in
    let rest = skip_ows part in
    let back = spaces_before (reverse rest) in
    let member = reverse (skip_ows (reverse rest)) in
    let whole : rest ≡ member ++ reverse back.0 =
    sym (reverse-reverse rest) ∙ ap reverse back.1 ∙ reverse-append back.0 (skip_ows (reverse rest)) in
    let text : front.0 ++ member ++ reverse back.0 ≡ part =
    append_assoc front.0 member (reverse back.0) ∙ ap (λ (t : List ℕ). front.0 ++ t) (sym whole) ∙ sym front.1 in (
      record { before = front.0; member = member; after = reverse back.0 },
      text,
      refl,
      front.2,
      AllPass-reverse is_ows back.0 back.2,
    )

-- spaces are passed over
skip_spaces : (before xs : List ℕ) → AllPass is_ows before → skip_ows (before ++ xs) ≡ skip_ows xs
skip_spaces [] xs pass = refl
skip_spaces (b ∷ before) xs pass =
    let is : is_ows b ≡ true = All-get_or (λ b. is_ows b ≡ true) (b ∷ before) 0 0 (omega arith) pass in
    rw is (skip_spaces before xs (All-tail (λ b. is_ows b ≡ true) b before pass))

-- a member is what is left of its element
trim_visible : (before member after : List ℕ) → AllPass is_ows before → AllPass is_ows after → AllPass is_uri_byte member → 0 < length member
    → trim_ows (before ++ member ++ after) ≡ member
unfolding trim_ows
trim_visible before member after front back pass some =
    let one : skip_ows (before ++ member ++ after) ≡ member ++ after =
    ap skip_ows (append_assoc before member after) ∙ skip_spaces before (member ++ after) front ∙ skip_none member after pass some in
    let turned : AllPass is_uri_byte (reverse member) = AllPass-reverse is_uri_byte member pass in
    let long : 0 < length (reverse member) = omega (arith, length-reverse member) in
    let two : skip_ows (reverse (member ++ after)) ≡ reverse member =
    ap skip_ows (reverse-append member after)
    ∙ skip_spaces (reverse after) (reverse member) (AllPass-reverse is_ows after back)
    ∙ ap skip_ows (sym (append-nil (reverse member))) ∙ skip_none (reverse member) [] turned long ∙ append-nil (reverse member) in
    ap (λ (t : List ℕ). reverse (skip_ows (reverse t))) one ∙ ap reverse two ∙ reverse-reverse member

skip_all : (xs : List ℕ) → AllPass is_ows xs → skip_ows xs ≡ []
skip_all xs pass = ap skip_ows (sym (append-nil xs)) ∙ skip_spaces xs [] pass

trim_spaces : (before after : List ℕ) → AllPass is_ows before → AllPass is_ows after → trim_ows (before ++ after) ≡ []
unfolding trim_ows
trim_spaces before after front back =
    ap (λ (t : List ℕ). reverse (skip_ows (reverse t))) (skip_spaces before after front ∙ skip_all after back)

-- ---- texts in which no comma cuts

-- the bytes before the first part
abbrev pub before_all : List ℕ → List (List ℕ) → List (List ℕ)
before_all [] parts = parts
before_all (b ∷ bytes) parts = onto_first b (before_all bytes parts)

-- what follows is cut as if it stood alone
abbrev pub IsWhole : List ℕ → Type 0
IsWhole xs = (rest : List ℕ) → parts_from true false (xs ++ rest) ≡ before_all xs (parts_from true false rest)

before_more : (xs ys : List ℕ) (parts : List (List ℕ)) → before_all (xs ++ ys) parts ≡ before_all xs (before_all ys parts)
before_more [] ys parts = refl
before_more (x ∷ xs) ys parts = ap (onto_first x) (before_more xs ys parts)

whole_more : (xs ys : List ℕ) → IsWhole xs → IsWhole ys → IsWhole (xs ++ ys)
whole_more xs ys first second rest =
    ap (parts_from true false) (append_assoc xs ys rest)
    ∙ first (ys ++ rest) ∙ ap (before_all xs) (second rest) ∙ sym (before_more xs ys (parts_from true false rest))

-- a byte that is neither comma nor quote
whole_byte : (b : ℕ) (xs : List ℕ) → eqb b 44 ≡ false → eqb b 34 ≡ false → IsWhole xs → IsWhole (b ∷ xs)
whole_byte b xs comma quote later rest = rw (comma, quote) (ap (onto_first b) (later rest))

whole_spaces : (xs : List ℕ) → AllPass is_ows xs → IsWhole xs
whole_spaces [] pass = λ rest. refl
whole_spaces (b ∷ xs) pass =
    let is : is_ows b ≡ true = All-get_or (λ b. is_ows b ≡ true) (b ∷ xs) 0 0 (omega arith) pass in
    whole_byte b xs (no_comma b is) (no_quote b is) (whole_spaces xs (All-tail (λ b. is_ows b ≡ true) b xs pass))
  where
    no_comma : (b : ℕ) → is_ows b ≡ true → eqb b 44 ≡ false
    no_comma b h = grind (arith, nat_tests)

    no_quote : (b : ℕ) → is_ows b ≡ true → eqb b 34 ≡ false
    no_quote b h = grind (arith, nat_tests)

-- between quotes nothing cuts
inside_quotes : (inner rest : List ℕ) → list_all is_tag_byte inner ≡ true
    → parts_from true true (inner ++ 34 ∷ rest) ≡ before_all (inner ++ 34 ∷ []) (parts_from true false rest)
inside_quotes [] rest pass = refl
inside_quotes (b ∷ inner) rest pass =
    let parts = and_parts (is_tag_byte b) (list_all is_tag_byte inner) pass in
    let other : eqb b 34 ≡ false = no_quote b parts.0 in
    by_test (eqb b 44) (rw other (ap (onto_first b) (inside_quotes inner rest parts.1)))
  where
    no_quote : (b : ℕ) → is_tag_byte b ≡ true → eqb b 34 ≡ false
    no_quote b h = grind (arith, nat_tests)

    by_test : (t : Bool)
        → onto_first b (parts_from true (is_open true true b) (inner ++ 34 ∷ rest)) ≡ onto_first b (before_all (inner ++ 34 ∷ []) (parts_from true false rest))
        → cond (t && false) ([] ∷ parts_from true false (inner ++ 34 ∷ rest)) (onto_first b (parts_from true (is_open true true b) (inner ++ 34 ∷ rest)))
        ≡ onto_first b (before_all (inner ++ 34 ∷ []) (parts_from true false rest))
    by_test true later = later
    by_test false later = later

whole_opaque : (tag : List ℕ) → is_opaque_tag tag ≡ true → IsWhole tag
whole_opaque tag opaque =
    let parts = opaque_parts tag opaque in
    let pass = list_all-from_AllPass is_tag_byte parts.0 parts.2 in
    subst IsWhole (sym parts.1) (quoted parts.0 pass)
  where
    quoted : (inner : List ℕ) → list_all is_tag_byte inner ≡ true → IsWhole (34 ∷ (inner ++ 34 ∷ []))
    quoted inner pass rest =
        ap (λ (t : List ℕ). onto_first 34 (parts_from true true t)) (append_assoc inner (34 ∷ []) rest)
        ∙ ap (onto_first 34) (inside_quotes inner rest pass)

whole_weak : (tag : List ℕ) → is_weak_tag tag ≡ true → IsWhole tag
whole_weak tag weak =
    let parts = (tags_are_quoted.weak tag).0 weak in
    subst IsWhole (sym parts.1)
    (whole_byte 87 (47 ∷ parts.0) refl refl (whole_byte 47 parts.0 refl refl (whole_opaque parts.0 parts.2)))

-- ---- members

weak_visible : (tag : List ℕ) → is_weak_tag tag ≡ true → AllPass is_uri_byte tag × (0 < length tag)
weak_visible tag weak =
    let parts = (tags_are_quoted.weak tag).0 weak in
    subst (λ (t : List ℕ). AllPass is_uri_byte t × (0 < length t)) (sym parts.1) (
      All-cons (λ b. is_uri_byte b ≡ true) 87 (47 ∷ parts.0) refl
          (All-cons (λ b. is_uri_byte b ≡ true) 47 parts.0 refl (tag_pass parts.0 parts.2)),
      omega arith,
    )

-- what a member has: it is whole, and is what is left of its element
pub record IsKept (m : List ℕ) : Type 0 where
  pub whole : IsWhole m
  pub left : (before after : List ℕ) → AllPass is_ows before → AllPass is_ows after → trim_ows (before ++ m ++ after) ≡ m

kept : (m : List ℕ) → may_be_listed m ≡ true → IsKept m
kept [] h = record { whole = λ rest. refl; left = λ before after front back. ap (λ (t : List ℕ). trim_ows (t ++ after)) (append-nil before) ∙ trim_spaces before after front back }
kept (b ∷ m) h = by_kind (is_opaque_tag (b ∷ m)) (is_weak_tag (b ∷ m)) refl refl h
  where
    by_kind : (o w : Bool) → is_opaque_tag (b ∷ m) ≡ o → is_weak_tag (b ∷ m) ≡ w → (o || w) ≡ true → IsKept (b ∷ m)
    by_kind true w opaque weak h = record {
      whole = whole_opaque (b ∷ m) opaque;
      left = λ before after front back. trim_visible before (b ∷ m) after front back (tag_pass (b ∷ m) opaque) (tag_nonempty (b ∷ m) opaque);
    }
    by_kind false false opaque weak h = absurd (let wrong : false ≡ true = h in cc)
    by_kind false true opaque weak h = let seen = weak_visible (b ∷ m) weak in record {
      whole = whole_weak (b ∷ m) weak;
      left = λ before after front back. trim_visible before (b ∷ m) after front back seen.0 seen.1;
    }

-- ---- parts joined, and joined parts cut

join_before : (b : ℕ) (parts : List (List ℕ)) → 0 < length parts → join_with_byte 44 (onto_first b parts) ≡ b ∷ join_with_byte 44 parts
join_before b [] some = absurd (omega arith)
join_before b (part ∷ []) some = refl
join_before b (part ∷ next ∷ parts) some = refl

some_before : (b : ℕ) (parts : List (List ℕ)) → 0 < length (onto_first b parts)
some_before b [] = omega arith
some_before b (part ∷ parts) = omega arith

pub some_parts : (quotes open_before : Bool) (xs : List ℕ) → 0 < length (parts_from quotes open_before xs)
some_parts quotes open_before [] = omega arith
some_parts quotes open_before (b ∷ bytes) = by_test (eqb b 44 && not open_before)
  where
    by_test : (t : Bool) → 0 < length (cond t ([] ∷ parts_from quotes false bytes) (onto_first b (parts_from quotes (is_open quotes open_before b) bytes)))
    by_test true = omega arith
    by_test false = some_before b (parts_from quotes (is_open quotes open_before b) bytes)

join_first : (parts : List (List ℕ)) → 0 < length parts → join_with_byte 44 ([] ∷ parts) ≡ 44 ∷ join_with_byte 44 parts
join_first [] some = absurd (omega arith)
join_first (part ∷ parts) some = refl

pub joined_parts : (quotes open_before : Bool) (xs : List ℕ) → join_with_byte 44 (parts_from quotes open_before xs) ≡ xs
joined_parts quotes open_before [] = refl
joined_parts quotes open_before (b ∷ bytes) =
    by_test (eqb b 44) (not open_before) refl (joined_parts quotes false bytes) (joined_parts quotes (is_open quotes open_before b) bytes)
  where
    by_test : (comma shut : Bool) → eqb b 44 ≡ comma
        → join_with_byte 44 (parts_from quotes false bytes) ≡ bytes
        → join_with_byte 44 (parts_from quotes (is_open quotes open_before b) bytes) ≡ bytes
        → join_with_byte 44 (cond (comma && shut) ([] ∷ parts_from quotes false bytes) (onto_first b (parts_from quotes (is_open quotes open_before b) bytes)))
        ≡ b ∷ bytes
    by_test true true is cut on =
        join_first (parts_from quotes false bytes) (some_parts quotes false bytes)
        ∙ ap (λ (t : List ℕ). 44 ∷ t) cut ∙ ap (λ (c : ℕ). c ∷ bytes) (sym (eqb-true b 44 is))
    by_test true false is cut on =
        join_before b (parts_from quotes (is_open quotes open_before b) bytes) (some_parts quotes (is_open quotes open_before b) bytes)
        ∙ ap (λ (t : List ℕ). b ∷ t) on
    by_test false shut is cut on =
        join_before b (parts_from quotes (is_open quotes open_before b) bytes) (some_parts quotes (is_open quotes open_before b) bytes)
        ∙ ap (λ (t : List ℕ). b ∷ t) on

before_first : (xs : List ℕ) (parts : List (List ℕ)) → before_all xs ([] ∷ parts) ≡ xs ∷ parts
before_first [] parts = refl
before_first (x ∷ xs) parts = ap (onto_first x) (before_first xs parts)

whole_element : (e : Element) → IsElement e → IsWhole (element_text e)
whole_element e is =
    whole_more (e.before ++ e.member) e.after
    (whole_more e.before e.member (whole_spaces e.before is.before) (kept e.member is.member).whole) (whole_spaces e.after is.after)

cut_parts : (e : Element) (elements : List Element) → All IsElement (e ∷ elements)
    → parts_from true false (join_with_byte 44 (map element_text (e ∷ elements))) ≡ map element_text (e ∷ elements)
cut_parts e [] each =
    let whole = whole_element e (All-get_or IsElement (e ∷ []) 0 e (omega arith) each) in
    ap (parts_from true false) (sym (append-nil (element_text e))) ∙ whole [] ∙ before_first (element_text e) []
cut_parts e (next ∷ elements) each =
    let whole = whole_element e (All-get_or IsElement (e ∷ next ∷ elements) 0 e (omega arith) each) in
    let later = cut_parts next elements (All-tail IsElement e (next ∷ elements) each) in
    whole (44 ∷ join_with_byte 44 (map element_text (next ∷ elements)))
    ∙ before_first (element_text e) (parts_from true false (join_with_byte 44 (map element_text (next ∷ elements))))
    ∙ ap (λ (t : List (List ℕ)). element_text e ∷ t) later

abbrev pub member_of : Element → List ℕ
member_of e = e.member

trimmed : (elements : List Element) → All IsElement elements → map trim_ows (map element_text elements) ≡ map member_of elements
trimmed [] each = refl
trimmed (e ∷ elements) each =
    let is = All-get_or IsElement (e ∷ elements) 0 e (omega arith) each in
    let one = (kept e.member is.member).left e.before e.after is.before is.after in
    ap (λ (m : List ℕ). m ∷ map trim_ows (map element_text elements)) one
    ∙ ap (λ (ms : List (List ℕ)). e.member ∷ ms) (trimmed elements (All-tail IsElement e elements each))

members_of : (value : List ℕ) (e : Element) (elements : List Element) → IsTagList value (e ∷ elements)
    → members true value ≡ map member_of (e ∷ elements)
unfolding members
members_of value e elements list =
    ap (λ (t : List ℕ). map trim_ows (parts_from true false t)) list.joined
    ∙ ap (map trim_ows) (cut_parts e elements list.each) ∙ trimmed (e ∷ elements) list.each

-- ---- the law

all_listed : (elements : List Element) → All IsElement elements → list_all may_be_listed (map member_of elements) ≡ true
all_listed [] each = refl
all_listed (e ∷ elements) each =
    let is = All-get_or IsElement (e ∷ elements) 0 e (omega arith) each in
    rw is.member (all_listed elements (All-tail IsElement e elements each))

any_members : (test : List ℕ → Bool) (elements : List Element) → list_any test (map member_of elements) ≡ list_any (λ (e : Element). test e.member) elements
any_members test [] = refl
any_members test (e ∷ elements) = ap (λ (b : Bool). test e.member || b) (any_members test elements)

abbrev pub elements_of : List (List ℕ) → List Element
elements_of [] = []
elements_of (part ∷ parts) = (element_of part).0 ∷ elements_of parts

texts_of : (parts : List (List ℕ)) → map element_text (elements_of parts) ≡ parts
texts_of [] = refl
texts_of (part ∷ parts) =
    ap (λ (t : List ℕ). t ∷ map element_text (elements_of parts)) (element_of part).1
    ∙ ap (λ (ts : List (List ℕ)). part ∷ ts) (texts_of parts)

kept_members : (parts : List (List ℕ)) → map member_of (elements_of parts) ≡ map trim_ows parts
kept_members [] = refl
kept_members (part ∷ parts) =
    ap (λ (t : List ℕ). t ∷ map member_of (elements_of parts)) (element_of part).2
    ∙ ap (λ (ts : List (List ℕ)). trim_ows part ∷ ts) (kept_members parts)

each_listed : (parts : List (List ℕ)) → list_all may_be_listed (map trim_ows parts) ≡ true → All IsElement (elements_of parts)
each_listed [] h = λ k d inside. absurd (omega arith)
each_listed (part ∷ parts) h =
    let seen = and_parts (may_be_listed (trim_ows part)) (list_all may_be_listed (map trim_ows parts)) h in
    let form = element_of part in
    All-cons IsElement form.0 (elements_of parts)
    (record { before = form.3; member = ap may_be_listed form.2 ∙ seen.0; after = form.4 })
    (each_listed parts seen.1)

-- what the two sides of the law say
abbrev pub IsTold : List ℕ → List ℕ → Bool → Type 0
IsTold value tag strong =
    (trim_ows value ≡ codes "*") ⊎ ((elements : List Element) × IsTagList value elements × HasMatch strong tag elements)

-- the elements of a value whose members are all entity tags or empty, one of which matches
by_list : (value tag : List ℕ) (strong : Bool) → list_all may_be_listed (members true value) ≡ true
    → list_any (is_match strong tag) (members true value) ≡ true
    → (elements : List Element) × IsTagList value elements × HasMatch strong tag elements
unfolding members
by_list value tag strong listed found =
    let parts = parts_from true false value in (
      elements_of parts,
      record { each = each_listed parts listed; joined = sym (joined_parts true false value) ∙ ap (join_with_byte 44) (sym (texts_of parts)) },
      Any-from_list_any (λ (e : Element). is_match strong tag e.member) (elements_of parts)
          (sym (any_members (is_match strong tag) (elements_of parts)) ∙ ap (list_any (is_match strong tag)) (kept_members parts) ∙ found),
    )

read : (value tag : List ℕ) (strong : Bool) → any_match value tag strong ≡ true → IsTold value tag strong
read value tag strong h = by_star (bytes_eq (trim_ows value) (codes "*")) refl h
  where
    by_star : (star : Bool) → bytes_eq (trim_ows value) (codes "*") ≡ star
        → (star || (list_all may_be_listed (members true value) && list_any (is_match strong tag) (members true value))) ≡ true
        → IsTold value tag strong
    by_star true is h = inl ((bytes_eq-Decides (trim_ows value) (codes "*")).0 is)
    by_star false is h =
        let seen = and_parts (list_all may_be_listed (members true value)) (list_any (is_match strong tag) (members true value)) h in
        inr (by_list value tag strong seen.0 seen.1)

written : (value tag : List ℕ) (strong : Bool) → IsTold value tag strong → any_match value tag strong ≡ true
written value tag strong (inl star) = rw ((bytes_eq-Decides (trim_ows value) (codes "*")).1 star)
written value tag strong (inr ([], list, found)) = absurd (let inside = found.2 in omega arith)
written value tag strong (inr (e ∷ elements, list, found)) =
    let cut = members_of value e elements list in
    let listed : list_all may_be_listed (members true value) ≡ true = ap (list_all may_be_listed) cut ∙ all_listed (e ∷ elements) list.each in
    let any : list_any (is_match strong tag) (members true value) ≡ true =
    ap (list_any (is_match strong tag)) cut ∙ any_members (is_match strong tag) (e ∷ elements)
    ∙ list_any-from_Any (λ (e : Element). is_match strong tag e.member) (e ∷ elements) found in
    rw (listed, any) (or_true (bytes_eq (trim_ows value) (codes "*")))
  where
    or_true : (b : Bool) → (b || true) ≡ true
    or_true true = refl
    or_true false = refl

pub lists_are_matched : ListsAreMatched
lists_are_matched value tag strong = (read value tag strong, written value tag strong)
