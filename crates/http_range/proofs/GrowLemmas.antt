-- What is read of the head at the front of an answer stays when bytes follow.
use Rattle.std.proofs.Common.{◌≡◌, ◌≢◌, ℕ, ◌+◌, ◌-◌, ◌<◌, ◌≤◌, inl, inr, Bool, true, false, cond, List, [], ◌∷◌, ◌++◌, length, take, drop, refl, sym, ap, ◌∙◌, subst, arith, append_assoc, append-nil, length-append, length-take, Option, Some, None, Result, Ok, Err}
use Rattle.std.specs.Prelude.{IfOk, codes, is_none, nat_le, not, unwrap_or, ◌&&◌, ◌||◌, ◌==◌}
use Rattle.std.proofs.Math.Seq.{take-append-add, take-append_seam}
use Rattle.std.proofs.lemmas.Bool.{cases_lt}
use Rattle.std.proofs.lemmas.List.{take_all, take-append-drop, take-append-le, drop-append-le}
use Rattle.httparse.specs.Grammar.{ResponseHead, ReadsResponse, print_blank, print_end, print_reason, print_section, print_version, print_response, HasNoResponse}
use Rattle.httparse.proofs.GrammarLemmas.{print_response-append, ReadsResponse-append}
use Rattle.http_range.specs.declared.reading.Why.{Why}
use Rattle.http_range.specs.declared.reading.Why.TheVariants.{Cut, Head, Status, NoTag, WeakTag, TagTooLong, NoRange, NoLength, Coding}
use Rattle.http_range.specs.declared.reading.ContentRange.{ContentRange}
use Rattle.http_fields.specs.declared.limits.TheConstants.{TAG_LIMIT}
use Rattle.http_fields.specs.Tag.{is_entity_tag, is_weak_tag}
use Rattle.http_range.specs.Head.{SeenHead, IsHeadOf, seen_head, FindsHead}
use Rattle.http_range.specs.Piece.{◌>>=◌}
use Rattle.http_range.specs.Announced.{Announced, announced_by, body_behind, FitsFront}
use Rattle.http_range.specs.Reading.{range_named, length_named, has_other_status, holds, is_coded, value_of, tag_in, announced_in, announced_of, ReadsHead}
use Rattle.http_range.specs.Laws.{HasNone, HeadsGrow}
use Rattle.http_range.proofs.FrontLemmas.{found_whole}

-- ---- lists

-- a front of joined lists is that of the first, and of the second as far as the first doesn't reach
pub take_joined : (n : ℕ) (xs ys : List ℕ) → take n (xs ++ ys) ≡ take n xs ++ take (n - length xs) ys
take_joined n xs ys = elim (cases_lt n (length xs)) [
  | inl below ↦
      let none : n - length xs ≡ 0 = omega arith in
      take-append-le n xs ys (omega arith) ∙ sym (append-nil (take n xs)) ∙ ap (λ (m : ℕ). take n xs ++ take m ys) (sym none)
  | inr above ↦
      let e : n ≡ length xs + (n - length xs) = omega arith in
      ap (λ (m : ℕ). take m (xs ++ ys)) e ∙ take-append-add xs ys (n - length xs)
      ∙ ap (λ (t : List ℕ). t ++ take (n - length xs) ys) (sym (take_all n xs above))
]

-- ---- what is found

pub found_grows : (bytes more : List ℕ) (found : Result SeenHead Why) → found ≢ Err Cut → FindsHead bytes found
    → FindsHead (bytes ++ more) found
found_grows bytes more (Ok seen) other finds =
    let next = take (4096 - length bytes) more in
    let is = finds.1 in (
      finds.0,
      record {
        rest = is.rest ++ next;
        reads =
            subst (λ (t : List ℕ). ReadsResponse t finds.0 (is.rest ++ next)) (sym (take_joined 4096 bytes more))
            (ReadsResponse-append (take 4096 bytes) finds.0 is.rest next is.reads);
        room = is.room;
      },
      finds.2,
    )
found_grows bytes more (Err Cut) other finds = absurd (other refl)
found_grows bytes more (Err Head) other (inl long) =
    let enough = long.0 in
    inl (
      omega (arith, length-append bytes more),
      subst HasNoResponse (sym (take-append-le 4096 bytes more enough)) long.1,
    )
found_grows bytes more (Err Head) other (inr over) =
    let next = take (4096 - length bytes) more in
    inr (λ later h rest reads.
    over (next ++ later) h rest
    (subst (λ (t : List ℕ). ReadsResponse t h rest)
    (ap (λ (t : List ℕ). t ++ later) (take_joined 4096 bytes more) ∙ append_assoc (take 4096 bytes) next later) reads))
found_grows bytes more (Err (Status code)) other finds = absurd finds
found_grows bytes more (Err NoTag) other finds = absurd finds
found_grows bytes more (Err WeakTag) other finds = absurd finds
found_grows bytes more (Err TagTooLong) other finds = absurd finds
found_grows bytes more (Err NoRange) other finds = absurd finds
found_grows bytes more (Err NoLength) other finds = absurd finds
found_grows bytes more (Err Coding) other finds = absurd finds

pub found_decided : (bytes : List ℕ) (found : Result SeenHead Why) → 4096 ≤ length bytes → FindsHead bytes found → found ≢ Err Cut
found_decided bytes found long finds =
    λ e. let cut : FindsHead bytes (Err Cut) = subst (FindsHead bytes) e finds in let short = cut.0 in absurd (omega arith)

-- ---- a whole head is neither cut nor refused

abbrev is_headless : {A : Type 0} → Result A Why → Bool
is_headless (Ok x) = false
is_headless (Err Cut) = true
is_headless (Err Head) = true
is_headless (Err (Status code)) = false
is_headless (Err NoTag) = false
is_headless (Err WeakTag) = false
is_headless (Err TagTooLong) = false
is_headless (Err NoRange) = false
is_headless (Err NoLength) = false
is_headless (Err Coding) = false

tag_rows : (coded lacks weak long : Bool) (tag : List ℕ)
    → is_headless (cond coded (Err Coding) (cond lacks (Err NoTag) (cond weak (Err WeakTag) (cond long (Err TagTooLong) (Ok tag))))) ≡ false
tag_rows true lacks weak long tag = refl
tag_rows false true weak long tag = refl
tag_rows false false true long tag = refl
tag_rows false false false true tag = refl
tag_rows false false false false tag = refl

tag_decided : (head : SeenHead) → is_headless (tag_in head) ≡ false
tag_decided head =
    let value : Option (List ℕ) = value_of (codes "ETag") head in
    tag_rows (is_coded head) (not (holds value is_entity_tag)) (holds value is_weak_tag) (holds value (λ text. not (nat_le (length text) TAG_LIMIT))) (unwrap_or value [])

place_rows : (range length : Bool) (head : Announced) → is_headless (cond range (Err NoRange) (cond length (Err NoLength) (Ok head))) ≡ false
place_rows true length head = refl
place_rows false true head = refl
place_rows false false head = refl

place_decided : (head : SeenHead) (tag : List ℕ) → is_headless (announced_in head tag) ≡ false
place_decided head tag =
    let part = head.status == 206 in
    let range : Option ContentRange = range_named head in
    let length : Option ℕ = length_named head in
    place_rows (part && is_none range) (not (holds length (λ n. not part || holds range (λ r. r.last - r.first + 1 == n))))
    (announced_by tag (cond part range None) (unwrap_or length 0) head.size)

bind_decided : (head : SeenHead) (tag : Result (List ℕ) Why) → is_headless tag ≡ false → is_headless (tag >>= announced_in head) ≡ false
bind_decided head (Ok tag) d = place_decided head tag
bind_decided head (Err Cut) d = d
bind_decided head (Err Head) d = d
bind_decided head (Err (Status code)) d = refl
bind_decided head (Err NoTag) d = refl
bind_decided head (Err WeakTag) d = refl
bind_decided head (Err TagTooLong) d = refl
bind_decided head (Err NoRange) d = refl
bind_decided head (Err NoLength) d = refl
bind_decided head (Err Coding) d = refl

status_rows : (other : Bool) (code : ℕ) (r : Result Announced Why) → is_headless r ≡ false → is_headless (cond other (Err (Status code)) r) ≡ false
status_rows true code r d = refl
status_rows false code r d = d

announced_decided : (head : SeenHead) → is_headless (announced_of head) ≡ false
announced_decided head =
    status_rows (has_other_status head) head.status (tag_in head >>= announced_in head) (bind_decided head (tag_in head) (tag_decided head))

-- ---- what is read

-- a head that was found is not cut
head_decided : (found : Result SeenHead Why) → found ≢ Err Cut → (found >>= announced_of) ≢ Err Cut
head_decided (Ok seen) other =
    λ e. absurd (let wrong : true ≡ false = sym (ap is_headless e) ∙ announced_decided seen in cc)
head_decided (Err why) other = λ e. let same : why ≡ Cut = cc in other (ap Err same)

stays : (front more : List ℕ) (r : Result Announced Why) → r ≢ Err Cut → ReadsHead front r → ReadsHead (front ++ more) r
stays front more r other reads =
    let found = reads.0 in
    let whole : found ≢ Err Cut = λ e. other (reads.2 ∙ ap (λ (f : Result SeenHead Why). f >>= announced_of) e) in
    (found, found_grows front more found whole reads.1, reads.2)

decided : (bytes : List ℕ) (r : Result Announced Why) → 4096 ≤ length bytes → ReadsHead bytes r → r ≢ Err Cut
decided bytes r long reads =
    λ e. head_decided reads.0 (found_decided bytes reads.0 long reads.1) (sym reads.2 ∙ e)

-- a head that announces something was found whole
pub record IsWhole (bytes : List ℕ) (head : Announced) : Type 0 where
  pub response : ResponseHead
  pub is : IsHeadOf bytes response
  pub told : announced_of (seen_head response) ≡ Ok head

whole_by : (bytes : List ℕ) (head : Announced) (found : Result SeenHead Why) → FindsHead bytes found
    → Ok head ≡ (found >>= announced_of) → IsWhole bytes head
whole_by bytes head (Ok seen) finds told =
    record { response = finds.0; is = finds.1; told = ap announced_of (sym finds.2) ∙ sym told }
whole_by bytes head (Err why) finds told = absurd (cc)

pub whole_of : (bytes : List ℕ) (head : Announced) → ReadsHead bytes (Ok head) → IsWhole bytes head
whole_of bytes head reads = whole_by bytes head reads.0 reads.1 reads.2

one : (bytes : List ℕ) (head : Announced) (r : Result Announced Why) → ReadsHead bytes (Ok head) → ReadsHead bytes r → r ≡ Ok head
one bytes head r first reads =
    let whole = whole_of bytes head first in
    reads.2
    ∙ ap (λ (f : Result SeenHead Why). f >>= announced_of) (found_whole bytes whole.response reads.0 whole.is reads.1)
    ∙ whole.told

-- ---- the size that is told is the head's

-- what is told has this size
abbrev HasSize : ℕ → Result Announced Why → Type 0
HasSize n r = IfOk r (λ head. head.size ≡ n)

if_sized : (n : ℕ) (t : Bool) (a b : Result Announced Why) → HasSize n a → HasSize n b → HasSize n (cond t a b)
if_sized n true a b sa sb = sa
if_sized n false a b sa sb = sb

bind_sized : {A : Type 0} (n : ℕ) (r : Result A Why) (f : A → Result Announced Why) → ((x : A) → HasSize n (f x)) → HasSize n (r >>= f)
bind_sized n (Ok x) f sized = sized x
bind_sized n (Err why) f sized = tt

by_sized : (tag : List ℕ) (range : Option ContentRange) (n size : ℕ) → (announced_by tag range n size).size ≡ size
by_sized tag None n size = refl
by_sized tag (Some range) n size = refl

sized : (seen : SeenHead) → HasSize seen.size (announced_of seen)
sized seen =
    let n = seen.size in
    let range : Option ContentRange = range_named seen in
    let part = seen.status == 206 in
    let length : Option ℕ = length_named seen in
    let rows : (tag : List ℕ) → HasSize n (announced_in seen tag) =
    λ tag. if_sized n (part && is_none range) (Err NoRange) _ tt
    (if_sized n (not (holds length (λ m. not part || holds range (λ r. r.last - r.first + 1 == m)))) (Err NoLength) _ tt
    (by_sized tag (cond part range None) (unwrap_or length 0) n))
    in
    if_sized n (has_other_status seen) (Err (Status seen.status)) _ tt
    (bind_sized n (tag_in seen) (announced_in seen) rows)

pub size_of : (bytes : List ℕ) (head : Announced) → (whole : IsWhole bytes head) → head.size ≡ length (print_response whole.response)
size_of bytes head whole =
    subst (HasSize (length (print_response whole.response))) whole.told (sized (seen_head whole.response))

fits : (bytes : List ℕ) (head : Announced) → ReadsHead bytes (Ok head) → FitsFront bytes head
fits bytes head reads =
    let whole = whole_of bytes head reads in
    let print = print_response whole.response in
    let long : length (take 4096 bytes) ≡ length print + length whole.is.rest =
    ap length whole.is.reads.1 ∙ length-append print whole.is.rest in
    let size = size_of bytes head whole in
    let cut = length-take 4096 bytes in
    record { there = omega (arith, long, size, cut); short = omega (arith, long, size, cut) }

-- what is missing of the first n of xs and more, after those of xs
lacking : (n : ℕ) (xs ys : List ℕ) → take (n - length xs) ys ≡ take (n - length (take n xs)) ys
lacking n xs ys =
    let long = length-take n xs in
    let same : n - length xs ≡ n - length (take n xs) = omega (arith, long) in
    ap (λ (m : ℕ). take m ys) same

body_grows : (front more : List ℕ) (head : Announced) → ReadsHead front (Ok head)
    → body_behind head (front ++ more)
    ≡ body_behind head front ++ take (head.length - length (body_behind head front)) more
body_grows front more head reads =
    let there = (fits front head reads).there in
    let behind = drop head.size front in
    ap (take head.length) (drop-append-le head.size front more there) ∙ take_joined head.length behind more
    ∙ ap (λ (t : List ℕ). take head.length behind ++ t) (lacking head.length behind more)

-- ---- where no head is

headless_is : (r : Result Announced Why) → HasNone r → is_headless r ≡ true
headless_is r (inl cut) = ap is_headless cut
headless_is r (inr refused) = ap is_headless refused

-- what is found where no head is
found_none : (bytes : List ℕ) (found : Result SeenHead Why) → FindsHead bytes found → is_headless (found >>= announced_of) ≡ true
    → (other : Result SeenHead Why) → FindsHead bytes other → HasNone (other >>= announced_of)
found_none bytes found finds none (Ok seen) other =
    absurd (let wrong : true ≡ false =
    sym none ∙ ap (λ (f : Result SeenHead Why). is_headless (f >>= announced_of)) (found_whole bytes other.0 found other.1 finds)
    ∙ announced_decided (seen_head other.0) in cc)
found_none bytes found finds none (Err Cut) other = inl refl
found_none bytes found finds none (Err Head) other = inr refl
found_none bytes found finds none (Err (Status code)) other = absurd other
found_none bytes found finds none (Err NoTag) other = absurd other
found_none bytes found finds none (Err WeakTag) other = absurd other
found_none bytes found finds none (Err TagTooLong) other = absurd other
found_none bytes found finds none (Err NoRange) other = absurd other
found_none bytes found finds none (Err NoLength) other = absurd other
found_none bytes found finds none (Err Coding) other = absurd other

none_told : (bytes : List ℕ) (r other : Result Announced Why) → HasNone r → ReadsHead bytes r → ReadsHead bytes other → HasNone other
none_told bytes r other none reads reading =
    subst HasNone (sym reading.2)
    (found_none bytes reads.0 reads.1 (ap is_headless (sym reads.2) ∙ headless_is r none) reading.0 reading.1)

-- a head prints as something
pub printed_some : (h : ResponseHead) → length (print_response h) ≢ 0
printed_some h =
    let later : List ℕ = 32 ∷ (h.digits ++ (print_reason h.reason ++ (print_end h.line_end ++ (print_section h.fields h.last ++ [])))) in
    let is = ap length (print_response-append h []) in
    let all = length-append (print_response h) [] in
    let long = length-append (print_blank h.blank) (print_version h.minor ++ later) in
    let next = length-append (print_version h.minor) later in
    λ none. absurd (omega (arith, none, is, all, long, next))

-- nothing is no head
nothing_found : (found : Result SeenHead Why) → FindsHead [] found → HasNone (found >>= announced_of)
nothing_found (Ok seen) finds =
    let is = finds.1 in
    let empty : [] ≡ print_response finds.0 ++ is.rest = is.reads.1 in
    absurd (printed_some finds.0 (omega (arith, ap length empty, length-append (print_response finds.0) is.rest)))
nothing_found (Err Cut) finds = inl refl
nothing_found (Err Head) finds = inr refl
nothing_found (Err (Status code)) finds = absurd finds
nothing_found (Err NoTag) finds = absurd finds
nothing_found (Err WeakTag) finds = absurd finds
nothing_found (Err TagTooLong) finds = absurd finds
nothing_found (Err NoRange) finds = absurd finds
nothing_found (Err NoLength) finds = absurd finds
nothing_found (Err Coding) finds = absurd finds

empty_none : (r : Result Announced Why) → ReadsHead [] r → HasNone r
empty_none r reads = subst HasNone (sym reads.2) (nothing_found reads.0 reads.1)

-- a head that ends in the front stands there
shorter : (front more : List ℕ) (h : ResponseHead) → IsHeadOf (front ++ more) h → length (print_response h) ≤ length front → IsHeadOf front h
shorter front more h is inside =
    let print = print_response h in
    let n = length print in
    let xs = take 4096 front in
    let ys = take (4096 - length front) more in
    let parts : xs ++ ys ≡ print ++ is.rest = sym (take_joined 4096 front more) ∙ is.reads.1 in
    let long : length (take 4096 (front ++ more)) ≡ n + length is.rest = ap length is.reads.1 ∙ length-append print is.rest in
    let whole = length-take 4096 (front ++ more) in
    let short = length-take 4096 front in
    let printed : print ≡ take n xs =
    sym (take-append_seam print is.rest) ∙ ap (take n) (sym parts) ∙ take-append-le n xs ys (omega (arith, long, whole, short, inside)) in
    record {
      rest = drop n xs;
      reads = (is.reads.0, sym (take-append-drop n xs) ∙ ap (λ (t : List ℕ). t ++ drop n xs) (sym printed));
      room = is.room;
    }

-- a head that comes with more bytes ends in them
behind_none : (front more : List ℕ) (head : Announced) → ((r : Result Announced Why) → ReadsHead front r → HasNone r)
    → ReadsHead (front ++ more) (Ok head) → length front < head.size
behind_none front more head none reads =
    let whole = whole_of (front ++ more) head reads in
    let h = whole.response in
    let size = size_of (front ++ more) head whole in
    elim (cases_lt (length front) (length (print_response h))) [
      | inl beyond ↦ omega (arith, size, beyond)
      | inr inside ↦
          let there : ReadsHead front (Ok head) = (Ok (seen_head h), (h, shorter front more h whole.is inside, refl), sym whole.told) in
          absurd (let wrong : false ≡ true = headless_is (Ok head) (none (Ok head) there) in cc)
    ]

pub law_heads_grow : HeadsGrow
law_heads_grow = record {
  stays = stays;
  decided = decided;
  one = one;
  fits = fits;
  body = body_grows;
  none = none_told;
  empty = empty_none;
  behind = behind_none;
}
