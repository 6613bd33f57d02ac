-- A front of a server's answer brings a client on as the whole does, where it has room for the head and for all blocks that are asked for at once.
use Rattle.std.proofs.Common.{◌≡◌, ℕ, ◌+◌, ◌-◌, ◌*◌, ◌<◌, ◌≤◌, true, false, cond, min, List, [], ◌∷◌, ◌++◌, length, take, drop, Option, Some, None, Result, Ok, Err, refl, sym, ap, ◌∙◌, subst, arith, inl, inr, append-nil, length-take, length-drop}
use Rattle.std.specs.Prelude.{IsOkAnd, nat_le}
use Rattle.std.proofs.lemmas.Bool.{cases_Bool, leb-true}
use Rattle.std.proofs.lemmas.Bool.Decides.{nat_tests}
use Rattle.std.proofs.lemmas.List.{length-append, take-append-drop, take_all}
use Rattle.extents.specs.declared.span.Span.{Span}
use Rattle.http_range.specs.Announced.{Announced, body_behind, piece_behind}
use Rattle.http_range.specs.declared.reading.Why.{Why}
use Rattle.http_range.specs.Book.{Publication}
use Rattle.http_range.specs.Laws.{FrontsAreRead, HeadsGrow, PublishedIsNamed, RequestsAreAnswered}
use Rattle.http_range.specs.Piece.{SeenPiece, ◌>>=◌}
use Rattle.http_range.specs.Reading.{ReadsAnswer, ReadsHead}
use Rattle.http_range.specs.Response.{is_current}
use Rattle.cog_client.specs.Case.{Revision}
use Rattle.cog_client.specs.Client.{ClientState, Knows, name_of, revision_of, tag_of}
use Rattle.cog_client.specs.Keeps.{AsksFor}
use Rattle.cog_client.specs.Progress.{IsGiven, IsOwnAnswer, IsServed, OwnFrontsAreServed}
use Rattle.cog_client.proofs.OwnLemmas.{all_of, own_are_served, own_begins, own_given, own_reading, part_length, part_of, piece_for}
use Rattle.cog_client.proofs.ProgressLemmas.{LengthsAreKnown}

empty_is : (xs : List ℕ) → length xs ≡ 0 → xs ≡ []
empty_is [] is = refl
empty_is (x ∷ xs) is = cc

same_Ok : (x y : SeenPiece) → (let a : Result SeenPiece Why = Ok x in a ≡ Ok y) → x ≡ y
same_Ok x y e = cc

-- the piece that is there of an answer, of which more follows, whose head is there
module _ (grow : HeadsGrow) (p : Publication) (s : Span) (known : Option (List ℕ)) (text more : List ℕ) (a : Announced) (reads : ReadsHead text (Ok a))
    (long : 4096 + 65 * 16384 ≤ length text) (few : s.last + 1 ≤ s.first + 65 * 16384) (begins : is_current known p.tag ≡ true → s.first < length p.file)
    (is : piece_behind (text ++ more) a ≡ piece_for p s known) where
  abbrev here : List ℕ
  here = body_behind a text

  abbrev extra : List ℕ
  extra = take (a.length - length here) more

  joined : body_behind a (text ++ more) ≡ here ++ extra
  joined = grow.body text more a reads

  -- it with another body
  abbrev with_body : List ℕ → SeenPiece
  with_body body = record { tag = a.tag; whole = a.whole; first = a.first; complete = a.complete; body = body }

  -- the part is all there
  part_given : is_current known p.tag ≡ true → IsGiven p s known (piece_behind text a)
  part_given current =
      let some = begins current in
      let up = s.ascending in
      let b = min s.last (length p.file - 1) in
      let asked = part_length p s.first b (omega (arith, some, up)) (omega (arith, some)) in
      let piece : piece_for p s known ≡ part_of p s.first b = ap (λ k. cond k (part_of p s.first b) (all_of p)) current in
      let all = ap (λ (q : SeenPiece). length q.body) (is ∙ piece) ∙ asked in
      let size = ap length joined ∙ length-append here extra in
      let fits = grow.fits text a reads in
      let there = fits.there in
      let short = fits.short in
      let of_here = length-take a.length (drop a.size text) in
      let of_text = length-drop a.size text in
      let of_extra = length-take (a.length - length here) more in
      let none : length extra ≡ 0 = omega (arith, all, size, there, short, of_here, of_text, of_extra, long, few) in
      let same : here ≡ body_behind a (text ++ more) = sym (joined ∙ ap (λ e. here ++ e) (empty_is extra none) ∙ append-nil here) in
      subst (IsGiven p s known) (sym (ap with_body same ∙ is)) (own_given p s known begins)

  -- of the whole file any front is enough
  whole_given : is_current known p.tag ≡ false → IsGiven p s known (piece_behind text a)
  whole_given other =
      let piece : piece_for p s known ≡ all_of p = ap (λ k. cond k (part_of p s.first (min s.last (length p.file - 1))) (all_of p)) other in
      let all = is ∙ piece in
      let file : here ++ extra ≡ p.file = sym joined ∙ ap (λ (q : SeenPiece). q.body) all in
      let front : piece_behind text a ≡ record (all_of p) { body = here } = ap (λ (q : SeenPiece). record q { body = here }) all in
      let size = length-append here extra in
      let size_is = ap length file in
      subst (IsGiven p s known) (sym front) (record {
        of = record { tag = refl; complete = refl; place = omega (arith, size, size_is); from_start = λ _. refl; body = (extra, file) };
        begins = λ current. (let wrong : false ≡ true = sym other ∙ current in cc);
        ends = λ current. (let wrong : false ≡ true = sym other ∙ current in cc);
        all = λ _. refl;
      })

  front_given : IsGiven p s known (piece_behind text a)
  front_given = elim (cases_Bool (is_current known p.tag)) [ inl current ↦ part_given current | inr other ↦ whole_given other ]

-- as many blocks as are asked for at once
few_asked : (c : ClientState) (v : Option Revision) (ahead : ℕ) (span : Span) → AsksFor c v ahead span → span.last + 1 ≤ span.first + 65 * 16384
few_asked c None ahead span is =
    let first = ap (λ (s : Span). s.first) is in
    let last = ap (λ (s : Span). s.last) is in
    omega (arith, first, last)
few_asked c (Some v) ahead span l =
    let m = l.missing in
    let first = m.first ∙ m.lacks.first_is in
    let last = m.last in
    let few = m.few in
    let some = m.lacks.gap.some in
    let on = m.on in
    omega (arith, first, last, few, some, on)

module _ (answered : RequestsAreAnswered) (fronts : FrontsAreRead) (grow : HeadsGrow) (named : PublishedIsNamed) (lengths : LengthsAreKnown) (c : ClientState) (p : Publication)
    (span : Span) (whole : List ℕ) (own : IsOwnAnswer c p span whole) (knows : tag_of c ≡ Some p.tag → Knows p.file c) where
  begins : is_current (tag_of c) p.tag ≡ true → span.first < length p.file
  begins = own_begins lengths named c p span whole own knows

  -- what is read of a front is what is read of the whole, but for the body
  read_front : (text more : List ℕ) → whole ≡ text ++ more → 4096 + 65 * 16384 ≤ length text → (head : Result Announced Why) → ReadsHead text head
      → IsOkAnd (head >>= (λ a. Ok (piece_behind text a))) (IsGiven p span (tag_of c))
  read_front text more is long (Err why) reads =
      let decided = grow.decided text (Err why) (omega (arith, long)) reads in
      let stays : ReadsHead whole (Err why) = subst (λ t. ReadsHead t (Err why)) (sym is) (grow.stays text more (Err why) decided reads) in
      let e : Err why ≡ Ok (piece_for p span (tag_of c)) = own_reading answered fronts c p span whole own (Err why) (Err why, stays, refl) begins in
      cc
  read_front text more is long (Ok a) reads =
      let stays : ReadsHead whole (Ok a) = subst (λ t. ReadsHead t (Ok a)) (sym is) (grow.stays text more (Ok a) (λ e. cc) reads) in
      let e = own_reading answered fronts c p span whole own (Ok (piece_behind whole a)) (Ok a, stays, refl) begins in
      let piece : piece_behind whole a ≡ piece_for p span (tag_of c) = same_Ok _ _ e in
      front_given grow p span (tag_of c) text more a reads long (few_asked c (revision_of c) own.ahead span own.asks) begins
      (subst (λ t. piece_behind t a ≡ piece_for p span (tag_of c)) is piece)

  pub front_served : (n : ℕ) → 4096 + 65 * 16384 ≤ n → IsServed c p span (take n whole)
  front_served n enough = elim (cases_Bool (nat_le n (length whole))) [
    | inl is ↦
        let within : n ≤ length whole = leb-true n (length whole) is in
        let long = length-take n whole in
        served (λ r reads.
        subst (λ r. IsOkAnd r (IsGiven p span (tag_of c))) (sym reads.2)
        (read_front (take n whole) (drop n whole) (sym (take-append-drop n whole)) (omega (arith, long, within, enough)) reads.0 reads.1))
    | inr is ↦
        let over : length whole ≤ n = grind (arith, nat_tests, is) in
        subst (IsServed c p span) (sym (take_all n whole over)) (own_are_served lengths answered fronts named c p span whole own knows)
  ]
    where
      served : ((r : Result SeenPiece Why) → ReadsAnswer (take n whole) r → IsOkAnd r (IsGiven p span (tag_of c))) → IsServed c p span (take n whole)
      served read = record { named = named.named (name_of c) own.catalogue p own.has; asked = own.asked; ahead = own.ahead; asks = own.asks; read = read }

pub own_fronts_are_served : RequestsAreAnswered → FrontsAreRead → HeadsGrow → PublishedIsNamed → LengthsAreKnown → OwnFrontsAreServed
own_fronts_are_served answered fronts grow named lengths c p span whole n enough own knows = front_served answered fronts grow named lengths c p span whole own knows n enough
