-- What is left for a client to get, and that it grows with no call.
use Rattle.std.proofs.Common.{◌≡◌, ℕ, suc, Bool, ◌+◌, ◌-◌, ◌≤◌, true, false, cond, List, [], ◌∷◌, ◌++◌, length, Option, Some, None, refl, sym, ap, ◌∙◌, subst, arith, inl, inr}
use Rattle.std.specs.Option.{option_map}
use Rattle.std.specs.Prelude.{IfSome, IsSome, is_some, not, sum_by}
use Rattle.std.specs.List.{filter, IsAmong}
use Rattle.std.proofs.lemmas.Bool.{false≢true}
use Rattle.std.proofs.lemmas.Bool.Decides.{nat_tests}
use Rattle.std.proofs.lemmas.List.Sums.{sum_by-append, sum_by-cons}
use Rattle.std.proofs.lemmas.List.Elements.{filter-append}
use Rattle.std.proofs.lemmas.Option.{none-some, same_Some}
use Rattle.tiff_dir.specs.declared.query.Query.{Query}
use Rattle.extents.specs.declared.span.Span.{Span}
use Rattle.extents.specs.Extent.{Extent, ends_past}
use Rattle.tiff_dir.specs.Needs.{IsEndOf}
use Rattle.tiff_dir.specs.Query.{blocks_of_extent as touched, cost, needs}
use Rattle.extents.specs.Block.{blocks, end_of, first_block}
use Rattle.range_cache.specs.Cache.{Blocks, Holds, numbers}
use Rattle.range_cache.specs.Laws.{FoundAreThere, HaveSame, MissingIsFew, MissingIsSame, MissingIsSome}
use Rattle.range_cache.specs.Numbers.{missing}
use Rattle.cog_reader.specs.Reader as reader
use Rattle.cog_client.specs.declared.revision_reader.RevisionReader.{RevisionReader}
use Rattle.cog_client.specs.Case.{Revision}
use Rattle.http_range.specs.Book.{Publication, In}
use Rattle.cog_client.specs.Client.{AgreementIsSeen, ClientAgrees, ClientState, Knows, KnowsBy, KnowsOne, IsReadingOf, ahead_of, asked_of, blocks_of, name_of, query_of, report_of, revision_in, revision_of, to_come}
use Rattle.cog_client.specs.Keeps.{AsksFor, ComesFirst, Lacks, Misses}
use Rattle.cog_reader.specs.Going.{AreSame, AreTouched, LooksAtOneRange, OneTouches}
use Rattle.cog_client.specs.Progress.{AskingLeavesAsMuch, CostIsMost, DeliveryReports, GoingOnLeavesNoMore, IsAtWork, IsGone, IsOfNeeded, NeededAreAsked, OneRangeIsAsked, OpeningLeavesCost, RequestReports, blocks_of_ranges, left, left_of, missing_of_range}

-- ---- sums over ranges

ranges_cons : (f : List ℕ) (r : Extent) (rs : List Extent) → blocks_of_ranges f (r ∷ rs) ≡ cond (ends_past f r) 0 (blocks r.first r.len) + blocks_of_ranges f rs
ranges_cons f r rs = by (ends_past f r)
  where
    by : (t : Bool) → sum_by touched (cond (not t) (r ∷ filter (λ r. not (ends_past f r)) rs) (filter (λ r. not (ends_past f r)) rs)) ≡ cond t 0 (blocks r.first r.len) + blocks_of_ranges f rs
    by true = omega arith
    by false = sum_by-cons touched r (filter (λ r. not (ends_past f r)) rs)

ranges_append : (f : List ℕ) (front few : List Extent) → blocks_of_ranges f (front ++ few) ≡ blocks_of_ranges f front + blocks_of_ranges f few
ranges_append f front few =
    ap (sum_by touched) (filter-append (λ r. not (ends_past f r)) front few)
    ∙ sum_by-append touched (filter (λ r. not (ends_past f r)) front) (filter (λ r. not (ends_past f r)) few)

ranges_end : (f : List ℕ) (few many : List Extent) → IsEndOf few many → blocks_of_ranges f few ≤ blocks_of_ranges f many
ranges_end f few many h = omega (arith, ap (blocks_of_ranges f) h.joined, ranges_append f h.front few)

missing_few : MissingIsFew → (f there : List ℕ) (r : Extent) → missing_of_range f there r ≤ cond (ends_past f r) 0 (blocks r.first r.len)
missing_few few f there r = elim (ends_past f r) as (λ t. cond t 0 (missing there (first_block r.first) (blocks r.first r.len)) ≤ cond t 0 (blocks r.first r.len)) [
  | true ↦ omega arith
  | false ↦ few there (first_block r.first) (blocks r.first r.len)
]

left_few : MissingIsFew → (f there : List ℕ) (rs : List Extent) → left_of f there rs ≤ blocks_of_ranges f rs
left_few few f there [] = omega arith
left_few few f there (r ∷ rs) = omega (arith, missing_few few f there r, ranges_cons f r rs)

left_end : MissingIsFew → (f there : List ℕ) (few many : List Extent) → IsEndOf few many → left_of f there few ≤ left_of f there many
left_end law f there few many h = by h.front h.joined
  where
    by : (front : List Extent) → many ≡ front ++ few → left_of f there few ≤ left_of f there many
    by [] e = omega (arith, ap (left_of f there) e)
    by (r ∷ front) e = omega (arith, ap (left_of f there) e, left_few law f there few, ranges_append f front few)

left_same : MissingIsSame → (f ns ms : List ℕ) (rs : List Extent) → HaveSame ns ms → left_of f ns rs ≡ left_of f ms rs
left_same law f ns ms [] same = refl
left_same law f ns ms (r ∷ rs) same =
    ap (λ k. cond (ends_past f r) 0 k + blocks_of_ranges f rs) (law ns ms (first_block r.first) (blocks r.first r.len) same)

have_same : FoundAreThere → (old new : Blocks) → AreSame old new → HaveSame (numbers new.entries) (numbers old.entries)
have_same there old new same = λ k. there k new.entries ∙ ap is_some (same.blocks k) ∙ sym (there k old.entries)

-- what is left of a client, by the blocks and the ranges before its order of blocks and the ranges went on
pub left_on : FoundAreThere → MissingIsFew → MissingIsSame → (f : List ℕ) (old new : ClientState) (b : Blocks) → AreSame b (blocks_of new) → IsEndOf (to_come new f) (to_come old f)
    → left f new ≤ left_of f (numbers b.entries) (to_come old f)
unfolding left
left_on there few same f old new b are come =
    omega (
      arith,
      left_end few f (numbers (blocks_of new).entries) (to_come new f) (to_come old f) come,
      left_same same f (numbers (blocks_of new).entries) (numbers b.entries) (to_come old f) (have_same there b (blocks_of new) are),
    )

pub goes_left : FoundAreThere → MissingIsFew → MissingIsSame → GoingOnLeavesNoMore
unfolding left
goes_left there few same old new f goes knows = left_on there few same f old new (blocks_of old) goes.seen.blocks (goes.file f knows).come

-- however it asks
pub asking_left : AskingLeavesAsMuch
unfolding left blocks_of
asking_left how old new f h =
    ap (λ (b : Blocks). left_of f (numbers b.entries) (to_come new f)) (ap blocks_of h.seen) ∙ ap (left_of f (numbers (blocks_of old).entries)) (h.come f)

-- ---- the cost

some_map : {A : Type 0} (o : Option A) (P Q : A → Type 0) → ((a : A) → P a → Q a) → IfSome o P → IfSome o Q
some_map None P Q step h = tt
some_map (Some a) P Q step h = step a h

end_cost : MissingIsFew → (f : List ℕ) (c : ClientState) (q : Query) → IsEndOf (to_come c f) (needs f q) → left f c ≤ cost f q
unfolding left cost
end_cost few f c q ends =
    omega (arith, left_few few f (numbers (blocks_of c).entries) (to_come c f), ranges_end f (to_come c f) (needs f q) ends)

pub cost_left : MissingIsFew → ((c : ClientState) (f : List ℕ) → Knows f c → IfSome (query_of c) (λ q. IsEndOf (to_come c f) (needs f q))) → CostIsMost
cost_left few ends c f knows = some_map (query_of c) (λ q. IsEndOf (to_come c f) (needs f q)) (λ q. left f c ≤ cost f q) (end_cost few f c) (ends c f knows)

pub opening_left : MissingIsFew → OpeningLeavesCost
opening_left few old new q f opens knows = end_cost few f new q (opens.come f knows)

-- ---- what is missing of a range that ends in the file

-- what a reader agrees with has the reader's length
abbrev pub LengthsAreKnown : Type 0
LengthsAreKnown = (r : reader.ReaderState) (f : List ℕ) → reader.ReaderAgrees r f → length f ≡ reader.file_length_of r

pub known_length : LengthsAreKnown → (f : List ℕ) (c : ClientState) (v : Revision) → revision_of c ≡ Some v → Knows f c → length f ≡ v.complete
unfolding Knows revision_of
known_length lengths f c v is knows = at c.source refl is knows
  where
    at : (o : Option RevisionReader) → c.source ≡ o → option_map revision_in o ≡ Some v → IfSome o (KnowsBy f c) → length f ≡ v.complete
    at None e is k = absurd (none-some v is)
    at (Some s) e is k =
        let reading = subst (λ o. IfSome o (IsReadingOf c.query c.report)) e k.sound.reading in
        lengths s.reader f k.reader ∙ sym reading.0 ∙ ap (λ (w : Revision). w.complete) (same_Some _ _ is)

-- the blocks of a client that knows the file are the file's
blocks_known : (f : List ℕ) (c : ClientState) (v : Revision) → revision_of c ≡ Some v → Knows f c → Holds f (blocks_of c)
unfolding Knows revision_of blocks_of
blocks_known f c v is knows = at c.source refl is knows
  where
    at : (o : Option RevisionReader) → c.source ≡ o → option_map revision_in o ≡ Some v → IfSome o (KnowsBy f c) → Holds f c.cache
    at None e is k = absurd (none-some v is)
    at (Some s) e is k = k.blocks

pub agreement_seen : LengthsAreKnown → AgreementIsSeen
unfolding ClientAgrees
agreement_seen lengths c book agrees = at (revision_of c) refl agrees
  where
    at : (o : Option Revision) → revision_of c ≡ o → IfSome o (KnowsOne c book) → IfSome o (λ v. (p : Publication) × In p book × (p.name ≡ name_of c) × (p.tag ≡ v.tag) × (length p.file ≡ v.complete) × Holds p.file (blocks_of c))
    at None is k = tt
    at (Some v) is k = (
      k.source,
      k.published,
      k.of_name,
      k.of_tag,
      known_length lengths k.source.file c v is k.knows,
      blocks_known k.source.file c v is k.knows,
    )

pub first_split : (r : Extent) (rs : List Extent) → ComesFirst r rs → (rest : List Extent) × (rs ≡ r ∷ rest)
first_split r [] is = absurd (none-some r is)
first_split r (x ∷ rest) is = (rest, ap (λ y. y ∷ rest) (same_Some _ _ is))

pub inside : (f : List ℕ) (r : Extent) (complete : ℕ) → length f ≡ complete → r.first + r.len ≤ complete → ends_past f r ≡ false
inside f r complete size within = grind (arith, nat_tests)

pub missing_inside : (f there : List ℕ) (r : Extent) → ends_past f r ≡ false → missing_of_range f there r ≡ missing there (first_block r.first) (blocks r.first r.len)
missing_inside f there r e = ap (λ t. cond t 0 (missing there (first_block r.first) (blocks r.first r.len))) e

lacks_left : LengthsAreKnown → MissingIsSome → (f : List ℕ) (c : ClientState) (v : Revision) (ahead : ℕ) (s : Span) → revision_of c ≡ Some v → Knows f c → Lacks c v ahead s → 1 ≤ left f c
unfolding left
lacks_left lengths some f c v ahead s is knows l =
    let r = l.range in
    let there = numbers (blocks_of c).entries in
    let next = first_split r (to_come c f) (l.next f knows) in
    let gap = l.missing.lacks.gap in
    let within = gap.within in
    let run = gap.some in
    let here = missing_inside f there r (inside f r v.complete (known_length lengths f c v is knows) l.missing.within) in
    let one = some there (first_block r.first) (blocks r.first r.len) l.missing.lacks.from gap.begins (omega arith) (gap.gone l.missing.lacks.from (omega arith) run) in
    omega (arith, ap (left_of f there) next.1, here, one)

-- ---- where nothing is left

reports : LengthsAreKnown → MissingIsSome → (f : List ℕ) (c : ClientState) → IsAtWork f c → left f c ≡ 0 → (o : Option Span) → Misses c o → IsSome (report_of c)
reports lengths some f c work zero None idle = elim idle [
  | inl none ↦ absurd (false≢true (sym (ap is_some none) ∙ work.query))
  | inr report ↦ report
]
reports lengths some f c work zero (Some s) asks = at (revision_of c) refl asks
  where
    at : (v : Option Revision) → revision_of c ≡ v → AsksFor c v (ahead_of c) s → IsSome (report_of c)
    at None is asks = absurd (false≢true (sym (ap is_some is) ∙ work.revision))
    at (Some v) is l = absurd (omega (arith, lacks_left lengths some f c v (ahead_of c) s is work.knows l, zero))

pub request_reports : LengthsAreKnown → MissingIsSome → RequestReports
request_reports lengths some old new request f h work zero = reports lengths some f new work zero (asked_of new) (misses (asked_of new) refl h.asks)
  where
    misses : (o : Option Span) → asked_of new ≡ o → IfSome o (AsksFor new (revision_of new) (ahead_of new)) → Misses new o
    misses None is asks = h.seen.silent is
    misses (Some s) is asks = asks

pub delivery_reports : LengthsAreKnown → MissingIsSome → DeliveryReports
delivery_reports lengths some old new text what f h used work zero = elim h.rests [
  | inl ignored ↦ absurd (used ignored)
  | inr rests ↦ reports lengths some f new work zero rests.0 rests.1
]

-- ---- what is asked

among_joined : (front : List Extent) (r : Extent) (after : List Extent) → IsAmong (front ++ r ∷ after) r
among_joined [] r after = (0, (omega arith, refl))
among_joined (x ∷ front) r after = let there = among_joined front r after in (suc there.0, (omega (arith, there.1.0), there.1.1))

-- of one range, where it looks no block ahead
needed_by : LengthsAreKnown → LooksAtOneRange → (c : ClientState) (v : Revision) (f : List ℕ) (s : Span) (q : Query) → revision_of c ≡ Some v → Knows f c → Lacks c v 0 s → IsEndOf (to_come c f) (needs f q) → IsOfNeeded f q s
needed_by lengths one c v f s q is knows l ends =
    let next = first_split l.range (to_come c f) (l.next f knows) in
    let gap = l.missing.lacks.gap in
    let to = l.missing.lacks.to in
    let last = (one (blocks_of c) v.complete l.range s l.missing).1 in
    record {
      range = l.range;
      needed = subst (λ rs. IsAmong rs l.range) (sym (ends.joined ∙ ap (λ rs. ends.front ++ rs) next.1)) (among_joined ends.front l.range next.0);
      from = l.missing.lacks.from;
      to = to;
      first = l.missing.first ∙ l.missing.lacks.first_is;
      last = ap (λ k. k + 1) last ∙ l.missing.lacks.last_is ∙ ap (λ n. end_of n (to - 1)) (sym (known_length lengths f c v is knows));
      begins = gap.begins;
      some = gap.some;
      ends = gap.within;
    }

gone_of : (c : ClientState) (v : Revision) (ahead : ℕ) (s : Span) → Lacks c v ahead s → IsGone (numbers (blocks_of c).entries) s
gone_of c v ahead s l k low high =
    let m = l.missing in
    let some = m.lacks.gap.some in
    let on = m.on in
    let first = m.first ∙ m.lacks.first_is in
    let last = m.last in
    m.gone k (omega arith) (omega arith)

-- what touches one of the ranges that are still to come touches one that the query needs
touched_behind : (front few : List Extent) (k : ℕ) → OneTouches few k → OneTouches (front ++ few) k
touched_behind [] few k one = one
touched_behind (r ∷ front) few k one = let there = touched_behind front few k one in (suc there.0, there.1)

touched_among : (front few many : List Extent) (s : Span) → many ≡ front ++ few → AreTouched few s → AreTouched many s
touched_among front few many s joined touched k low high =
    subst (λ rs. OneTouches rs k) (sym joined) (touched_behind front few k (touched k low high))

abbrev pub EndsAreNeeded : Type 0
EndsAreNeeded = (c : ClientState) (f : List ℕ) → Knows f c → IfSome (query_of c) (λ q. IsEndOf (to_come c f) (needs f q))

pub needed_asked : EndsAreNeeded → NeededAreAsked
needed_asked ends c v ahead f s is knows l = (
  some_map (query_of c) (λ q. IsEndOf (to_come c f) (needs f q)) (λ q. AreTouched (needs f q) s) (λ q h. touched_among h.front (to_come c f) (needs f q) s h.joined (l.needed f knows)) (ends c f knows),
  gone_of c v ahead s l,
)

pub one_asked : LengthsAreKnown → LooksAtOneRange → EndsAreNeeded → OneRangeIsAsked
one_asked lengths one ends c v f s is knows l =
    some_map (query_of c) (λ q. IsEndOf (to_come c f) (needs f q)) (λ q. IsOfNeeded f q s) (λ q. needed_by lengths one c v f s q is knows l) (ends c f knows)
