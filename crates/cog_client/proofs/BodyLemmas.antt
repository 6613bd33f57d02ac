-- The blocks of a body that comes in pieces.
use Rattle.std.proofs.Common.{◌≡◌, ℕ, ◌+◌, ◌-◌, ◌*◌, ◌<◌, ◌≤◌, ◌⊎◌, Bool, true, false, List, [], ◌∷◌, ◌++◌, ◌%◌, max, min, subst, length, take, drop, refl, sym, ap, ◌∙◌, arith, inl, inr, append_assoc, append-nil, length-append, length-take, length-drop, take-append-drop}
use Rattle.std.proofs.lemmas.Bool.{cases_lt}
use Rattle.std.proofs.lemmas.List.{take_all, drop_all, drop-append-le, take-append-le}
use Rattle.std.proofs.Math.Seq.{drop-append-add, take-append-add}
use Rattle.extents.specs.declared.span.Span.{Span}
use Rattle.extents.specs.Block.{end_of}
use Rattle.http_range.specs.Announced.{Announced}
use Rattle.range_cache.specs.Cache.{Block, Blocks, stored, stores}
use Rattle.range_cache.specs.Laws.{BesideBringNone, CutsPart, EdgesPart, IsEdge, PartsBringNone, StoredJoin, StoresAreFew, StoresJoin, UnwantedStay, WholeAreFew, begun}
use Rattle.range_cache.specs.Piece.{is_wanted, whole_blocks}
use Rattle.cog_client.specs.Take.{brought_by, stored_count, stored_of}
use Rattle.cog_client.specs.Client.{IsFew}
use Rattle.cog_client.specs.declared.body.Body.{Body}
use Rattle.cog_client.specs.Body.{with_stored, IsBody, IsStopped, IsCutAt, KeepsNone, KeepsPart, KeepsTail}
use Rattle.cog_client.specs.Fed.{piece_with}

-- what a body brings of what is asked for
abbrev pub brought : Announced → Span → List ℕ → List Block
brought head span body = brought_by (piece_with head body) span

-- as much is stored of one body as of another
abbrev pub SameStored : Announced → Span → Blocks → List ℕ → List ℕ → Type 0
SameStored head span b new old =
    (stored_of (piece_with head new) span b ≡ stored_of (piece_with head old) span b)
    × (stored_count (piece_with head new) span b ≡ stored_count (piece_with head old) span b)

pub same_stored : (head : Announced) (span : Span) (b : Blocks) (new old : List ℕ) → brought head span new ≡ brought head span old
    → SameStored head span b new old
same_stored head span b new old same = (
  ap (λ (bs : List Block). record b { entries = stored b.capacity bs b.entries }) same,
  ap (λ (bs : List Block). stores b.capacity bs b.entries) same,
)

-- as many as are asked for at most
pub few_stored : StoresAreFew → WholeAreFew → (head : Announced) (span : Span) (b : Blocks) (body : List ℕ) → IsFew span
    → stored_count (piece_with head body) span b ≤ 65
few_stored stored whole head span b body few =
    let some = stored b.capacity (brought head span body) b.entries in
    let most = whole head.complete head.first body span 65 few in
    omega (arith, some, most)

-- ---- a body that goes on in block n

module _ (cuts : CutsPart) (edges : EdgesPart) (none : PartsBringNone) (beside : BesideBringNone) (head : Announced) (span : Span)
    (body more : List ℕ) (n : ℕ) (reached : n * 16384 ≤ head.first + length body) where
  abbrev pub at : ℕ
  at = head.first + length body

  nothing_brought : (first : ℕ) → whole_blocks head.complete first [] span ≡ []
  nothing_brought first = beside head.complete first [] span (omega arith)

  -- to its end
  pub grows_full : head.first ≤ n * 16384 → at < end_of head.complete n → at + length more ≡ end_of head.complete n
      → brought head span (body ++ more)
      ≡ brought head span body ++ whole_blocks head.complete (n * 16384) (begun head.first body n ++ more) span
  grows_full begins inside ends =
      let m = end_of head.complete n - at in
      let all : take m more ≡ more = take_all m more (omega (arith, ends)) in
      let rest : drop m more ≡ [] = drop_all m more (omega (arith, ends)) in
      let parts = cuts head.complete head.first body more span n
      (record { begins = begins; reached = reached; cut = inside; ends = omega (arith, ends) }) in
      let later : List ℕ → List Block = λ xs. whole_blocks head.complete (n * 16384) (begun head.first body n ++ xs) span in
      let last : List ℕ → List Block = λ xs. whole_blocks head.complete (end_of head.complete n) xs span in
      let ours : List Block = brought head span body in
      parts ∙ ap (λ (xs : List ℕ). ours ++ (later xs ++ last (drop m more))) all
      ∙ ap (λ (xs : List ℕ). ours ++ (later more ++ last xs)) rest
      ∙ ap (λ (bs : List Block). ours ++ (later more ++ bs)) (nothing_brought (end_of head.complete n))
      ∙ ap (λ (bs : List Block). ours ++ bs) (append-nil (later more))

  -- bytes that begin block n and don't end it
  alone : (k : ℕ) → head.first + k ≡ n * 16384 → k ≤ length body → (xs : List ℕ) → n * 16384 + length xs < end_of head.complete n
      → brought head span (take k body ++ xs) ≡ brought head span (take k body)
  alone k begins short xs inside =
      let long = length-take k body in
      let place = head.first + length (take k body) in
      let here : place ≡ n * 16384 = omega (arith, long, begins, short) in
      edges head.complete head.first (take k body) xs span (inr (n, here))
      ∙ ap (λ (bs : List Block). brought head span (take k body) ++ bs)
      (none head.complete place xs span n
      (record { begins = omega (arith, here); ends = omega (arith, here, inside); lacks = inr (omega (arith, here, inside)) }))
      ∙ append-nil (brought head span (take k body))

  -- not to its end
  pub grows_part : head.first ≤ n * 16384 → at + length more < end_of head.complete n
      → brought head span (body ++ more) ≡ brought head span body
  grows_part begins inside =
      let k = n * 16384 - head.first in
      let place : head.first + k ≡ n * 16384 = omega (arith, begins) in
      let short : k ≤ length body = omega (arith, begins, reached) in
      let parts : take k body ++ drop k body ≡ body = take-append-drop k body in
      let long = length-drop k body in
      let longer = length-append (drop k body) more in
      let new = alone k place short (drop k body ++ more) (omega (arith, long, longer, inside, place, short)) in
      let old = alone k place short (drop k body) (omega (arith, long, inside, place, short)) in
      ap (λ (xs : List ℕ). brought head span (xs ++ more)) (sym parts)
      ∙ ap (brought head span) (append_assoc (take k body) (drop k body) more)
      ∙ new ∙ sym old ∙ ap (brought head span) parts

  -- block n began before the body
  pub grows_before : n * 16384 < head.first → at + length more ≤ end_of head.complete n
      → brought head span (body ++ more) ≡ brought head span body
  grows_before before inside =
      let long = length-append body more in
      none head.complete head.first (body ++ more) span n
      (record { begins = omega (arith, before); ends = omega (arith, long, inside); lacks = inl before })
      ∙ sym (none head.complete head.first body span n
      (record { begins = omega (arith, before); ends = omega (arith, inside); lacks = inl before }))

-- ---- stored

-- blocks of two lists, stored and counted one list after the other
module _ (joins : StoredJoin) (counts : StoresJoin) (head : Announced) (span : Span) (b : Blocks) (old new : List ℕ) (later : List Block)
    (parts : brought head span new ≡ brought head span old ++ later) where
  pub two_stored : stored_of (piece_with head new) span b ≡ with_stored later (stored_of (piece_with head old) span b)
  two_stored =
      ap (λ (bs : List Block). with_stored bs b) parts
      ∙ ap (λ (es : List Block). record b { entries = es }) (joins b.capacity (brought head span old) later b.entries)

  pub two_counted : stored_count (piece_with head new) span b
      ≡ stored_count (piece_with head old) span b + stores b.capacity later (stored_of (piece_with head old) span b).entries
  two_counted =
      ap (λ (bs : List Block). stores b.capacity bs b.entries) parts ∙ counts b.capacity (brought head span old) later b.entries

-- ---- more of block n, of which none is kept

module _ (cuts : CutsPart) (edges : EdgesPart) (none : PartsBringNone) (beside : BesideBringNone) (joins : StoredJoin)
    (counts : StoresJoin) (unwanted : UnwantedStay) (head : Announced) (b : Blocks) where
  module _ (span : Span) (body more : List ℕ) (n : ℕ) (some : n * 16384 < head.first + length body)
      (inside : head.first + length body < end_of head.complete n)
      (within : head.first + length body + length more ≤ end_of head.complete n) where
    unwanted_full : is_wanted (stored_of (piece_with head body) span b) head.complete span n ≡ false → head.first ≤ n * 16384
        → head.first + length body + length more ≡ end_of head.complete n → SameStored head span b (body ++ more) body
    unwanted_full unwants begins ends =
        let bytes = begun head.first body n ++ more in
        let now = stored_of (piece_with head body) span b in
        let parts = grows_full cuts edges none beside head span body more n (omega (arith, some)) begins inside ends in
        let later : List Block = whole_blocks head.complete (n * 16384) bytes span in
        let long = length-append (begun head.first body n) more in
        let drops = length-drop (n * 16384 - head.first) body in
        let stays = unwanted now head.complete bytes span n unwants (omega (arith, long, drops, begins, some, within)) in (
          two_stored joins counts head span b body (body ++ more) later parts ∙ ap (λ (es : List Block). record now { entries = es }) stays.0,
          omega (arith, two_counted joins counts head span b body (body ++ more) later parts, stays.1),
        )

    before_same : n * 16384 < head.first → SameStored head span b (body ++ more) body
    before_same before =
        same_stored head span b (body ++ more) body
        (grows_before cuts edges none beside head span body more n (omega (arith, some)) before within)

    short_same : head.first ≤ n * 16384 → head.first + length body + length more < end_of head.complete n
        → SameStored head span b (body ++ more) body
    short_same begins short =
        same_stored head span b (body ++ more) body
        (grows_part cuts edges none beside head span body more n (omega (arith, some)) begins short)

    unwanted_same : is_wanted (stored_of (piece_with head body) span b) head.complete span n ≡ false
        → SameStored head span b (body ++ more) body
    unwanted_same unwants = elim (cases_lt (n * 16384) head.first) [
      | inl before ↦ before_same before
      | inr begins ↦ elim (cases_lt (head.first + length body + length more) (end_of head.complete n)) [
        | inl short ↦ short_same begins short
        | inr full ↦ unwanted_full unwants begins (omega (arith, full, within))
      ]
    ]

  nothing_same : (span : Span) (body more : List ℕ) → length more ≡ 0 → SameStored head span b (body ++ more) body
  nothing_same span body [] is = same_stored head span b (body ++ []) body (ap (brought head span) (append-nil body))
  nothing_same span body (x ∷ more) is = absurd (omega (arith, is))

  -- it is passed over
  pub passed_same : (span : Span) (body more : List ℕ) (n : ℕ) → n * 16384 < head.first + length body
      → head.first + length body + length more ≤ max (end_of head.complete n) (head.first + length body)
      → (old : Body) → old.next ≡ head.first + length body → old.span ≡ span → head.first + length body < n * 16384 + 16384
      → KeepsNone head old (stored_of (piece_with head body) span b) n → SameStored head span b (body ++ more) body
  passed_same span body more n some within old next asks ends reason = elim (cases_lt (head.first + length body) head.complete) [
    | inr past ↦ nothing_same span body more (omega (arith, past, within))
    | inl inside ↦ elim reason [
      | inl edge ↦ absurd (omega (arith, edge, some, next))
      | inr (inl past) ↦ absurd (omega (arith, past, next, inside))
      | inr (inr (inl before)) ↦ before_same span body more n some (omega (arith, inside, ends)) (omega (arith, within, inside, ends)) before
      | inr (inr (inr unwants)) ↦
          unwanted_same span body more n some (omega (arith, inside, ends)) (omega (arith, within, inside, ends))
          (subst (λ (s : Span). is_wanted (stored_of (piece_with head body) span b) head.complete s n ≡ false) asks unwants)
    ]
  ]

-- ---- want of memory

module _ (joins : StoredJoin) (head : Announced) (span : Span) (b : Blocks) where
  -- in the blocks that follow those of the body
  pub stopped_in : (body all : List ℕ) (later : List Block) (k : ℕ) (now : Blocks) → brought head span all ≡ brought head span body ++ later
      → k < length later → now ≡ with_stored (take k later) (stored_of (piece_with head body) span b) → IsStopped head span b all now
  stopped_in body all later k now parts short is =
      let ours : List Block = brought head span body in
      let long : length (brought head span all) ≡ length ours + length later = ap length parts ∙ length-append ours later in
      let front : take (length ours + k) (brought head span all) ≡ ours ++ take k later =
      ap (take (length ours + k)) parts ∙ take-append-add ours later k in (
        length ours + k,
        omega (arith, long, short),
        is ∙ sym (ap (λ (bs : List Block). with_stored bs b) front
            ∙ ap (λ (es : List Block). record b { entries = es }) (joins b.capacity ours (take k later) b.entries)),
      )

  -- and other blocks would have followed
  pub stopped_before : (body all : List ℕ) (later : List Block) (now : Blocks) → brought head span all ≡ brought head span body ++ later
      → IsStopped head span b body now → IsStopped head span b all now
  stopped_before body all later now parts (k, short, is) =
      let ours : List Block = brought head span body in
      let long : length (brought head span all) ≡ length ours + length later = ap length parts ∙ length-append ours later in (
        k,
        omega (arith, long, short),
        is ∙ sym (ap (λ (bs : List Block). with_stored bs b) (ap (take k) parts ∙ take-append-le k ours later (omega (arith, short)))),
      )

-- ---- between two pieces

module _ (cuts : CutsPart) (edges : EdgesPart) (none : PartsBringNone) (beside : BesideBringNone) (joins : StoredJoin)
    (counts : StoresJoin) (unwanted : UnwantedStay) (head : Announced) (b : Blocks) (body bytes part : List ℕ) (old : Body)
    (now : Blocks) (m : ℕ) (is : IsBody head b body old part now) (fits : length bytes ≤ old.left)
    (mid : 0 < old.next % 16384)
    (size : m ≡ min (min (16384 - old.next % 16384) (old.complete - old.next)) (length bytes)) where
  abbrev more : List ℕ
  more = take m bytes

  abbrev n : ℕ
  n = is.cut.block

  long : length more ≡ m
  long = omega (arith, length-take m bytes, size)

  some : n * 16384 < head.first + length body
  some = omega (arith, mid, is.cut.begins, is.next)

  abbrev pub onward : Body
  onward = record old { next = old.next + m; left = old.left - m }

  -- what is left, and where the next byte stands
  next_on : old.next + m ≡ head.first + length (body ++ more)
  next_on = omega (arith, is.next, long, length-append body more)

  left_on : old.left - m + length (body ++ more) ≡ head.length
  left_on = omega (arith, is.left, long, length-append body more, size, fits)

  -- none of the block is kept
  pub skips : old.keeps ≡ false → IsBody head b (body ++ more) onward part now
  skips drops =
      let within : head.first + length body + length more ≤ max (end_of head.complete n) (head.first + length body) =
      omega (arith, long, size, is.complete, is.next, is.cut.begins, is.cut.ends) in
      let same =
      passed_same cuts edges none beside joins counts unwanted head b old.span body more n some within old is.next refl
      (omega (arith, is.cut.ends, is.next)) (subst (λ (v : Blocks). KeepsNone head old v n) is.holds (is.cut.none drops)) in
      record {
        complete = is.complete;
        next = next_on;
        left = left_on;
        cut = cut;
        counted = is.counted ∙ sym same.1;
        holds = is.holds ∙ sym same.0;
      }
    where
      still : KeepsNone head old now n → KeepsNone head onward now n
      still (inl edge) = absurd (omega (arith, edge, mid, is.cut.begins))
      still (inr (inl past)) = inr (inl (omega (arith, past)))
      still (inr (inr other)) = inr (inr other)

      cut : IsCutAt head (body ++ more) onward part now
      cut = elim (cases_lt (old.next + m) (n * 16384 + 16384)) [
        | inl here ↦ record {
          block = n;
          begins = omega (arith, is.cut.begins);
          ends = here;
          kept = λ t. absurd (let wrong : true ≡ false = sym t ∙ drops in cc);
          none = λ _. still (is.cut.none drops);
        }
        | inr past ↦ record {
          block = n + 1;
          begins = omega (arith, past);
          ends = omega (arith, size, is.cut.begins, is.cut.ends);
          kept = λ t. absurd (let wrong : true ≡ false = sym t ∙ drops in cc);
          none = λ _. inl (omega (arith, past, size, is.cut.begins, is.cut.ends));
        }
      ]

  module _ (keeps : old.keeps ≡ true) (room : List ℕ)
      (copied : take (old.next % 16384 + length more) room ≡ take (old.next % 16384) part ++ more) where
    abbrev kept : KeepsPart head body old part now n
    kept = is.cut.kept keeps

    -- the room has the bytes so far of the block
    room_has : take (old.next + m - n * 16384) room ≡ begun head.first body n ++ more
    room_has =
        let e : old.next % 16384 ≡ old.next - n * 16384 = omega (arith, is.cut.begins, is.cut.ends) in
        let i : old.next + m - n * 16384 ≡ old.next % 16384 + length more = omega (arith, e, long, is.cut.begins) in
        ap (λ (j : ℕ). take j room) i ∙ copied ∙ ap (λ (j : ℕ). take j part ++ more) e ∙ ap (λ (xs : List ℕ). xs ++ more) kept.bytes

    begun_on : begun head.first (body ++ more) n ≡ begun head.first body n ++ more
    begun_on = drop-append-le (n * 16384 - head.first) body more (omega (arith, kept.begins, kept.some, is.next))

    -- the block isn't whole yet
    pub keeps_on : m < min (16384 - old.next % 16384) (old.complete - old.next) → IsBody head b (body ++ more) onward room now
    keeps_on short =
        let inside : head.first + length body < end_of head.complete n = omega (arith, kept.lacks, is.next) in
        let same =
        short_same cuts edges none beside joins counts unwanted head b old.span body more n some inside
        (omega (arith, short, long, is.next, is.complete, is.cut.begins, is.cut.ends)) kept.begins
        (omega (arith, short, long, is.next, is.complete, is.cut.begins, is.cut.ends)) in
        record {
          complete = is.complete;
          next = next_on;
          left = left_on;
          cut = record {
            block = n;
            begins = omega (arith, is.cut.begins);
            ends = omega (arith, short, is.cut.begins, is.cut.ends);
            kept = λ _. record {
              begins = kept.begins;
              some = omega (arith, kept.some);
              lacks = omega (arith, short, is.complete, is.cut.begins, is.cut.ends);
              wanted = kept.wanted;
              bytes = room_has ∙ sym begun_on;
            };
            none = λ f. absurd (let wrong : true ≡ false = sym keeps ∙ f in cc);
          };
          counted = is.counted ∙ sym same.1;
          holds = is.holds ∙ sym same.0;
        }

    -- the block is whole
    module _ (full : m ≡ min (16384 - old.next % 16384) (old.complete - old.next)) where
      abbrev pub whole : List Block
      whole = whole_blocks old.complete (old.next - old.next % 16384) (take (old.next % 16384 + m) room) old.span

      whole_is : whole_blocks head.complete (n * 16384) (begun head.first body n ++ more) old.span ≡ whole
      whole_is =
          let i : old.next + m - n * 16384 ≡ old.next % 16384 + m = omega (arith, is.cut.begins, is.cut.ends) in
          let at : old.next - old.next % 16384 ≡ n * 16384 = omega (arith, is.cut.begins, is.cut.ends) in
          ap (λ (xs : List ℕ). whole_blocks head.complete (n * 16384) xs old.span) (sym room_has ∙ ap (λ (j : ℕ). take j room) i)
          ∙ ap (λ (p : ℕ). whole_blocks head.complete p (take (old.next % 16384 + m) room) old.span) (sym at)
          ∙ ap (λ (l : ℕ). whole_blocks l (old.next - old.next % 16384) (take (old.next % 16384 + m) room) old.span) (sym is.complete)

      ends_at : head.first + length body + length more ≡ end_of head.complete n
      ends_at = omega (arith, full, long, is.next, is.complete, is.cut.begins, is.cut.ends, kept.lacks)

      parts : brought head old.span (body ++ more) ≡ brought head old.span body ++ whole
      parts =
          grows_full cuts edges none beside head old.span body more n (omega (arith, some)) kept.begins (omega (arith, kept.lacks, is.next)) ends_at
          ∙ ap (λ (bs : List Block). brought head old.span body ++ bs) whole_is

      sums : old.count + stores now.capacity whole now.entries ≡ stored_count (piece_with head (body ++ more)) old.span b
      sums =
          ap (λ (k : ℕ). k + stores now.capacity whole now.entries) is.counted
          ∙ ap (λ (v : Blocks). stored_count (piece_with head body) old.span b + stores v.capacity whole v.entries) is.holds
          ∙ sym (two_counted joins counts head old.span b body (body ++ more) whole parts)

      pub finishes : (after : Blocks) (count : ℕ) → after ≡ with_stored whole now
          → count ≡ min (old.count + stores now.capacity whole now.entries) 4294967295
          → stored_count (piece_with head (body ++ more)) old.span b ≤ 65
          → IsBody head b (body ++ more) (record onward { keeps = false; count = count }) room after
      finishes after count stored counted few = record {
        complete = is.complete;
        next = next_on;
        left = left_on;
        cut = cut;
        counted = omega (arith, counted, sums, few);
        holds = stored ∙ ap (with_stored whole) is.holds ∙ sym (two_stored joins counts head old.span b body (body ++ more) whole parts);
      }
        where
          cut : IsCutAt head (body ++ more) (record onward { keeps = false; count = count }) room after
          cut = elim (cases_lt (old.next + m) (n * 16384 + 16384)) [
            | inl here ↦ record {
              block = n;
              begins = omega (arith, is.cut.begins);
              ends = here;
              kept = λ t. absurd (let wrong : false ≡ true = t in cc);
              none = λ _. inr (inl (omega (arith, here, full, is.complete, is.cut.begins, is.cut.ends)));
            }
            | inr past ↦ record {
              block = n + 1;
              begins = omega (arith, past);
              ends = omega (arith, full, is.cut.begins, is.cut.ends);
              kept = λ t. absurd (let wrong : false ≡ true = t in cc);
              none = λ _. inl (omega (arith, past, full, is.cut.begins, is.cut.ends));
            }
          ]

      -- memory is wanting
      pub finish_stops : (after : Blocks) (k : ℕ) → k < length whole → after ≡ with_stored (take k whole) now
          → IsStopped head old.span b (body ++ bytes) after
      finish_stops after k short stored =
          let first = stopped_in joins head old.span b body (body ++ more) whole k after parts short
          (stored ∙ ap (with_stored (take k whole)) is.holds) in
          let all : (body ++ more) ++ drop m bytes ≡ body ++ bytes =
          append_assoc body more (drop m bytes) ∙ ap (λ (xs : List ℕ). body ++ xs) (take-append-drop m bytes) in
          let at : head.first + length (body ++ more) ≡ end_of head.complete n = omega (arith, ends_at, length-append body more) in
          subst (λ (xs : List ℕ). IsStopped head old.span b xs after) all
          (stopped_before joins head old.span b (body ++ more) ((body ++ more) ++ drop m bytes)
          (whole_blocks head.complete (head.first + length (body ++ more)) (drop m bytes) old.span) after
          (edges head.complete head.first (body ++ more) (drop m bytes) old.span (at_edge at)) first)
        where
          at_edge : head.first + length (body ++ more) ≡ end_of head.complete n → IsEdge head.complete (head.first + length (body ++ more))
          at_edge at = elim (cases_lt head.complete ((n + 1) * 16384)) [
            | inl file ↦ inl (omega (arith, at, file))
            | inr block ↦ inr (n + 1, omega (arith, at, block))
          ]

-- ---- bytes that begin at a block's edge

module _ (edges : EdgesPart) (joins : StoredJoin) (counts : StoresJoin) (head : Announced) (b : Blocks) (body bytes part : List ℕ)
    (old : Body) (now : Blocks) (is : IsBody head b body old part now) (fits : length bytes ≤ old.left) (first : ℕ)
    (edge : old.next ≡ first * 16384) where
  abbrev pub blocks : List Block
  blocks = whole_blocks old.complete old.next bytes old.span

  blocks_part : brought head old.span (body ++ bytes) ≡ brought head old.span body ++ blocks
  blocks_part =
      let at : head.first + length body ≡ old.next = sym is.next in
      edges head.complete head.first body bytes old.span (inr (first, at ∙ edge))
      ∙ ap (λ (p : ℕ). brought head old.span body ++ whole_blocks head.complete p bytes old.span) at
      ∙ ap (λ (l : ℕ). brought head old.span body ++ whole_blocks l old.next bytes old.span) (sym is.complete)

  pub edge_stops : (after : Blocks) (k : ℕ) → k < length blocks → after ≡ with_stored (take k blocks) now
      → IsStopped head old.span b (body ++ bytes) after
  edge_stops after k short stored =
      stopped_in joins head old.span b body (body ++ bytes) blocks k after blocks_part short
      (stored ∙ ap (with_stored (take k blocks)) is.holds)

  module _ (count : ℕ) (keeps : Bool) (room : List ℕ) (after : Blocks) where
    abbrev pub moved : Body
    moved = record old { next = old.next + length bytes; left = old.left - length bytes; keeps = keeps; count = count }

    module _ (tail : KeepsTail bytes moved room after) where
      tail_kept : keeps ≡ true → KeepsPart head (body ++ bytes) moved room after tail.block
      tail_kept t =
          let k = tail.kept t in
          let n = tail.block in
          let begins : old.next ≤ n * 16384 = omega (arith, edge, tail.ends) in
          let i : n * 16384 - head.first ≡ length body + (n * 16384 - old.next) = omega (arith, begins, is.next) in
          let j : length bytes - (old.next + length bytes - n * 16384) ≡ n * 16384 - old.next = omega (arith, begins, tail.begins) in
          record {
            begins = omega (arith, begins, is.next);
            some = k.some;
            lacks = omega (arith, k.lacks, tail.ends, is.complete);
            wanted = subst (λ (l : ℕ). is_wanted after l old.span n ≡ true) is.complete k.wanted;
            bytes = k.tail ∙ ap (λ (d : ℕ). drop d bytes) j
                ∙ sym (ap (λ (d : ℕ). drop d (body ++ bytes)) i ∙ drop-append-add body bytes (n * 16384 - old.next));
          }

      tail_none : (moved.next ≡ tail.block * 16384) ⊎ ((old.complete ≤ moved.next) ⊎ (is_wanted after old.complete old.span tail.block ≡ false))
          → KeepsNone head moved after tail.block
      tail_none (inl at) = inl at
      tail_none (inr (inl past)) = inr (inl (omega (arith, past, is.complete)))
      tail_none (inr (inr unwants)) =
          inr (inr (inr (subst (λ (l : ℕ). is_wanted after l old.span tail.block ≡ false) is.complete unwants)))

      pub edge_goes : after ≡ with_stored blocks now → count ≡ min (old.count + stores now.capacity blocks now.entries) 4294967295
          → stored_count (piece_with head (body ++ bytes)) old.span b ≤ 65 → IsBody head b (body ++ bytes) moved room after
      edge_goes stored counted few =
          let sums : old.count + stores now.capacity blocks now.entries ≡ stored_count (piece_with head (body ++ bytes)) old.span b =
          ap (λ (k : ℕ). k + stores now.capacity blocks now.entries) is.counted
          ∙ ap (λ (v : Blocks). stored_count (piece_with head body) old.span b + stores v.capacity blocks v.entries) is.holds
          ∙ sym (two_counted joins counts head old.span b body (body ++ bytes) blocks blocks_part) in
          record {
            complete = is.complete;
            next = omega (arith, is.next, length-append body bytes);
            left = omega (arith, is.left, length-append body bytes, fits);
            cut = record {
              block = tail.block;
              begins = tail.begins;
              ends = tail.ends;
              kept = tail_kept;
              none = λ f. tail_none (tail.none f);
            };
            counted = omega (arith, counted, sums, few);
            holds = stored ∙ ap (with_stored blocks) is.holds ∙ sym (two_stored joins counts head old.span b body (body ++ bytes) blocks blocks_part);
          }
