-- Looking ahead.
use Rattle.std.proofs.Common.{◌≡◌, ℕ, ◌+◌, ◌-◌, ◌*◌, ◌/◌, ◌<◌, ◌≤◌, false, min, List, Some, sym, ◌∙◌, subst, arith, inl, inr}
use Rattle.std.specs.Prelude.{IsSomeAnd, slice_get}
use Rattle.std.proofs.lemmas.Bool.{cases_lt}
use Rattle.extents.specs.declared.span.Span.{Span}
use Rattle.extents.specs.Extent.{extent_of_span}
use Rattle.extents.specs.Block.{blocks, end_of}
use Rattle.range_cache.specs.Cache.{Blocks, numbers}
use Rattle.range_cache.specs.Numbers.{has, missing as absent}
use Rattle.range_cache.specs.Laws.{RunsAreMissing}
use Rattle.cog_reader.specs.Reader.{ReaderAgrees, file_length_of, to_come, wanted}
use Rattle.cog_reader.specs.Going.{CachedReader, HasRoom, IsMissing, OneTouches, IsStopped, IsWantedLater, LooksAtOneRange, Touches}
use Rattle.cog_reader.proofs.GoingLemmas.{few_blocks, some_blocks}

-- the blocks that a span touches
pub touched : (range : Span) → blocks range.first (extent_of_span range).len ≡ range.last / 16384 - range.first / 16384 + 1
touched range =
    let up = range.ascending in
    let count = some_blocks range.first (extent_of_span range).len (omega arith) in
    omega (arith, count)

pub touches_in : (range : Span) (k : ℕ) → range.first / 16384 ≤ k → k < range.last / 16384 + 1 → Touches (extent_of_span range) k
touches_in range k low high = let up = range.ascending in (low, omega (arith, touched range))

-- where what is missing of a range lies, and that it has room
pub record Lies (b : Blocks) (file_length : ℕ) (range missing : Span) (from to present : ℕ) : Type 0 where
  pub from_is : missing.first / 16384 ≡ from
  pub to_is : missing.last / 16384 + 1 ≡ to
  pub some : from < to
  pub begins : range.first / 16384 ≤ from
  pub ends : to ≤ range.last / 16384 + 1
  pub inside : to * 16384 < file_length + 16384
  pub file : 0 < file_length
  pub present_is : present + absent (numbers b.entries) (range.first / 16384) (blocks range.first (extent_of_span range).len) ≡ blocks range.first (extent_of_span range).len
  pub small : blocks range.first (extent_of_span range).len ≤ 65
  pub fits : present + (to - from) ≤ blocks range.first (extent_of_span range).len

pub lies : RunsAreMissing → (b : Blocks) (file_length : ℕ) (range missing : Span) (present : ℕ) → (m : IsMissing b file_length (extent_of_span range) 0 missing)
    → present + absent (numbers b.entries) (range.first / 16384) (range.last / 16384 + 1 - range.first / 16384) ≡ range.last / 16384 + 1 - range.first / 16384
    → Lies b file_length range missing m.lacks.from m.lacks.to present
lies runs b file_length range missing present m present_is =
    let up = range.ascending in
    let count = touched range in
    let g = m.lacks.gap in
    let begins = g.begins in
    let some = g.some in
    let ends = g.within in
    let first = m.first in
    let first_is = m.lacks.first_is in
    let last = m.last in
    let on = m.on in
    let near = m.near in
    let inside = m.inside in
    let all : range.last / 16384 + 1 - range.first / 16384 ≡ blocks range.first (extent_of_span range).len = omega (arith, count) in
    let here : present + absent (numbers b.entries) (range.first / 16384) (blocks range.first (extent_of_span range).len) ≡ blocks range.first (extent_of_span range).len =
    subst (λ n. present + absent (numbers b.entries) (range.first / 16384) n ≡ n) all present_is in
    let run = runs (numbers b.entries) (range.first / 16384) (blocks range.first (extent_of_span range).len) m.lacks.from m.lacks.to begins ends g.gone in
    record {
      from_is = omega (arith, first, first_is);
      to_is = omega (arith, last, on, near, inside, some);
      some = some;
      begins = begins;
      ends = omega (arith, ends, count);
      inside = omega (arith, inside, on);
      file = omega (arith, inside, on, some);
      present_is = here;
      small = few_blocks range.first (extent_of_span range).len m.small;
      fits = omega (arith, run, here);
    }

pub looks_ahead : (w : CachedReader) (file_length : ℕ) (range missing span : Span) (ahead present capacity limit reached : ℕ) → file_length_of w.reader ≡ file_length
    → (m : IsMissing w.cache (file_length_of w.reader) (extent_of_span range) 0 missing) → HasRoom w.cache (file_length_of w.reader) (extent_of_span range) 0 missing m → Lies w.cache (file_length_of w.reader) range missing m.lacks.from m.lacks.to present
    → wanted w.reader ≡ Some (extent_of_span range) → ((f : List ℕ) → ReaderAgrees w.reader f → slice_get (to_come w.reader f) 0 ≡ Some (extent_of_span range))
    → capacity ≡ w.cache.capacity → present ≤ capacity → limit ≡ min (missing.first / 16384 + min (capacity - present) 65) (missing.last / 16384 + 1 + ahead)
    → missing.last / 16384 + 1 ≤ reached → reached ≤ limit → reached * 16384 < file_length_of w.reader + 16384
    → ((k : ℕ) → missing.last / 16384 + 1 ≤ k → k < reached → has k (numbers w.cache.entries) ≡ false)
    → ((k : ℕ) → missing.last / 16384 + 1 ≤ k → k < reached → IsWantedLater w.reader k)
    → ((f : List ℕ) → ReaderAgrees w.reader f → (k : ℕ) → missing.last / 16384 + 1 ≤ k → k < reached → OneTouches (to_come w.reader f) k)
    → span.first ≡ missing.first → span.last + 1 ≡ end_of file_length (reached - 1) → IsStopped w ahead span
looks_ahead w file_length range missing span ahead present capacity limit reached complete_is m room l wants next capacity_is fits limit_is low high inside gone later needed first_is last_is =
    let from_is = l.from_is in
    let to_is = l.to_is in
    let some = l.some in
    let file = l.file in
    let g = m.lacks.gap in
    record {
      range = extent_of_span range;
      wanted = wants;
      first = next;
      missing = record {
        some = m.some;
        within = m.within;
        small = m.small;
        missing = m.missing;
        lacks = m.lacks;
        first = first_is ∙ m.first;
        to = reached;
        last = omega (arith, last_is, complete_is, file, some, low, to_is);
        on = omega (arith, low, to_is);
        near = omega (arith, high, limit_is, to_is);
        few = omega (arith, high, limit_is, from_is);
        inside = inside;
        gone = λ k from_k k_to. elim (cases_lt k m.lacks.to) [
          | inl first ↦ g.gone k from_k first
          | inr more ↦ gone k (omega (arith, more, to_is)) k_to
        ];
      };
      room = record {
        led = room.led;
        room = omega (arith, high, limit_is, from_is, capacity_is, fits, l.present_is);
      };
      later = λ k from_k k_to. later k (omega (arith, from_k, to_is)) k_to;
      needed = λ f agrees k from_k k_to.
          let first = first_is ∙ m.first ∙ m.lacks.first_is in
          let low_k : m.lacks.from ≤ k = omega (arith, first, from_k) in
          let high_k : k < reached = omega (arith, last_is, k_to, low, to_is, some) in
          elim (cases_lt k m.lacks.to) [
            | inl before ↦ (0, subst (λ o. IsSomeAnd o (λ e. Touches e k)) (sym (next f agrees)) (touches_in range k (omega (arith, low_k, l.begins)) (omega (arith, before, l.ends))))
            | inr more ↦ needed f agrees k (omega (arith, more, to_is)) high_k
          ];
    }

pub at_one_range : LooksAtOneRange
at_one_range b file_length r span m =
    let on = m.on in
    let near = m.near in
    let last = m.last in
    let last_is = m.lacks.last_is in
    let same : m.to ≡ m.lacks.to = omega (arith, on, near) in
    (same, omega (arith, last, last_is, same))
