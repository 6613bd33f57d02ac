-- Going on, step by step.
use Rattle.std.proofs.Common.{◌≡◌, ℕ, ◌+◌, ◌-◌, ◌/◌, cond, arith, ◌<◌, ◌≤◌, List, [], ◌∷◌, ◌++◌, Option, Some, None, Result, Ok, Err, refl, sym, ap, ◌∙◌, subst, inl, inr, append-nil, append_assoc}
use Rattle.std.proofs.lemmas.Bool.Decides.{eqb_tells}
use Rattle.std.specs.Prelude.{IfSome, IsSome, IsSomeAnd, OnErr}
use Rattle.tiff_dir.specs.declared.query.Query.{Query}
use Rattle.extents.specs.declared.span.Span.{Span}
use Rattle.extents.specs.declared.limits.TheConstants.{MAX_RANGE_BYTES}
use Rattle.extents.specs.Extent.{Extent, bytes_in}
use Rattle.tiff_dir.specs.Needs.{IsEndOf}
use Rattle.range_cache.specs.Cache.{Blocks, Holds, block_at, numbers}
use Rattle.extents.specs.Block.{first_block, blocks}
use Rattle.range_cache.specs.Numbers.{has, IsGap, IsLed}
use Rattle.range_cache.specs.Laws.{MissingIsFew, RunsAreMissing}
use Rattle.range_cache.specs.Missing.{IsFirstGap}
use Rattle.range_cache.specs.declared.missing.Missing.{Missing}
use Rattle.cog_reader.specs.Reader as reader
use Rattle.cog_reader.specs.Reader.{ReaderState, ReaderAgrees, IsWantedOf, Takes, file_length_of, outcome_of, query_of, tiles_of, to_come, unread, wanted}
use Rattle.cog_reader.specs.declared.outcome.Outcome.{Outcome}
use Rattle.tile_plan.specs.TileCache.{KeptTiles}
use Rattle.cog_reader.specs.Going.{CachedReader, work, AreSame, KeepsRead, ReaderGoesOn, IsMissing, IsMissingWithRoom}

-- ---- ends of lists

pub end_refl : (rs : List Extent) → IsEndOf rs rs
end_refl rs = record { front = []; joined = refl }

pub end_nil : (rs : List Extent) → IsEndOf [] rs
end_nil rs = record { front = rs; joined = sym (append-nil rs) }

pub end_cons : (r : Extent) (rs : List Extent) → IsEndOf rs (r ∷ rs)
end_cons r rs = record { front = r ∷ []; joined = refl }

pub end_trans : (xs ys zs : List Extent) → IsEndOf ys xs → IsEndOf zs ys → IsEndOf zs xs
end_trans xs ys zs h k = record {
  front = h.front ++ k.front;
  joined = h.joined ∙ ap (λ l. h.front ++ l) k.joined ∙ sym (append_assoc h.front k.front zs);
}

-- ---- blocks

pub same_refl : (b : Blocks) → AreSame b b
same_refl b = record { capacity = refl; blocks = λ k. refl }

pub same_trans : (a b c : Blocks) → AreSame a b → AreSame b c → AreSame a c
same_trans a b c h k = record { capacity = k.capacity ∙ h.capacity; blocks = λ n. k.blocks n ∙ h.blocks n }

-- ---- what is held of the file

pub kept_refl : (f : List ℕ) (r : ReaderState) → KeepsRead f r r
kept_refl f r asked q is one = end_refl (unread r f q)

pub kept_trans : (f : List ℕ) (a b c : ReaderState) → query_of b ≡ query_of a → KeepsRead f a b → KeepsRead f b c → KeepsRead f a c
kept_trans f a b c same h k asked q is one = end_trans (unread a f q) (unread b f q) (unread c f q) (h asked q is one) (k asked q (same ∙ is) one)

pub kept_same : (f : List ℕ) (a b : ReaderState) → ((q : Query) → unread b f q ≡ unread a f q) → KeepsRead f a b
kept_same f a b same asked q is one = subst (λ rs. IsEndOf rs (unread a f q)) (sym (same q)) (end_refl (unread a f q))

kept_given : (f : List ℕ) (a b : ReaderState) → reader.KeepsHeld f a b → KeepsRead f a b
kept_given f a b h asked q is one =
    (subst (λ o. IfSome o (λ x. (q : Query) → reader.AreOfOneLevel f x q → IsEndOf (unread b f q) (unread a f q))) is h) q one

-- ---- going on

pub goes_refl : (w : CachedReader) → ReaderGoesOn w w
goes_refl w = record {
  file_length = refl;
  query = refl;
  most = refl;
  blocks = same_refl w.cache;
  file = λ f agrees holds. record { reader = agrees; cache = holds; come = end_refl (to_come w.reader f); held = kept_refl f w.reader };
}

pub goes_trans : (a b c : CachedReader) → ReaderGoesOn a b → ReaderGoesOn b c → ReaderGoesOn a c
goes_trans a b c h k = record {
  file_length = k.file_length ∙ h.file_length;
  query = k.query ∙ h.query;
  most = k.most ∙ h.most;
  blocks = same_trans a.cache b.cache c.cache h.blocks k.blocks;
  file = λ f agrees holds.
      let first = h.file f agrees holds in
      let next = k.file f first.reader first.cache in
      record {
        reader = next.reader;
        cache = next.cache;
        come = end_trans (to_come a.reader f) (to_come b.reader f) (to_come c.reader f) first.come next.come;
        held = kept_trans f a.reader b.reader c.reader h.query first.held next.held;
      };
}

-- the reader says what it needs
come_of : (f : List ℕ) (old new : ReaderState) (o : Option Outcome) → outcome_of new ≡ o
    → (outcome_of new ≡ None → to_come new f ≡ to_come old f) → (IsSome (outcome_of new) → to_come new f ≡ []) → IsEndOf (to_come new f) (to_come old f)
come_of f old new None is same none =
    subst (λ rs. IsEndOf rs (to_come old f)) (sym (same is)) (end_refl (to_come old f))
come_of f old new (Some o) is same none =
    subst (λ rs. IsEndOf rs (to_come old f)) (sym (none (subst (λ x. IsSome x) (sym is) refl))) (end_nil (to_come old f))

pub needed : (old new : ReaderState) (cache : Blocks) → file_length_of new ≡ file_length_of old → query_of new ≡ query_of old → tiles_of new ≡ tiles_of old
    → ((f : List ℕ) → ReaderAgrees old f → ReaderAgrees new f)
    → ((f : List ℕ) → ReaderAgrees old f → outcome_of new ≡ None → to_come new f ≡ to_come old f)
    → ((f : List ℕ) → IsSome (outcome_of new) → to_come new f ≡ [])
    → ((f : List ℕ) (q : Query) → unread new f q ≡ unread old f q)
    → ReaderGoesOn (work old cache) (work new cache)
needed old new cache file_length query tiles agrees come none held = record {
  file_length = file_length;
  query = query;
  most = ap (λ (t : KeptTiles). t.most) tiles;
  blocks = same_refl cache;
  file = λ f before holds. record {
    reader = agrees f before;
    cache = holds;
    come = come_of f old new (outcome_of new) refl (come f before) (none f);
    held = kept_same f old new (held f);
  };
}

-- a range is read from the cache, whose blocks change their order alone
pub read : (r : ReaderState) (old new : Blocks) → new.capacity ≡ old.capacity → ((k : ℕ) → block_at k new.entries ≡ block_at k old.entries)
    → ((f : List ℕ) → Holds f old → Holds f new)
    → ReaderGoesOn (work r old) (work r new)
read r old new capacity kept holds = record {
  file_length = refl;
  query = refl;
  most = refl;
  blocks = record { capacity = capacity; blocks = kept };
  file = λ f agrees held. record { reader = agrees; cache = holds f held; come = end_refl (to_come r f); held = kept_refl f r };
}

-- the reader is given the range that it wants
given_end : (f : List ℕ) (old new : ReaderState) (o : Option Extent) → wanted old ≡ o → reader.AcceptsFirstRange f old new → IsEndOf (to_come new f) (to_come old f)
given_end f old new o is (inl done) = subst (λ rs. IsEndOf rs (to_come old f)) (sym done.1) (end_nil (to_come old f))
given_end f old new None is (inr next) = absurd (subst (λ w. IsSomeAnd w (λ r. to_come old f ≡ r ∷ to_come new f)) is next)
given_end f old new (Some r) is (inr next) =
    let more : to_come old f ≡ r ∷ to_come new f = subst (λ w. IsSomeAnd w (λ r. to_come old f ≡ r ∷ to_come new f)) is next in
    subst (λ rs. IsEndOf (to_come new f) rs) (sym more) (end_cons r (to_come new f))

pub given : (old new : ReaderState) (before after : Blocks) (r : Extent) (bytes : List ℕ) → wanted old ≡ Some r
    → ((f : List ℕ) → ReaderAgrees old f → Holds f before → bytes ≡ bytes_in f r)
    → Takes bytes old new → ReaderGoesOn (work old before) (work old after) → ReaderGoesOn (work old before) (work new after)
given old new before after r bytes is of takes goes = record {
  file_length = takes.file_length;
  query = takes.query;
  most = takes.most;
  blocks = goes.blocks;
  file = λ f held holds.
      let is_wanted : IsWantedOf f old bytes = subst (λ w. IsSomeAnd w (λ r. bytes ≡ bytes_in f r)) (sym is) (of f held holds) in
      record {
        reader = takes.agrees f held is_wanted;
        cache = (goes.file f held holds).cache;
        come = given_end f old new (Some r) is (takes.come f held is_wanted);
        held = kept_given f old new (takes.held f held);
      };
}

-- ---- what is missing

same_gap : (ns ms : List ℕ) (n count from to : ℕ) → ((k : ℕ) → has k ms ≡ has k ns) → IsGap ns n count from to → IsGap ms n count from to
same_gap ns ms n count from to same g = record {
  begins = g.begins;
  some = g.some;
  within = g.within;
  before = λ k low high. same k ∙ g.before k low high;
  gone = λ k low high. same k ∙ g.gone k low high;
  ends = λ more. same to ∙ g.ends more;
}

-- a range of at most 1,048,576 bytes touches at most 65 blocks
pub few_blocks : (first len : ℕ) → len ≤ 1048576 → blocks first len ≤ 65
few_blocks first len small = elim (eqb_tells len 0) [
  | inl e ↦ let none : blocks first len ≡ 0 = ap (λ t. cond t 0 ((first + len - 1) / 16384 - first / 16384 + 1)) e.0 in omega arith
  | inr e ↦ let some : blocks first len ≡ (first + len - 1) / 16384 - first / 16384 + 1 = ap (λ t. cond t 0 ((first + len - 1) / 16384 - first / 16384 + 1)) e.0 in omega arith
]

-- a range that isn't empty touches the blocks from its first byte's to its last byte's
pub some_blocks : (first len : ℕ) → 0 < len → blocks first len ≡ (first + len - 1) / 16384 - first / 16384 + 1
some_blocks first len some = elim (eqb_tells len 0) [
  | inl e ↦ absurd (let none = e.1 in omega arith)
  | inr e ↦ ap (λ t. cond t 0 ((first + len - 1) / 16384 - first / 16384 + 1)) e.0
]

pub lacking : RunsAreMissing → MissingIsFew → (old new : Blocks) (file_length len : ℕ) (r : Extent) (missing : Missing) (span : Span) → len ≡ r.len → 0 < r.len → r.first + r.len ≤ file_length → r.len ≤ MAX_RANGE_BYTES → 66 ≤ new.capacity
    → ((k : ℕ) → has k (numbers new.entries) ≡ has k (numbers old.entries)) → IsFirstGap old file_length r.first len missing
    → IsLed (numbers new.entries) (first_block r.first) (blocks r.first len) → span.first ≡ missing.first → span.last ≡ missing.last
    → IsMissingWithRoom new file_length r 0 span
lacking runs most old new file_length len r missing span size some within small room same l led first last =
    let e : IsFirstGap old file_length r.first r.len missing = subst (λ n. IsFirstGap old file_length r.first n missing) size l in
    let ns = numbers new.entries in
    let n = first_block r.first in
    let count = blocks r.first r.len in
    let g = same_gap (numbers old.entries) ns n count e.from e.to same e.gap in
    let few = few_blocks r.first r.len small in
    let touched = some_blocks r.first r.len some in
    let begins = g.begins in
    let more = g.some in
    let ends = g.within in
    let last_is = e.last_is in
    let m : IsMissing new file_length r 0 span = record {
      some = some;
      within = within;
      small = small;
      missing = missing;
      lacks = record { from = e.from; to = e.to; gap = g; first_is = e.first_is; last_is = e.last_is };
      first = first;
      to = e.to;
      last = omega (arith, last, last_is);
      on = omega arith;
      near = omega arith;
      few = omega (arith, few, begins, ends);
      inside = omega (arith, touched, within, some, begins, more, ends);
      gone = g.gone;
    } in (
      m,
      record {
        led = subst (λ n. IsLed ns (first_block r.first) (blocks r.first n)) size led;
        room = omega (arith, runs ns n count e.from e.to begins ends g.gone, most ns n count, few, room);
      },
    )

-- what holds after every refusal
pub refused : {A E : Type 0} (r : Result A E) (P : Type 0) → P → OnErr r P
refused (Ok a) P h = tt
refused (Err e) P h = h
