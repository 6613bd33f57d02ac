-- Ends of lists, and blocks that are the same in whatever order.
use Rattle.std.proofs.Common.{List, [], ◌++◌, Result, Ok, Err, refl, sym, ap, ◌∙◌, append-nil, append_assoc}
use Rattle.std.specs.Prelude.{OnErr}
use Rattle.extents.specs.Extent.{Extent}
use Rattle.tiff_dir.specs.Needs.{IsEndOf}
use Rattle.range_cache.specs.Cache.{Blocks}
use Rattle.cog_reader.specs.Going.{AreSame}

-- ---- ends of lists

pub end_refl : (rs : List Extent) → IsEndOf rs rs
end_refl rs = record { front = []; joined = refl }

pub end_nil : (rs : List Extent) → IsEndOf [] rs
end_nil rs = record { front = rs; joined = sym (append-nil rs) }

pub end_trans : (xs ys zs : List Extent) → IsEndOf ys xs → IsEndOf zs ys → IsEndOf zs xs
end_trans xs ys zs h k = record {
  front = h.front ++ k.front;
  joined = h.joined ∙ ap (λ l. h.front ++ l) k.joined ∙ sym (append_assoc h.front k.front zs);
}

-- ---- blocks

pub same_refl : (b : Blocks) → AreSame b b
same_refl b = record { capacity = refl; blocks = λ k. refl }

pub same_trans : (a b c : Blocks) → AreSame a b → AreSame b c → AreSame a c
same_trans a b c h k = record { capacity = k.capacity ∙ h.capacity; blocks = λ n. k.blocks n ∙ h.blocks n }

-- what holds after every refusal
pub refused : {A E : Type 0} (r : Result A E) (P : Type 0) → P → OnErr r P
refused (Ok a) P h = tt
refused (Err e) P h = h
