-- Bytes of a head, as they come.
use Rattle.std.proofs.Common.{◌≡◌, ℕ, ◌+◌, ◌-◌, ◌<◌, ◌≤◌, inl, inr, Bool, false, List, [], ◌++◌, length, take, drop, refl, sym, ap, ◌∙◌, subst, arith, length-append, length-take, Option, None, Ok, Err}
use Rattle.std.proofs.Math.Seq.{take-append-add, take-append_seam}
use Rattle.std.proofs.lemmas.Bool.{cases_lt}
use Rattle.std.proofs.lemmas.List.{take-append-drop, take-append-le}
use Rattle.http_range.specs.declared.frame.Frame.{Frame}
use Rattle.http_range.specs.declared.reading.Why.TheVariants.{Cut}
use Rattle.http_range.specs.Frame.{ReadsFrame}
use Rattle.http_range.specs.Laws.{FramesGrow}
use Rattle.client_connection.specs.declared.parts.Part.{Part}
use Rattle.client_connection.specs.declared.parts.Part.TheVariants.{Again, Begun, Body, Head, Interim, Refused, Stray}
use Rattle.client_connection.specs.Status.{Status, Takes, TakesHead}
use Rattle.client_connection.specs.Answers.{IsUndecided}
use Rattle.client_connection.specs.Inside.{IsSound}

nothing_undecided : FramesGrow → IsUndecided []
nothing_undecided law = λ frame reads. absurd (omega (arith, law.some [] frame reads, law.there [] frame reads))

-- nothing came of a head
pub sound_between : FramesGrow → (is_open : Bool) (left : Option ℕ) (head : List ℕ) → head ≡ [] → (is_open ≡ false → left ≡ None)
    → IsSound is_open head left
sound_between law is_open left head none alone = record {
  alone = alone;
  undecided = λ _ _. subst IsUndecided (sym none) (nothing_undecided law);
  room = λ _ _. omega (arith, ap length none);
  short = omega (arith, ap length none);
}

cut_short : FramesGrow → (head : List ℕ) → ReadsFrame head (Err Cut) → length head < 4096
cut_short law head reads = elim (cases_lt (length head) 4096) [
  | inl below ↦ below
  | inr long ↦ absurd (law.decided head (Err Cut) long reads refl)
]

-- a head isn't whole
pub sound_cut : FramesGrow → (is_open : Bool) (left : Option ℕ) (head : List ℕ) → ReadsFrame head (Err Cut)
    → (is_open ≡ false → left ≡ None) → IsSound is_open head left
sound_cut law is_open left head reads alone = record {
  alone = alone;
  undecided = λ _ _ frame whole. absurd (let same = law.one head frame (Err Cut) whole reads in cc);
  room = λ _ _. cut_short law head reads;
  short = (let below = cut_short law head reads in omega arith);
}

-- a head that is whole only now ends in the bytes that follow
pub head_grown : FramesGrow → (old more : List ℕ) (frame : Frame) → IsUndecided old → ReadsFrame (old ++ more) (Ok frame)
    → (length old < frame.size) × (frame.size ≤ length old + length more)
head_grown law old more frame none reads =
    (law.behind old more frame none reads, omega (arith, law.there (old ++ more) frame reads, length-append old more))

-- its own bytes are the old ones, and the first of those that came
pub own_bytes : (old bytes : List ℕ) (m n : ℕ) → length old ≤ n → n ≤ length old + length (take m bytes)
    → take n (old ++ take m bytes) ≡ old ++ take (n - length old) bytes
own_bytes old bytes m n above within =
    let k = n - length old in
    let same : n ≡ length old + k = omega arith in
    let few : k ≤ length (take m bytes) = omega arith in
    ap (λ (i : ℕ). take i (old ++ take m bytes)) same ∙ take-append-add old (take m bytes) k
    ∙ ap (λ (t : List ℕ). old ++ t)
    (sym (take-append-le k (take m bytes) (drop m bytes) few) ∙ ap (take k) (take-append-drop m bytes))

-- what is known where a head is whole, m of the bytes that came standing after what was kept of it
pub record IsEnd (old bytes head : List ℕ) (before : ℕ) (frame : Frame) : Type 0 where
  pub above : before < frame.size
  pub few : frame.size - before ≤ length bytes
  pub own : take frame.size head ≡ old ++ take (frame.size - before) bytes

pub head_end : FramesGrow → (old bytes head : List ℕ) (m before : ℕ) (frame : Frame) → before ≡ length old → IsUndecided old
    → head ≡ old ++ take m bytes → ReadsFrame head (Ok frame) → IsEnd old bytes head before frame
head_end law old bytes head m before frame long none is reads =
    let grown = head_grown law old (take m bytes) frame none (subst (λ (t : List ℕ). ReadsFrame t (Ok frame)) is reads) in
    let size = length-take m bytes in
    record {
      above = omega (arith, long, grown.0);
      few = omega (arith, long, grown.1, size);
      own =
          ap (take frame.size) is ∙ own_bytes old bytes m frame.size (omega (arith, grown.0)) grown.1
          ∙ ap (λ (n : ℕ). old ++ take (frame.size - n) bytes) (sym long);
    }

pub take_taken : (m : ℕ) (bytes : List ℕ) → take m bytes ≡ take (length (take m bytes)) bytes
take_taken m bytes =
    sym (take-append_seam (take m bytes) (drop m bytes))
    ∙ ap (take (length (take m bytes))) (take-append-drop m bytes)

-- what was taken of a head
pub takes_head : (part : Part) (bytes : List ℕ) (old new : Status) → ¬ (part ≡ Stray) → old.left ≡ None
    → TakesHead part (old.head ++ bytes) old new → Takes part bytes old new
takes_head Stray bytes old new other none takes = absurd (other refl)
takes_head Head bytes old new other none takes = (none, takes)
takes_head Interim bytes old new other none takes = (none, takes)
takes_head Begun bytes old new other none takes = (none, takes)
takes_head Body bytes old new other none takes = absurd takes
takes_head Again bytes old new other none takes = (none, takes)
takes_head Refused bytes old new other none takes = (none, takes)
