-- What is kept of an answer between two of its pieces.
use Rattle.std.proofs.Common.{◌≡◌, ℕ, List, ◌++◌, ◌-◌, length, take, drop, ap, ◌∙◌, arith, inl, length-drop, length-take}
use Rattle.std.proofs.Math.Seq.{take-append_seam}
use Rattle.std.proofs.lemmas.List.{take_all}
use Rattle.std.specs.Prelude.{Result, IfOk, OnOk, OnErr, Ok, Err}
use Rattle.cog_client.specs.declared.answer_phase.AnswerPhase.{AnswerPhase}
use Rattle.cog_client.specs.declared.answer_phase.AnswerPhase.TheVariants as kept
use Rattle.cog_client.specs.PartialAnswer.{feed_in, IsPartialAnswer, IsBounded, IsHeadless}
use Rattle.cog_client.specs.AnswerPhase.{waits}
use Rattle.cog_client.specs.Head.{IsWaiting}

-- the rooms hold what is kept
pub bounded : (f : AnswerPhase) (head part : List ℕ) → IsPartialAnswer f head part → IsBounded (feed_in f head part)
bounded (kept.Waits len) head part is = let short = is.sound.0 in omega (arith, length-take len head, short)
bounded (kept.Unused why) head part is = tt
bounded (kept.Passed why) head part is = tt
bounded (kept.Follows found case body) head part is = is.part_room

-- a room that is written keeps its place
pub room_is : (n : ℕ) (room items : List ℕ) → n ≡ length room → take n (room ++ drop (length room) items) ≡ room
room_is n room items is =
    ap (λ (k : ℕ). take k (room ++ drop (length room) items)) is ∙ take-append_seam room (drop (length room) items)

pub waits_on : (front bytes room : List ℕ) (len : ℕ) → IsWaiting (front ++ bytes) room len → IsHeadless (front ++ bytes) (waits (take len room))
waits_on front bytes room len is =
    let long = ap length is.kept in
    let short = is.short in
    inl (record { keeps = ap waits is.kept; short = omega (arith, length-take len room, long, short); none = is.none })

-- what follows after a success
pub then_ok : {A E : Type 0} {P Q : Type 0} (r : Result A E) → (P → Q) → OnOk r P → OnOk r Q
then_ok (Ok a) f h = f h
then_ok (Err e) f h = tt

-- and after a refusal
pub then_err : {A E : Type 0} {P Q : Type 0} (r : Result A E) → (P → Q) → OnErr r P → OnErr r Q
then_err (Ok a) f h = tt
then_err (Err e) f h = f h

pub then_if_ok : {A E : Type 0} {P Q : A → Type 0} (r : Result A E) → ((a : A) → P a → Q a) → IfOk r P → IfOk r Q
then_if_ok (Ok a) f h = f a h
then_if_ok (Err e) f h = tt

-- the bytes from a place on are all of those
pub sliced : (n : ℕ) (xs : List ℕ) → take (length xs - n) (drop n xs) ≡ drop n xs
sliced n xs = take_all (length xs - n) (drop n xs) (omega (arith, length-drop n xs))
