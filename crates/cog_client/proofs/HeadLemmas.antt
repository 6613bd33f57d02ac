-- The head of an answer that comes in pieces.
use Rattle.std.proofs.Common.{◌≡◌, ◌≢◌, ℕ, ◌+◌, ◌-◌, ◌<◌, ◌≤◌, List, ◌++◌, length, take, drop, min, Result, Ok, Err, sym, ap, ◌∙◌, subst, arith, append_assoc, length-append, length-take, take-append-drop}
use Rattle.std.proofs.lemmas.List.{take_all}
use Rattle.std.proofs.Math.Seq.{drop-append-add}
use Rattle.http_range.specs.declared.reading.Why.{Why}
use Rattle.http_range.specs.declared.reading.Why.TheVariants.{Cut, Head}
use Rattle.http_range.specs.Announced.{Announced, FitsFile}
use Rattle.http_range.specs.Laws.{HasNone, HeadsGrow}
use Rattle.http_range.specs.Reading.{ReadsHead}
use Rattle.cog_client.specs.Fed.{IsSettled}
use Rattle.cog_client.specs.Head.{HasNoHead, IsFound, IsWaiting}

module _ (grow : HeadsGrow) (before room bytes : List ℕ) (len k : ℕ) (short : len < 4096) (size : length before ≡ 4096)
    (count : k ≡ min (length bytes) (4096 - len)) (none : HasNoHead (take len before))
    (copied : take (len + length (take k bytes)) room ≡ take len before ++ take k bytes)
    (r : Result Announced Why) (reads : ReadsHead (take (len + k) room) r) where
  abbrev front : List ℕ
  front = take len before

  front_long : length front ≡ len
  front_long = omega (arith, length-take len before, short, size)

  seen : take (len + k) room ≡ front ++ take k bytes
  seen =
      let all : length (take k bytes) ≡ k = omega (arith, length-take k bytes, count) in
      ap (λ (n : ℕ). take (len + n) room) (sym all) ∙ copied

  reads_seen : ReadsHead (front ++ take k bytes) r
  reads_seen = subst (λ (xs : List ℕ). ReadsHead xs r) seen reads

  reads_all : r ≢ Err Cut → ReadsHead (front ++ bytes) r
  reads_all whole =
      let all : (front ++ take k bytes) ++ drop k bytes ≡ front ++ bytes =
      append_assoc front (take k bytes) (drop k bytes) ∙ ap (λ (xs : List ℕ). front ++ xs) (take-append-drop k bytes) in
      subst (λ (xs : List ℕ). ReadsHead xs r) all (grow.stays (front ++ take k bytes) (drop k bytes) r whole reads_seen)

  pub found : (head : Announced) → r ≡ Ok head → FitsFile head → IsFound front bytes head (head.size - len)
  found head is fits =
      let here : ReadsHead (front ++ take k bytes) (Ok head) = subst (ReadsHead (front ++ take k bytes)) is reads_seen in
      let there = (grow.fits (front ++ take k bytes) head here).there in
      let behind = grow.behind front (take k bytes) head none here in
      let at : head.size ≡ length front + (head.size - len) = omega (arith, behind, front_long) in
      record {
        reads = subst (ReadsHead (front ++ bytes)) is (reads_all (λ e. let wrong : Ok head ≡ Err Cut = sym is ∙ e in cc));
        fits = fits;
        inside = omega (arith, there, length-append front (take k bytes), length-take k bytes, front_long);
        body = ap (λ (n : ℕ). take head.length (drop n (front ++ bytes))) at
            ∙ ap (take head.length) (drop-append-add front bytes (head.size - len));
      }

  pub waits : len + k < 4096 → HasNone r → IsWaiting (front ++ bytes) room (len + k)
  waits room_left headless =
      let all : take k bytes ≡ bytes = take_all k bytes (omega (arith, count, room_left)) in
      let here : ReadsHead (front ++ bytes) r = subst (λ (xs : List ℕ). ReadsHead (front ++ xs) r) all reads_seen in
      record {
        short = room_left;
        kept = seen ∙ ap (λ (xs : List ℕ). front ++ xs) all;
        none = λ other reading. grow.none (front ++ bytes) r other headless here reading;
      }

  -- 4,096 bytes are there
  pub full_unused : (why : Why) → r ≡ Err why → 4096 ≤ len + k → ReadsHead (front ++ bytes) (Err why) × IsSettled (front ++ bytes) why
  full_unused why is full =
      let long : 4096 ≤ length (front ++ take k bytes) =
      omega (arith, length-append front (take k bytes), length-take k bytes, front_long, full, count) in
      let whole : r ≢ Err Cut = grow.decided (front ++ take k bytes) r long reads_seen in (
        subst (ReadsHead (front ++ bytes)) is (reads_all whole),
        (λ cut. whole (is ∙ ap Err cut), λ _. omega (arith, length-append front bytes, front_long, full, count)),
      )

  -- the head is there
  pub told_unused : (why : Why) → r ≡ Err why → (why ≢ Cut) × (why ≢ Head) → ReadsHead (front ++ bytes) (Err why) × IsSettled (front ++ bytes) why
  told_unused why is (cut, refused) = (
    subst (ReadsHead (front ++ bytes)) is (reads_all (λ e. let wrong : Err why ≡ Err Cut = sym is ∙ e in let same : why ≡ Cut = cc in cut same)),
    (cut, λ head. absurd (refused head)),
  )
