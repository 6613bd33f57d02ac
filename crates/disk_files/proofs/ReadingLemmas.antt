-- A text that is compared with what is given, piece by piece.
use Rattle.std.proofs.Common.{◌≡◌, ◌≢◌, ◌++◌, ◌+◌, ◌-◌, ◌≤◌, ◌∙◌, arith, inl, inr, IfSome, [], ap, drop, false, length, List, None, ℕ, nat_eq, Option, Some, subst, sym, take, take-append-drop, true}
use Rattle.std.proofs.lemmas.Bool.{cases_lt}
use Rattle.std.proofs.lemmas.List.{append_cancel_left, length-take, take-append-le, take_all}
use Rattle.std.proofs.Math.Seq.{take-append-add}
use Rattle.std.specs.Cmp.Lexicographic.{other_text, pointwise, same_text}
use Rattle.std.specs.Io.KnownBytes.{Consumes}
use Rattle.std.specs.Option.{option_map}
use Rattle.disk_files.specs.Given.{IsDifference}
use Rattle.disk_files.specs.declared.reading.Difference.{Difference}
use lib.Seq.{take-append_seam}

-- a text that begins with a piece is the piece and what is behind it
pub begins : (rest piece behind : List ℕ) → pointwise nat_eq (take (length piece) rest) piece ≡ true → behind ≡ drop (length piece) rest
    → rest ≡ piece ++ behind
begins rest piece behind same left = sym (take-append-drop (length piece) rest) ∙ ap (λ l. l ++ drop (length piece) rest) (same_text _ _ (sym same))
    ∙ ap (λ l. piece ++ l) (sym left)

-- what goes on otherwise than a text isn't that text
pub differs : (front rest piece left given bytes : List ℕ) → given ≡ front ++ (piece ++ left) → bytes ≡ front ++ rest
    → pointwise nat_eq (take (length piece) rest) piece ≡ false → given ≢ bytes
differs front rest piece left given bytes is text other same =
    let goes_on : piece ++ left ≡ rest = append_cancel_left front _ _ (sym is ∙ same ∙ text) in
    other_text _ _ (sym other) (ap (take (length piece)) (sym goes_on) ∙ take-append_seam piece left)

consumed : (after : Option (List ℕ)) (piece given : List ℕ) → Consumes (Some given) after piece → (left : List ℕ) × (given ≡ piece ++ left)
consumed None piece given h = absurd h
consumed (Some left) piece given h = (left, h)

-- what is given begins with what came of it
pub came : (before after : Option (List ℕ)) (piece given : List ℕ) → before ≡ Some given → Consumes before after piece
    → (left : List ℕ) × (given ≡ piece ++ left)
came before after piece given known h = consumed after piece given (subst (λ o. Consumes o after piece) known h)

-- what is read of known bytes up to a limit, into no bytes, is their front
pub front : (known : Option (List ℕ)) (limit most : ℕ) (given old new : List ℕ) → known ≡ Some given → limit ≡ most → old ≡ []
    → IfSome (option_map (take limit) known) (λ xs. new ≡ old ++ xs) → new ≡ take most given
front known limit most given old new is same empty read =
    let here : new ≡ old ++ take limit given = subst (λ o. IfSome (option_map (take limit) o) (λ xs. new ≡ old ++ xs)) is read in
    here ∙ ap (λ l. l ++ take limit given) empty ∙ ap (λ n. take n given) same

-- what is left of a front that is too long, and of one that isn't, where no more is read than up to the limit
cut : (enough : ℕ) (front left : List ℕ) → take enough (front ++ take (enough - length front) left) ≡ take enough (front ++ left)
cut enough front left =
    elim (cases_lt enough (length front)) [
      | inr few ↦
          let m : ℕ = enough - length front in
          let whole : enough ≡ length front + m = omega arith in
          let at : (ys : List ℕ) → take enough (front ++ ys) ≡ front ++ take m ys = λ ys. ap (λ n. take n (front ++ ys)) whole ∙ take-append-add front ys m in
          at (take m left) ∙ ap (λ l. front ++ l) (take_all m (take m left) (subst (λ n. n ≤ m) (sym (length-take m left)) (omega arith))) ∙ sym (at left)
      | inl many ↦ take-append-le enough front _ (omega arith) ∙ sym (take-append-le enough front left (omega arith))
    ]

-- what came as expected, the piece behind it, and what is read then up to a limit, is what is given up to there
pub other_read : (known after left : Option (List ℕ)) (o : Option Difference) (found : Difference) (expected piece first second all given : List ℕ) (limit enough : ℕ)
    → known ≡ Some given → IfSome o (λ found. IsDifference known after expected piece found) → o ≡ Some found
    → first ≡ take found.same expected → second ≡ first ++ take found.other piece → left ≡ after
    → IfSome (option_map (take limit) left) (λ xs. all ≡ second ++ xs) → limit ≡ enough - length second → take enough all ≡ take enough given
other_read known after left o found expected piece first second all given limit enough is difference there head front same read rest =
    let d : IsDifference known after expected piece found = subst (λ o. IfSome o (λ found. IsDifference known after expected piece found)) there difference in
    let both : take found.same expected ++ take found.other piece ≡ second = ap (λ h. h ++ take found.other piece) (sym head) ∙ sym front in
    by after (subst (λ k. Consumes k after second) is (subst (Consumes known after) both d.came))
    (subst (λ l. IfSome (option_map (take limit) l) (λ xs. all ≡ second ++ xs)) same read)
  where
    by : (after : Option (List ℕ)) → Consumes (Some given) after second → IfSome (option_map (take limit) after) (λ xs. all ≡ second ++ xs)
        → take enough all ≡ take enough given
    by None came read = absurd came
    by (Some left) came read =
        ap (take enough) (read ∙ ap (λ n. second ++ take n left) rest) ∙ cut enough second left ∙ ap (take enough) (sym came)
