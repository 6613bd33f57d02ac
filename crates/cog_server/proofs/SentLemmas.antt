-- Writing an answer in two parts.
use Rattle.std.proofs.Common.{◌≡◌, ℕ, zero, suc, ◌+◌, ◌<◌, Bool, true, false, ◌&&◌, ◌||◌, ◌==◌, not, List, [], ◌∷◌, ◌++◌, take, drop, Option, Some, None, Result, Ok, Err, refl, sym, ap, ◌∙◌, subst, append_assoc, arith}
use Rattle.std.proofs.lemmas.Bool.Decides.{nat_tests}
use Rattle.std.specs.Prelude.{IsErrAnd}
use Rattle.std.specs.Io.KnownBytes.{append_known}
use Rattle.cog_server.specs.declared.served.ServeError.{ServeError}
use Rattle.cog_server.specs.declared.served.ServeError.TheVariants.{Write}
use Rattle.cog_server.specs.Sent.{IsBroken, IsWritten, Writes}
use Rattle.cog_server.proofs.ServeLemmas.{known_append}

took_then : (taken taken' taken'' : Option (List ℕ)) (a b : List ℕ) → taken' ≡ append_known taken a
    → taken'' ≡ append_known taken' b → taken'' ≡ append_known taken (a ++ b)
took_then taken taken' taken'' a b first next =
    next ∙ ap (λ (k : Option (List ℕ)). append_known k b) first ∙ known_append taken a b

pub both_written : (taken taken' taken'' : Option (List ℕ)) (f f' : Bool) (a b whole : List ℕ) → a ++ b ≡ whole
    → IsWritten taken taken' f a → IsWritten taken' taken'' f' b → IsWritten taken taken'' f' whole
both_written taken taken' taken'' f f' a b whole is first next = record {
  took = took_then taken taken' taken'' a b first.took next.took ∙ ap (λ (t : List ℕ). append_known taken t) is;
  unfailed = next.unfailed;
}

pub then_broken : (taken taken' taken'' : Option (List ℕ)) (f f' : Bool) (a b whole : List ℕ) → a ++ b ≡ whole
    → IsWritten taken taken' f a → IsBroken taken' taken'' f' b → IsBroken taken taken'' f' whole
then_broken taken taken' taken'' f f' a b whole is first next = record {
  written = a ++ next.written;
  front = (
    next.front.0,
    append_assoc a next.written next.front.0 ∙ ap (λ (t : List ℕ). a ++ t) next.front.1 ∙ is,
  );
  took = took_then taken taken' taken'' a next.written first.took next.took;
  failed = next.failed;
}

pub first_broken : (taken taken' : Option (List ℕ)) (f : Bool) (a b whole : List ℕ) → a ++ b ≡ whole
    → IsBroken taken taken' f a → IsBroken taken taken' f whole
first_broken taken taken' f a b whole is first = record {
  written = first.written;
  front = (
    first.front.0 ++ b,
    sym (append_assoc first.written first.front.0 b) ∙ ap (λ (t : List ℕ). t ++ b) first.front.1 ∙ is,
  );
  took = first.took;
  failed = first.failed;
}

-- the failure is passed on
pub writes_broken : {A : Type 0} (taken taken' : Option (List ℕ)) (f : Bool) (text : List ℕ) (result : Result A ServeError) (e : ServeError)
    → IsErrAnd result (λ x. x ≡ e) → e ≡ Write → IsBroken taken taken' f text → Writes taken taken' f text result
writes_broken taken taken' f text (Ok a) e is same broken = absurd is
writes_broken {A} taken taken' f text (Err x) e is same broken =
    subst (λ (y : ServeError). Writes {A = A} taken taken' f text (Err y)) (sym (is ∙ same)) broken

-- ---- what is moved

take_none : (n : ℕ) (none : List ℕ) → none ≡ [] → take n none ≡ []
take_none zero none e = refl
take_none (suc n) none e = ap (λ (xs : List ℕ). take (suc n) xs) e

-- the first a bytes, and the next b
pub take_both : (a b : ℕ) (xs : List ℕ) → take (a + b) xs ≡ take a xs ++ take b (drop a xs)
take_both zero b xs = let e : 0 + b ≡ b = omega arith in ap (λ (k : ℕ). take k xs) e
take_both (suc a) b [] = take_none (suc a + b) [] refl ∙ sym (take_none b [] refl)
take_both (suc a) b (x ∷ xs) =
    let e : suc a + b ≡ suc (a + b) = omega arith in ap (λ (k : ℕ). take k (x ∷ xs)) e ∙ ap (λ (ys : List ℕ). x ∷ ys) (take_both a b xs)

-- in two steps
pub took_both : (taken taken' taken'' : Option (List ℕ)) (bytes : List ℕ) (a b : ℕ) → taken' ≡ append_known taken (take a bytes)
    → taken'' ≡ append_known taken' (take b (drop a bytes)) → taken'' ≡ append_known taken (take (a + b) bytes)
took_both None taken' taken'' bytes a b first next =
    next ∙ ap (λ (k : Option (List ℕ)). append_known k (take b (drop a bytes))) first
took_both (Some xs) taken' taken'' bytes a b first next =
    next ∙ ap (λ (k : Option (List ℕ)). append_known k (take b (drop a bytes))) first
    ∙ ap Some (append_assoc xs (take a bytes) (take b (drop a bytes)) ∙ ap (λ (t : List ℕ). xs ++ t) (sym (take_both a b bytes)))

not_zero : (n : ℕ) → 0 < n → (n == 0) ≡ false
not_zero n some = grind (arith, nat_tests)

-- whether a write has failed, after one more
pub stopped : (old new : Bool) (n len : ℕ) → new ≡ (old || (n == 0 && not (len == 0))) → n ≡ 0 → 0 < len → new ≡ true
stopped true new n len is none some = is
stopped false new n len is none some =
    let other : (len == 0) ≡ false = not_zero len some in
    is ∙ ap (λ (k : ℕ). k == 0 && not (len == 0)) none ∙ ap not other

pub went_on : (old new : Bool) (n len : ℕ) → new ≡ (old || (n == 0 && not (len == 0))) → old ≡ false → 0 < n → new ≡ false
went_on old new n len is unfailed some =
    is ∙ ap (λ (b : Bool). b || (n == 0 && not (len == 0))) unfailed ∙ ap (λ (b : Bool). b && not (len == 0)) (not_zero n some)

pub failed_now : (old new : Bool) → new ≡ (old || true) → new ≡ true
failed_now true new is = is
failed_now false new is = is
