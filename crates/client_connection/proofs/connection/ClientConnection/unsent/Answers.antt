use Rattle.std.proofs.Common.{◌≡◌, ◌∷◌, ◌++◌, ◌∙◌, ℕ, List, [], Vec, Global, ap, arith, length, rules, sym, true}
use Rattle.std.specs.Str.{bytes_eq}
use Rattle.std.proofs.lemmas.Slice.Eq.{bytes_eq-Decides}
use Rattle.client_connection.specs.Inside.{texts}
use Rattle.client_connection.proofs.connection.ClientConnection.unsent.Goals as goal
use Rattle.client_connection.proofs.connection.ClientConnection.unsent.Goals.{in_default-via-in-Some-split_first+else-eq, in_default-via-in_default}

-- One begins with the other where it does behind a first text that both have.
behind : (xs ys us vs : List (Vec ℕ Global)) (x y : Vec ℕ Global) (last : List (List ℕ)) → xs ≡ x ∷ us → ys ≡ y ∷ vs → x.items ≡ y.items
    → texts us ≡ texts vs ++ last → texts xs ≡ texts ys ++ last
behind xs ys us vs x y last one other same is = ap texts one ∙ (λ i. same i ∷ is i) ∙ sym (ap (λ l. texts l ++ last) other)

-- and what follows that text is the same
after : (xs ys us vs : List (Vec ℕ Global)) (x y : Vec ℕ Global) (last : List (List ℕ)) → xs ≡ x ∷ us → ys ≡ y ∷ vs
    → texts xs ≡ texts ys ++ last → texts us ≡ texts vs ++ last
after xs ys us vs x y last one other same =
    let both : x.items ∷ texts us ≡ y.items ∷ (texts vs ++ last) = sym (ap texts one) ∙ same ∙ ap (λ l. texts l ++ last) other in cc

pub loop-sent-preserved : goal.loop-sent-preserved
loop-sent-preserved c last = (
  (λ is.
      (c.loop-sent.invariant last).0
      (behind _ _ _ _ c.in-Some-split_first.first.now c.in-Some.sent.now last (search rules) (search rules) (search rules) is)),
  (λ is.
      after _ _ _ _ c.in-Some-split_first.first.now c.in-Some.sent.now last (search rules) (search rules) ((c.loop-sent.invariant last).1 is)),
)

-- and the first texts are one
first : (xs ys us vs : List (Vec ℕ Global)) (x y : Vec ℕ Global) (last : List (List ℕ)) → xs ≡ x ∷ us → ys ≡ y ∷ vs
    → texts xs ≡ texts ys ++ last → x.items ≡ y.items
first xs ys us vs x y last one other same =
    let both : x.items ∷ texts us ≡ y.items ∷ (texts vs ++ last) = sym (ap texts one) ∙ same ∙ ap (λ l. texts l ++ last) other in cc

-- none is left where one is to come
none : (xs ys vs : List (Vec ℕ Global)) (y : Vec ℕ Global) (last : List (List ℕ)) → length xs ≡ 0 → ys ≡ y ∷ vs → texts xs ≡ texts ys ++ last → ⊥
none [] ys vs y last empty other same =
    let clash : [] ≡ y.items ∷ (texts vs ++ last) = same ∙ ap (λ l. texts l ++ last) other in cc
none (x ∷ xs) ys vs y last empty other same = absurd (omega (arith, empty))

self_equal : (xs : List ℕ) → bytes_eq xs xs ≡ true
self_equal xs = grind (arith, bytes_eq-Decides)

pub returns-in_default-clause-all : goal.returns-in_default-clause-all
returns-in_default-clause-all c kept last same =
    let ys = c.loop-sent.sent-iterator.head.now ++ c.loop-sent.sent-iterator.wrapped.now in
    let vs = c.next-in-loop-sent.new.self.head.now ++ c.next-in-loop-sent.new.self.wrapped.now in
    let sent = c.in-Some.sent.now in
    let next : ys ≡ sent ∷ vs = search rules in
    let is = (c.loop-sent.invariant last).1 same in
    absurd (elim c.in_default.branch [
      | in_default-via-in-Some-split_first+else-eq w ↦
          let x = w.in-Some-split_first.first.now in
          let one : c.loop-sent.left.now ≡ x ∷ w.in-Some-split_first.rest.now = search rules in
          let equal : x.items ≡ sent.items = first c.loop-sent.left.now ys w.in-Some-split_first.rest.now vs x sent last one next is in
          cc (self_equal x.items)
      | in_default-via-in_default w ↦
          none c.loop-sent.left.now ys vs sent last (search rules) next is
    ])
