use Rattle.std.proofs.Common.{◌≡◌, ℕ, ◌++◌, List, length, take, drop, sym, ap, ◌∙◌, subst, arith, inl, inr, min, append_assoc, take-append-drop}
use Rattle.std.proofs.lemmas.Bool.{cases_lt}
use Rattle.std.proofs.lemmas.List.{take_all}
use Rattle.std.specs.Prelude.{OnErr, OnOk, Result, Ok, Err}
use Rattle.extents.specs.declared.span.Span.{Span}
use Rattle.http_range.specs.Announced.{Announced}
use Rattle.range_cache.specs.Cache.{Blocks}
use Rattle.cog_client.specs.Body.{Extends, IsBody, IsStopped, Stops}
use Rattle.cog_client.proofs.GoingLemmas.{refused}
use Rattle.cog_client.proofs.body.Body.take.Goals as goal

-- no more of the bytes than there are
limited : (n : ℕ) (bytes : List ℕ) → take (min n (length bytes)) bytes ≡ take n bytes
limited n bytes = elim (cases_lt n (length bytes)) [
  | inl fewer ↦ ap (λ (k : ℕ). take k bytes) (let same : min n (length bytes) ≡ n = omega (arith, fewer) in same)
  | inr all ↦
      let same : min n (length bytes) ≡ length bytes = omega (arith, all) in
      ap (λ (k : ℕ). take k bytes) same ∙ take_all (length bytes) bytes (omega arith) ∙ sym (take_all n bytes all)
]

-- some bytes after a body, and then the others
joined : (body bytes rest : List ℕ) (m : ℕ) → rest ≡ drop m bytes → (body ++ take m bytes) ++ rest ≡ body ++ bytes
joined body bytes rest m is =
    ap (λ (xs : List ℕ). (body ++ take m bytes) ++ xs) is ∙ append_assoc body (take m bytes) (drop m bytes)
    ∙ ap (λ (xs : List ℕ). body ++ xs) (take-append-drop m bytes)

pub returns-in_err-rest-clause-err : goal.returns-in_err-rest-clause-err
returns-in_err-rest-clause-err c =
    let a = c.args in
    let all = ap (λ (k : ℕ). take k a.bytes.now) c.min-count.ensures ∙ limited a.self.now.left a.bytes.now in
    refused c.from_residual.result (Stops a.self.now a.part.now a.cache.now (take a.self.now.left a.bytes.now) c.finish.new.cache)
    (subst (λ (xs : List ℕ). Stops a.self.now a.part.now a.cache.now xs c.finish.new.cache) all c.in_err-rest.ensures.err)

-- what follows after a success, and after a refusal
then_ok : {A E : Type 0} {P Q : Type 0} (r : Result A E) → (P → Q) → OnOk r P → OnOk r Q
then_ok (Ok a) f h = f h
then_ok (Err e) f h = tt

then_err : {A E : Type 0} {P Q : Type 0} (r : Result A E) → (P → Q) → OnErr r P → OnErr r Q
then_err (Ok a) f h = tt
then_err (Err e) f h = f h

pub returns-clause-ok : goal.returns-clause-ok
returns-clause-ok c =
    let a = c.args in
    let all = ap (λ (k : ℕ). take k a.bytes.now) c.min-count.ensures ∙ limited a.self.now.left a.bytes.now in
    let e = c.in_ok-rest.ensures.ok in
    then_ok c.go_on.result (λ (goes : Extends c.finish.new.self c.finish.new.part c.finish.new.cache c.in_ok-rest.rest.now c.go_on.new.self c.go_on.new.part c.go_on.new.cache).
    λ (head : Announced) (start : Blocks) (body : List ℕ) is.
    subst (λ (xs : List ℕ). IsBody head start xs c.go_on.new.self c.go_on.new.part c.go_on.new.cache)
    (joined body (take c.min-count.result a.bytes.now) c.in_ok-rest.rest.now e.0 e.1 ∙ ap (λ (xs : List ℕ). body ++ xs) all)
    (goes head start (body ++ take e.0 (take c.min-count.result a.bytes.now)) (e.4 head start body is)))
    c.go_on.ensures.ok

pub returns-clause-err : goal.returns-clause-err
returns-clause-err c =
    let a = c.args in
    let all = ap (λ (k : ℕ). take k a.bytes.now) c.min-count.ensures ∙ limited a.self.now.left a.bytes.now in
    let e = c.in_ok-rest.ensures.ok in
    then_err c.go_on.result (λ (stops : Stops c.finish.new.self c.finish.new.part c.finish.new.cache c.in_ok-rest.rest.now c.go_on.new.cache).
    λ (head : Announced) (start : Blocks) (body : List ℕ) is.
    subst (λ (s : Span). IsStopped head s start (body ++ take a.self.now.left a.bytes.now) c.go_on.new.cache) c.finish.ensures.span
    (subst (λ (xs : List ℕ). IsStopped head c.finish.new.self.span start xs c.go_on.new.cache)
    (joined body (take c.min-count.result a.bytes.now) c.in_ok-rest.rest.now e.0 e.1 ∙ ap (λ (xs : List ℕ). body ++ xs) all)
    (stops head start (body ++ take e.0 (take c.min-count.result a.bytes.now)) (e.4 head start body is))))
    c.go_on.ensures.err
