use Rattle.std.proofs.Common.{◌≡◌, ◌+◌, ◌-◌, ◌<◌, [], ◌∷◌, length, refl, sym, ap, ◌∙◌, subst, arith, length-append}
use Rattle.std.proofs.lemmas.Bool.{eqb-true}
use Rattle.std.proofs.lemmas.Result.{err_from_is_err_and}
use Rattle.geokeys.specs.declared.entry.KeyEntry.{KeyEntry}
use Rattle.geokeys.specs.KeyEntry.{entry_at}
use Rattle.geokeys.specs.Keys.{IsValue}
use Rattle.geokeys.proofs.Numbers.{no_fault, no_fault_of_none, no_keys, keys_next, keys_all, bad_order, value_refused, head_refused, ascend_next, placed_next, Ascend, ArePlaced}
use Rattle.geokeys.proofs.geo.Geo.read.Goals as goal
use Rattle.geokeys.proofs.geo.Geo.read.Goals.{else-i-gt0-via-then-i-gt0+else-entry-entry_at, else-i-gt0-via-else-i-gt0}

pub returns-then-is_empty-clause-keys : goal.returns-then-is_empty-clause-keys
returns-then-is_empty-clause-keys c =
    let d = c.args.directory.now in
    let none : length d ≡ 0 = eqb-true (length d) 0 (sym c.is_empty.ensures ∙ c.if-is_empty.true) in
    no_keys c.args.order d c.args.doubles.now c.args.ascii.now _ none refl c.new-keys.ensures.items

pub returns-then-is_empty-clause-sound : goal.returns-then-is_empty-clause-sound
returns-then-is_empty-clause-sound c =
    let d = c.args.directory.now in
    let none : length d ≡ 0 = eqb-true (length d) 0 (sym c.is_empty.ensures ∙ c.if-is_empty.true) in
    no_fault_of_none c.args.order d c.args.doubles.now c.args.ascii.now none

pub returns-in_err-head-clause-refused : goal.returns-in_err-head-clause-refused
returns-in_err-head-clause-refused c =
    let p = err_from_is_err_and c.from_residual.result c.from_residual.ensures.1 in
    rw (p.1, p.2) (head_refused c.args.order c.args.directory.now c.args.doubles.now c.args.ascii.now c.in_err-head.field-0.0 c.in_err-head.ensures)

pub returns-then-entry-entry_at-clause-refused : goal.returns-then-entry-entry_at-clause-refused
returns-then-entry-entry_at-clause-refused c =
    let i = c.loop-i.i in
    let order = c.args.order in
    let d = c.args.directory.now in
    let next : i - 1 + 1 ≡ i = omega (arith, c.if-i-gt0.true) in
    let lt : i - 1 + 1 < c.in_ok-head.head.keys = omega (arith, next, c.loop-i-test.true, c.from-count.ensures) in
    let here : (entry_at order d (i - 1 + 1)).id ≡ c.entry_at-entry.result.id = ap (λ k. (entry_at order d k).id) next ∙ sym (ap (λ (e : KeyEntry). e.id) c.entry_at-entry.ensures) in
    let before : c.entry_at.result.id ≡ (entry_at order d (i - 1)).id = ap (λ (e : KeyEntry). e.id) c.entry_at.ensures in
    bad_order order d c.args.doubles.now c.args.ascii.now c.in_ok-head.head (i - 1) c.in_ok-head.ensures lt (omega (arith, here, before, c.if-entry-entry_at.true))

pub returns-in_err-value-clause-refused : goal.returns-in_err-value-clause-refused
returns-in_err-value-clause-refused c =
    let p = err_from_is_err_and c.from_residual-in_err-value.result c.from_residual-in_err-value.ensures.1 in
    let lt : c.loop-i.i < c.in_ok-head.head.keys = omega (arith, c.loop-i-test.true, c.from-count.ensures) in
    rw (p.1, p.2) (value_refused c.args.order c.args.directory.now c.args.doubles.now c.args.ascii.now c.in_ok-head.head c.loop-i.i c.entry_at-entry.result c.in_err-value.field-0.0
    c.in_ok-head.ensures lt c.entry_at-entry.ensures c.in_err-value.ensures)

pub loop-i-preserved : goal.loop-i-preserved
loop-i-preserved c =
    let i = c.loop-i.i in
    let order = c.args.order in
    let d = c.args.directory.now in
    let doubles = c.args.doubles.now in
    let ascii = c.args.ascii.now in
    let kept = c.loop-i.invariant in
    let same = c.entry_at-entry.ensures in
    let lt : i < c.in_ok-head.head.keys = omega (arith, c.loop-i-test.true, c.from-count.ensures) in
    let ascends : 0 < i → (entry_at order d (i - 1)).id < (entry_at order d i).id = λ some. elim c.else-i-gt0.branch [
      | else-i-gt0-via-then-i-gt0+else-entry-entry_at w ↦
          omega (arith, w.if-entry-entry_at.false, ap (λ (e : KeyEntry). e.id) same, ap (λ (e : KeyEntry). e.id) w.entry_at.ensures)
      | else-i-gt0-via-else-i-gt0 w ↦ absurd (omega (arith, w.if-i-gt0.false, some))
    ] in
    record {
      size = ap length c.in_ok-push.ensures.items ∙ omega (arith, length-append c.loop-i.keys.items (record { id = c.entry_at-entry.result.id; value = c.in_ok-value.value } ∷ []), kept.size);
      each = keys_next order d doubles ascii c.in_ok-head.head c.loop-i.keys.items c.push.new.self.items (record { id = c.entry_at-entry.result.id; value = c.in_ok-value.value }) i c.in_ok-head.ensures lt
          kept.size kept.each c.in_ok-push.ensures.items (ap (λ (e : KeyEntry). e.id) same)
          (subst (λ (e : KeyEntry). IsValue order doubles ascii e.location e.count e.first c.in_ok-value.value) same c.in_ok-value.ensures.0);
      ascend = ascend_next order d i kept.ascend ascends;
      placed = placed_next order d doubles ascii i c.entry_at-entry.result kept.placed same c.in_ok-value.ensures.1;
    }

pub returns-clause-sound : goal.returns-clause-sound
returns-clause-sound c =
    let order = c.args.order in
    let d = c.args.directory.now in
    let doubles = c.args.doubles.now in
    let ascii = c.args.ascii.now in
    let kept = c.loop-i.invariant in
    let end : c.loop-i.i ≡ c.in_ok-head.head.keys = omega (arith, c.loop-i-test.false, c.loop-i.auto.i-end, c.from-count.ensures) in
    no_fault order d doubles ascii c.in_ok-head.head c.in_ok-head.ensures (subst (λ n. Ascend order d n) end kept.ascend) (subst (λ n. ArePlaced order d doubles ascii n) end kept.placed)

pub returns-clause-keys : goal.returns-clause-keys
returns-clause-keys c =
    let kept = c.loop-i.invariant in
    let end : c.loop-i.i ≡ c.in_ok-head.head.keys = omega (arith, c.loop-i-test.false, c.loop-i.auto.i-end, c.from-count.ensures) in
    keys_all c.args.order c.args.directory.now c.args.doubles.now c.args.ascii.now c.in_ok-head.head _ c.in_ok-head.ensures refl (kept.size ∙ end) kept.each
