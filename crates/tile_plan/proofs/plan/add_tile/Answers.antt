use Rattle.std.proofs.Common.{◌≡◌, ◌-◌, ◌<◌, ◌++◌, ◌∷◌, [], set, map, refl, sym, ap, ◌∙◌, arith, Result, Ok, Err}
use Rattle.std.specs.Result.{OnOk}
use Rattle.std.specs.Vec.{vec_len}
use Rattle.std.proofs.lemmas.Grind.{common_steps}
use Rattle.std.proofs.lemmas.List.{set-get_or}
use Rattle.extents.specs.Extent.{extent_of_span}
use Rattle.tile_plan.specs.Groups.{with_tile}
use Rattle.tile_plan.specs.Plan.{group_of}
use Rattle.tile_plan.proofs.GroupLemmas.{added_join, added_apart, added_first}
use Rattle.tile_plan.proofs.plan.add_tile.Goals as goal
use Rattle.tile_plan.proofs.plan.add_tile.Goals.{in_default-via-in-Some+else-joins, in_default-via-in-None-1}

on_ok : {A E : Type 0} (r : Result A E) {P Q : Type 0} → (P → Q) → OnOk r P → OnOk r Q
on_ok (Ok _) f p = f p
on_ok (Err _) f p = tt

pub returns-in-Some : goal.returns-in-Some
returns-in-Some c =
    let gs = c.args.groups.now.items in
    let g = c.in-Some.group.now in
    let some : 0 < vec_len c.args.groups.now = c.in-Some.ensures.variant.0 refl in
    on_ok c.add.result
    (λ (next : group_of c.add.new.self ≡ with_tile (group_of g) c.args.tile (extent_of_span c.args.span)).
    added_join gs (vec_len c.args.groups.now - 1) g c.add.new.self c.args.tile (extent_of_span c.args.span) (omega (arith, some)) c.in-Some.ensures.value
    (sym c.joins.ensures ∙ c.if-joins.true) next)
    c.add.ensures

pub returns-in_ok-push-in_default : goal.returns-in_ok-push-in_default
returns-in_ok-push-in_default c =
    let gs = c.args.groups.now.items in
    let new = c.in_ok-alone-in_default.field-0 in
    let len = vec_len c.args.groups.now in
    let r = extent_of_span c.args.span in
    elim c.in_default.branch [
      | in_default-via-in-Some+else-joins w ↦ (
          let some : 0 < len = w.in-Some.ensures.variant.0 refl in
          let g = w.in-Some.group.now in
          let same : set gs (len - 1) g ≡ gs = ap (set gs (len - 1)) w.in-Some.ensures.value ∙ set-get_or gs (len - 1) g in
          let pushed : c.push.new.self.items ≡ gs ++ new ∷ [] = c.in_ok-push-in_default.ensures.items ∙ ap (λ v. v.items ++ new ∷ []) w.groups-is ∙ ap (λ l. l ++ new ∷ []) same in
          ap (map group_of) pushed
          ∙ added_apart gs (len - 1) g new c.args.tile r (omega (arith, some)) w.in-Some.ensures.value (sym w.joins.ensures ∙ w.if-joins.false) c.in_ok-alone-in_default.ensures
          )
      | in_default-via-in-None-1 w ↦ (
          let pushed : c.push.new.self.items ≡ gs ++ new ∷ [] = c.in_ok-push-in_default.ensures.items ∙ ap (λ v. v.items ++ new ∷ []) w.groups-is in
          ap (map group_of) pushed ∙ added_first gs new c.args.tile r (grind (arith, common_steps, c.last_mut.ensures.variant)) c.in_ok-alone-in_default.ensures
          )
    ]
