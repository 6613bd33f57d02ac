use Rattle.std.proofs.Common.{◌≡◌, List, [], ◌∷◌, ◌++◌, sym, subst, Result, Ok, Err}
use Rattle.std.specs.Prelude.{OnOk}
use Rattle.http_fields.specs.Text.{FieldLine}
use Rattle.cog_client.specs.Client.{ClientState, fields_of, how_of}
use Rattle.cog_client.specs.Keeps.{AddsField}
use Rattle.cog_client.proofs.ClientLemmas.{known}
use Rattle.cog_client.proofs.RequestLemmas.{asks_like}
use Rattle.cog_client.proofs.client.Client.add_field.Goals as goal
use Rattle.cog_client.proofs.client.Client.add_field.Goals.{in-Ok, in-Err}

granted : {A E : Type 0} (r : Result A E) (P : Type 0) → P → OnOk r P
granted (Ok a) P h = h
granted (Err e) P h = tt

withheld : {A E : Type 0} (r : Result A E) (e : E) (P : Type 0) → r ≡ Err e → OnOk r P
withheld (Ok a) e P is = absurd (cc)
withheld (Err x) e P is = tt

pub returns-clause-ok : goal.returns-clause-ok
unfolding how_of
returns-clause-ok c =
    let i = c.self.inside in
    let l : FieldLine = (c.args.name.now, c.args.value.now) in
    let old = c.args.self.now in
    let adds : AddsField l old (record old { how = record (how_of old) { fields = fields_of old ++ l ∷ [] } }) = asks_like old (record (how_of old) { fields = fields_of old ++ l ∷ [] }) in
    let there = subst (λ (m : ClientState). AddsField l old (record m { how = record (how_of m) { fields = fields_of m ++ l ∷ [] } })) (sym c.self.view_is) adds in
    let Adds : List FieldLine → Type 0 = λ fields. AddsField l old (known i.partial_answer (record i.how { fields = fields }) i.host.items i.name.items i.query i.asked i.source i.cache i.report) in
    elim c.match-push.branch [
      | in-Ok w ↦ granted c.match-push.result (Adds c.push.new.self) (subst Adds (sym w.in-Ok.ensures.ok) there)
      | in-Err w ↦ withheld c.match-push.result _ (Adds c.push.new.self) w.result-is
    ]
