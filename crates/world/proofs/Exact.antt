-- A check says "same" exactly where the catalogue has the client's tag under its name.
use Rattle.std.proofs.Common.{◌≡◌, ℕ, List, [], ◌++◌, length, Option, Some, None, Bool, true, false, refl, sym, ap, ◌∙◌, subst, arith, append-nil, take, Ok, Err}
use Rattle.std.specs.Prelude.{slice_get, IfSome, IsSomeAnd, nat_le, if◌then◌else◌, ◌↔◌}
use Rattle.std.specs.Option.{option_map}
use Rattle.std.specs.Str.{bytes_eq}
use Rattle.std.proofs.lemmas.Bool.Decides.{nat_tests}
use Rattle.std.proofs.lemmas.List.{take_all, length-append}
use Rattle.std.proofs.lemmas.Option.{none-some, same_Some}
use Rattle.std.proofs.lemmas.Slice.Eq.{bytes_eq-Decides}
use Rattle.http_range.specs.Ask.{check_with}
use Rattle.http_range.specs.Book.{Publication, published}
use Rattle.http_range.specs.declared.reading.Why.TheVariants.{Cut}
use Rattle.http_range.specs.Reading.{front_tag, tag_seen}
use Rattle.http_range.specs.declared.reply.Reply.TheVariants.{R200, R304}
use Rattle.http_range.specs.Reply.{head_text}
use Rattle.http_range.specs.Response.{Response, IsAnswer, text_of, response_to_check, with_tag}
use Rattle.cog_client.specs.declared.delivered.Current.{Current}
use Rattle.cog_client.specs.declared.delivered.Current.TheVariants.{Same, Other}
use Rattle.cog_client.specs.Check.{current_by}
use Rattle.cog_client.specs.Client.{ClientState, fields_of, host_of, name_of}
use Rattle.world.specs.declared.event.Event.{Event}
use Rattle.world.specs.declared.event.AnsweredCheck.{AnsweredCheck}
use Rattle.world.specs.declared.event.AnsweredRequest.{AnsweredRequest}
use Rattle.world.specs.declared.event.Effect.{Effect}
use Rattle.world.specs.declared.event.Entry.{Entry}
use Rattle.world.specs.World.{World, Seen, check_in, IsExactEntry}
use Rattle.world.specs.Run.{IsExchanged, asked_effect, seen}
use Rattle.world.specs.State.{IsCheckBy, IsCheckOfKeeping, IsCheckedKeeping, StepKeeping}
use Rattle.world.specs.LowerLaws.{LowerLaws}
use Rattle.world.proofs.Lists.{get-map}
use Rattle.world.proofs.Effects.{HoldsElse, at_effect, of_call, of_step}
use Rattle.world.proofs.Good.{Good}

-- both answers about a file tell its tag
tag_told : (b : Bool) (p : Publication)
    → tag_seen (if b then with_tag p (R304 p.tag) true [] else with_tag p (R200 p.tag (length p.file)) true []).reply ≡ Ok p.tag
tag_told true p = refl
tag_told false p = refl

same_by : (b : Bool) (current : Current) → current ≡ (if b then Same else Other) → (current ≡ Same) ↔ (b ≡ true)
same_by true current is = (λ e. refl, λ e. is)
same_by false current is = (λ e. absurd (cc), λ e. absurd (cc))

-- what is said of a tag, by what the catalogue has under the name
exact_by : (o : Option Publication) (tag : List ℕ) (current : Current) → current ≡ current_by tag (tag_seen (response_to_check o tag).reply) → (current ≡ Same) ↔ (option_map (λ p. p.tag) o ≡ Some tag)
exact_by None tag current is = (λ e. absurd (cc), λ e. absurd (none-some tag e))
exact_by (Some p) tag current is =
    let told : current ≡ current_by tag (Ok p.tag) = is ∙ ap (λ r. current_by tag r) (tag_told (bytes_eq tag p.tag) p) in
    let same = same_by (bytes_eq tag p.tag) current told in
    (λ e. ap Some (sym ((bytes_eq-Decides tag p.tag).0 (same.0 e))), λ e. same.1 ((bytes_eq-Decides tag p.tag).1 (sym (same_Some _ _ e))))

-- a whole answer is no cut one
whole_told : (s : Response) → front_tag s.reply s.close (length (text_of s)) ≡ tag_seen s.reply
whole_told s =
    let n = length (head_text s.reply s.close) in
    let enough : nat_le n (length (text_of s)) ≡ true = grind (arith, nat_tests, length-append (head_text s.reply s.close) s.body) in
    ap (λ (b : Bool). if b then tag_seen s.reply else Err Cut) enough

-- the check says "same" exactly where the catalogue has the tag under the client's name
abbrev IsExact : World → AnsweredCheck → Type 0
IsExact w k = IsSomeAnd (slice_get w.clients k.client) (λ s. (k.current ≡ Same) ↔ (option_map (λ p. p.tag) (published s.name w.catalogue) ≡ Some k.tag))

abbrev InCheck : World → Effect → Type 0
InCheck w effect = IfSome (check_in effect) (IsExact w)

module _ (laws : LowerLaws) where
  exact_check : (w : World) (cs : List ClientState) (i : ℕ) (c : ClientState) (k : AnsweredCheck) → Good w cs → slice_get cs i ≡ Some c → IsCheckOfKeeping w.catalogue (length w.sent) i c k → IsExact w k
  exact_check w cs i c k g at h =
      let s = h.seen.answered.response in
      let host = host_of c in
      let name = name_of c in
      let text : k.request.items ≡ check_with host name (fields_of c) k.tag ++ [] = h.seen.text ∙ sym (append-nil _) in
      let P : List ℕ → Type 0 = λ m. IsAnswer w.catalogue m s in
      let answered = subst P h.seen.text h.seen.answered.answers in
      let response : s ≡ response_to_check (published name w.catalogue) k.tag = (laws.checks w.catalogue host name (fields_of c) k.tag [] s h.lawful).0 (subst P text h.seen.answered.answers) in
      let bytes : k.answer.text.items ≡ take (length (text_of s)) (text_of s) = h.seen.answered.shows.text ∙ sym (take_all (length (text_of s)) (text_of s) (omega arith)) in
      let read = laws.read.answer w.catalogue (check_with host name (fields_of c) k.tag) k.answer.text.items s (length (text_of s)) h.seen.current.0 g.lawful answered bytes h.seen.current.1 in
      let told : k.current ≡ current_by k.tag (tag_seen (response_to_check (published name w.catalogue) k.tag).reply) =
      h.seen.current.2 ∙ (ap (λ r. current_by k.tag r) (read ∙ whole_told s) ∙ ap (λ (r : Response). current_by k.tag (tag_seen r.reply)) response) in
      let there = ap (λ j. slice_get w.clients j) h.seen.client ∙ ap (λ (ss : List Seen). slice_get ss i) (sym g.seen_are) ∙ (get-map seen cs i ∙ ap (λ (o : Option ClientState). option_map seen o) at) in
      subst (λ (o : Option Seen). IsSomeAnd o (λ s. (k.current ≡ Same) ↔ (option_map (λ p. p.tag) (published s.name w.catalogue) ≡ Some k.tag))) (sym there) (exact_by (published name w.catalogue) k.tag k.current told)

  exact_checked : (w : World) (cs : List ClientState) (i : ℕ) (c : ClientState) (o : Option AnsweredCheck) (effect : Effect) → Good w cs → slice_get cs i ≡ Some c → IsCheckedKeeping w.catalogue (length w.sent) i c o effect → IfSome (check_in effect) (IsExact w)
  exact_checked w cs i c None effect g at h = let P : Effect → Type 0 = λ e. IfSome (check_in e) (IsExact w) in subst P (sym h.0) tt
  exact_checked w cs i c (Some k) effect g at h = let P : Effect → Type 0 = λ e. IfSome (check_in e) (IsExact w) in subst P (sym h.0) (exact_check w cs i c k g at h.1)

  exact_at : (o : Option ClientState) (w : World) (cs new : List ClientState) (i : ℕ) (n : Entry) → slice_get cs i ≡ o → Good w cs → IsCheckBy o w.catalogue (length w.sent) i n cs new → IfSome (check_in n.effect) (IsExact w)
  exact_at None w cs new i n at g h = let P : Effect → Type 0 = λ e. IfSome (check_in e) (IsExact w) in subst P (sym h.done) tt
  exact_at (Some c) w cs new i n at g h = exact_checked w cs i c h.0 n.effect g at h.1

  asked_exact : (w : World) (i : ℕ) (o : Option AnsweredRequest) (effect : Effect) → effect ≡ asked_effect i o → IfSome (check_in effect) (IsExact w)
  asked_exact w i None effect is = at_effect (InCheck w) effect _ is tt
  asked_exact w i (Some a) effect is = at_effect (InCheck w) effect _ is tt

  exchanged_exact : (w : World) (i : ℕ) (o : Option AnsweredRequest) (effect : Effect) (mid next : ClientState) → IsExchanged i o effect mid next → IfSome (check_in effect) (IsExact w)
  exchanged_exact w i None effect mid next h = at_effect (InCheck w) effect _ h.0 tt
  exchanged_exact w i (Some a) effect mid next h = at_effect (InCheck w) effect _ h.1 tt

  nothing_checked : (w : World) → HoldsElse (InCheck w)
  nothing_checked w = record {
    skipped = tt;
    published = λ tag. tt;
    refused = λ e. tt;
    epoch = λ e. tt;
    made = λ k. tt;
    opened = λ i. tt;
    forgot = λ i. tt;
    answered = λ k a. tt;
    delivered = λ i what. tt;
  }

  pub exact_step : (w : World) (cs : List ClientState) (e : Event) (n : Entry) (new : List ClientState) → Good w cs → StepKeeping w cs e n new → IsExactEntry w e n
  exact_step w cs e n new g h =
      let P = InCheck w in
      let none = nothing_checked w in
      of_step P none w cs e n new (λ i is k. of_call P none (slice_get cs i) _ i n cs new (λ c next at d. asked_exact w i d.does.seen.0 n.effect d.does.seen.2) k)
      (λ i is k. of_call P none (slice_get cs i) _ i n cs new (λ c next at d. exchanged_exact w i d.does.seen.0 n.effect d.does.seen.1 next d.does.seen.3) k)
      (λ i is k. exact_at (slice_get cs i) w cs new i n refl g k) h
