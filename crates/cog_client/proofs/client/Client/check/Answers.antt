use Rattle.std.proofs.Common.{◌≡◌, ◌≤◌, List, ℕ, true, length, sym, ap, subst, ◌∙◌}
use Rattle.std.specs.Prelude.{IfSome, IsTrue}
use Rattle.http_fields.specs.Tag.{is_kept_tag}
use Rattle.http_range.specs.Ask.{CanCheck, check_with}
use Rattle.cog_client.specs.declared.request_options.TheConstants.{REQUEST_LIMIT, URL_REQUEST_LIMIT}
use Rattle.cog_client.specs.Client.{IsPlain, host_of, how_of, name_of}
use Rattle.cog_client.proofs.LengthLemmas.{check_short, check_within}
use Rattle.cog_client.proofs.client.Client.check.Goals as goal

pub returns-in_ok-text-in-Some-clause-short : goal.returns-in_ok-text-in-Some-clause-short
unfolding host_of how_of name_of
returns-in_ok-text-in-Some-clause-short c = λ plain.
    let i = c.self.inside in
    let tag = c.in-Some.tag.now in
    let own = subst IsPlain (sym c.self.view_is) plain in
    let kept : is_kept_tag tag ≡ true = subst (λ o. IfSome o (λ t. IsTrue (is_kept_tag t))) (sym c.in-Some.ensures.tag) c.in-Some.ensures.kept in
    let can : CanCheck i.host.items i.name.items i.how.fields tag = record { to_host = c.self.invariant.hosted; of_name = c.self.invariant.named; adds = c.may_be_added.ensures; kept = kept } in
    let is : c.in_ok-text-in-Some.text.items ≡ check_with i.host.items i.name.items i.how.fields tag =
    c.in_ok-text-in-Some.ensures ∙ ap (λ (host : List ℕ). check_with host c.deref-in-Some.result.now i.how.fields tag) c.deref.ensures.value
    ∙ ap (λ (name : List ℕ). check_with i.host.items name i.how.fields tag) c.deref-in-Some.ensures.value in
    subst (λ (xs : List ℕ). length xs ≤ REQUEST_LIMIT) (sym is)
    (check_short c.law_requests_are_short.ensures i.host.items i.name.items i.how.fields tag can own.0 own.1 own.2)

pub returns-in_ok-text-in-Some-clause-long : goal.returns-in_ok-text-in-Some-clause-long
returns-in_ok-text-in-Some-clause-long c =
    let i = c.self.inside in
    let tag = c.in-Some.tag.now in
    let kept : is_kept_tag tag ≡ true = subst (λ o. IfSome o (λ t. IsTrue (is_kept_tag t))) (sym c.in-Some.ensures.tag) c.in-Some.ensures.kept in
    let can : CanCheck i.host.items i.name.items i.how.fields tag = record { to_host = c.self.invariant.hosted; of_name = c.self.invariant.named; adds = c.may_be_added.ensures; kept = kept } in
    let is : c.in_ok-text-in-Some.text.items ≡ check_with i.host.items i.name.items i.how.fields tag =
    c.in_ok-text-in-Some.ensures ∙ ap (λ (host : List ℕ). check_with host c.deref-in-Some.result.now i.how.fields tag) c.deref.ensures.value
    ∙ ap (λ (name : List ℕ). check_with i.host.items name i.how.fields tag) c.deref-in-Some.ensures.value in
    subst (λ (xs : List ℕ). length xs ≤ URL_REQUEST_LIMIT) (sym is) (check_within c.law_requests_are_short.ensures i.host.items i.name.items i.how.fields tag can)
