use Rattle.std.proofs.Common.{◌≡◌, ◌≤◌, ℕ, Some, arith, refl, sym, ap, subst}
use Rattle.extents.specs.declared.span.Span.{Span}
use Rattle.http_range.specs.Announced.{announced}
use Rattle.cog_client.specs.declared.case.Case.{Case}
use Rattle.cog_client.specs.Client.{ClientState, asked_of, buffer_of, feed_of, revision_of}
use Rattle.cog_client.specs.Fed.{case_of_head}
use Rattle.cog_client.specs.FedClient.{Begins, case_for, revision_of_head}
use Rattle.cog_client.specs.Steps.{Adopts}
use Rattle.cog_client.proofs.ClientLemmas.{known}
use Rattle.cog_client.proofs.FollowLemmas.{followed}
use Rattle.cog_client.proofs.client.Client.follow.Goals.{in-Adopted, in-Restarted, in-Accepted}
use Rattle.cog_client.proofs.client.Client.follow.Goals as goal

pub returns-clause-fed : goal.returns-clause-fed
unfolding asked_of revision_of feed_of
returns-clause-fed c =
    let j = c.self-2.inside in
    let head = announced c.args.head in
    let now = c.args.self.now in
    let mid = c.match-case.self in
    let k = c.case_of_head-case.result in
    let new = known c.follow.new.self j.how j.host.items j.name.items j.query j.asked j.source j.cache j.report in
    let same : new ≡ record mid { feed = c.follow.new.self } = subst (λ (m : ClientState). new ≡ record m { feed = c.follow.new.self }) c.self-2.view_is refl in
    let asks : asked_of mid ≡ Some c.in-Some.span = subst (λ (m : ClientState). asked_of m ≡ Some c.in-Some.span) c.self-2.view_is c.in-Some.is in
    let is : k ≡ case_for now head = subst (λ (m : ClientState). k ≡ case_of_head (revision_of m) (asked_of m) head) c.self.view_is c.case_of_head-case.ensures in
    let begins : Begins k head now mid = elim c.match-case.branch [
      | in-Adopted w ↦
          subst (λ (m : ClientState). Begins k head now m) (sym w.self-is) (subst (λ (x : Case). Begins x head now w.adopt.new.self) (sym w.in-Adopted.is)
          (subst (λ (m : ClientState). Adopts (revision_of_head head) (asked_of m) now w.adopt.new.self) c.self.view_is w.adopt.ensures.adopts))
      | in-Restarted w ↦
          subst (λ (m : ClientState). Begins k head now m) (sym w.self-is) (subst (λ (x : Case). Begins x head now w.adopt-in-Restarted.new.self) (sym w.in-Restarted.is)
          (subst (λ (a : Span). Adopts (revision_of_head head) (Some a) now w.adopt-in-Restarted.new.self) w.first_span-first.ensures w.adopt-in-Restarted.ensures.adopts))
      | in-Accepted w ↦
          subst (λ (m : ClientState). Begins k head now m) (sym w.self-is) (subst (λ (x : Case). Begins x head now now) (sym w.in-Accepted.is) (now.feed, refl))
    ] in
    followed head now mid new k c.in-Some.span is begins asks c.follow.ensures same

pub returns-clause-buffer : goal.returns-clause-buffer
unfolding buffer_of
returns-clause-buffer c =
    let now = c.args.self.now in
    let mid = c.match-case.self in
    let fewer : buffer_of mid ≤ buffer_of now = elim c.match-case.branch [
      | in-Adopted w ↦ subst (λ (m : ClientState). buffer_of m ≤ buffer_of now) (sym w.self-is) (omega (arith, w.adopt.ensures.buffer))
      | in-Restarted w ↦ subst (λ (m : ClientState). buffer_of m ≤ buffer_of now) (sym w.self-is) (omega (arith, w.adopt-in-Restarted.ensures.buffer))
      | in-Accepted w ↦ subst (λ (m : ClientState). buffer_of m ≤ buffer_of now) (sym w.self-is) (omega arith)
    ] in
    subst (λ (n : ℕ). n ≤ buffer_of now) (sym (ap buffer_of c.self-2.view_is)) fewer
