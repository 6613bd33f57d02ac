use Rattle.std.proofs.Common.{◌≡◌, [], ◌∷◌, length, false, ap, ◌∙◌, arith}
use Rattle.http_fields.specs.Members.{members}
use Rattle.http_fields.specs.MemberWalk.{members_of_rest, members_left}
use Rattle.http_fields.proofs.MembersLemmas.{part_end, members_at, members_whole, length-first_part}
use Rattle.http_fields.proofs.members.MembersIterator.next.Goals.{After-trim, After-trim-else-end-list}
use Rattle.http_fields.proofs.members.MembersIterator.next.Goals as goal

-- the member ends at a comma
at_comma : (c : After-trim) → members_left c.args.self.now ≡ c.trim.result.now ∷ members c.args.self.now.quotes c.after.result.now
at_comma c =
    let e : c.part_end-end.result ≡ part_end c.args.self.now.quotes false c.in_ok-list.list.now =
    c.part_end-end.ensures ∙ length-first_part c.args.self.now.quotes c.in_ok-list.list.now in
    let inside = rw e at c.if-end-list.true in
    rw (c.trim.ensures, c.after.ensures, e)
    (ap (members_of_rest c.args.self.now.quotes) c.in_ok-list.was ∙ members_at c.args.self.now.quotes c.in_ok-list.list.now inside)

at_end : (c : After-trim-else-end-list) → members_left c.args.self.now ≡ c.trim-else-end-list.result.now ∷ []
at_end c =
    let e : c.part_end-end.result ≡ part_end c.args.self.now.quotes false c.in_ok-list.list.now =
    c.part_end-end.ensures ∙ length-first_part c.args.self.now.quotes c.in_ok-list.list.now in
    let past = rw e at c.if-end-list.false in
    rw c.trim-else-end-list.ensures
    (ap (members_of_rest c.args.self.now.quotes) c.in_ok-list.was ∙ members_whole c.args.self.now.quotes c.in_ok-list.list.now past)

pub returns-then-end-list-clause-steps : goal.returns-then-end-list-clause-steps
returns-then-end-list-clause-steps c = at_comma c

pub returns-then-end-list-clause-goes : goal.returns-then-end-list-clause-goes
returns-then-end-list-clause-goes c =
    record { on = λ _. (tt, tt, omega (arith, ap length (at_comma c))); keeps = tt; rests = λ _. tt }

pub returns-else-end-list-clause-steps : goal.returns-else-end-list-clause-steps
returns-else-end-list-clause-steps c = at_end c

pub returns-else-end-list-clause-goes : goal.returns-else-end-list-clause-goes
returns-else-end-list-clause-goes c =
    record { on = λ _. (tt, tt, omega (arith, ap length (at_end c))); keeps = tt; rests = λ _. tt }
