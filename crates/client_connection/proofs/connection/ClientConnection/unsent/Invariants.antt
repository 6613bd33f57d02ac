use Rattle.std.proofs.Common.{◌≡◌, ◌++◌, ℕ, List, drop}
use Rattle.client_connection.specs.Inside.{texts}
use Rattle.client_connection.proofs.connection.ClientConnection.unsent.Given as goal

-- What is left begins with those that were sent early and aren't gone through, exactly where all of them begin with all of those.
abbrev pub invariant-loop-sent : goal.invariant-loop-sent
invariant-loop-sent l = (last : List (List ℕ))
    → (texts l.left ≡ texts (l.sent-iterator.head.now ++ l.sent-iterator.wrapped.now) ++ last → texts l.requests ≡ drop 1 l.self.out ++ last)
    × (texts l.requests ≡ drop 1 l.self.out ++ last → texts l.left ≡ texts (l.sent-iterator.head.now ++ l.sent-iterator.wrapped.now) ++ last)
