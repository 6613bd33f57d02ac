use Rattle.std.proofs.Common.{◌≡◌, ℕ, List, length, take, drop, subst, arith, length-take, take-append-drop}
use Rattle.http_range.specs.Stream.{HasNoMessage}
use Rattle.http_range_tests.proofs.tests.streams.length_in_pieces.Goals as goal

pub message_length-requires-in-None-clause-none : goal.message_length-requires-in-None-clause-none
message_length-requires-in-None-clause-none c =
    let bytes = c.args.bytes.now in
    let cut = c.args.cut in
    let front = take cut bytes in
    let none = (c.law_messages_stay.ensures.messages.unfinished front (drop cut bytes) c.in-None.ensures.unfinished).1 in
    let size : length front ≡ c.args.cut = omega (arith, c.requires, length-take cut bytes) in
    subst (λ (n : ℕ). HasNoMessage bytes n) size
    (subst (λ (s : List ℕ). HasNoMessage s (length front)) (take-append-drop cut bytes) none)
