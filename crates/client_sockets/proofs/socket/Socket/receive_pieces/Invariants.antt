use Rattle.std.proofs.Common.{◌≡◌, ◌+◌, length}
use Rattle.cog_fetch.specs.declared.taking.TheConstants.{ANSWER_LIMIT}
use Rattle.client_sockets.specs.Sockets.{HandedOn, exchanges_of, keeps}
use Rattle.client_sockets.proofs.socket.Socket.receive_pieces.Given as goal

-- What came so far was handed on, and the limit leaves room for the rest.
abbrev pub invariant-loop-left : goal.invariant-loop-left
invariant-loop-left g l = record {
  exchanges : exchanges_of l.self ≡ exchanges_of l.fn.self;
  keeps : keeps l.self ≡ keeps l.fn.self;
  size : length l.answer.items + l.left ≡ ANSWER_LIMIT;
  hands : HandedOn l.fn.self l.answer.items l.self;
}

abbrev pub decreases-loop-left : goal.decreases-loop-left
decreases-loop-left g l = l.left
