use Rattle.std.proofs.Common.{arith}
use Rattle.cog_server.proofs.RoomLemmas.{heads_have_room}
use Rattle.cog_server.proofs.laws.law_heads_have_room.Goals as goal

pub returns-clause-room : goal.returns-clause-room
returns-clause-room c = heads_have_room c.law_answers_are_sent.ensures

pub returns-clause-read : goal.returns-clause-read
returns-clause-read c = omega arith
