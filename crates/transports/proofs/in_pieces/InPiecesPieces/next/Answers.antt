use Rattle.std.proofs.Common.{◌∙◌, arith}
use Rattle.transports.proofs.PieceLemmas.{brings_next}
use Rattle.transports.proofs.in_pieces.InPiecesPieces.next.Goals as goal

pub returns-clause-brings : goal.returns-clause-brings
returns-clause-brings g c =
    λ p _. brings_next _ c.rest-rest.result.now _ c.args.out.now c.copy_from_slice.new.self _ c.next_size-size.result c.min-n.result
    c.rest-rest.ensures (c.rest-rest.ensures ∙ c.next_size-size.ensures.rest) (omega arith) (c.next_size-size.ensures.some (omega arith)) c.copy_from_slice.ensures.after
