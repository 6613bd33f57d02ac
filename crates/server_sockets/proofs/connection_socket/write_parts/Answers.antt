use Rattle.std.proofs.Common.{◌≢◌, arith, length, take}
use Rattle.std.proofs.lemmas.Bool.Decides.{nat_tests}
use Rattle.std.proofs.lemmas.Grind.{common_steps}
use Rattle.std.specs.Io.Slices.{io_slice_bytes}
use Rattle.server_sockets.proofs.WriteLemmas.{head_fits, of_both, of_head}
use Rattle.server_sockets.proofs.connection_socket.write_parts.Goals as goal

pub returns-then-is_empty-clause-order : goal.returns-then-is_empty-clause-order
returns-then-is_empty-clause-order g c = of_head _ _ _ _ c.args.head.now c.args.body.now c.write.ensures.bound c.write.ensures.bytes

pub returns-clause-order : goal.returns-clause-order
returns-clause-order g c =
    let some : length (take c.min-2.result c.args.body.now) ≢ 0 = grind (arith, common_steps, nat_tests, c.if-is_empty.false, c.is_empty.ensures) in
    of_both _ _ _ c.min.result c.min-2.result c.args.head.now c.args.body.now (io_slice_bytes c.new.result) (io_slice_bytes c.new-2.result) c.new.ensures
    c.new-2.ensures (head_fits c.args.most c.min.result c.min-2.result c.args.head.now c.args.body.now c.min.ensures c.min-2.ensures some)
    c.write_slices.ensures.bound c.write_slices.ensures.bytes
