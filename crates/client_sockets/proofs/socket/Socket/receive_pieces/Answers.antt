use Rattle.std.proofs.Common.{◌+◌, ◌∙◌, ap, arith, length, length-append, length-take, refl, subst, sym}
use Rattle.client_sockets.specs.Sockets.{HandedOn, nothing}
use Rattle.client_sockets.proofs.HandedLemmas.{handed_more}
use Rattle.client_sockets.proofs.socket.Socket.receive_pieces.Goals as goal

pub loop-left-init : goal.loop-left-init
loop-left-init g c = record {
  exchanges = refl;
  keeps = refl;
  size = ap (λ l. length l + 1069056) c.requires;
  hands = subst (λ l. HandedOn c.args.self.now l c.args.self.now) (sym c.requires) nothing;
}

pub returns-then-count-eq0-clause-hands : goal.returns-then-count-eq0-clause-hands
returns-then-count-eq0-clause-hands g c =
    (c.loop-left.self, subst (λ l. HandedOn c.args.self.now l c.loop-left.self) (sym (c.in_ok-count.ensures.ends (omega arith))) c.loop-left.invariant.hands)

pub loop-left-preserved : goal.loop-left-preserved
loop-left-preserved g c =
    let i = c.loop-left.invariant in
    let on = c.in_ok-count.ensures in
    let came = on.hands (omega arith) in
    record {
      exchanges = on.exchanges ∙ i.exchanges;
      keeps = on.keeps ∙ i.keeps;
      size = omega (arith, ap length came.2, length-append c.loop-left.answer.items came.0, came.1, i.size, on.few, length-take c.min-most.result c.loop-left.room);
      hands = handed_more c.args.self.now c.loop-left.self c.receive_piece.new.self c.loop-left.answer.items came.0 c.receive_piece.new.answer.items i.hands
          came.3 came.2;
    }
