use Rattle.std.proofs.Common.{◌≡◌, ℕ, false, true, IsSome, ap, inl, inr, refl, subst, sym, ◌∙◌}
use Rattle.std.proofs.lemmas.Bool.{cases_Bool}
use Rattle.std.proofs.lemmas.Result.{IfOk-weaker}
use Rattle.client_sockets.specs.Sockets.{Ends, connection_of}
use Rattle.client_sockets.proofs.socket.answers.SocketPieces.next.Goals as goal

pub returns-then-self-clause-ends : goal.returns-then-self-clause-ends
returns-then-self-clause-ends g c _ = record {
  reached = c.args.self.now.connection;
  stays = λ _. refl;
  why = inl c.if-self.true;
}

pub returns-in-Some-clause-ends : goal.returns-in-Some-clause-ends
returns-in-Some-clause-ends g c =
    IfOk-weaker c.read_body.result (λ n. n ≡ 0 → (connection_of c.read_body.new.self).is_open ≡ false) (λ n. n ≡ 0 → Ends c.args.self.now c.read_body.new.self)
    (λ n shut none. record {
      reached = c.reach_body.new.self.connection;
      stays = λ whole. (c.reach_body.ensures.stays whole).0;
      why = inr (inr (shut none));
    })
    c.read_body.ensures.ends

pub returns-in-None-2-clause-ends : goal.returns-in-None-2-clause-ends
returns-in-None-2-clause-ends g c _ =
    let same = c.hand_head-handed.ensures.connection in
    record {
      reached = c.reach_body.new.self.connection;
      stays = λ whole. (c.reach_body.ensures.stays whole).0;
      why = inr (inr (elim (cases_Bool c.hand_head-handed.new.self.connection.is_open) [
        | inl opens ↦ (let clash : false ≡ true = subst IsSome (sym (ap (λ s. s.left) same) ∙ sym c.in-None.ensures.is) (c.reach_body.ensures.reached (sym (ap (λ s. s.is_open) same) ∙ opens)) in cc)
        | inr shut ↦ shut
      ]));
    }
