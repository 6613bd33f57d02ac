use Rattle.std.proofs.lemmas.Bool.{eqb-true, false_from_ne_true, false≢true}
use Rattle.std.proofs.Common.{◌∙◌, ℕ, List, Ok, Some, ap, arith, length, length-take, sym, subst, take}
use Rattle.http_range.specs.Frame.{ReadsFrame}
use Rattle.client_connection.specs.Answers.{is_timeout}
use Rattle.client_connection.specs.Status.{Status}
use Rattle.client_connection.proofs.connection.ClientConnection.take_frame.Goals.{else-self-via-then-self+else-frame-eq-REQUEST_TIMEOUT, else-self-via-else-self}
use Rattle.client_connection.proofs.connection.ClientConnection.take_frame.Goals as goal

pub take_interim-requires-clause-reads : goal.take_interim-requires-clause-reads
take_interim-requires-clause-reads c =
    subst (λ (t : List ℕ). ReadsFrame t (Ok c.args.frame)) (sym c.truncate.ensures.items)
    (c.law_frames_grow.ensures.own c.args.head.items c.args.frame c.requires.reads)

pub take_interim-requires-clause-whole : goal.take_interim-requires-clause-whole
take_interim-requires-clause-whole c =
    omega (
      arith,
      ap length c.truncate.ensures.items,
      length-take c.args.frame.size c.args.head.items,
      c.law_frames_grow.ensures.there c.args.head.items c.args.frame c.requires.reads,
    )

pub returns : goal.returns
returns c =
    let s = c.args.self.now in
    let frame = c.args.frame in
    let head = take frame.size c.args.head.items in
    let left = c.unwrap_or.result in (
      λ same. cc,
      (
        frame,
        c.law_frames_grow.ensures.own c.args.head.items frame c.requires.reads,
        omega (arith, length-take frame.size c.args.head.items, c.law_frames_grow.ensures.there c.args.head.items frame c.requires.reads),
        sym c.is_interim.ensures ∙ c.if-is_interim.false,
        ap (λ (t : Status). record t { head = c.truncate.new.self.items; left = Some left; closes = frame.closes; interims = 0 }) c.self.view_is
            ∙ ap (λ (h : List ℕ). record s { head = h; left = Some left; closes = frame.closes; interims = 0 }) c.truncate.ensures.items
            ∙ ap (λ (n : ℕ). record s { head = head; left = Some n; closes = frame.closes; interims = 0 }) c.unwrap_or.ensures,
        λ kept. elim c.else-self.branch [
          | else-self-via-then-self+else-frame-eq-REQUEST_TIMEOUT w ↦
              false_from_ne_true (is_timeout frame) (λ late. w.if-frame-eq-REQUEST_TIMEOUT.false (eqb-true frame.status 408 late))
          | else-self-via-else-self w ↦
              absurd (false≢true (sym w.if-self.false ∙ ap (λ (t : Status). t.kept) c.self.view_is ∙ kept))
        ],
      ),
    )
