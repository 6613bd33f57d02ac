use Rattle.std.proofs.Common.{take, Ok, Err, refl, sym, subst, arith}
use Rattle.http_range.specs.Announced.{announced}
use Rattle.cog_client.specs.Head.{IsFound}
use Rattle.cog_client.proofs.HeadLemmas.{found, full_unused, told_unused, waits}
use Rattle.cog_client.proofs.head.read_on.Goals as goal
use Rattle.cog_client.proofs.head.read_on.Goals.{else-have-lt-HEAD_ROOM-via-then-have-lt-HEAD_ROOM+else-may_change, else-have-lt-HEAD_ROOM-via-else-have-lt-HEAD_ROOM}

pub returns-in-Head-clause-looks : goal.returns-in-Head-clause-looks
returns-in-Head-clause-looks c =
    let a = c.args in
    let head = announced c.in-Head.head in
    subst (IsFound (take a.len a.room.now) a.bytes.now head) (sym c.saturating_sub-from.ensures)
    (found c.law_heads_grow.ensures a.room.now c.copy.new.room a.bytes.now a.len c.min-count.result c.requires.short c.requires.room c.min-count.ensures
    c.requires.none c.copy.ensures.copied (Ok head) c.in-Head.ensures.reads head refl c.in-Head.ensures.fits)

pub returns-then-may_change-clause-looks : goal.returns-then-may_change-clause-looks
returns-then-may_change-clause-looks c =
    let a = c.args in
    let why = c.in-NotUsed.why in
    waits c.law_heads_grow.ensures a.room.now c.copy.new.room a.bytes.now a.len c.min-count.result c.requires.short c.requires.room c.min-count.ensures
    c.requires.none c.copy.ensures.copied (Err why) c.in-NotUsed.ensures.reads c.if-have-lt-HEAD_ROOM.true (c.if-may_change.ensures.changes refl)

pub returns-else-have-lt-HEAD_ROOM-clause-looks : goal.returns-else-have-lt-HEAD_ROOM-clause-looks
returns-else-have-lt-HEAD_ROOM-clause-looks c =
    let a = c.args in
    let why = c.in-NotUsed.why in
    elim c.else-have-lt-HEAD_ROOM.branch [
      | else-have-lt-HEAD_ROOM-via-then-have-lt-HEAD_ROOM+else-may_change w ↦
          told_unused c.law_heads_grow.ensures a.room.now c.copy.new.room a.bytes.now a.len c.min-count.result c.requires.short c.requires.room c.min-count.ensures
          c.requires.none c.copy.ensures.copied (Err why) c.in-NotUsed.ensures.reads why refl (w.if-may_change.ensures.stays refl)
      | else-have-lt-HEAD_ROOM-via-else-have-lt-HEAD_ROOM w ↦
          full_unused c.law_heads_grow.ensures a.room.now c.copy.new.room a.bytes.now a.len c.min-count.result c.requires.short c.requires.room c.min-count.ensures
          c.requires.none c.copy.ensures.copied (Err why) c.in-NotUsed.ensures.reads why refl (omega (arith, w.if-have-lt-HEAD_ROOM.false))
    ]
