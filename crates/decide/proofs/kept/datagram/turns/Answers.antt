-- Each turn is one entry more, and leaves an index of the table. Assumes nothing.
use Rattle.rtcp.specs.code.Cursor.{step_of}
use Rattle.decide.proofs.Before.{before_first, before_next}
use Rattle.decide.proofs.Skipped.{turn_indexed, zeros}
use Rattle.decide.proofs.kept.datagram.turns.Goals as goal

pub make-requires : goal.make-requires
make-requires g c = zeros g.W.Way.Keeps.keeping c.args.table.now

pub loop-init : goal.loop-init
loop-init g c = (rw c.start.ensures (before_first g.W.Way.Keeps.keeping (λ some. c.requires)), c.make.ensures)

pub loop-preserved : goal.loop-preserved
loop-preserved g c =
    let K = g.W.Way.Keeps.keeping in
    let a = c.args in
    let now = c.loop in (
      before_next K (λ some. c.requires) _ _ now.invariant.0 c.loop-test.true _ c.turn-at.ensures,
      turn_indexed K g.met.W.Streams.used_back g.met.W.Streams.ssrc_back a.time (record { at = now.at; table = now.table; buffer = now.buffer }) (step_of a.datagram.now now.at.cursor) _ c.turn-at.ensures _ now.invariant.1,
    )
