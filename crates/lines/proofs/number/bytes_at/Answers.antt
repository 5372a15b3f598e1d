use Rattle.std.proofs.Common.{ℕ, ◌+◌, arith, length-set}
use Rattle.std.proofs.lemmas.List.Edits.{fill_by_more}
use Rattle.rtcp.specs.Number.{byte}
use Rattle.lines.proofs.number.bytes_at.Goals as goal

pub loop-on-preserved : goal.loop-on-preserved
loop-on-preserved g c =
    let now = c.loop-on.invariant in
    record {
      long = rw length-set now.long;
      done = rw c.byte.ensures (fill_by_more (λ (k : ℕ). byte c.args.bytes.now (c.args.at + k)) c.loop-on.read c.loop-on.on 0 (omega arith) now.done);
    }
