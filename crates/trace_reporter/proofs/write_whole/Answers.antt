-- `trace_reporter::write_whole` meets its contract.
-- Assumes nothing.
use Rattle.std.proofs.KnownBytes.{Appends-kept}
use native.Mathlib.Omega.{arith}
use Rattle.trace_reporter.proofs.Reaching.{took_more}
use Rattle.trace_reporter.proofs.write_whole.Goals.{in-Ok, in-Err+else-ne}
use Rattle.trace_reporter.proofs.write_whole.Goals as goal

pub loop-preserved : goal.loop-preserved
loop-preserved g c =
    let i = c.loop.invariant in
    let bytes = c.args.bytes.now in
    elim c.match-write.branch [
      | in-Ok w ↦ rw (w.taken-is) (omega (arith, w.in-Ok.ensures.bound), took_more _ _ _ bytes _ _ i.1 w.in-Ok.ensures.bytes)
      | in-Err+else-ne w ↦ rw (w.taken-is) (i.0, Appends-kept _ _ _ _ i.1 w.in-Err.ensures.bytes)
    ]
