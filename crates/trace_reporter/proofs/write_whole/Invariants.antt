-- `trace_reporter::write_whole`: the writer has got the bytes that are counted as taken.
-- Assumes nothing.
use Rattle.std.specs.Io.KnownBytes.{Appends}
use Prim.Native.Nat.{◌≤◌}
use lib.ListN.{length, take}
use Rattle.trace_reporter.proofs.write_whole.Given as goal

abbrev pub invariant-loop : goal.invariant-loop
invariant-loop g l = (l.taken ≤ length l.bytes) × Appends (g.W.Write.contents l.initial.to) (g.W.Write.contents l.to) (take l.taken l.bytes)
