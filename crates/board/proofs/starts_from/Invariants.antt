-- `board::starts_from` meets its contract. No sum passes that of all the sizes, so none overflows.
-- Assumes nothing.
use Prim.Native.Nat.{◌-◌}
use Rattle.board.proofs.Walk.{Starting}
use Rattle.board.proofs.starts_from.Given as goal

abbrev pub invariant-loop-k : goal.invariant-loop-k
invariant-loop-k l = Starting l.s l.a l.k

abbrev pub decreases-loop-k : goal.decreases-loop-k
decreases-loop-k l = 12 - l.k
