-- `board::sizes_of` meets its contract.
-- Assumes nothing.
use Rattle.board.proofs.Walk.{Sizing}
use Rattle.board.proofs.sizes_of.Given as goal

abbrev pub invariant-loop-n : goal.invariant-loop-n
invariant-loop-n l = Sizing l.fn.t l.s l.n
