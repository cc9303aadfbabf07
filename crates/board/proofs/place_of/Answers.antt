-- `board::place_of` meets its contract.
-- Assumes nothing.
use native.Mathlib.Omega.{arith}
use Rattle.board.proofs.place_of.Goals as goal

pub returns-in-Out : goal.returns-in-Out
returns-in-Out c = (rw c.in-Out.is, omega arith)

pub returns-in-In : goal.returns-in-In
returns-in-In c = (rw c.in-In.is, omega arith)
