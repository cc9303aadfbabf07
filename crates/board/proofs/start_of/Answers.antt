-- `board::start_of` meets its contract: a record has room for six endpoints, so the list has that start.
-- Assumes nothing.
use Prim.Native.Nat.{ℕ, ◌*◌, ◌≤◌, ◌<◌}
use native.Mathlib.Omega.{arith}
use lib.ListN.{length}
use Rattle.board.specs.declared.Board.{Board}
use Rattle.board.specs.Boards.{rows, at_most_six}
use Rattle.board.proofs.start_of.Goals as goal

listed : (b : Board) (k : ℕ) → k ≤ 2 * length (rows b) → k < 13
listed b k h = omega (arith, at_most_six b)

pub offset_bounds-a-k : goal.offset_bounds-a-k
offset_bounds-a-k c = record { fits = omega (arith, listed c.args.b c.args.k c.requires) }

pub bounds-a-k : goal.bounds-a-k
bounds-a-k c = listed c.args.b c.args.k c.requires

pub returns : goal.returns
returns c = c.starts-a.ensures c.args.k (listed c.args.b c.args.k c.requires)
