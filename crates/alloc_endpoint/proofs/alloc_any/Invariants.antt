-- `alloc_endpoint::alloc_any` meets its contract: the search from `i` on has the answer of the whole search.
-- Assumes nothing.
use Rattle.std.specs.Prelude.{None}
use mathlib.Core.Path.{◌≡◌}
use Prim.Native.Nat.{◌-◌}
use Rattle.board.specs.Boards.{rows}
use Rattle.endpoints.specs.Allocate.{first_from, answer_to}
use Rattle.alloc_endpoint.proofs.alloc_any.Given as goal

abbrev pub invariant-loop-i : goal.invariant-loop-i
invariant-loop-i l = first_from (rows l.board) l.endpoints l.ask l.i (l.count - l.i) ≡ answer_to (rows l.board) l.endpoints l.ask None
