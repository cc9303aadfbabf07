-- `board::need` meets its contract: the area past the last starts where all end.
-- Assumes nothing.
use mathlib.Core.Path.{◌∙◌}
use Prim.Native.Nat.{◌*◌}
use native.Mathlib.Omega.{arith}
use Rattle.board.specs.Boards.{rows}
use Rattle.board.proofs.Areas.{start_past}
use Rattle.board.proofs.need.Goals as goal

pub returns : goal.returns
returns c = c.start_of.ensures ∙ start_past (rows c.args.b) (2 * c.endpoints.result) (omega arith)
