-- P1 to P10 of document 01, computed.
-- Assumes nothing.
use mathlib.Core.Path.{refl}
use Rattle.board.specs.declared.Board.TheVariants.{Display}
use Rattle.board.specs.Boards.{display, rows, rows_display}
use Rattle.endpoints.specs.Endpoints.{granted}
use Rattle.endpoints.specs.Check.{in_use, checked, given}
use Rattle.endpoints.specs.Allocate.{check_at, answer_to, allocate}
use Rattle.cases.specs.Allocations.{Hold, allocations}

-- apart from the statement, so that a wrong case prints which value differs
computed : Hold (allocations display)
unfolding in_use checked check_at answer_to granted given allocate
computed = refl

pub p1_to_p10 : Hold (allocations (rows Display))
p1_to_p10 = rw rows_display computed
