-- Document 01's proved table, 'Cases': all of it as one list. Each part stands with the definition that it is computed over.
-- Assumes nothing.
use Rattle.std.specs.Prelude.{List, ◌++◌}
use Rattle.board.specs.declared.Board.TheVariants.{Display}
use Rattle.board.specs.Boards.{rows}
use Rattle.cases.specs.Allocations.{Case, allocations}
use Rattle.cases.specs.Writes.{writes}
use Rattle.cases.specs.Readings.{readings}
use Rattle.cases.specs.Rounds.{rounds}

-- P1 to P10, P11 and P12, P13, P14 to P16
abbrev pub table : List Case
table = allocations (rows Display) ++ (writes Display ++ (readings Display ++ rounds))
