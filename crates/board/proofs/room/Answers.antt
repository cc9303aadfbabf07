-- `board::room` meets its contract.
-- Assumes nothing.
use mathlib.Core.Path.{sym, ◌∙◌}
use Rattle.board.proofs.room.Goals as goal

pub returns-then-row_has : goal.returns-then-row_has
returns-then-row_has c = simp (sym c.row_has.ensures ∙ c.if-row_has.true)

pub returns-else-row_has : goal.returns-else-row_has
returns-else-row_has c = simp (sym c.row_has.ensures ∙ c.if-row_has.false)
