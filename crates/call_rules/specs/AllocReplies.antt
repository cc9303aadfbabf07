-- Document 01's table of replies, the rows of `alloc_ep`, and what is promised of its answer.
-- Assumes nothing.
use Rattle.std.specs.Prelude.{ℕ, ◌≡◌, true, List, [], ◌∷◌, Option, Result}
use Rattle.record.specs.declared.Answered.{Answered}
use Rattle.call_rules.specs.declared.AllocRefusal.{AllocRefusal}
use Rattle.board.specs.Boards.{rows}
use Rattle.endpoints.specs.declared.Ask.{Ask}
use Rattle.endpoints.specs.Allocate.{Allocated}
use Rattle.endpoints.specs.Replies as allocation
use Rattle.record.specs.declared.Record.{Record}
use Rattle.record.specs.Record.{SoundRecord}
use Rattle.record.specs.Rows.{Row, row, Replies}
use Rattle.call_rules.specs.Alloc.{handed, alloc_number}

-- "Order: .. 16, .. allocation 2, 5, 3, 4", each row as alloc_endpoint's table has it; 1 is the row of a call that wants no number
abbrev pub alloc_rows : Record → Ask → Option ℕ → List Row
alloc_rows k q w =
    row 16 (SoundRecord k → ⊥)
    ∷ row 1 (allocation.Row1 (rows k.regs.board) k.endpoints q w)
    ∷ row 2 (allocation.row2 (rows k.regs.board) k.endpoints q w ≡ true)
    ∷ row 5 (allocation.row5 (rows k.regs.board) k.endpoints q w ≡ true)
    ∷ row 3 (allocation.row3 (rows k.regs.board) k.endpoints q w ≡ true)
    ∷ row 4 (allocation.row4 (rows k.regs.board) k.endpoints q w ≡ true)
    ∷ []

-- its number is given exactly when its row is the first that holds, 0 where none does; then all is as alloc_endpoint leaves it; a refused call
-- changes nothing
pub record Allocates (a : Answered (Result ℕ AllocRefusal)) (k : Record) (o : Allocated) (rs : List Row) : Type 0 where
  pub replies : Replies (alloc_number a.answer) rs
  pub asked : alloc_number a.answer ≡ 0 → a ≡ handed k o
  pub unchanged : (alloc_number a.answer ≡ 0 → ⊥) → a.«record» ≡ k
