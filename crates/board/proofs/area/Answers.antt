-- `board::area` meets its contract: the area is the table's, so it lies within the whole.
-- Assumes nothing.
use mathlib.Core.Path.{◌≡◌, sym, subst}
use Prim.Native.Nat.{◌+◌, ◌≤◌}
use Rattle.board.specs.declared.Span.{Span}
use Rattle.board.specs.Boards.{rows}
use Rattle.board.specs.Table.{area_at, total}
use Rattle.board.proofs.Areas.{within}
use Rattle.board.proofs.area.Goals as goal

pub returns-clause-is : goal.returns-clause-is
returns-clause-is c = let a = c.args in
    let t = rows a.b in
    let is : record { start = c.start.result; size = c.room.result } ≡ area_at t a.n a.d = cc in is

pub returns-clause-within : goal.returns-clause-within
returns-clause-within c = let a = c.args in
    let t = rows a.b in
    let is : record { start = c.start.result; size = c.room.result } ≡ area_at t a.n a.d = cc in subst (λ (s : Span). s.start + s.size ≤ total t) (sym is) (within t a.n a.d)
