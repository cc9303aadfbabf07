-- `board::start` meets its contract.
-- Assumes nothing.
use mathlib.Core.Path.{ap, sym, ◌∙◌}
use lib.ListN.{length}
use native.Mathlib.Omega.{arith}
use Rattle.board.specs.Boards.{rows}
use Rattle.board.specs.Table.{start_of}
use Rattle.board.proofs.Areas.{place_below, place_past, start_past}
use Rattle.board.proofs.start.Goals as goal

pub start_of-requires : goal.start_of-requires
start_of-requires c = let a = c.args in
    omega (arith, c.place_of.ensures.0, place_below a.n (length (rows a.b)) a.d (omega arith))

pub returns-then-n-endpoints : goal.returns-then-n-endpoints
returns-then-n-endpoints c = let a = c.args in
    c.start_of.ensures ∙ ap (start_of (rows a.b)) c.place_of.ensures.0

pub returns : goal.returns
returns c = let a = c.args in
    c.need.ensures ∙ sym (start_past (rows a.b) _ (place_past a.n (length (rows a.b)) a.d (omega arith)))
