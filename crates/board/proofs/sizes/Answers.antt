-- `board::sizes` meets its contract.
-- Assumes nothing.
use Rattle.board.specs.Boards.{rows_if_display, sole}
use Rattle.board.proofs.sizes.Goals as goal

pub returns : goal.returns
returns c = rw (rows_if_display c.args.b (sole c.args.b)) c.sizes_of.ensures
