-- `board::starts` meets its contract: the starts that are worked out from the table's sizes are those of its areas.
-- Assumes nothing.
use mathlib.Core.Path.{ap, ◌∙◌}
use mathlib.Core.List.{List}
use Prim.Native.Nat.{ℕ}
use native.Mathlib.Omega.{arith}
use lib.Dec.{lit≤}
use lib.ListN.{take}
use Rattle.board.specs.Table.{sum, sizes_of}
use Rattle.board.specs.Boards.{display, rows_if_display, sole}
use Rattle.board.proofs.Areas.{starts_at}
use Rattle.board.proofs.starts.Goals as goal

pub starts_from-requires : goal.starts_from-requires
unfolding sizes_of
starts_from-requires c = rw c.sizes_of.ensures (lit≤ tt)

pub returns : goal.returns
returns c = rw (rows_if_display c.args.b (sole c.args.b))
    (λ k h. c.starts_from.ensures k h ∙ ap (λ (s : List ℕ). sum (take k s)) c.sizes_of.ensures ∙ starts_at display k (omega arith))
