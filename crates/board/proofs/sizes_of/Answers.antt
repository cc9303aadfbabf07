use native.Mathlib.Omega.{arith}
use Rattle.board.proofs.Walk.{size_first, size_next, size_last}
use Rattle.board.proofs.sizes_of.Goals as goal

pub loop-n-init : goal.loop-n-init
loop-n-init c = size_first c.args.t

pub loop-n-preserved : goal.loop-n-preserved
loop-n-preserved c = size_next c.args.t _ _ _ _ c.loop-n.invariant (omega arith) c.room.ensures c.room-in-loop-n.ensures

pub returns : goal.returns
returns c = size_last c.args.t _ _ c.loop-n.invariant (omega arith)
