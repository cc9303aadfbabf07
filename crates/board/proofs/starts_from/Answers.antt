use native.Mathlib.Omega.{arith}
use Rattle.board.proofs.Areas.{inside}
use Rattle.board.proofs.Walk.{start_first, start_next}
use Rattle.board.proofs.starts_from.Goals as goal

pub loop-k-init : goal.loop-k-init
loop-k-init c = start_first _

pub bounds-a-k : goal.bounds-a-k
bounds-a-k c = omega arith

pub overflow_add-a : goal.overflow_add-a
overflow_add-a c = let w = c.loop-k in
    record { fits = omega (arith, inside c.args.s w.k, w.invariant.so_far w.k (omega arith), c.requires) }

pub bounds-a-k-in-loop-k : goal.bounds-a-k-in-loop-k
bounds-a-k-in-loop-k c = omega arith

pub loop-k-smaller : goal.loop-k-smaller
loop-k-smaller c = omega arith

pub loop-k-preserved : goal.loop-k-preserved
loop-k-preserved c = start_next _ _ _ c.loop-k.invariant (omega arith)

pub returns : goal.returns
returns c = λ k h. c.loop-k.invariant.so_far k (omega (arith, h, c.loop-k-test.false))
