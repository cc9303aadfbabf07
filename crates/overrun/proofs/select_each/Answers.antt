use Rattle.common_rules.specs.Overrun.{selected_only, selected_below}
use native.Mathlib.Omega.{arith}
use Rattle.common_rules.proofs.Walk.{begin, turn, done}
use Rattle.overrun.proofs.select_each.Goals as goal

pub loop-e-init : goal.loop-e-init
loop-e-init c = begin _ _ _ c.requires.1

pub write_index-m-requires : goal.write_index-m-requires
write_index-m-requires c = let w = c.loop-e.invariant in omega (arith, w.six, w.few, w.long)

pub loop-e-smaller : goal.loop-e-smaller
loop-e-smaller c = omega arith

pub loop-e-preserved : goal.loop-e-preserved
unfolding selected_only
loop-e-preserved c = let a = c.write_index-m in turn _ _ _ _ _ _ c.loop-e.invariant c.loop-e-test.true a.ensures.0 (omega (arith, a.ensures.1)) (omega arith)

pub shape_of-list : goal.shape_of-list
shape_of-list c = c.loop-e.invariant.long

pub returns : goal.returns
unfolding selected_below
returns c = done _ _ _ _ _ c.loop-e.invariant c.loop-e-test.false
