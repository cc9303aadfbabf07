use Rattle.common_rules.specs.Overrun.{under_run_cleared, over_run_cleared, repaired, repaired_below}
use Rattle.store_rules.specs.Stores.{Log}
use mathlib.Core.Path.{ap, ◌∙◌}
use native.Mathlib.Omega.{arith}
use Rattle.common_rules.proofs.Walk.{begin, turn, done}
use Rattle.overrun.proofs.repair_each.Goals as goal

pub loop-index-init : goal.loop-index-init
loop-index-init c = begin _ _ _ c.requires.1

pub write_index-m-requires : goal.write_index-m-requires
write_index-m-requires c = let w = c.loop-index.invariant in omega (arith, w.six, w.few, w.long)

pub repair-m-requires : goal.repair-m-requires
repair-m-requires c = let w = c.loop-index.invariant in omega (arith, w.six, w.few, w.long, c.write_index-m.ensures.1, c.write_index-m.auto)

pub loop-index-smaller : goal.loop-index-smaller
loop-index-smaller c = omega arith

pub loop-index-preserved : goal.loop-index-preserved
unfolding repaired
loop-index-preserved c = let a = c.write_index-m in let r = c.repair-m in turn _ _ _ _ _ _ c.loop-index.invariant c.loop-index-test.true (r.ensures.0 ∙ ap (λ (h : Log). over_run_cleared (under_run_cleared h)) a.ensures.0) (omega (arith, r.ensures.1, a.ensures.1)) (omega arith)

pub shape_of-list : goal.shape_of-list
shape_of-list c = c.loop-index.invariant.long

pub returns : goal.returns
unfolding repaired_below
returns c = done _ _ _ _ _ c.loop-index.invariant c.loop-index-test.false
