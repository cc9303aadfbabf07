use Prim.Native.Nat.{◌-◌}
use Rattle.call_rules.proofs.ResetWalk.{begin, turn, end}
use native.Mathlib.Omega.{arith}
use Rattle.usb_device_reset.proofs.enable_below.Goals as goal

pub loop-index-init : goal.loop-index-init
loop-index-init c = begin _ _ _

pub enable_used-m-requires : goal.enable_used-m-requires
enable_used-m-requires c = (omega (arith, c.requires.0), omega (arith, c.requires.0, c.requires.1, c.loop-index.invariant.few, c.loop-index.invariant.long))

pub loop-index-smaller : goal.loop-index-smaller
loop-index-smaller c = omega arith

pub loop-index-preserved : goal.loop-index-preserved
loop-index-preserved c = turn _ _ _ _ _ _ c.loop-index.invariant c.loop-index-test.true c.enable_used-m.ensures.0 c.enable_used-m.ensures.1 (omega arith)

pub shape_of-list : goal.shape_of-list
shape_of-list c = c.loop-index.invariant.long

pub returns : goal.returns
returns c = end _ _ _ _ _ c.loop-index.invariant c.loop-index-test.false
