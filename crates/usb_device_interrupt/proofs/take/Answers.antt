use mathlib.Core.Path.{ap, ◌∙◌}
use native.Mathlib.Omega.{arith}
use Rattle.call_rules.specs.Interrupt.{endpoints_taken, taken}
use Rattle.call_rules.proofs.Interrupt.{begin, turn, done}
use Rattle.usb_device_interrupt.proofs.take.Goals as goal

pub loop-index-init : goal.loop-index-init
loop-index-init c = begin _ _ _ c.requires

pub take_endpoint-o-requires : goal.take_endpoint-o-requires
take_endpoint-o-requires c = omega arith

pub overflow_step-index : goal.overflow_step-index
overflow_step-index c = omega arith

pub loop-index-smaller : goal.loop-index-smaller
loop-index-smaller c = omega arith

pub loop-index-preserved : goal.loop-index-preserved
loop-index-preserved c = turn _ _ _ _ _ _ c.loop-index.invariant c.loop-index-test.true c.take_endpoint-o.ensures

pub returns : goal.returns
unfolding taken
returns c = done _ _ _ _ _ c.loop-index.invariant c.loop-index-test.false ∙ ap (endpoints_taken _ _) c.take_bus-o.ensures
