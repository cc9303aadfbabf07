-- `trace_given::words` meets its contract.
-- Assumes nothing.
use native.Mathlib.Omega.{arith}
use Rattle.detail_rules.proofs.GivenMade.{others_none, others_more, words_done}
use Rattle.trace_given.proofs.words.Goals as goal

pub loop-e-init : goal.loop-e-init
loop-e-init c = others_none _ _

pub loop-e-preserved : goal.loop-e-preserved
loop-e-preserved c = others_more _ _ c.loop-e.e (omega arith) c.loop-e.invariant c.put_sides.ensures

pub returns : goal.returns
returns c = words_done _ c.loop-e.e c.put_chip.ensures c.put_zero.ensures (omega arith) c.loop-e.invariant
