-- `trace_details::put_endpoints` meets its contract.
-- Assumes nothing.
use native.Mathlib.Omega.{arith}
use Rattle.detail_rules.proofs.DetailWritten.{endpoints_none, endpoints_more}
use Rattle.trace_rules.proofs.Appended.{kept}
use Rattle.trace_details.proofs.put_endpoints.Goals as goal

pub loop-e-init : goal.loop-e-init
loop-e-init c = (endpoints_none _ _, omega arith, omega arith)

pub loop-e-preserved : goal.loop-e-preserved
loop-e-preserved c = let l = c.loop-e in
    let w = c.put_endpoint-m.ensures in
    (endpoints_more _ _ l.e l.invariant.0 (rw c.from.ensures at w.wrote), omega (arith, w.upper_bound), omega (arith, kept w.wrote))
