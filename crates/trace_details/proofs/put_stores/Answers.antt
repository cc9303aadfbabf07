-- `trace_details::put_stores` meets its contract.
-- Assumes nothing.
use Rattle.detail_rules.proofs.DetailWritten.{stores_none, stores_more}
use Rattle.trace_rules.proofs.Appended.{kept}
use native.Mathlib.Omega.{arith}
use Rattle.trace_details.proofs.put_stores.Goals as goal

pub loop-i-init : goal.loop-i-init
loop-i-init c = (stores_none _, omega arith, omega arith)

pub loop-i-preserved : goal.loop-i-preserved
loop-i-preserved c = let l = c.loop-i in
    let w = c.put_store-m.ensures in
    (stores_more _ l.i l.invariant.0 w.wrote, omega (arith, w.upper_bound), omega (arith, kept w.wrote))
