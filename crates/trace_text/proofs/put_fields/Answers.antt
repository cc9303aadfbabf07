-- `trace_text::put_fields` meets its contract.
-- Assumes nothing.
use native.Mathlib.Omega.{arith}
use Rattle.trace_rules.specs.Text.{fields}
use Rattle.trace_rules.proofs.Appended.{nothing, fields_more, fields_most, kept}
use Rattle.trace_text.proofs.put_fields.Goals as goal

pub loop-x-init : goal.loop-x-init
unfolding fields
loop-x-init g c = (omega arith, nothing, omega arith, omega arith)

pub loop-x-preserved : goal.loop-x-preserved
loop-x-preserved g c = let l = c.loop-x in
    let n = c.number.ensures in
    let w = c.put_field-m.ensures.wrote in (
      omega arith,
      fields_more g.T.Shown.value c.args.s.now l.x-index _ _ c.loop-x-test.true c.x-item.is n.value l.invariant.1 w,
      fields_most _ _ _ l.x-index n.short w l.invariant.2,
      omega (arith, kept w),
    )
