-- `trace_report::counted_line` meets its contract.
-- Assumes nothing.
use mathlib.Core.List.{[], ◌∷◌}
use Rattle.trace_rules.proofs.Appended.{as_they_are}
use Rattle.trace_rules.proofs.LinesAppended.{with_field, with_fields, ends}
use Rattle.trace_report.proofs.counted_line.Goals as goal

pub returns-clause-wrote : goal.returns-clause-wrote
returns-clause-wrote c = let a = c.args in
    let counted = with_field a.code (a.reply ∷ []) a.count c.begin-a.ensures.wrote c.put_field-b.ensures.wrote in
    ends _ (with_fields a.code (a.reply ∷ a.count ∷ []) a.s.now counted (as_they_are _ c.put_fields-m.ensures.wrote)) c.put.ensures
