-- `trace_report::masks_line` meets its contract.
-- Assumes nothing.
use mathlib.Core.List.{[], ◌∷◌}
use Rattle.trace_rules.proofs.LinesAppended.{with_field, with_fields, ends}
use Rattle.trace_report.proofs.masks_line.Goals as goal

pub returns-clause-wrote : goal.returns-clause-wrote
returns-clause-wrote c = let a = c.args in
    let values = with_field a.code (a.reply ∷ []) a.value c.begin-i.ensures.wrote c.put_field-j.ensures.wrote in
    let masks = with_fields a.code (a.reply ∷ a.value ∷ []) (a.a ∷ a.b ∷ a.c ∷ []) values c.put_three-m.ensures.wrote in ends _ masks c.put.ensures
