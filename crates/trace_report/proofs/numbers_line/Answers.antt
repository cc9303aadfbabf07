-- `trace_report::numbers_line` meets its contract.
-- Assumes nothing.
use mathlib.Core.List.{[], ◌∷◌}
use Rattle.std.specs.Prelude.{map}
use Rattle.trace_rules.proofs.LinesAppended.{with_fields, ends}
use Rattle.trace_report.proofs.numbers_line.Goals as goal

pub returns-clause-wrote : goal.returns-clause-wrote
returns-clause-wrote g c = let a = c.args in
    ends _ (with_fields a.code (a.reply ∷ []) (map g.T.Shown.value a.values.now) c.begin-a.ensures.wrote c.put_fields-end.ensures.wrote) c.put.ensures
