-- `overrun::repair` meets its contract. Assumes nothing.
use Rattle.common_rules.specs.Overrun.{over_run_cleared}
use mathlib.Core.Path.{ap, ◌∙◌}
use borrow.Author.Rules.{rules}
use Rattle.overrun.proofs.repair.Goals as goal

pub returns : goal.returns
returns c = (c.clear_over_run.ensures.0 ∙ ap over_run_cleared c.clear_under_run-a.ensures.0, search rules)
