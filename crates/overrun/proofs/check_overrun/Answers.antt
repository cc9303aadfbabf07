-- `overrun::check_overrun` meets its contract. Assumes nothing.
use Rattle.common_rules.proofs.Missed.{none_missed, something_missed}
use borrow.Author.Rules.{rules}
use Rattle.overrun.proofs.check_overrun.Goals as goal

pub returns-then-some_missed : goal.returns-then-some_missed
returns-then-some_missed c = (something_missed _ _ c.some_missed.ensures c.repair_each.ensures.0, search rules)

pub returns : goal.returns
returns c = (none_missed _ _ c.some_missed.ensures c.requires.1 c.if-some_missed.false c.select_each.ensures.0, search rules)
