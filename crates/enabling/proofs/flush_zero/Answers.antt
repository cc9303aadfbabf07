-- `enabling::flush_zero` meets its contract. Assumes nothing.
use Rattle.common_rules.specs.Enable.{flushed_zero}
use borrow.Author.Rules.{rules}
use Rattle.enabling.proofs.flush_zero.Goals as goal

pub returns : goal.returns
unfolding flushed_zero
returns c = search rules
