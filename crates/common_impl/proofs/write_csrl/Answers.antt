-- `common_impl::write_csrl` meets its contract. Assumes nothing.
use Rattle.common_rules.specs.Common.{write_csrl}
use borrow.Author.Rules.{rules}
use Rattle.common_impl.proofs.write_csrl.Goals as goal

pub returns-in-Out : goal.returns-in-Out
unfolding write_csrl
returns-in-Out c = rw c.in-Out.is (search rules)

pub returns-in-In : goal.returns-in-In
unfolding write_csrl
returns-in-In c = rw c.in-In.is (search rules)
