use borrow.Author.Tests.{eq-eqb, ne_eqb}
use Rattle.store_rules.specs.Stores.{with_own}
use Rattle.stores.proofs.put_own.Goals as goal

pub returns-then-e-eq0 : goal.returns-then-e-eq0
unfolding with_own
returns-then-e-eq0 c = rw (eq-eqb _ _ c.if-e-eq0.true)

pub returns : goal.returns
unfolding with_own
returns c = rw (ne_eqb _ _ c.if-e-eq0.false) c.put_side.ensures
