-- `enabling::write_iso_if` meets its contract. Assumes nothing.
use mathlib.Core.Path.{refl}
use Rattle.common_rules.specs.Enable.{iso_written}
use Rattle.laws.proofs.Tests.{when_true, when_false}
use borrow.Author.Rules.{rules}
use Rattle.enabling.proofs.write_iso_if.Goals as goal

pub returns-then-iso : goal.returns-then-iso
unfolding iso_written
returns-then-iso c = (when_true _ _ c.if-iso.true c.write_iso.ensures.0, search rules)

pub returns : goal.returns
unfolding iso_written
returns c = (when_false _ _ c.if-iso.false refl, search rules)
