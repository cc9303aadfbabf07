use Rattle.register_file.specs.Registers.{side_in}
use Rattle.register_file.proofs.Sides.{there, past}
use native.Mathlib.Omega.{arith}
use borrow.Author.Rules.{rules}
use mathlib.Core.Path.{ap, sym, ◌∙◌}
use Rattle.regs.proofs.side_at.Goals as goal

pub returns-then-e-lt6 : goal.returns-then-e-lt6
returns-then-e-lt6 c = c.side_in.ensures ∙ ap (side_in _) c.place_of.ensures.0 ∙ sym (there _ _ _ c.if-e-lt6.true)

pub returns : goal.returns
returns c = let a = c.args in rw (past a.w.now a.e a.d (omega arith)) (search rules)
