use Rattle.register_file.specs.Registers.{with_side_in}
use Rattle.register_file.proofs.Sides.{put_there, unchanged}
use native.Mathlib.Omega.{arith}
use mathlib.Core.Path.{ap, sym, ◌∙◌}
use Prim.Native.Nat.{ℕ}
use Rattle.regs.proofs.put_side.Goals as goal

pub returns-then-e-lt6 : goal.returns-then-e-lt6
returns-then-e-lt6 c = let a = c.args in c.put_side_in.ensures ∙ ap (λ (i : ℕ). with_side_in a.w.now i a.s) c.place_of.ensures.0 ∙ sym (put_there a.w.now a.e a.d a.s c.if-e-lt6.true)

pub returns : goal.returns
returns c = let a = c.args in sym (unchanged a.w.now a.e a.d a.s (omega arith))
