use Rattle.register_file.specs.Sound.{sides_below}
use mathlib.Core.Path.{◌≡◌}
use Rattle.regs.proofs.sides_sound.Given as goal

abbrev pub invariant-loop-i : goal.invariant-loop-i
invariant-loop-i l = l.ok ≡ sides_below l.sizes l.w l.i
