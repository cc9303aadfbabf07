use Rattle.register_file.specs.Sound.{words_below}
use mathlib.Core.Path.{◌≡◌}
use Rattle.regs.proofs.words_sound.Given as goal

abbrev pub invariant-loop-c : goal.invariant-loop-c
invariant-loop-c l = l.ok ≡ words_below l.fn.w l.c-index
