use Rattle.register_file.proofs.Soundness.{sides_next, sides_none}
use Rattle.laws.specs.Tests.{◌also◌}
use mathlib.Core.Path.{sym}
use Rattle.regs.proofs.sides_sound.Goals as goal

pub loop-i-init : goal.loop-i-init
loop-i-init c = sym (sides_none _ _)

pub loop-i-preserved : goal.loop-i-preserved
unfolding ◌also◌
loop-i-preserved c = cc (sides_next c.args.sizes.now c.args.w.now c.loop-i.i)
