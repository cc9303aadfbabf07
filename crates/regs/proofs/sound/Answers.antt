use Rattle.register_file.specs.Sound.{regs_sound}
use Rattle.register_file.specs.Registers.{index, faddr}
use Rattle.laws.specs.Tests.{◌also◌}
use Rattle.regs.proofs.sound.Goals as goal

pub returns : goal.returns
unfolding regs_sound index faddr ◌also◌
returns c = cc
