use Rattle.laws.specs.Words.{bit}
use mathlib.Core.Path.{refl}
use Rattle.laws.proofs.has_bit.Goals as goal

pub returns : goal.returns
unfolding bit
returns c = refl
