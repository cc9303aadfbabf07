use Rattle.laws.proofs.Words.{or_raised}
use Rattle.laws.proofs.raise.Goals as goal

pub returns : goal.returns
returns c = or_raised c.args.w c.args.i c.requires
