-- `run_replay::put_many` ends: from turn to turn less of the file is left.
-- Assumes nothing.
use lib.ListN.{length}
use Rattle.run_replay.proofs.put_many.Given as goal

abbrev pub decreases-loop-a : goal.decreases-loop-a
decreases-loop-a g l = length l.left
