use Prim.Native.Nat.{◌<◌}
use Rattle.run_model.proofs.sum.Given as goal

abbrev pub invariant-loop-x : goal.invariant-loop-x
invariant-loop-x l = l.c < 65521
