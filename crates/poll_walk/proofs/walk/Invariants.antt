-- `poll_walk::walk` meets its contract. Assumes nothing.
use Rattle.store_rules.specs.Stores.{log}
use Rattle.round_rules.specs.Walk.{walk}
use Rattle.round_rules.proofs.Turns.{Walking}
use Rattle.poll_walk.proofs.walk.Given as goal

abbrev pub invariant-loop-e : goal.invariant-loop-e
invariant-loop-e l = Walking l.first (walk (log l.initial.w l.initial.list l.initial.m) l.first) (walk (log l.w l.list l.m) l.flags) l.e-iterator.bits
