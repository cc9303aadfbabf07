-- `poll_walk::walk` meets its contract. Assumes nothing.
use mathlib.Core.Path.{refl}
use native.Mathlib.Omega.{arith}
use Rattle.laws.proofs.Tests.{when_true, when_false}
use Rattle.round_rules.specs.Walk.{walked}
use Rattle.round_rules.proofs.Walk.{drained_selected, visited}
use Rattle.round_rules.proofs.Turns.{begin, turn, done}
use Rattle.poll_walk.proofs.walk.Goals as goal

pub loop-e-init : goal.loop-e-init
loop-e-init c = rw c.into_iter-e-iterator.ensures.into_iter_gives (begin _ _ c.requires.0 c.requires.0)

pub loop-e-preserved-then-not-waits : goal.loop-e-preserved-then-not-waits
loop-e-preserved-then-not-waits c =
    let a = c.write_index-m in
    let s = c.in-Some.ensures.steps in
    let drained = drained_selected _ c.loop-e.flags _ _ a.ensures.0 c.waits.ensures (when_false {b = c.waits.result} _ _ (cc) c.without.ensures.0) in
    turn _ _ _ _ _ _ _ c.loop-e.invariant s.0 s.1 (visited _ _ _ a.ensures.0 drained) a.ensures.1 c.without.ensures.1 (omega arith)

pub loop-e-preserved : goal.loop-e-preserved
loop-e-preserved c =
    let a = c.write_index-m in
    let s = c.in-Some.ensures.steps in
    let drained = drained_selected c.args.flags.now c.loop-e.flags _ _ a.ensures.0 c.waits.ensures (when_true {b = c.waits.result} _ _ (cc) refl) in
    turn _ _ _ _ _ _ _ c.loop-e.invariant s.0 s.1 (visited _ _ _ a.ensures.0 drained) a.ensures.1 c.loop-e.invariant.under (omega arith)

pub returns : goal.returns
unfolding walked
returns c = done _ _ _ _ c.loop-e.invariant c.in-None.ensures.steps
