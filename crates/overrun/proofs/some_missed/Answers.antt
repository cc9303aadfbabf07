use Prim.Native.Nat.{ℕ, ◌+◌, ◌-◌}
use mathlib.Core.Path.{◌≡◌, sym, ap, ◌∙◌}
use mathlib.Core.Bool.{◌||◌}
use native.Mathlib.Omega.{arith}
use Rattle.common_rules.specs.Overrun.{missed_at, missed_to}
use Rattle.common_rules.proofs.Missed.{missed_none, missed_next}
use Rattle.overrun.proofs.some_missed.Goals as goal

pub loop-e-init : goal.loop-e-init
loop-e-init c = (sym (missed_none _), omega arith, omega arith)

pub loop-e-smaller : goal.loop-e-smaller
loop-e-smaller c = omega arith

pub loop-e-preserved : goal.loop-e-preserved
loop-e-preserved c =
    let e : c.loop-e.e ≡ c.loop-e.e - 1 + 1 = omega (arith, c.loop-e.invariant.1) in
    let n : c.loop-e.e - 1 + 1 ≡ c.loop-e.e + 1 - 1 = omega (arith, c.loop-e.invariant.1) in
    let m = c.has_missed-any.ensures ∙ ap (missed_at c.args.w.now) e in
    ((λ i. c.loop-e.invariant.0 i || m i) ∙ sym (missed_next (c.loop-e.e - 1) c.args.w.now) ∙ ap (λ (k : ℕ). missed_to k c.args.w.now) n, omega arith, omega arith)

pub returns : goal.returns
returns c =
    let e : c.loop-e.e - 1 ≡ 5 = omega (arith, c.loop-e.invariant.1) in
    c.loop-e.invariant.0 ∙ ap (λ (k : ℕ). missed_to k c.args.w.now) e
