-- `overrun::some_missed` meets its contract. Assumes nothing.
use Prim.Native.Nat.{◌<◌, ◌≤◌, ◌-◌}
use mathlib.Core.Path.{◌≡◌}
use Rattle.common_rules.specs.Overrun.{missed_to}
use Rattle.overrun.proofs.some_missed.Given as goal

-- the endpoints below e have been asked
abbrev pub invariant-loop-e : goal.invariant-loop-e
invariant-loop-e l = (l.any ≡ missed_to (l.e - 1) l.w) × (0 < l.e) × (l.e ≤ 6)

abbrev pub decreases-loop-e : goal.decreases-loop-e
decreases-loop-e l = 6 - l.e
