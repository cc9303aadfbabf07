-- As the code meets them: what was read is in its range, and inside the trace.
-- Assumes nothing.
use Rattle.std.specs.Prelude.{Option, Some, None, IfSome}
use Prim.Native.Nat.{ℕ, ◌≤◌}
use mathlib.Core.Path.{◌≡◌, sym}
use mathlib.Core.List.{List}
use lib.ListN.{length}
use Rattle.trace_rules.specs.Arguments.{arg_at, two_at}
use Rattle.trace_rules.proofs.ArgumentRanges.{ranged, ranged_two}

pub arg_within : (s : List ℕ) (at most : ℕ) (x : Option (ℕ × ℕ)) → x ≡ arg_at s at most → IfSome x (λ r. (r.0 ≤ most) × (r.1 ≤ length s))
arg_within s at most (Some r) e = let g = ranged s at most r.0 r.1 (sym e) in (g.range, g.inside)
arg_within s at most None e = tt

pub two_within : (s : List ℕ) (at m n : ℕ) (x : Option (ℕ × ℕ × ℕ)) → x ≡ two_at s at m n → IfSome x (λ r. (r.0 ≤ m) × (r.1 ≤ n) × (r.2 ≤ length s))
two_within s at m n (Some r) e = let g = ranged_two s at m n r.0 r.1 r.2 (sym e) in (g.first, g.second, g.inside)
two_within s at m n None e = tt
