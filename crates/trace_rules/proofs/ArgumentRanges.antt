-- An argument that was read is in its range, past its place, and inside the trace.
-- Assumes nothing.
use Rattle.std.specs.Prelude.{Option, Some, None}
use Prim.Native.Nat.{ℕ, ◌<◌}
use native.Mathlib.Omega.{arith}
use mathlib.Core.Path.{◌≡◌, refl}
use mathlib.Core.Bool.{Bool, true, false, cond}
use mathlib.Core.List.{List}
use lib.Dec.{leb}
use borrow.Author.Tests.{leb-true}
use Rattle.trace_rules.proofs.Numbers.{moves_on}
use Rattle.trace_rules.proofs.Pairs.{same, first_is, second_is}
use Rattle.trace_rules.proofs.Stepping.{gave}
use Rattle.trace_rules.specs.Groups.{number_at}
use Rattle.trace_rules.specs.Arguments.{arg_at, in_range, two_at, Ranged, RangedTwo}

module _ (s : List ℕ) (at most a past : ℕ) where
  tested : (n m : ℕ) (b : Bool) → leb n most ≡ b → number_at s at ≡ Some (n, m)
      → cond {A = Option (ℕ × ℕ)} b (Some (n, m)) None ≡ Some (a, past) → Ranged s at most a past
  tested n m true t e q =
      let en : n ≡ a = first_is q in
      let em : m ≡ past = second_is q in
      let on = moves_on s at n m e in
      record { range = rw en at (leb-true n most t); on = rw em at on.0; inside = rw em at on.1 }
  tested n m false t e q = cc

  ranged_of : (x : Option (ℕ × ℕ)) → number_at s at ≡ x → in_range most x ≡ Some (a, past) → Ranged s at most a past
  ranged_of (Some (n, m)) e q = tested n m (leb n most) refl e q
  ranged_of None e q = cc

  pub ranged : arg_at s at most ≡ Some (a, past) → Ranged s at most a past
  unfolding arg_at
  ranged q = ranged_of (number_at s at) refl q

module _ (s : List ℕ) (at m n a b past : ℕ) where
  pub ranged_two : two_at s at m n ≡ Some (a, b, past) → RangedTwo s at m n a b past
  unfolding two_at
  ranged_two q =
      let f = gave (arg_at s at m) _ q in
      let g = gave (arg_at s f.0.1 n) _ f.2 in
      let i = ranged s at m f.0.0 f.0.1 f.1 in
      let j = ranged s f.0.1 n g.0.0 g.0.1 g.1 in
      let ea : f.0.0 ≡ a = λ k. (same g.2 k).0 in
      let eb : g.0.0 ≡ b = λ k. (same g.2 k).1 in
      let ep : g.0.1 ≡ past = λ k. (same g.2 k).2 in
      let on : at < g.0.1 = omega (arith, i.on, j.on) in
      record { first = rw ea at i.range; second = rw eb at j.range; on = rw ep at on; inside = rw ep at j.inside }
