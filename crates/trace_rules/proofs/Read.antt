-- The four ways in which a read at a place ends, as a view: a law of `number_at` matches on it and goes through the tests no more.
-- Assumes nothing.
use Rattle.std.specs.Prelude.{Option, Some, None}
use Prim.Native.Nat.{ℕ, ◌+◌, ◌-◌, ◌*◌, ◌<◌, ◌≤◌}
use native.Mathlib.Omega.{arith}
use native.Mathlib.Decide.{dec_lt}
use mathlib.Core.Path.{refl}
use mathlib.Core.List.{List}
use lib.ListN.{length, get_or}
use Rattle.trace_rules.specs.Groups.{number_at}
use Rattle.trace_rules.proofs.NumberCases.{cut_1, one, cut_2, zero_2, two, cut_3, zero_3, over_3, three}

pub data Read (s : List ℕ) (at : ℕ) : Option (ℕ × ℕ) → Type 0 where
  bad : Read s at None
  in_1 : at < length s → get_or s at 0 < 128 → Read s at (Some (get_or s at 0, at + 1))
  in_2 : at + 1 < length s → 128 ≤ get_or s at 0 → 0 < get_or s (at + 1) 0 → get_or s (at + 1) 0 < 128
      → Read s at (Some (get_or s at 0 - 128 + get_or s (at + 1) 0 * 128, at + 1 + 1))
  in_3 : at + 1 + 1 < length s → 128 ≤ get_or s at 0 → 128 ≤ get_or s (at + 1) 0 → 0 < get_or s (at + 1 + 1) 0 → get_or s (at + 1 + 1) 0 ≤ 3
      → Read s at (Some (get_or s at 0 - 128 + (get_or s (at + 1) 0 - 128) * 128 + get_or s (at + 1 + 1) 0 * 16384, at + 1 + 1 + 1))

module _ (s : List ℕ) (at : ℕ) where
  third_group : at + 1 + 1 < length s → 128 ≤ get_or s at 0 → 128 ≤ get_or s (at + 1) 0
      → Dec (0 < get_or s (at + 1 + 1) 0) → Dec (3 < get_or s (at + 1 + 1) 0) → Read s at (number_at s at)
  third_group h la lb (no z) o = rw (← zero_3 s at _ _ (omega arith) refl la refl _ h lb refl (omega arith)) bad
  third_group h la lb (yes z) (yes o) = rw (← over_3 s at _ _ (omega arith) refl la refl _ h lb refl (λ q. omega arith) o) bad
  third_group h la lb (yes z) (no o) =
      let l : get_or s (at + 1 + 1) 0 ≤ 3 = omega arith in
      rw (← three s at _ _ (omega arith) refl la refl _ h lb refl (λ q. omega arith) l) (in_3 h la lb z l)

  second_group : at + 1 < length s → 128 ≤ get_or s at 0
      → Dec (get_or s (at + 1) 0 < 128) → Dec (0 < get_or s (at + 1) 0) → Dec (at + 1 + 1 < length s) → Read s at (number_at s at)
  second_group h la (yes l) (no z) k = rw (← zero_2 s at _ _ h refl la refl (omega arith)) bad
  second_group h la (yes l) (yes z) k = rw (← two s at _ _ h refl la refl l (λ q. omega arith)) (in_2 h la z l)
  second_group h la (no l) z (no k) = rw (← cut_3 s at _ _ h refl la refl (omega arith) (omega arith)) bad
  second_group h la (no l) z (yes k) = third_group k la (omega arith) (dec_lt _ _) (dec_lt _ _)

  first_group : Dec (at < length s) → Dec (get_or s at 0 < 128) → Dec (at + 1 < length s) → Read s at (number_at s at)
  first_group (no h) l k = rw (← cut_1 s at (omega arith)) bad
  first_group (yes h) (yes l) k = rw (← one s at (get_or s at 0) h refl l) (in_1 h l)
  first_group (yes h) (no l) (no k) = rw (← cut_2 s at (get_or s at 0) h refl (omega arith) (omega arith)) bad
  first_group (yes h) (no l) (yes k) = second_group k (omega arith) (dec_lt _ _) (dec_lt _ _) (dec_lt _ _)

  pub read : Read s at (number_at s at)
  read = first_group (dec_lt _ _) (dec_lt _ _) (dec_lt _ _)
