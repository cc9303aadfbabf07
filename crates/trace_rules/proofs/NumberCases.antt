-- Each answer of `number_at` from the tests that led there, over its groups a, b and c.
-- Assumes nothing.
use Rattle.std.specs.Prelude.{Some, None}
use Prim.Native.Nat.{ℕ, ◌+◌, ◌-◌, ◌*◌, ◌<◌, ◌≤◌}
use mathlib.Core.Path.{◌≡◌}
use mathlib.Core.List.{List}
use native.Mathlib.Omega.{arith}
use lib.ListN.{length, get_or}
use borrow.Author.Tests.{le-ltb, lt-ltb, le-leb, lt-leb, ne_eqb}
use Rattle.trace_rules.specs.Groups.{number_at, first, second, third}

pub cut_1 : (s : List ℕ) (at : ℕ) → length s ≤ at → None ≡ number_at s at
unfolding number_at
cut_1 s at h = simp (le-leb _ _ h)

pub one : (s : List ℕ) (at a : ℕ) → at < length s → a ≡ get_or s at 0 → a < 128 → Some (a, at + 1) ≡ number_at s at
unfolding number_at first
one s at a h e l = simp (lt-leb _ _ h, ← e, lt-ltb _ _ l)

pub cut_2 : (s : List ℕ) (at a : ℕ) → at < length s → a ≡ get_or s at 0 → 128 ≤ a → length s ≤ at + 1 → None ≡ number_at s at
unfolding number_at first
cut_2 s at a h e l k = simp (lt-leb _ _ h, ← e, le-ltb _ _ l, le-leb _ _ k)

-- two groups at least
module _ (s : List ℕ) (at a b : ℕ) (h : at + 1 < length s) (ea : a ≡ get_or s at 0) (la : 128 ≤ a) (eb : b ≡ get_or s (at + 1) 0) where
  to_second : second s (a - 128) b (at + 1 + 1) ≡ number_at s at
  unfolding number_at first
  to_second =
      let h₀ : at < length s = omega arith in
      simp (lt-leb _ _ h₀, ← ea, le-ltb _ _ la, lt-leb _ _ h, ← eb)

  pub zero_2 : b ≡ 0 → None ≡ number_at s at
  unfolding second
  zero_2 z = rw (← to_second) (simp z)

  pub two : b < 128 → (b ≡ 0 → ⊥) → Some (a - 128 + b * 128, at + 1 + 1) ≡ number_at s at
  unfolding second
  two l z = rw (← to_second) (simp (lt-ltb _ _ l, ne_eqb _ _ z))

  pub cut_3 : 128 ≤ b → length s ≤ at + 1 + 1 → None ≡ number_at s at
  unfolding second
  cut_3 l k = rw (← to_second) (simp (le-ltb _ _ l, le-leb _ _ k))

  -- three groups
  module _ (c : ℕ) (k : at + 1 + 1 < length s) (lb : 128 ≤ b) (ec : c ≡ get_or s (at + 1 + 1) 0) where
    to_third : third (a - 128 + (b - 128) * 128) c (at + 1 + 1 + 1) ≡ number_at s at
    unfolding second
    to_third = rw (← to_second) (simp (le-ltb _ _ lb, lt-leb _ _ k, ← ec))

    pub zero_3 : c ≡ 0 → None ≡ number_at s at
    zero_3 z = rw (← to_third) (simp z)

    pub over_3 : (c ≡ 0 → ⊥) → 3 < c → None ≡ number_at s at
    over_3 z l = rw (← to_third) (simp (ne_eqb _ _ z, lt-ltb _ _ l))

    pub three : (c ≡ 0 → ⊥) → c ≤ 3 → Some (a - 128 + (b - 128) * 128 + c * 16384, at + 1 + 1 + 1) ≡ number_at s at
    three z l = rw (← to_third) (simp (ne_eqb _ _ z, le-ltb _ _ l))
