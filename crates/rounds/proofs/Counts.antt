-- Tests counted, and sums over the endpoints above one.
-- Assumes nothing.
use mathlib.Core.Path.{◌≡◌, refl, ap, subst}
use mathlib.Core.Bool.{Bool, true, false, not, ◌||◌}
use Prim.Native.Nat.{ℕ, zero, suc, ◌+◌, ◌≤◌, ◌<◌, zero-le}
use native.Mathlib.Nat.{le_refl}
use native.Mathlib.Omega.{arith}
use native.Mathlib.Decide.{ℕ_discrete}
use lib.Dec.{T, ltb, eqb, lt→ltb}
use borrow.Author.Tests.{ne_eqb}
use Rattle.rounds.specs.Machine.{count}

pub count_le : (a b : Bool) → (T a → T b) → count a ≤ count b
count_le true true f = le_refl 1
count_le true false f = absurd (f tt)
count_le false b f = zero-le

pub count_less : (a b : Bool) → T (not a) → T b → count a < count b
count_less true b x y = absurd x
count_less false true x y = le_refl 1
count_less false false x y = absurd y

pub count_or : (a b : Bool) → count (a || b) ≤ count a + count b
count_or true b = omega arith
count_or false b = omega arith

pub count_at_most : (a : Bool) → count a ≤ 1
count_at_most true = le_refl 1
count_at_most false = zero-le

count_of : (a : Bool) → T a → 1 ≤ count a
count_of true t = le_refl 1
count_of false t = absurd t

-- f at the n numbers above i, added
abbrev pub sum : (ℕ → ℕ) → ℕ → ℕ → ℕ
sum f i zero = 0
sum f i (suc n) = f (i + suc n) + sum f i n

pub sum_zero : (f : ℕ → ℕ) (i n : ℕ) → ((j : ℕ) → i < j → j ≤ i + n → f j ≡ 0) → sum f i n ≡ 0
sum_zero f i zero none = refl
sum_zero f i (suc n) none = omega (arith, none (i + suc n) (omega arith) (omega arith), sum_zero f i n (λ j a b. none j a (omega arith)))

module _ (f g : ℕ → ℕ) (i : ℕ) where
  pub sum_le : (n : ℕ) → ((j : ℕ) → i < j → j ≤ i + n → f j ≤ g j) → sum f i n ≤ sum g i n
  sum_le zero le = zero-le
  sum_le (suc n) le = omega (arith, le (i + suc n) (omega arith) (omega arith), sum_le n (λ j a b. le j a (omega arith)))

  -- less at one place
  pub sum_less : (n k : ℕ) → i < k → k ≤ i + n → f k < g k → ((j : ℕ) → i < j → j ≤ i + n → f j ≤ g j) → sum f i n < sum g i n
  sum_less zero k above high less le = absurd (omega arith)
  sum_less (suc n) k above high less le = go (ℕ_discrete k (i + suc n)) (λ h. sum_less n k above h less (λ j a b. le j a (omega arith)))
    where
      go : Dec (k ≡ i + suc n) → (k ≤ i + n → sum f i n < sum g i n) → sum f i (suc n) < sum g i (suc n)
      go (yes here) rest = omega (arith, subst (λ (m : ℕ). f m < g m) here less, sum_le n (λ j a b. le j a (omega arith)))
      go (no other) rest = omega (arith, le (i + suc n) (omega arith) (omega arith), rest (omega arith))

  -- more at e alone, by one
  pub sum_more : (n e : ℕ) → ((j : ℕ) → i < j → j ≤ i + n → f j ≤ g j + count (eqb j e)) → sum f i n ≤ sum g i n + count (ltb i e)
  sum_more zero e le = zero-le
  sum_more (suc n) e le = go (ℕ_discrete (i + suc n) e) (le (i + suc n) (omega arith) (omega arith)) (sum_more n e (λ j a b. le j a (omega arith)))
    where
      elsewhere : (j : ℕ) → i < j → j ≤ i + suc n → (j ≡ e → ⊥) → f j ≤ g j
      elsewhere j a b other = omega (arith, le j a b, ap count (ne_eqb j e other))

      go : Dec (i + suc n ≡ e) → f (i + suc n) ≤ g (i + suc n) + count (eqb (i + suc n) e) → sum f i n ≤ sum g i n + count (ltb i e)
          → sum f i (suc n) ≤ sum g i (suc n) + count (ltb i e)
      go (yes here) last rest =
          omega (
            arith,
            last,
            count_at_most (eqb (i + suc n) e),
            count_of (ltb i e) (lt→ltb i e (omega arith)),
            sum_le n (λ j a b. elsewhere j a (omega arith) (λ same. omega arith)),
          )
      go (no other) last rest = omega (arith, ap count (ne_eqb (i + suc n) e other), last, rest)
