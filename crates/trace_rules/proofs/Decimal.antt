-- Decimal text: the digit that is written next, how many there are, and that it is the number, without leading zeros.
-- Assumes nothing.
use Prim.Native.Nat.{ℕ, zero, suc, ◌+◌, ◌-◌, ◌*◌, ◌/◌, ◌%◌, ◌^◌, ◌≤◌, ◌<◌}
use native.Mathlib.Omega.{arith}
use native.Mathlib.Nat.{pow-suc}
use native.Mathlib.Decide.{dec_lt}
use mathlib.Core.Path.{◌≡◌, refl, sym, ap, ◌∙◌}
use mathlib.Core.List.{List, [], ◌∷◌, ◌++◌}
use lib.ListN.{length, get_or, length-append, get_or-append}
use borrow.Author.Tests.{le-ltb, lt-ltb}
use Rattle.trace_rules.specs.Text.{digits, decimal}

last : (k n : ℕ) → n < 10 → digits (suc k) n ≡ (48 + n) ∷ []
unfolding digits
last k n h = simp (lt-ltb _ _ h)

more : (k n : ℕ) → 10 ≤ n → digits (suc k) n ≡ digits k (n / 10) ++ ((48 + n % 10) ∷ [])
unfolding digits
more k n h = simp (le-ltb _ _ h)

-- room for more digits changes nothing
any_room : (j k n : ℕ) → n < j → n < k → digits j n ≡ digits k n
any_room zero k n h l = absurd (omega arith)
any_room (suc j) zero n h l = absurd (omega arith)
any_room (suc j) (suc k) n h l = go (dec_lt n 10) (λ b. any_room j k (n / 10) (omega arith) (omega arith))
  where
    go : Dec (n < 10) → (10 ≤ n → digits j (n / 10) ≡ digits k (n / 10)) → digits (suc j) n ≡ digits (suc k) n
    go (yes b) again = last j n b ∙ sym (last k n b)
    go (no b) again =
        let m : 10 ≤ n = omega arith in
        more j n m ∙ ap (λ (xs : List ℕ). xs ++ ((48 + n % 10) ∷ [])) (again m) ∙ sym (more k n m)

pub one_digit : (n : ℕ) → n < 10 → decimal n ≡ (48 + n) ∷ []
unfolding decimal
one_digit n h = last n n h

pub more_digits : (n : ℕ) → 10 ≤ n → decimal n ≡ decimal (n / 10) ++ ((48 + n % 10) ∷ [])
unfolding decimal
more_digits n h = more n n h ∙ ap (λ (xs : List ℕ). xs ++ ((48 + n % 10) ∷ [])) (any_room n (suc (n / 10)) (n / 10) (omega arith) (omega arith))

-- how many digits
at_most : (k j n : ℕ) → n < 10 ^ suc j → length (digits k n) ≤ suc j
unfolding digits
at_most zero j n h = omega arith
at_most (suc k) zero n h = let l : n < 10 = h in rw (last k n l) (omega arith)
at_most (suc k) (suc j) n h = go (dec_lt n 10) (at_most k j (n / 10) (omega (arith, pow-suc 10 (suc j))))
  where
    go : Dec (n < 10) → length (digits k (n / 10)) ≤ suc j → length (digits (suc k) n) ≤ suc (suc j)
    go (yes b) again = rw (last k n b) (omega arith)
    go (no b) again = rw (more k n (omega arith)) (omega (arith, length-append (digits k (n / 10)) ((48 + n % 10) ∷ []), again))

pub length_3 : (n : ℕ) → n < 1000 → length (decimal n) ≤ 3
unfolding decimal
length_3 n h = at_most (suc n) 2 n h

pub length_5 : (n : ℕ) → n < 100000 → length (decimal n) ≤ 5
unfolding decimal
length_5 n h = at_most (suc n) 4 n h

pub length_9 : (n : ℕ) → n < 1000000000 → length (decimal n) ≤ 9
unfolding decimal
length_9 n h = at_most (suc n) 8 n h

pub length_10 : (n : ℕ) → n < 10000000000 → length (decimal n) ≤ 10
unfolding decimal
length_10 n h = at_most (suc n) 9 n h

some : (k n : ℕ) → 0 < length (digits (suc k) n)
some k n = go (dec_lt n 10)
  where
    go : Dec (n < 10) → 0 < length (digits (suc k) n)
    go (yes b) = rw (last k n b) (omega arith)
    go (no b) = rw (more k n (omega arith)) (omega (arith, length-append (digits k (n / 10)) ((48 + n % 10) ∷ [])))

-- No leading zeros: only 0 begins with the digit 0.
leading : (k n : ℕ) → n < suc k → 0 < n → 48 < get_or (digits (suc k) n) 0 0
leading zero n h z = absurd (omega arith)
leading (suc k) n h z = go (dec_lt n 10) (λ b. leading k (n / 10) (omega arith) (omega arith))
  where
    go : Dec (n < 10) → (10 ≤ n → 48 < get_or (digits (suc k) (n / 10)) 0 0) → 48 < get_or (digits (suc (suc k)) n) 0 0
    go (yes b) again = rw (last (suc k) n b) (omega arith)
    go (no b) again =
        let m : 10 ≤ n = omega arith in
        rw (more (suc k) n m, get_or-append (digits (suc k) (n / 10)) ((48 + n % 10) ∷ []) 0 0 (some k (n / 10))) (again m)

pub no_leading_zero : (n : ℕ) → 0 < n → 48 < get_or (decimal n) 0 0
unfolding decimal
no_leading_zero n z = leading n n (omega arith) z

-- The text of a number, read as a number.
abbrev pub value_from : ℕ → List ℕ → ℕ
value_from v [] = v
value_from v (d ∷ ds) = value_from (v * 10 + (d - 48)) ds

value_more : (v d : ℕ) (xs : List ℕ) → value_from v (xs ++ (d ∷ [])) ≡ value_from v xs * 10 + (d - 48)
value_more v d [] = refl
value_more v d (x ∷ xs) = value_more (v * 10 + (x - 48)) d xs

value : (k n : ℕ) → n < k → value_from 0 (digits k n) ≡ n
value zero n h = absurd (omega arith)
value (suc k) n h = go (dec_lt n 10) (λ b. value k (n / 10) (omega arith))
  where
    go : Dec (n < 10) → (10 ≤ n → value_from 0 (digits k (n / 10)) ≡ n / 10) → value_from 0 (digits (suc k) n) ≡ n
    go (yes b) again = ap (value_from 0) (last k n b) ∙ omega arith
    go (no b) again =
        let m : 10 ≤ n = omega arith in
        ap (value_from 0) (more k n m) ∙ value_more 0 (48 + n % 10) (digits k (n / 10)) ∙ omega (arith, again m)

pub value_of_decimal : (n : ℕ) → value_from 0 (decimal n) ≡ n
unfolding decimal
value_of_decimal n = value (suc n) n (omega arith)
