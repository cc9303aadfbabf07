-- How a number of at most 65,535 is written in a trace, and what it means that it stands at a place.
-- Assumes nothing.
use Rattle.std.specs.Prelude.{ℕ, ◌+◌, ◌/◌, ◌%◌, ◌≤◌, ◌≡◌, List, [], ◌∷◌, ◌++◌, cond, ltb, length, drop}

unfoldable pub encode : ℕ → List ℕ
encode n =
    cond (ltb n 128) (n ∷ [])
    (cond (ltb n 16384) ((128 + n % 128) ∷ (n / 128) ∷ [])
    ((128 + n % 128) ∷ (128 + n / 128 % 128) ∷ (n / 16384) ∷ []))

-- the bytes of s from `at` up to `past` are the encoding of n
pub record Written (s : List ℕ) (at n past : ℕ) : Type 0 where
  pub fits : n ≤ 65535
  pub bytes : drop at s ≡ encode n ++ drop past s
  pub length_is : past ≡ at + length (encode n)
