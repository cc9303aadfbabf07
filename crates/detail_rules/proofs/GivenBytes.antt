-- The bytes that numbers stand in are read as these numbers. Assumes nothing.
use Prim.Native.Nat.{ℕ, zero, suc, ◌+◌, ◌*◌, ◌/◌, ◌%◌, ◌^◌, ◌<◌}
use native.Mathlib.Nat.{div-add-mod, div-div-eq-div-mul, mod-eq_of_lt}
use native.Mathlib.Omega.{arith}
use mathlib.Core.Path.{◌≡◌, refl, ap, sym, ◌∙◌}
use mathlib.Core.List.{List, [], ◌∷◌, map}
use lib.ListN.{length, get_or}
use Rattle.laws.specs.Lists.{numbers}
use Rattle.detail_rules.specs.Given.{number_at, numbers_of, long_at}
use Rattle.detail_rules.specs.GivenPrinted.{bytes_of, Read}

-- a list is its numbers one after another
shifted : (x : ℕ) (xs : List ℕ) (i k : ℕ) → map (long_at (x ∷ xs)) (numbers (suc i) k) ≡ map (long_at xs) (numbers i k)
unfolding numbers
shifted x xs i zero = refl
shifted x xs i (suc k) = ap {B = List ℕ} (λ l. long_at xs i ∷ l) (shifted x xs (suc i) k)

all_of : (ns : List ℕ) → map (long_at ns) (numbers 0 (length ns)) ≡ ns
unfolding numbers
all_of [] = refl
all_of (x ∷ xs) = ap {B = List ℕ} (λ l. x ∷ l) (shifted x xs 0 (length xs) ∙ all_of xs)

pub listed : (ns : List ℕ) → length ns ≡ 96 → map (long_at ns) (numbers 0 96) ≡ ns
listed ns e = ap (λ (k : ℕ). map (long_at ns) (numbers 0 k)) (sym e) ∙ all_of ns

-- one number
parts : (n a b c r s t : ℕ) → n < 2 ^ 32 → 256 * a + r ≡ n → 256 * b + s ≡ a → 256 * c + t ≡ b → r + 256 * s + 65536 * t + 16777216 * (c % 256) ≡ n
parts n a b c r s t h ea eb ec = let l : c < 256 = omega arith in rw (mod-eq_of_lt l) (omega arith)

joined : (n : ℕ) → n < 2 ^ 32 → n % 256 + 256 * (n / 256 % 256) + 65536 * (n / 65536 % 256) + 16777216 * (n / 16777216 % 256) ≡ n
joined n h =
    let two : n / 256 / 256 ≡ n / 65536 = div-div-eq-div-mul n 256 256 in
    let three : n / 65536 / 256 ≡ n / 16777216 = div-div-eq-div-mul n 65536 256 in
    parts n (n / 256) (n / 65536) (n / 16777216) (n % 256) (n / 256 % 256) (n / 65536 % 256) h (div-add-mod n 256)
    (rw two at (div-add-mod (n / 256) 256)) (rw three at (div-add-mod (n / 65536) 256))

number_back : (ns : List ℕ) (i : ℕ) → long_at ns i < 2 ^ 32 → number_at (bytes_of ns) i ≡ long_at ns i
unfolding number_at bytes_of
number_back [] i h = refl
number_back (n ∷ ns) zero h = joined n h
number_back (n ∷ ns) (suc i) h =
    let a : 4 * suc i ≡ suc (suc (suc (suc (4 * i)))) = omega arith in
    let b : 4 * suc i + 1 ≡ suc (suc (suc (suc (4 * i + 1)))) = omega arith in
    let c : 4 * suc i + 2 ≡ suc (suc (suc (suc (4 * i + 2)))) = omega arith in
    let d : 4 * suc i + 3 ≡ suc (suc (suc (suc (4 * i + 3)))) = omega arith in
    (λ t. get_or (bytes_of (n ∷ ns)) (a t) 0 + 256 * get_or (bytes_of (n ∷ ns)) (b t) 0 + 65536 * get_or (bytes_of (n ∷ ns)) (c t) 0 + 16777216 * get_or (bytes_of (n ∷ ns)) (d t) 0)
    ∙ number_back ns i h

pub read : Read
unfolding numbers_of
read ns e h = (λ t. map (λ (i : ℕ). number_back ns i (h i) t) (numbers 0 96)) ∙ listed ns e
