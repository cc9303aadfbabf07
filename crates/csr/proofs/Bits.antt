-- The bits of a number that is made of bits. Assumes nothing.
use Prim.Native.Nat.{ℕ, zero, suc, ◌+◌, ◌*◌, ◌/◌, ◌%◌, ◌^◌}
use native.Mathlib.Nat.{pow-succ', div-div-eq-div-mul}
use native.Mathlib.Omega.{arith}
use mathlib.Core.Path.{◌≡◌, ap, sym, ◌∙◌}
use mathlib.Core.Bool.{Bool, true, false, cond}
use mathlib.Core.List.{List, [], ◌∷◌}
use lib.Dec.{eqb}
use lib.ListN.{get_or}
use Rattle.laws.specs.Words.{bit}
use Rattle.laws.proofs.Words.{bit_zero}
use Rattle.csr.specs.Control.{from_bits}

half : (b : Bool) (n : ℕ) → (cond b 1 0 + 2 * n) / 2 ≡ n
half true n = omega arith
half false n = omega arith

lowest : (b : Bool) (n : ℕ) → eqb ((cond b 1 0 + 2 * n) / 1 % 2) 1 ≡ b
lowest true n = let e : (1 + 2 * n) / 1 % 2 ≡ 1 = omega arith in rw e
lowest false n = let e : (0 + 2 * n) / 1 % 2 ≡ 0 = omega arith in rw e

bits : (bs : List Bool) (i : ℕ) → bit (from_bits bs) i ≡ get_or bs i false
unfolding from_bits bit
bits [] i = bit_zero i
bits (b ∷ bs) zero = lowest b (from_bits bs)
bits (b ∷ bs) (suc i) =
    let n = from_bits bs in
    let e = ap (λ (m : ℕ). (cond b 1 0 + 2 * n) / m) (pow-succ' 2 i) ∙ sym (div-div-eq-div-mul (cond b 1 0 + 2 * n) 2 (2 ^ i)) ∙ ap (λ (m : ℕ). m / 2 ^ i) (half b n) in
    ap (λ (m : ℕ). eqb (m % 2) 1) e ∙ bits bs i

pub bit_from : (bs : List Bool) {n : ℕ} → n ≡ from_bits bs → (i : ℕ) → bit n i ≡ get_or bs i false
bit_from bs e i = ap (λ (n : ℕ). bit n i) e ∙ bits bs i
