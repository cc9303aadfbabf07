-- A side's five control bits as one number: read back, they are the bits, and the number is below 32.
-- Assumes nothing.
use Prim.Native.Nat.{ℕ, ◌<◌, ◌≤◌}
use mathlib.Core.Path.{◌≡◌, refl}
use mathlib.Core.Bool.{Bool, true, false, cond}
use native.Mathlib.Omega.{arith}
use lib.Dec.{eqb}
use Rattle.laws.specs.Words.{bit}
use Rattle.csr.specs.declared.Side.{Side}
use Rattle.register_file.specs.Registers.{side_word, side_of}

abbrev pub made : Bool → Bool → Bool → Bool → Bool → ℕ → ℕ → Side
made a b c d e m n = record { ready = a; missed = b; stall = c; stalled = d; iso = e; maxp = m; len = n }

word : (a b c d e : Bool) (m n : ℕ) → side_of (side_word (made a b c d e m n)) m n ≡ made a b c d e m n
unfolding bit side_word side_of
word true true true true true m n = refl
word true true true true false m n = refl
word true true true false true m n = refl
word true true true false false m n = refl
word true true false true true m n = refl
word true true false true false m n = refl
word true true false false true m n = refl
word true true false false false m n = refl
word true false true true true m n = refl
word true false true true false m n = refl
word true false true false true m n = refl
word true false true false false m n = refl
word true false false true true m n = refl
word true false false true false m n = refl
word true false false false true m n = refl
word true false false false false m n = refl
word false true true true true m n = refl
word false true true true false m n = refl
word false true true false true m n = refl
word false true true false false m n = refl
word false true false true true m n = refl
word false true false true false m n = refl
word false true false false true m n = refl
word false true false false false m n = refl
word false false true true true m n = refl
word false false true true false m n = refl
word false false true false true m n = refl
word false false true false false m n = refl
word false false false true true m n = refl
word false false false true false m n = refl
word false false false false true m n = refl
word false false false false false m n = refl

pub read_back : (s : Side) → side_of (side_word s) s.maxp s.len ≡ s
read_back s = word s.ready s.missed s.stall s.stalled s.iso s.maxp s.len

pub at_most : (b : Bool) (n : ℕ) → cond b n 0 ≤ n
at_most true n = omega arith
at_most false n = omega arith

pub is_one : (b : Bool) → eqb (cond b 1 0) 1 ≡ b
is_one true = refl
is_one false = refl

pub word_lt : (s : Side) → side_word s < 32
unfolding side_word
word_lt s =
    omega (arith, at_most s.ready 1, at_most s.missed 2, at_most s.stall 4, at_most s.stalled 8, at_most s.iso 16)
