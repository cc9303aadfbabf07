-- Two directions are one, or they differ.
-- Assumes nothing.
use Prim.Native.Nat.{ℕ}
use mathlib.Core.Path.{◌≡◌, refl}
use native.Mathlib.Omega.{arith}
use Rattle.board.specs.declared.Direction.{Direction}
use Rattle.board.specs.declared.Direction.TheVariants.{Out, In}

pub in_out : In ≡ Out → ⊥
in_out p = let z : ◌≡◌ {A = ℕ} 0 1 = cc in omega arith

pub out_in : Out ≡ In → ⊥
out_in p = let z : ◌≡◌ {A = ℕ} 0 1 = cc in omega arith

pub same_direction : (c d : Direction) → Dec (c ≡ d)
same_direction Out Out = yes refl
same_direction Out In = no out_in
same_direction In Out = no in_out
same_direction In In = yes refl
