-- Reply 16's test of one side, and what it says.
-- Assumes nothing.
use Prim.Native.Nat.{ℕ}
use mathlib.Core.Path.{◌≡◌, refl, sym, ◌∙◌}
use mathlib.Core.Bool.{Bool, true, false, cond}
use native.Mathlib.Omega.{arith}
use lib.Dec.{leb}
use borrow.Author.Tests.{leb-true, le-leb}
use Rattle.laws.proofs.Tests.{clash}
use Rattle.csr.specs.declared.Side.{Side}
use Rattle.csr.specs.Registers.{no_side}
use Rattle.csr.specs.Sound.{side_sound, SideOk}

-- one side: the test passes exactly when the side is sound
pub side_ok : (n : ℕ) (s : Side) → side_sound n s ≡ true → SideOk n s
unfolding side_sound
side_ok n s p = go s.ready refl p
  where
    go : (b : Bool) → s.ready ≡ b → leb s.len (cond b n 0) ≡ true → SideOk n s
    go true e q = record { fits = leb-true s.len n q; none = λ f. clash (sym e ∙ f) }
    go false e q = let z = leb-true s.len 0 q in record { fits = omega (arith, z); none = λ f. omega (arith, z) }

pub side_test : (n : ℕ) (s : Side) → SideOk n s → side_sound n s ≡ true
unfolding side_sound
side_test n s k = go s.ready refl
  where
    go : (b : Bool) → s.ready ≡ b → leb s.len (cond b n 0) ≡ true
    go true e = le-leb s.len n k.fits
    go false e = le-leb s.len 0 (omega (arith, k.none e))

pub none_ok : (n : ℕ) → SideOk n no_side
none_ok n = record { fits = omega arith; none = λ _. refl }
