-- The registers that endpoints 1 to 5 have each for itself: while endpoint 0 is selected a store to them changes nothing, else one side.
-- Assumes nothing.
use Prim.Native.Nat.{ℕ, ◌<◌}
use mathlib.Core.Path.{◌≡◌, refl}
use mathlib.Core.Bool.{Bool, true, false, cond}
use borrow.Author.Tests.{eq-eqb, ne_eqb}
use lib.Dec.{eqb}
use lib.ListN.{length, get_or}
use Rattle.board.specs.declared.Direction.{Direction}
use Rattle.csr.specs.declared.Side.{Side}
use Rattle.csr.specs.Registers.{towards}
use Rattle.register_file.specs.Registers.{File, Whole, side_at, with_side, setupend}
use Rattle.register_file.specs.Sound.{Clean}
use Rattle.register_file.proofs.Sides.{side_seen, keeps, keeps_length, keeps_setupend}
use Rattle.register_file.proofs.Soundness.{clean_side}
use Rattle.store_rules.specs.Stores.{with_own}

module _ (w : File) (e : ℕ) (d : Direction) (s : Side) where
  pub own_zero : e ≡ 0 → w ≡ with_own w e d s
  unfolding with_own
  own_zero p = rw (eq-eqb e 0 p)

  pub own_there : {v : File} → (e ≡ 0 → ⊥) → v ≡ with_side w e d s → v ≡ with_own w e d s
  unfolding with_own
  own_there n p = rw (ne_eqb e 0 n) p

  -- what is true of the file as it was, and of the file with the side changed
  either : (P : File → Type 0) → P w → P (with_side w e d s) → P (with_own w e d s)
  unfolding with_own
  either P p q = go (eqb e 0)
    where
      go : (b : Bool) → P (cond b w (with_side w e d s))
      go true = p
      go false = q

  pub own_keeps : (q : ℕ) → q < 10 → get_or (with_own w e d s) q 0 ≡ get_or w q 0
  own_keeps q h = either (λ (v : File). get_or v q 0 ≡ get_or w q 0) refl (keeps w e d s q h)

  pub own_length : length (with_own w e d s) ≡ length w
  own_length = either (λ (v : File). length v ≡ length w) refl (keeps_length w e d s)

  pub own_ends : setupend (with_own w e d s) ≡ setupend w
  own_ends = either (λ (v : File). setupend v ≡ setupend w) refl (keeps_setupend w e d s)

  pub own_clean : Whole w → Clean w → Clean (with_own w e d s)
  own_clean six k = either (λ (v : File). Clean v) k (clean_side w e d s six k)

-- seen at endpoint e and direction d
pub own_seen : (w : File) (i : ℕ) (c : Direction) (f : Side → Side) (e : ℕ) (d : Direction) → Whole w → i < 6
    → side_at (with_own w i c (f (side_at w i c))) e d ≡ cond (eqb i 0) (side_at w e d) (cond (eqb e i) (towards c d f (side_at w e d)) (side_at w e d))
unfolding with_own
own_seen w i c f e d six h = go (eqb i 0)
  where
    go : (b : Bool)
        → side_at (cond b w (with_side w i c (f (side_at w i c)))) e d
        ≡ cond b (side_at w e d) (cond (eqb e i) (towards c d f (side_at w e d)) (side_at w e d))
    go true = refl
    go false = side_seen w i c f e d six h
