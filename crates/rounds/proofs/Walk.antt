-- The three laws of the small machine's walk.
-- Assumes nothing.
use mathlib.Core.Path.{◌≡◌, refl, sym, ap, subst, ◌∙◌}
use mathlib.Core.Bool.{Bool, true, false, not, cond, ◌&&◌}
use Prim.Native.Nat.{ℕ, zero, suc, ◌<◌}
use native.Mathlib.Omega.{arith}
use native.Mathlib.Decide.{ℕ_discrete}
use lib.Dec.{T, T_not, not_T, eqb, eqb→eq, eqb_refl}
use borrow.Author.Tests.{eq-eqb}
use Rattle.rounds.specs.Shams.{drained, without}
use Rattle.rounds.proofs.Tests.{and_left, and_right, and_both, put_down}

-- an endpoint above i whose flag was put down
pub record Down (flag after : ℕ → Bool) (i n : ℕ) : Type 0 where
  pub at : ℕ
  pub above : i < at
  pub below : at < n
  pub was : T (flag at)
  pub down : T (not (after at))

module _ (flag ready : ℕ → Bool) where
  pub none_new : (n j : ℕ) → T (without flag ready n j) → T (flag j)
  none_new zero j t = t
  none_new (suc n) j t = go (drained flag ready n) t (none_new n j)
    where
      go : (d : Bool) → T (cond d (flag j && not (eqb j n)) (without flag ready n j)) → (T (without flag ready n j) → T (flag j)) → T (flag j)
      go true t rest = and_left (flag j) (not (eqb j n)) t
      go false t rest = rest t

  pub kept : (n j : ℕ) → T (ready j) → T (flag j) → T (without flag ready n j)
  kept zero j r x = x
  kept (suc n) j r x = go (drained flag ready n) refl (kept n j r x)
    where
      -- the drained one is another
      other : T (drained flag ready n) → T (not (eqb j n))
      other t = not_T (eqb j n) (λ same. T_not (ready n) (and_right (flag n) (not (ready n)) t) (subst (λ (m : ℕ). T (ready m)) (eqb→eq j n same) r))

      go : (d : Bool) → drained flag ready n ≡ d → T (without flag ready n j) → T (cond d (flag j && not (eqb j n)) (without flag ready n j))
      go true p rest = and_both (flag j) (not (eqb j n)) x (other (subst T (sym p) tt))
      go false p rest = rest

  pub mistaken : (n i : ℕ) → i < n → T (without flag ready n i) → T (not (ready i)) → Down flag (without flag ready n) i n
  mistaken zero i h t w = absurd (omega arith)
  mistaken (suc n) i h t w = go (drained flag ready n) refl t (ℕ_discrete i n) (mistaken n i)
    where
      go : (d : Bool) → drained flag ready n ≡ d → T (cond d (flag i && not (eqb i n)) (without flag ready n i)) → Dec (i ≡ n)
          → (i < n → T (without flag ready n i) → T (not (ready i)) → Down flag (without flag ready n) i n)
          → Down flag (λ j. cond d (flag j && not (eqb j n)) (without flag ready n j)) i (suc n)
      go true p t (yes here) rest = absurd (T_not (eqb i n) (and_right (flag i) (not (eqb i n)) t) (subst T (sym (eq-eqb i n here)) tt))
      go true p t (no other) rest =
          record {
            at = n;
            above = omega arith;
            below = omega arith;
            was = and_left (flag n) (not (ready n)) (subst T (sym p) tt);
            down = put_down (flag n) (eqb n n) (eqb_refl n);
          }
      go false p t (yes here) rest =
          absurd (subst T (ap (drained flag ready) here ∙ p) (and_both (flag i) (not (ready i)) (none_new n i t) w))
      go false p t (no other) rest =
          let x = rest (omega arith) t w in record { at = x.at; above = x.above; below = omega (arith, x.below); was = x.was; down = x.down }
