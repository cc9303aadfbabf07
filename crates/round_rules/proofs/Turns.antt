-- The walk of the receive flags: what holds at each turn. Assumes nothing.
use Prim.Native.Nat.{ℕ, ◌+◌, ◌≤◌, ◌<◌}
use mathlib.Core.Path.{◌≡◌, refl, sym, ap, ◌∙◌}
use mathlib.Core.List.{◌∷◌, foldl}
use native.Mathlib.Omega.{arith}
use lib.ListN.{length}
use Rattle.laws.specs.Words.{set_bits, clear, Lowest}
use Rattle.laws.proofs.Words.{set_bits_zero, six_bits}
use Rattle.round_rules.specs.Walk.{Walk, visit}

-- from the walk s on, with the walk o when the flags `rest` are left: the walk over these, from here, is the whole
pub record Walking (flags : ℕ) (s o : Walk) (rest : ℕ) : Type 0 where
  pub small : flags < 64
  pub low : rest < 64
  pub under : o.out < 64
  pub fold : foldl (visit flags) o (set_bits rest) ≡ foldl (visit flags) s (set_bits flags)
  pub few : o.log.count + length (set_bits rest) ≤ s.log.count + 6
  pub long : length o.log.list ≡ length s.log.list

module _ (flags : ℕ) (s : Walk) where
  pub begin : flags < 64 → s.out < 64 → Walking flags s s flags
  begin h k = record { small = h; low = h; under = k; fold = refl; few = omega (arith, six_bits flags); long = refl }

  pub turn : (o p : Walk) (rest next e : ℕ) → Walking flags s o rest → Lowest rest e → next ≡ clear rest e → p ≡ visit flags o e
      → p.log.count ≡ o.log.count + 1 → p.out < 64 → length p.log.list ≡ length o.log.list → Walking flags s p next
  turn o p rest next e w l n v k u h =
      let f : set_bits rest ≡ e ∷ set_bits next = l.first ∙ ap (λ (x : ℕ). e ∷ set_bits x) (sym n) in
      record {
        small = w.small;
        low = omega (arith, w.low, l.less, n);
        under = u;
        fold = ap (λ (x : Walk). foldl (visit flags) x (set_bits next)) v ∙ ap (foldl (visit flags) o) (sym f) ∙ w.fold;
        few = omega (arith, ap length f, w.few, k);
        long = h ∙ w.long;
      }

  pub done : (o : Walk) (rest : ℕ) → Walking flags s o rest → rest ≡ 0 → o ≡ foldl (visit flags) s (set_bits flags)
  done o rest w z = ap (foldl (visit flags) o) (sym (ap set_bits z ∙ set_bits_zero)) ∙ w.fold
