-- A loop over the endpoints from 1 on: what holds at each turn, whatever a turn does.
-- Assumes nothing.
use Prim.Native.Nat.{ℕ, ◌+◌, ◌-◌, ◌*◌, ◌≤◌, ◌<◌}
use mathlib.Core.Path.{◌≡◌, refl, sym, ap, ◌∙◌}
use mathlib.Core.List.{foldl}
use native.Mathlib.Omega.{arith}
use lib.ListN.{length}
use Rattle.store_rules.specs.Stores.{Log}
use Rattle.laws.specs.Lists.{numbers}
use Rattle.laws.proofs.Lists.{numbers_next, numbers_none}

-- from the log g on, of b endpoints, with the log h when endpoint i comes: the walk over what is left, from here, is the whole
pub record Walking (does : Log → ℕ → Log) (g : Log) (b : ℕ) (h : Log) (i : ℕ) : Type 0 where
  pub six : b ≤ 6
  pub within : i ≤ 6
  pub rest : foldl does h (numbers i (b - i)) ≡ foldl does g (numbers 1 (b - 1))
  pub few : h.count + 3 ≤ g.count + 3 * i
  pub long : length h.list ≡ length g.list

module _ (does : Log → ℕ → Log) (g : Log) (b : ℕ) where
  pub begin : b ≤ 6 → Walking does g b g 1
  begin h = record { six = h; within = omega arith; rest = refl; few = omega arith; long = refl }

  pub turn : (h o : Log) (i : ℕ) → Walking does g b h i → i < b → o ≡ does h i → o.count ≤ h.count + 3 → length o.list ≡ length h.list
      → Walking does g b o (i + 1)
  turn h o i w lt e k l =
      record {
        six = w.six;
        within = omega arith;
        rest = ap (λ (x : Log). foldl does x (numbers (i + 1) (b - (i + 1)))) e ∙ ap (foldl does h) (sym (numbers_next i b lt)) ∙ w.rest;
        few = omega arith;
        long = l ∙ w.long;
      }

  pub done : (h : Log) (i : ℕ) → Walking does g b h i → b ≤ i → (h ≡ foldl does g (numbers 1 (b - 1))) × (h.count ≤ g.count + 15)
  done h i w le = (ap (foldl does h) (sym (numbers_none i b le)) ∙ w.rest, omega arith)
