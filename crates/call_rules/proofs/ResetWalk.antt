-- The walk of `reset` over the endpoints: what holds at each turn.
-- Assumes nothing.
use Prim.Native.Nat.{ℕ, ◌+◌, ◌*◌, ◌≤◌, ◌<◌}
use mathlib.Core.Path.{◌≡◌, refl, ap, ◌∙◌}
use mathlib.Core.List.{List}
use native.Mathlib.Omega.{arith}
use native.Mathlib.Numerals.{add-one}
use lib.ListN.{length, get_or}
use Rattle.endpoints.specs.declared.EndpointData.{EndpointData}
use Rattle.endpoints.specs.Endpoints.{blank}
use Rattle.store_rules.specs.Stores.{Log}
use Rattle.call_rules.specs.Reset.{used_enabled, enabled_below}

-- from the log g on, with the log h when endpoint i of n comes: those below i are enabled, at most fourteen stores each
pub record Walking (es : List EndpointData) (g : Log) (n : ℕ) (h : Log) (i : ℕ) : Type 0 where
  pub within : i ≤ n
  pub so_far : h ≡ enabled_below es i g
  pub few : h.count ≤ g.count + 14 * i
  pub long : length h.list ≡ length g.list

module _ (es : List EndpointData) (g : Log) (n : ℕ) where
  pub begin : Walking es g n g 0
  unfolding enabled_below
  begin = record { within = omega arith; so_far = refl; few = omega arith; long = refl }

  pub turn : (h o : Log) (i : ℕ) → Walking es g n h i → i < n → o ≡ used_enabled i (get_or es i blank) h → o.count ≤ h.count + 14
      → length o.list ≡ length h.list → Walking es g n o (i + 1)
  unfolding enabled_below
  turn h o i w lt e k l =
      record {
        within = omega arith;
        so_far = rw add-one (e ∙ ap (used_enabled i (get_or es i blank)) w.so_far);
        few = omega arith;
        long = l ∙ w.long;
      }

  pub end : (h : Log) (i : ℕ) → Walking es g n h i → n ≤ i → h ≡ enabled_below es n g
  end h i w le =
      let same : i ≡ n = omega arith in
      w.so_far ∙ ap (λ (m : ℕ). enabled_below es m g) same
