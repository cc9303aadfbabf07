-- A store in the list: what stands elsewhere stays.
-- Assumes nothing.
use Prim.Native.Nat.{ℕ, ◌+◌, ◌*◌, ◌<◌, ◌≤◌}
use mathlib.Core.Path.{◌≡◌, refl, ◌∙◌}
use native.Mathlib.Omega.{arith}
use lib.Dec.{lit<}
use lib.ListN.{length, length-set, get_or, set, drop}
use lib.Seq.{get_or-set_same, get_or-set_other}
use mathlib.Core.List.{List, [], ◌∷◌}
use mathlib.Core.Logic.{◌⊎◌, inl, inr}
use Rattle.store_list.specs.Stores.{listed}

-- "entries past the count stay", and so do those before it
far : (i n k : ℕ) → k < 3 → (i < n * 3) ⊎ (n * 3 + 3 ≤ i) → i ≡ n * 3 + k → ⊥
far i n k b (inl h) p = omega arith
far i n k b (inr h) p = omega arith

pub listed_other : (l : List ℕ) (n a e v i z : ℕ) → (i < n * 3) ⊎ (n * 3 + 3 ≤ i) → get_or (listed l n a e v) i z ≡ get_or l i z
unfolding listed
listed_other l n a e v i z h =
    get_or-set_other (set (set l (n * 3) a) (n * 3 + 1) e) (n * 3 + 2) i v z (far i n 2 (lit< tt) h)
    ∙ get_or-set_other (set l (n * 3) a) (n * 3 + 1) i e z (far i n 1 (lit< tt) h)
    ∙ get_or-set_other l (n * 3) i a z (λ (p : i ≡ n * 3). far i n 0 (lit< tt) h (omega arith))

-- a store stands at its place, where the list has room for it
module _ (l : List ℕ) (n a e v : ℕ) where
  pub listed_length : length (listed l n a e v) ≡ length l
  unfolding listed
  listed_length = length-set (set (set l (n * 3) a) (n * 3 + 1) e) (n * 3 + 2) v ∙ length-set (set l (n * 3) a) (n * 3 + 1) e ∙ length-set l (n * 3) a

  module _ (room : n * 3 + 3 ≤ length l) where
    pub listed_register : get_or (listed l n a e v) (n * 3) 0 ≡ a
    unfolding listed
    listed_register =
        get_or-set_other (set (set l (n * 3) a) (n * 3 + 1) e) (n * 3 + 2) (n * 3) v 0 (λ p. omega arith)
        ∙ get_or-set_other (set l (n * 3) a) (n * 3 + 1) (n * 3) e 0 (λ p. omega arith)
        ∙ get_or-set_same l (n * 3) a 0 (omega arith)

    pub listed_value : get_or (listed l n a e v) (n * 3 + 2) 0 ≡ v
    unfolding listed
    listed_value =
        get_or-set_same (set (set l (n * 3) a) (n * 3 + 1) e) (n * 3 + 2) v 0
        (omega (arith, length-set (set l (n * 3) a) (n * 3 + 1) e, length-set l (n * 3) a))

-- the first store of a list
pub listed_first : (l : List ℕ) (register endpoint value : ℕ) → 3 ≤ length l → listed l 0 register endpoint value ≡ register ∷ endpoint ∷ value ∷ drop 3 l
unfolding listed
listed_first [] r e v h = absurd (omega arith)
listed_first (a ∷ []) r e v h = absurd (omega arith)
listed_first (a ∷ b ∷ []) r e v h = absurd (omega arith)
listed_first (a ∷ b ∷ c ∷ l) r e v h = refl
