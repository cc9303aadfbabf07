-- Document 01: "Each drained flag is cleared from the flags as first read, so one round clears only the highest drained one." In its own words,
-- beside the definition of the walk and apart from it. A flag is drained where it is set and RxPktRdy of its endpoint reads 0.
-- Assumes nothing.
use Rattle.std.specs.Prelude.{ℕ, ◌<◌, ◌≡◌, ◌⊎◌, Bool, true, false}
use Rattle.laws.specs.Words.{bit}
use Rattle.board.specs.declared.Direction.TheVariants.{Out}
use Rattle.register_file.specs.Registers.{File, side_at}

-- RxPktRdy of an endpoint
abbrev pub ready_in : File → ℕ → Bool
ready_in r e = (side_at r e Out).ready

-- k is the highest drained flag
pub record Highest (flags : ℕ) (ready : ℕ → Bool) (k : ℕ) : Type 0 where
  pub low : k < 6
  pub set : bit flags k ≡ true
  pub drained : ready k ≡ false
  pub above : (i : ℕ) → k < i → i < 6 → bit flags i ≡ true → ready i ≡ true

-- it is cleared, and no other flag comes or goes
pub record Cleared (flags out k : ℕ) : Type 0 where
  pub gone : bit out k ≡ false
  pub others : (j : ℕ) → j < 6 → (j ≡ k → ⊥) → bit out j ≡ bit flags j

-- the flags as first read, and those that the walk leaves: all of them where none is drained
abbrev pub ClearsHighest : ℕ → (ℕ → Bool) → ℕ → Type 0
ClearsHighest flags ready out =
    ((out ≡ flags) × ((i : ℕ) → i < 6 → bit flags i ≡ true → ready i ≡ true)) ⊎ ((k : ℕ) × Highest flags ready k × Cleared flags out k)
