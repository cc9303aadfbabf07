-- Document 01's table of replies as one call reads it: the rows that it can give, in the order of their tests, and which number is given.
-- Assumes nothing.
use Rattle.std.specs.Prelude.{ℕ, ◌≡◌, ◌↔◌, ◌⊎◌, List, [], ◌∷◌}

-- a row: its number, and what it says
pub record Row : Type 1 where
  pub number : ℕ
  pub Says : Type 0

abbrev pub row : ℕ → Type 0 → Row
row n A = record { number = n; Says = A }

-- "Given exactly when": a number is given where its row holds and no earlier one does; 0, "done", where none does
unfoldable pub Given : ℕ → List Row → Type 0
Given n [] = n ≡ 0
Given n (r ∷ rs) = (r.Says × (n ≡ r.number)) ⊎ ((r.Says → ⊥) × Given n rs)

-- what is promised of a call's reply, document 01's number of its answer: it is n exactly when the call's rows give n
abbrev pub Replies : ℕ → List Row → Type 0
Replies reply rs = (n : ℕ) → reply ≡ n ↔ Given n rs
