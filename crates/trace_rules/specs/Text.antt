-- The text of a report, piece by piece. Document 01, 'Event trace'.
-- Assumes nothing.
use Rattle.std.specs.Prelude.{ℕ, zero, suc, ◌+◌, ◌/◌, ◌%◌, ◌≡◌, List, [], ◌∷◌, ◌++◌, cond, ltb, length}
use Rattle.std.proofs.lemmas.List.Edits.{sets}

-- the bytes bs stand in the buffer from `at` up to r, and all else is as it was
pub record Wrote (before after : List ℕ) (at r : ℕ) (bs : List ℕ) : Type 0 where
  pub count : r ≡ at + length bs
  pub bytes : after ≡ sets before at bs

-- the last k digits of n, or all of them where there are fewer; 48 is the digit 0
unfoldable pub digits : ℕ → ℕ → List ℕ
digits zero n = []
digits (suc k) n = cond (ltb n 10) ((48 + n) ∷ []) (digits k (n / 10) ++ ((48 + n % 10) ∷ []))

-- a number in decimal. It has no more digits than n + 1.
unfoldable pub decimal : ℕ → List ℕ
unfolding digits
decimal n = digits (suc n) n

-- a blank and a number
unfoldable pub field : ℕ → List ℕ
field n = 32 ∷ decimal n

unfoldable pub fields : List ℕ → List ℕ
fields [] = []
fields (n ∷ ns) = field n ++ fields ns
