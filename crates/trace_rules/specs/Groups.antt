-- Document 01: "Numbers are groups of seven bits, low group first, high bit set on all but the last, shortest form only, at most 65,535."
-- Assumes nothing.
use Rattle.std.specs.Prelude.{ℕ, ◌+◌, ◌-◌, ◌*◌, List, Option, Some, None, cond, length, get_or, ltb, leb, eqb}

-- A number comes with the place after it; there is none where it is cut short, not in the shortest form, or over 65,535.
-- In each of the three, n is what the groups before make, and `past` the place after the group that is looked at.
-- The third group ends a number. 0 would not be the shortest form; over 3 is over 65,535, or has the high bit set.
abbrev pub third : ℕ → ℕ → ℕ → Option (ℕ × ℕ)
third n c past = cond (eqb c 0) None (cond (ltb 3 c) None (Some (n + c * 16384, past)))

unfoldable pub second : List ℕ → ℕ → ℕ → ℕ → Option (ℕ × ℕ)
second s n b past =
    cond (ltb b 128)
    (cond (eqb b 0) None (Some (n + b * 128, past)))
    (cond (leb (length s) past) None (third (n + (b - 128) * 128) (get_or s past 0) (past + 1)))

unfoldable pub first : List ℕ → ℕ → ℕ → Option (ℕ × ℕ)
first s a past =
    cond (ltb a 128)
    (Some (a, past))
    (cond (leb (length s) past) None (second s (a - 128) (get_or s past 0) (past + 1)))

-- the number at a place, and the place after it
unfoldable pub number_at : List ℕ → ℕ → Option (ℕ × ℕ)
number_at s at = cond (leb (length s) at) None (first s (get_or s at 0) (at + 1))

abbrev pub past : ℕ → Option (ℕ × ℕ) → ℕ
past at (Some (n, after)) = after
past at None = at

-- the place after the number at a place, or that place where there is none
unfoldable pub place_after : List ℕ → ℕ → ℕ
place_after s at = past at (number_at s at)
