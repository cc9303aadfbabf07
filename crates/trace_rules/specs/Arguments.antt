-- The arguments of an entry: numbers of the trace, each in its range, and what they stand for.
-- Assumes nothing.
use Rattle.std.specs.Prelude.{ℕ, ◌-◌, ◌<◌, ◌≤◌, List, Bool, Option, Some, None, cond, leb, eqb, length}
use Rattle.trace_rules.specs.Steps.{◌>>=◌}
use Rattle.trace_rules.specs.Groups.{number_at}
use Rattle.board.specs.declared.Direction.{Direction}
use Rattle.board.specs.declared.Direction.TheVariants.{Out, In}
use Rattle.event_rules.specs.declared.BusEvent.{BusEvent}
use Rattle.event_rules.specs.declared.BusEvent.TheVariants.{Reset, Suspend, Resume}

-- a number that was read, with the place after it, where it is at most `most`
abbrev pub in_range : ℕ → Option (ℕ × ℕ) → Option (ℕ × ℕ)
in_range most (Some (a, past)) = cond (leb a most) (Some (a, past)) None
in_range most None = None

-- the number at a place, where it is at most `most`
unfoldable pub arg_at : List ℕ → ℕ → ℕ → Option (ℕ × ℕ)
arg_at s at most = in_range most (number_at s at)

-- two numbers from a place on, at most m and at most n, with the place after them
unfoldable pub two_at : List ℕ → ℕ → ℕ → ℕ → Option (ℕ × ℕ × ℕ)
two_at s at m n = do
  (a, mid) ← arg_at s at m
  (b, past) ← arg_at s mid n
  Some (a, b, past)

-- "direction 0 out 1 in"
abbrev pub direction_of : ℕ → Direction
direction_of n = cond (eqb n 0) Out In

-- "0 or wanted+1"
abbrev pub wanted_of : ℕ → Option ℕ
wanted_of n = cond (eqb n 0) None (Some (n - 1))

-- "bus (0 reset 1 suspend 2 resume)"
abbrev pub bus_of : ℕ → BusEvent
bus_of n = cond (eqb n 0) Reset (cond (eqb n 1) Suspend Resume)

-- "0 or 1"
abbrev pub flag_of : ℕ → Bool
flag_of n = eqb n 1

-- an argument that was read is in its range, past its place, and inside the trace; and two of them
pub record Ranged (s : List ℕ) (at most a past : ℕ) : Type 0 where
  pub range : a ≤ most
  pub on : at < past
  pub inside : past ≤ length s

pub record RangedTwo (s : List ℕ) (at m n a b past : ℕ) : Type 0 where
  pub first : a ≤ m
  pub second : b ≤ n
  pub on : at < past
  pub inside : past ≤ length s
