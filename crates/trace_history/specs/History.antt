-- A trace as a history of operations: its entries in order, the operation of each with what the program lends it, and what these operations leave
-- and print. What an operation does is said by `calls` alone, as in the demands.
-- Assumes nothing.
use Rattle.std.specs.Prelude.{ℕ, zero, suc, ◌≡◌, length, take}
use mathlib.Core.List.{List, [], ◌∷◌, ◌++◌, foldl}
use Rattle.calls.specs.Calls.{Op, outcome, runs}
use Rattle.trace_rules.specs.Lines.{line, end_line, bad_line}
use Rattle.trace_rules.specs.declared.Entry.{Entry}
use Rattle.trace_rules.specs.declared.Parsed.{Parsed}
use Rattle.trace_rules.specs.declared.Parsed.TheVariants.{Found, End, Bad}
use Rattle.trace_rules.specs.Entries.{entry_at}
use Rattle.report_rules.specs.Act.{State, operation, code, did}

-- The entries of a trace in order, up to its end or to the first that is bad; which they are does not hang on what they do. At most so many:
-- an entry has at least one byte, so that the trace's length bounds them.
abbrev pub entries_by : (ℕ → List Entry) → Parsed → List Entry
entries_by rest (Found e past) = e ∷ rest past
entries_by rest End = []
entries_by rest Bad = []

unfoldable pub entries_from : ℕ → List ℕ → ℕ → List Entry
entries_from zero s at = []
entries_from (suc most) s at = entries_by (λ past. entries_from most s past) (entry_at s at)

unfoldable pub entries_of : List ℕ → List Entry
entries_of s = entries_from (suc (length s)) s 0

-- the state after an operation
abbrev pub after : State → Op → State
after x o = (did x o).state

-- The operations of the trace s from the state x on: each is lent what those before it have left.
unfoldable pub operations_from : List ℕ → List Entry → State → List Op
operations_from s [] x = []
operations_from s (e ∷ es) x =
    operation s e x.fifo x.list ∷ operations_from s es (after x (operation s e x.fifo x.list))

abbrev pub operations_of : State → List ℕ → List Op
operations_of x s = operations_from s (entries_of s) x

-- "per entry its code, reply and values in decimal": of operations in order, from the state x on
abbrev pub line_for : State → Op → List ℕ
line_for x o = line (code o ∷ (outcome x.«record» o).reply ∷ (outcome x.«record» o).values)

unfoldable pub lines_of : State → List Op → List ℕ
lines_of x [] = []
lines_of x (o ∷ os) = line_for x o ++ lines_of (after x o) os

-- the last line: "`end` and the entry count", or "`bad` and the offset of its first byte"
abbrev pub last_by : (ℕ → List ℕ) → ℕ → ℕ → Parsed → List ℕ
last_by rest at n (Found e past) = rest past
last_by rest at n End = end_line n
last_by rest at n Bad = bad_line at

unfoldable pub last_from : ℕ → List ℕ → ℕ → ℕ → List ℕ
last_from zero s at n = []
last_from (suc most) s at n = last_by (λ past. last_from most s past (suc n)) at n (entry_at s at)

unfoldable pub last_of : List ℕ → List ℕ
last_of s = last_from (suc (length s)) s 0 0

-- A program that began with the state x₀ has written `text`, with n entries of the trace s behind it, and has the state x: the trace's first n
-- operations, in order, lead there, and `text` is their lines.
pub record Along (s : List ℕ) (x₀ : State) (text : List ℕ) (n : ℕ) (x : State) : Type 0 where
  pub count : length (take n (operations_of x₀ s)) ≡ n
  pub leads : foldl after x₀ (take n (operations_of x₀ s)) ≡ x
  pub lines : lines_of x₀ (take n (operations_of x₀ s)) ≡ text
  -- what demands 1 and 3 speak of: a history of records
  pub history : runs x₀.«record» (take n (operations_of x₀ s)) ≡ x.«record»
