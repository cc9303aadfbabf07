-- What a program has written that steps through a trace: the lines of its steps, one after another.
-- Assumes nothing.
use Rattle.std.specs.Prelude.{ℕ, suc, ◌+◌, ◌≤◌, ◌≡◌, List, [], ◌++◌, length, take, drop}
use Rattle.report_rules.specs.Act.{State, state}
use Rattle.report_rules.specs.declared.Came.TheVariants.{Line}
use Rattle.report_rules.specs.declared.Stepped.{Stepped}
use Rattle.report_rules.specs.Report.{stepped, step_of, report_for}

-- A step at a place of the trace s, from the state x: it left r, the FIFO buffer f, the store list l and the line buffer `after`, as the
-- contract of `step` says. The line buffer may hold anything before.
pub record Took (s : List ℕ) (at : ℕ) (x : State) (r : Stepped) (f l after : List ℕ) : Type 0 where
  pub before : List ℕ
  pub outcome : stepped r f l after ≡ step_of s at x before
  pub fits : (len past : ℕ) → r.came ≡ Line len past → len ≤ length before

-- A program that began with the state x₀ has written `text`, stands at a place with n entries behind it, and has the state x.
pub data Reached (s : List ℕ) (x₀ : State) : List ℕ → ℕ → ℕ → State → Type 0 where
  begins : Reached s x₀ [] 0 0 x₀
  goes : (text : List ℕ) (at n : ℕ) (x : State) (r : Stepped) (f l after : List ℕ) (len past : ℕ) → Reached s x₀ text at n x → Took s at x r f l after
      → r.came ≡ Line len past → Reached s x₀ (text ++ take len after) past (suc n) (state r.«record» f l)

-- the report of the trace s from the state x on has these bytes at a place of it
pub record Has (x : State) (s : List ℕ) (place : ℕ) (bytes : List ℕ) : Type 0 where
  pub stands : take (length bytes) (drop place (report_for x s)) ≡ bytes

-- .. and they are its last
pub record Completes (x : State) (s : List ℕ) (place : ℕ) (last : List ℕ) : Type 0 where
  pub has : Has x s place last
  pub whole : place + length last ≡ length (report_for x s)
