-- What is promised of the answer of `is_stalled`, which has a value. Its rows are those of any call at an endpoint.
-- Assumes nothing.
use Rattle.std.specs.Prelude.{ℕ, ◌≡◌, Bool, List, Ok}
use Rattle.record.specs.declared.Record.{Record}
use Rattle.record.specs.Rows.{Row, Replies}
use Rattle.call_rules.specs.Stall.{StalledOutcome, stalled_number}

-- its number is given exactly when its row is the first that holds, "0: done, with its value" where none does; a refused call changes nothing
pub record Tells (o : StalledOutcome) (k : Record) (l : List ℕ) (rs : List Row) (b : Bool) : Type 0 where
  pub replies : Replies (stalled_number o.call.answer) rs
  pub value : stalled_number o.call.answer ≡ 0 → o.call.answer ≡ Ok b
  pub unchanged : (stalled_number o.call.answer ≡ 0 → ⊥) → o ≡ record { call = record { answer = o.call.answer; «record» = k; stores = 0 }; list = l }
