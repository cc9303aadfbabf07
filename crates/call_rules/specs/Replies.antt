-- Document 01's table of replies, the rows of the simple calls, and what is promised of their answers.
-- Assumes nothing.
use Rattle.std.specs.Prelude.{ℕ, ◌≤◌, ◌<◌, ◌≡◌, List, [], ◌∷◌, length}
use Rattle.record.specs.declared.Record.{Record}
use Rattle.record.specs.Record.{endpoints_of, SoundRecord, reply_number}
use Rattle.record.specs.Rows.{Row, row, Replies}
use Rattle.call_rules.specs.Calls.{CallOutcome}

-- the rows of each call, in document 01's order, "15, 16, 8, then .. address 14": "list under 384 numbers", a record that does not pass,
-- "endpoint 6 or more" (the board's own last endpoint being the highest), "address over 127"
abbrev pub list_rows : Record → List ℕ → List Row
list_rows k l = row 15 (length l < 384) ∷ row 16 (SoundRecord k → ⊥) ∷ []

abbrev pub address_rows : Record → ℕ → List ℕ → List Row
address_rows k a l = row 15 (length l < 384) ∷ row 16 (SoundRecord k → ⊥) ∷ row 14 (127 < a) ∷ []

abbrev pub endpoint_rows : Record → ℕ → List ℕ → List Row
endpoint_rows k e l = row 15 (length l < 384) ∷ row 16 (SoundRecord k → ⊥) ∷ row 8 (endpoints_of k ≤ e) ∷ []

-- a call's answer: its number is given exactly when its row is the first that holds, 0 where none does; "A refusal returns its number and
-- changes nothing": the record and the list are as they were, and no store is counted
pub record Answers (o : CallOutcome) (k : Record) (l : List ℕ) (rs : List Row) : Type 0 where
  pub replies : Replies (reply_number o.call.answer) rs
  pub unchanged : (reply_number o.call.answer ≡ 0 → ⊥) → o ≡ record { call = record { answer = o.call.answer; «record» = k; stores = 0 }; list = l }
