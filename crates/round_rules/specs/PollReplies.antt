-- Document 01's table of replies, the rows of `poll`, and what is promised of its answer.
-- Assumes nothing.
use Rattle.std.specs.Prelude.{ℕ, ◌<◌, ◌≡◌, List, [], ◌∷◌, length}
use Rattle.record.specs.declared.Record.{Record}
use Rattle.record.specs.Record.{SoundRecord}
use Rattle.record.specs.Rows.{Row, row, Replies}
use Rattle.round_rules.specs.Poll.{poll_call, poll_number}

-- "list under 384 numbers", then a record that does not pass
abbrev pub poll_rows : Record → List ℕ → List Row
poll_rows k l = row 15 (length l < 384) ∷ row 16 (SoundRecord k → ⊥) ∷ []

-- its number is given exactly when its row is the first that holds, 0 where none does; a refused poll leaves the record and the list as they
-- were and counts no store
pub record Answers (k : Record) (l : List ℕ) : Type 0 where
  pub replies : Replies (poll_number (poll_call k l).result.answer) (poll_rows k l)
  pub unchanged : (poll_number (poll_call k l).result.answer ≡ 0 → ⊥)
      → poll_call k l ≡ record { result = record { answer = (poll_call k l).result.answer; «record» = k; stores = 0 }; list = l }
