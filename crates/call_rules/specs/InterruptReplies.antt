-- Document 01's table of replies, the row of `on_interrupt`, and what is promised of its answer.
-- Assumes nothing.
use Rattle.std.specs.Prelude.{◌≡◌, List, [], ◌∷◌}
use Rattle.record.specs.declared.Record.{Record}
use Rattle.record.specs.Record.{SoundRecord, reply_number}
use Rattle.record.specs.Rows.{Row, row, Replies}
use Rattle.call_rules.specs.Interrupt.{interrupted, interrupt_call}

abbrev pub interrupt_rows : Record → List Row
interrupt_rows k = row 16 (SoundRecord k → ⊥) ∷ []

-- its number is 16 exactly for a record that does not pass, which is left as it was, and 0 for any other, which is served
pub record Answers (k : Record) : Type 0 where
  pub replies : Replies (reply_number (interrupt_call k).answer) (interrupt_rows k)
  pub served : reply_number (interrupt_call k).answer ≡ 0 → (interrupt_call k).«record» ≡ interrupted k
  pub unchanged : (reply_number (interrupt_call k).answer ≡ 0 → ⊥) → (interrupt_call k).«record» ≡ k
