-- What `on_interrupt` answers: 16 exactly for a record that does not pass, which is left as it was, and 0 else. Assumes nothing.
use mathlib.Core.Path.{◌≡◌, refl}
use mathlib.Core.Bool.{Bool, true, false, not, cond}
use native.Mathlib.Omega.{arith}
use Rattle.record.specs.declared.Record.{Record}
use Rattle.record.specs.Record.{record_sound, reply_number}
use Rattle.record.proofs.Rows.{exactly, none_left, tested, tells_bad}
use Rattle.call_rules.specs.Interrupt.{interrupted, interrupt_by, interrupt_call}
use Rattle.call_rules.specs.InterruptReplies.{interrupt_rows, Answers}

module _ (k : Record) where
  numbered : (b : Bool) → reply_number (interrupt_by b k).answer ≡ cond (not b) 16 0
  numbered true = refl
  numbered false = refl

  done : (b : Bool) → reply_number (interrupt_by b k).answer ≡ 0 → (interrupt_by b k).«record» ≡ interrupted k
  done true z = refl
  done false z = absurd (omega arith)

  kept : (b : Bool) → (reply_number (interrupt_by b k).answer ≡ 0 → ⊥) → (interrupt_by b k).«record» ≡ k
  kept true n = absurd (n refl)
  kept false n = refl

  pub answers : Answers k
  unfolding interrupt_call
  answers = record {
    replies = exactly (interrupt_rows k) (rw (numbered (record_sound k)) (tested 16 _ _ _ (tells_bad k) none_left));
    served = done (record_sound k);
    unchanged = kept (record_sound k);
  }
