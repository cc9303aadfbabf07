-- An interrupt of a record that passes reply 16's test is answered, and takes what the interrupt registers held. Assumes nothing.
use Rattle.record.specs.declared.Answered.{Answered}
use mathlib.Core.Path.{◌≡◌, sym, ap, subst, ◌∙◌}
use mathlib.Core.Bool.{Bool, true}
use Prim.Native.Nat.{ℕ, ◌<◌}
use lib.Dec.{T}
use lib.ListN.{length}
use Rattle.laws.specs.Words.{bit}
use Rattle.laws.proofs.Words.{bit_zero}
use Rattle.board.specs.declared.Board.{Board}
use Rattle.board.specs.Boards.{rows, at_most_six}
use Rattle.event_rules.proofs.Others.{usb_clears}
use Rattle.record.specs.declared.Record.{Record}
use Rattle.record.specs.Record.{endpoints_in, endpoints_of, Reply}
use Rattle.record.proofs.Passing.{sound_record_passes}
use Rattle.call_rules.specs.Interrupt.{snapshot_of, interrupted, interrupt_by, interrupt_call}
use Rattle.calls.specs.Calls.{on_interrupt}
use Rattle.rounds.specs.Machine.{interrupt, is_interrupt}
use Rattle.rounds.specs.Sentences.{Endpoint}
use Rattle.rounds.specs.Laws.{Does}
use Rattle.history.specs.Driver.{interrupt_event, event, driver}
use Rattle.call_rules.proofs.Taken.{takes, none_due}
use Rattle.history.proofs.Look.{look, Kept, below}

module _ (b : Board) (k : Record) (kept : Kept b k) where
  is_answered : interrupt_call k ≡ interrupt_by true k
  unfolding interrupt_call
  is_answered = ap (λ (passes : Bool). interrupt_by passes k) (sound_record_passes k kept.good.sound)

  abbrev InterruptDoes : Answered (Reply Unit) → Type 0
  InterruptDoes o = Does (look b) k (interrupt_event o.answer k) o.«record»

  taken_in : InterruptDoes (interrupt_by true k)
  unfolding interrupted endpoints_in endpoints_of
  taken_in =
      let t = takes (length (rows k.regs.board)) k.regs.words k.irq kept.good.six (at_most_six k.regs.board) in
      record {
        flag = λ j ep. t.rx j ep.low (there j ep);
        due = λ j ep. ap (λ (w : ℕ). bit w j) (none_due k.regs.words kept.good.six) ∙ bit_zero j;
        sent = λ j ep. t.tx j ep.low (there j ep);
      }
    where
      there : (j : ℕ) → Endpoint (driver b) j → j < length (rows k.regs.board)
      there j ep = rw kept.board (below b j ep)

  pub interrupt_does : InterruptDoes (interrupt_call k)
  interrupt_does = subst InterruptDoes (sym is_answered) taken_in

  -- what the interrupt is said to have read is the snapshot that the call took
  pub reads_snapshot : event k on_interrupt ≡ interrupt (bit (snapshot_of k.regs.words).tx)
  unfolding snapshot_of
  reads_snapshot =
      ap (λ (o : Answered (Reply Unit)). interrupt_event o.answer k) is_answered
      ∙ ap (λ (n : ℕ). interrupt (bit n)) (sym (usb_clears k.regs.words kept.good.six).1)

  pub interrupt_answered : T (is_interrupt (interrupt_event (interrupt_call k).answer k))
  interrupt_answered = subst (λ (o : Answered (Reply Unit)). T (is_interrupt (interrupt_event o.answer k))) (sym is_answered) tt
