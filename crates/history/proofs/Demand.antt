-- The parts of demand 3 over the driver, for any board: its four sentences, what stands beside them, and that they are not empty. Assumes nothing.
use mathlib.Core.Path.{◌≡◌, sym, ap, subst, ◌∙◌}
use mathlib.Core.Bool.{true, false}
use mathlib.Core.List.{List}
use Prim.Native.Nat.{ℕ}
use native.Mathlib.Omega.{arith}
use lib.Dec.{T}
use Rattle.laws.specs.Words.{bit}
use Rattle.laws.proofs.Words.{bit_zero}
use Rattle.board.specs.declared.Board.{Board}
use Rattle.board.specs.declared.Direction.TheVariants.{Out}
use Rattle.register_file.specs.Registers.{File, intr_of}
use Rattle.register_file.proofs.Sides.{fresh_words, fresh_zero}
use Rattle.record.specs.declared.Record.{Record}
use Rattle.record.specs.Record.{fresh_record, record_sound}
use Rattle.record.proofs.Passing.{sound_record_passes}
use Rattle.calls.specs.Calls.{Op, poll, step}
use Rattle.calls.proofs.Kept.{good_fresh, good_step, same_board}
use Rattle.rounds.specs.Machine.{is_answered_poll, is_interrupt, arrives_at, after}
use Rattle.rounds.specs.Sentences.{Sentences, UntilTaken, StillThere, SameLength, StillAsLong, NotEmpty}
use Rattle.rounds.proofs.Counts.{count_at_most}
use Rattle.rounds.specs.Laws.{Lawful}
use Rattle.rounds.proofs.Lawful.{good_after}
use Rattle.rounds.proofs.Fourth.{round_with_none, round_after}
use Rattle.rounds.proofs.Taken.{still_there_lem as unless-taken, still_as_long_lem as long-unless-taken}
use Rattle.rounds.proofs.Sentences.{sentences}
use Rattle.history.specs.Driver.{event, takes, driver, calls}
use Rattle.history.specs.Demands.{SuspendOnce}
use Rattle.history.proofs.Look.{look, Kept}
use Rattle.history.proofs.Polls.{suspend_leaves_none, poll_answered}
use Rattle.history.proofs.Arrivals.{arrival_answered}
use Rattle.history.proofs.Interrupts.{interrupt_answered}
use Rattle.history.proofs.Steps.{does, one_place}
use Rattle.history.proofs.Packets.{high, counted, none_waits, lasts, calls_take}
use Rattle.history.proofs.Lengths.{arrives_long, stays_long}
use Rattle.history.proofs.Fetching.{read_answered}

module _ (b : Board) where
  pub kept_fresh : Kept b (fresh_record b)
  unfolding fresh_record
  kept_fresh = record { good = good_fresh b; board = (fresh_words b).1 }

  pub kept_step : (k : Record) (o : Op) → Kept b k → Kept b (step k o)
  kept_step k o g = record { good = good_step k o g.good; board = same_board k o g.good.six ∙ g.board }

  none_due : (j : ℕ) → bit (intr_of (fresh_record b).regs.words Out) j ≡ false
  unfolding fresh_record intr_of
  none_due j = ap (λ (w : File). bit (intr_of w Out) j) (fresh_words b).0 ∙ ap (λ (n : ℕ). bit n j) (fresh_zero 8) ∙ bit_zero j

  pub lawful : Lawful (driver b) (Kept b) (look b)
  unfolding fresh_record
  lawful =
      record {
        good_fresh = kept_fresh;
        good_step = kept_step;
        does = λ k o g. does b k g o;
        one_place = λ k o e g. one_place k o e;
        most = λ k. omega (arith, count_at_most k.irq.reset, count_at_most k.irq.resume, count_at_most k.irq.suspend);
        flag_fresh = λ j ep. bit_zero j;
        due_fresh = λ j ep. none_due j;
        sent_fresh = λ j ep. bit_zero j;
      }

  pub four_sentences : Sentences (driver b)
  four_sentences = sentences lawful (round_after lawful)

  -- Suspend is told once
  pub told_once : SuspendOnce b
  told_once h l k p c =
      let t = after (driver b) h in
      let g = good_after lawful h in
      round_with_none lawful (step t (poll l)) k p (kept_step t (poll l) g) (suspend_leaves_none b t g l c.told) c.between c.polled

  -- what arrived waits until it is taken
  pub until_taken_lem : UntilTaken (driver b)
  until_taken_lem =
      record {
        first = λ e ep. none_waits b e;
        each = λ e ep h o. lasts b (after (driver b) h) (good_after lawful h) e ep o;
        takers = λ e ep h o. calls_take (after (driver b) h) o e;
      }

  pub still_there_lem : StillThere (driver b)
  still_there_lem = unless-taken until_taken_lem

  -- and is as long as it was
  pub same_length_lem : SameLength (driver b)
  same_length_lem =
      record {
        arrived = λ e ep h o. arrives_long b (after (driver b) h) (good_after lawful h) e o;
        waits = λ e ep h o. stays_long b (after (driver b) h) (good_after lawful h) e ep o;
      }

  pub still_as_long_lem : StillAsLong (driver b)
  still_as_long_lem = long-unless-taken until_taken_lem same_length_lem

  pub not_empty_lem : NotEmpty (driver b) (calls b)
  not_empty_lem =
      record {
        until_taken = until_taken_lem;
        same_length = same_length_lem;
        good = λ h. passes h;
        polled = λ h o q.
            let k = after (driver b) h in
            subst (λ (o : Op). T (is_answered_poll (event k o))) (sym q.is) (poll_answered b k (good_after lawful h) q.list q.lent);
        taken = λ h o q.
            let k = after (driver b) h in
            subst (λ (o : Op). T (is_interrupt (event k o))) (sym q) (interrupt_answered b k (good_after lawful h));
        arrived = λ h e o q none.
            let k = after (driver b) h in
            subst (λ (o : Op). T (arrives_at e (event k o))) (sym q.is)
            (arrival_answered k e q.bytes q.fifo (passes h) q.there q.fits q.lent none);
        read = λ h e ep o q w.
            let k = after (driver b) h in
            let g = good_after lawful h in
            subst (λ (o : Op). T (takes k o e)) (sym q.is)
            (read_answered k e q.buffer q.fifo q.list (high b k g e ep) (passes h) (counted b k g e ep) q.lent q.lent' q.room w);
      }
    where
      passes : (h : List Op) → record_sound (after (driver b) h) ≡ true
      passes h = sound_record_passes (after (driver b) h) (good_after lawful h).good.sound
