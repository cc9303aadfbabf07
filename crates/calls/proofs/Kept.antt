-- What every operation keeps. Assumes nothing.
use Prim.Native.Nat.{ℕ}
use mathlib.Core.Path.{◌≡◌, refl, sym, ap, subst, ◌∙◌}
use mathlib.Core.Bool.{Bool, true, false}
use mathlib.Core.List.{List}
use Rattle.board.specs.declared.Board.{Board}
use Rattle.board.specs.declared.Direction.{Direction}
use lib.ListN.{length}
use Rattle.register_file.specs.Registers.{File, Whole}
use Rattle.register_file.proofs.Sides.{fresh_words, fresh_whole}
use Rattle.record.specs.declared.Record.{Record}
use Rattle.record.specs.Record.{fresh_record, record_sound, area_in, area_of, SoundRecord}
use Rattle.record.proofs.Areas.{size_at}
use Rattle.record.proofs.Passing.{fresh_passes}
use Rattle.store_rules.specs.Stores.{Log}
use Rattle.event_rules.specs.Promise.{Event}
use Rattle.event_rules.proofs.Promises.{rest}
use Rattle.call_rules.specs.Interrupt.{interrupted, interrupt_by, interrupt_call}
use Rattle.calls.specs.Calls.{Op, alloc_ep, bus_init, enable, reset, set_device_address, write, read, set_stalled, is_stalled, poll, on_interrupt, force_reset, arrival, collection, bus_reset, suspend, resume, setup_end, underrun, overrun, outcome, step}
use Rattle.calls.specs.DataEnd.{ends_data}
use Rattle.calls.specs.Demand.{lent}
use Rattle.calls.specs.Kept.{Good, Pending, Stores, WritesStall}
use Rattle.calls.proofs.Steps.{Step, Sane, Gentle, Holds, keeps, holds}
use Rattle.calls.proofs.Accounts.{Low, Account, left, sane, gentle as softer}
use Rattle.calls.proofs.Simple as simple
use Rattle.calls.proofs.Writing as writing
use Rattle.calls.proofs.Reading as reading
use Rattle.calls.proofs.Polling as polling
use Rattle.calls.proofs.Happening as happening
use Rattle.calls.proofs.Happening.{Happens, refused as not-happened, happened, happens_holds, cleared_rest, cleared_holds, interrupt_low}

-- reply 16 over the board's table, and back
module _ (k : Record) where
  pub to_holds : SoundRecord k → Whole k.regs.words → Holds k.regs.board k.regs.words
  unfolding area_in area_of
  to_holds s six = record {
    standing = record { six = six; selected = s.regs.selected; address = s.regs.address; clean = s.regs.clean };
    side = λ (e : ℕ) (d : Direction). rw (size_at k e d) at (s.regs.side e d);
  }

  good_by : Holds k.regs.board k.regs.words → Low k.regs.board k.irq → Good k
  unfolding area_in area_of
  good_by h f = record {
    sound = record {
      regs = record {
        selected = h.standing.selected;
        address = h.standing.address;
        clean = h.standing.clean;
        side = λ (e : ℕ) (d : Direction). rw (size_at k e d) (h.side e d);
      };
      tx = f.0;
      rx = f.1;
    };
    six = h.standing.six;
  }

-- what is good for the board that the record had is good for the board that it has
good_after : (k : Record) {b : Board} {r : File} → k.regs.board ≡ b → k.regs.words ≡ r → Holds b r → Low b k.irq → Good k
good_after k {b} {r} same is h f =
    good_by k (subst (λ (c : Board). Holds c k.regs.words) (sym same) (subst (Holds b) (sym is) h)) (subst (λ (c : Board). Low c k.irq) (sym same) f)

pub good_fresh : (b : Board) → Good (fresh_record b)
unfolding fresh_record
good_fresh b = record { sound = fresh_passes b; six = ap length (fresh_words b).0 ∙ fresh_whole }

-- the interrupt: refused, or its registers are read and its flags taken
pub data Interrupts (k q : Record) : Type 0 where
  refused : q ≡ k → Interrupts k q
  taken : record_sound k ≡ true → q ≡ interrupted k → Interrupts k q

pub on_interrupt_lem : (k : Record) → Interrupts k (interrupt_call k).«record»
unfolding interrupt_call
on_interrupt_lem k = go (record_sound k) refl
  where
    go : (b : Bool) → record_sound k ≡ b → Interrupts k (interrupt_by b k).«record»
    go true p = taken p refl
    go false p = refused refl

-- the account of all that an operation leaves
abbrev pub By : (Board → Step → Log → Type 0) → Record → Op → Type 0
By May k o = Account (May k.regs.board) (ends_data k o) k (lent o).list (step k o) (outcome k o).list (outcome k o).stores

pub data Accounted (k : Record) (o : Op) : Type 0 where
  gentle : By Gentle k o → Accounted k o
  stalling : WritesStall o → By Sane k o → Accounted k o
  event : {v : Event} → (Stores o → ⊥) → Happens v k (step k o) → Accounted k o
  interrupt : (Stores o → ⊥) → Interrupts k (step k o) → Accounted k o

pub account : (k : Record) (o : Op) → Whole k.regs.words → Accounted k o
account k (alloc_ep q w) six = gentle (softer (simple.alloc_ep_lem k q w))
account k (bus_init l) six = gentle (softer (simple.bus_init_lem k l))
account k (enable l) six = gentle (softer (simple.enable k l))
account k (reset l) six = stalling tt (simple.reset k l)
account k (set_device_address a l) six = gentle (softer (simple.set_device_address_lem k a l))
account k (write e b f l) six = gentle (softer (writing.write k e b f l six))
account k (read e b f l) six = gentle (reading.read k e b f l)
account k (set_stalled e d s l) six = stalling tt (simple.set_stalled_lem k e d s l)
account k (is_stalled e d l) six = gentle (softer (simple.is_stalled_lem k e d l))
account k (poll l) six = gentle (softer (polling.poll k l))
account k on_interrupt six = interrupt (λ c. c) (on_interrupt_lem k)
account k force_reset six = gentle (left refl refl)
account k (arrival e b f) six = event (λ c. c) (happening.arrival_comes k e b f)
account k (collection e f) six = event (λ c. c) (happening.collection_comes k e f)
account k bus_reset six = event (λ c. c) (happening.bus_reset_lem k)
account k suspend six = event (λ c. c) (happening.bus_suspend_lem k)
account k resume six = event (λ c. c) (happening.bus_resume_lem k)
account k setup_end six = event (λ c. c) (happening.setup_end_lem k)
account k (underrun e) six = event (λ c. c) (happening.underrun k e)
account k (overrun e) six = event (λ c. c) (happening.overrun k e)

-- the record stays good
module _ (k : Record) where
  call_good : {x : Bool} {l m : List ℕ} {q : Record} {n : ℕ} → Account (Sane k.regs.board) x k l q m n → Good k → Good q
  call_good {q = q} a g = good_after q a.board refl (holds a.path (to_holds k g.sound g.six)) (a.flags (g.sound.tx, g.sound.rx))

  event_good : {o : Event} {q : Record} → Happens o k q → Good k → Good q
  event_good (not-happened p) g = subst Good (sym p) g
  event_good {o} {q} (happened i f c p s) g =
      good_after q c p (happens_holds k.regs.board o k.regs.words i f (to_holds k g.sound g.six)) (rw s (g.sound.tx, g.sound.rx))

  interrupt_good : {q : Record} → Interrupts k q → Good k → Good q
  unfolding interrupted
  interrupt_good (refused p) g = subst Good (sym p) g
  interrupt_good (taken s p) g =
      subst Good (sym p)
      (good_after (interrupted k) refl refl (cleared_holds k.regs.board k.regs.words (to_holds k g.sound g.six)) (interrupt_low k (g.sound.tx, g.sound.rx)))

  good_of : {o : Op} → Accounted k o → Good k → Good (step k o)
  good_of (gentle a) g = call_good (sane a) g
  good_of (stalling w a) g = call_good a g
  good_of (event n h) g = event_good h g
  good_of (interrupt n i) g = interrupt_good i g

pub good_step : (k : Record) (o : Op) → Good k → Good (step k o)
good_step k o g = good_of k (account k o g.six) g

-- no operation changes the board
module _ (k : Record) where
  event_board : {o : Event} {q : Record} → Happens o k q → q.regs.board ≡ k.regs.board
  event_board (not-happened p) = ap (λ (x : Record). x.regs.board) p
  event_board (happened i f c p s) = c

  interrupt_board : {q : Record} → Interrupts k q → q.regs.board ≡ k.regs.board
  unfolding interrupted
  interrupt_board (refused p) = ap (λ (x : Record). x.regs.board) p
  interrupt_board (taken s p) = ap (λ (x : Record). x.regs.board) p

  board_of_lem : {o : Op} → Accounted k o → (step k o).regs.board ≡ k.regs.board
  board_of_lem (gentle a) = a.board
  board_of_lem (stalling w a) = a.board
  board_of_lem (event n h) = event_board h
  board_of_lem (interrupt n i) = interrupt_board i

pub same_board : (k : Record) (o : Op) → Whole k.regs.words → (step k o).regs.board ≡ k.regs.board
same_board k o six = board_of_lem k (account k o six)

-- and none changes how long the register file is
module _ (k : Record) (six : Whole k.regs.words) where
  event_whole : {o : Event} {q : Record} → Happens o k q → Whole q.regs.words
  event_whole (not-happened p) = ap (λ (x : Record). length x.regs.words) p ∙ six
  event_whole {o} (happened i f c p s) = ap length p ∙ (rest o k.regs.words).whole ∙ six

  interrupt_whole : {q : Record} → Interrupts k q → Whole q.regs.words
  unfolding interrupted
  interrupt_whole (refused p) = ap (λ (x : Record). length x.regs.words) p ∙ six
  interrupt_whole (taken s p) = ap (λ (x : Record). length x.regs.words) p ∙ (cleared_rest k.regs.words).whole ∙ six

  whole_of : {o : Op} → Accounted k o → Whole (step k o).regs.words
  whole_of (gentle a) = (keeps six a.path).six
  whole_of (stalling w a) = (keeps six a.path).six
  whole_of (event n h) = event_whole h
  whole_of (interrupt n i) = interrupt_whole i

pub whole_step : (k : Record) (o : Op) → Whole k.regs.words → Whole (step k o).regs.words
whole_step k o six = whole_of k six (account k o six)

-- no call but `on_interrupt` changes a pending interrupt
pending_of : (k : Record) {o : Op} → Whole k.regs.words → Accounted k o → Stores o → Pending k (step k o)
pending_of k six (gentle a) c = let t = keeps six a.path in record { usb = t.usb; intr = t.intr }
pending_of k six (stalling w a) c = let t = keeps six a.path in record { usb = t.usb; intr = t.intr }
pending_of k six (event n h) c = absurd (n c)
pending_of k six (interrupt n i) c = absurd (n c)

pub same_pending : (k : Record) (o : Op) → Whole k.regs.words → Stores o → Pending k (step k o)
same_pending k o six c = pending_of k six (account k o six) c
