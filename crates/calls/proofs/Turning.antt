-- What every operation but poll makes of the control state: specs/Control.antt says. Assumes nothing.
use Rattle.std.specs.Prelude.{Err, Ok, Result}
use Rattle.record.specs.declared.Answered.{Answered}
use Rattle.call_rules.specs.declared.AllocRefusal.{AllocRefusal}
use Prim.Native.Nat.{ℕ, ◌≤◌, ◌<◌}
use mathlib.Core.Path.{◌≡◌, refl, sym, ap, subst, ◌∙◌}
use mathlib.Core.Bool.{Bool, true, false, ◌&&◌, cond}
use mathlib.Core.Logic.{◌⊎◌, inl, inr}
use mathlib.Core.List.{List}
use borrow.Author.Tests.{eq-eqb, ne_eqb, eqb-true, eqb-false, lt-ltb, le-ltb}
use lib.Dec.{eqb, leb}
use lib.ListN.{length}
use Rattle.laws.proofs.Tests.{clash}
use Rattle.board.specs.declared.Direction.{Direction}
use Rattle.board.specs.declared.Direction.TheVariants.{Out, In}
use Rattle.register_file.specs.Registers.{File, side_at}
use Rattle.store_rules.specs.Stores.{Log, write_index, write_faddr, modify_csr0l}
use Rattle.csr.specs.declared.Csr0lSet.TheVariants.{TxPktRdy}
use Rattle.control_state.specs.declared.ControlState.{ControlState}
use Rattle.control_state.specs.declared.ControlStateEnum.{ControlStateEnum}
use Rattle.control_state.specs.declared.ControlStateEnum.TheVariants.{Idle, Setup, DataIn, DataOut, Accepted, NodataPhase}
use Rattle.record.specs.declared.Record.{Record}
use Rattle.record.specs.Record.{record_sound, admission_by, area_of, reply_number, Reply}
use Rattle.event_rules.specs.Events as wire
use Rattle.common_rules.specs.Common.{is_stalled as halted, bus_init as busInitStores}
use Rattle.laws.specs.Lists.{pasted}
use Rattle.record.proofs.Numbers.{not_zero}
use Rattle.call_rules.specs.Calls as impl
use Rattle.call_rules.specs.Stall as impl-stall
use Rattle.call_rules.specs.Alloc as impl-alloc
use Rattle.call_rules.specs.Reset.{reset_stores, reset_call}
use Rattle.call_rules.specs.Interrupt.{interrupted, interrupt_by, interrupt_call}
use Rattle.host_rules.specs.Host as host
use Rattle.transfer_rules.specs.Peek.{leaving, ended}
use Rattle.transfer_rules.specs.WriteZero.{write_number, nodata_phase, accepted, tx_size, sent_data_in, sent_zero}
use Rattle.transfer_rules.specs.WriteTests as write_tests_lem
use Rattle.transfer_rules.specs.WriteTests.{untaken_in}
use Rattle.transfer_rules.specs.Write.{WriteOutcome, sent_other, sent, write_done, write_call}
use Rattle.transfer_rules.specs.Read as read_call_lem
use Rattle.transfer_rules.specs.Read.{ReadOutcome, read_other, read_done, read_call}
use Rattle.transfer_rules.proofs.Transfers.{passed, call_done, readable, read_done_lem}
use Rattle.transfer_rules.specs.Phases.{Sends}
use Rattle.transfer_rules.proofs.Phases.{sends}
use Rattle.transfer_rules.specs.ReadZero.{read_number, w_length, way_in, set_up, rx_size, data_out, zero_by, read_zero}
use Rattle.transfer_rules.specs.ReadTests as read_tests_lem
use Rattle.transfer_rules.specs.ReadTests.{unreadable_in}
use Rattle.calls.specs.Calls.{Op, alloc_ep, bus_init, enable, reset, set_device_address, write, read, set_stalled, is_stalled, poll, on_interrupt, force_reset, arrival, collection, bus_reset, suspend, resume, setup_end, underrun, overrun, Outcome, outcome, step}
use Rattle.calls.specs.Control.{answered, state, remaining, sending, reading, halting, beside, role, part_by, part, SameControl, Idles, Enters, Goes, WritesZero, ReadsZero, Turns}
use Rattle.calls.proofs.Accounts.{is_empty}
use Rattle.calls.proofs.Demand.{demand_1}

-- a refused operation leaves the control state: it leaves all, or has selected an endpoint
refused_same : (k : Record) (o : Op) → answered k o ≡ false → SameControl k (step k o)
refused_same k o p = go (eqb (outcome k o).reply 6) refl
  where
    zero : (outcome k o).reply ≡ 0 → ⊥
    zero z = clash (sym (eq-eqb (outcome k o).reply 0 z) ∙ p)

    go : (b : Bool) → eqb (outcome k o).reply 6 ≡ b → SameControl k (step k o)
    go true e = let t = (demand_1 k o).six (eqb-true (outcome k o).reply 6 e) in ap (λ (x : Outcome). x.«record».control_state) t.2
    go false e = ap (λ (x : Outcome). x.«record».control_state) ((demand_1 k o).kept zero (λ z. clash (sym (eq-eqb (outcome k o).reply 6 z) ∙ e)))

-- so what is left is what an answered one does
pub by_answer : (k : Record) (o : Op) → (answered k o ≡ true → Turns (part_by (role o) (outcome k o)) k (outcome k o)) → Turns (part k o) k (outcome k o)
by_answer k o f = go (answered k o) refl
  where
    go : (b : Bool) → answered k o ≡ b → Turns (cond b (part_by (role o) (outcome k o)) beside) k (outcome k o)
    go true p = f p
    go false p = refused_same k o p

-- an answered write at endpoint 0, of n bytes
module _ (k : Record) (n : ℕ) (g : Log) where
  abbrev wrote : ControlStateEnum → Record
  wrote s = leaving k (sent_zero s n (tx_size k) k.control_state k.irq g)

  taken_in : (s : ControlStateEnum) → untaken_in s n ≡ false → (s ≡ NodataPhase) ⊎ ((s ≡ Idle) ⊎ (s ≡ DataIn))
  taken_in NodataPhase u = inl refl
  taken_in Idle u = inr (inl refl)
  taken_in DataIn u = inr (inr refl)
  taken_in Setup u = clash u
  taken_in DataOut u = clash u
  taken_in Accepted u = clash u

  phase : Sends n (tx_size k) k.control_state (modify_csr0l TxPktRdy g) (sent_data_in n (tx_size k) k.control_state k.irq g)
  unfolding sent_data_in
  phase = sends k.control_state k.irq (modify_csr0l TxPktRdy g) n (tx_size k)

  writes_zero : untaken_in (state k) n ≡ false → WritesZero k n (wrote (state k))
  unfolding nodata_phase accepted
  writes_zero u = record {
    acknowledged = λ p. (is_empty n (subst (λ (s : ControlStateEnum). untaken_in s n ≡ false) p u), subst (λ (s : ControlStateEnum). Enters Idle k (wrote s)) (sym p) (record { to = refl; left = refl }));
    accepted = λ p. (is_empty n (subst (λ (s : ControlStateEnum). untaken_in s n ≡ false) p u), subst (λ (s : ControlStateEnum). Enters Accepted k (wrote s)) (sym p) (record { to = refl; left = refl }));
    all = λ p h. subst (λ (s : ControlStateEnum). Idles (wrote s)) (sym p) (let t = phase.all h in record { idle = t.idle; none = t.none });
    short = λ p h. subst (λ (s : ControlStateEnum). Idles (wrote s)) (sym p) (let t = phase.short h in record { idle = t.idle; none = t.none });
    more = λ p h i. subst (λ (s : ControlStateEnum). Goes n k (wrote s)) (sym p) (let t = phase.more h i in record { still = t.still ∙ p; left = t.left });
    only = taken_in (state k) u;
  }

-- an answered read at endpoint 0; b is the caller's buffer with the packet
module _ (k : Record) (b : List ℕ) (g : Log) where
  abbrev length0 : ℕ
  length0 = (side_at k.regs.words 0 Out).len

  abbrev got : ControlStateEnum → Record
  got s = leaving k (zero_by s b length0 (rx_size k) k.control_state k.irq g)

  read_in_lem : (s : ControlStateEnum) → unreadable_in s ≡ false → (s ≡ Setup) ⊎ (s ≡ DataOut)
  read_in_lem Setup u = inl refl
  read_in_lem DataOut u = inr refl
  read_in_lem Idle u = clash u
  read_in_lem DataIn u = clash u
  read_in_lem Accepted u = clash u
  read_in_lem NodataPhase u = clash u

  none : w_length b ≡ 0 → Enters NodataPhase k (got Setup)
  unfolding set_up ended
  none z = rw (eq-eqb (w_length b) 0 z) (record { to = refl; left = refl })

  out : (w_length b ≡ 0 → ⊥) → way_in b ≡ false → Enters DataOut k (got Setup)
  unfolding set_up
  out z w = rw (ne_eqb (w_length b) 0 z, w) (record { to = refl; left = refl })

  into : (w_length b ≡ 0 → ⊥) → way_in b ≡ true → (state (got Setup) ≡ DataIn) × (remaining (got Setup) ≡ w_length b)
  unfolding set_up
  into z w = rw (ne_eqb (w_length b) 0 z, w) (refl, refl)

  short : length0 < rx_size k → Enters Idle k (got DataOut)
  unfolding data_out ended
  short h = rw (lt-ltb length0 (rx_size k) h) (record { to = refl; left = refl })

  more : rx_size k ≤ length0 → SameControl k (got DataOut)
  unfolding data_out
  more h = rw (le-ltb length0 (rx_size k) h) refl

  reads_zero : unreadable_in (state k) ≡ false → ReadsZero k b (got (state k))
  reads_zero u = record {
    none = λ p z. subst (λ (s : ControlStateEnum). Enters NodataPhase k (got s)) (sym p) (none z);
    out = λ p z w. subst (λ (s : ControlStateEnum). Enters DataOut k (got s)) (sym p) (out z w);
    into = λ p z w. subst (λ (s : ControlStateEnum). (state (got s) ≡ DataIn) × (remaining (got s) ≡ w_length b)) (sym p) (into z w);
    short = λ p h. subst (λ (s : ControlStateEnum). Enters Idle k (got s)) (sym p) (short h);
    more = λ p h. subst (λ (s : ControlStateEnum). SameControl k (got s)) (sym p) (more h);
    only = read_in_lem (state k) u;
  }

module _ (k : Record) (b f l : List ℕ) where
  write_zero : write_number (write_call k 0 b f l).result.answer ≡ 0 → WritesZero k (length b) (write_call k 0 b f l).result.«record»
  unfolding write_done sent write_tests_lem.not_writable
  write_zero z =
      subst (λ (o : WriteOutcome). WritesZero k (length b) o.result.«record») (sym (call_done k 0 b f l z))
      (writes_zero k (length b) _ (passed k 0 b f l z).taken)

  write_other : (e : ℕ) → (e ≡ 0 → ⊥) → write_number (write_call k e b f l).result.answer ≡ 0 → SameControl k (write_call k e b f l).result.«record»
  unfolding write_done sent sent_other
  write_other e n z =
      subst (λ (o : WriteOutcome). SameControl k o.result.«record») (sym (call_done k e b f l z)) (rw (ne_eqb e 0 n) refl)

  pub write_turns : (e : ℕ) → Turns (part k (write e b f l)) k (outcome k (write e b f l))
  write_turns e = by_answer k (write e b f l) (λ p. go (eqb e 0) refl (eqb-true _ 0 p))
    where
      go : (t : Bool) → eqb e 0 ≡ t → write_number (write_call k e b f l).result.answer ≡ 0 → Turns (cond t (sending (length b)) beside) k (outcome k (write e b f l))
      go true q z = rw (eqb-true e 0 q) (write_zero (subst (λ (i : ℕ). write_number (write_call k i b f l).result.answer ≡ 0) (eqb-true e 0 q) z))
      go false q z = write_other e (eqb-false e 0 q) z

  read_zero_lem : read_number (read_call k 0 b f l).result.answer ≡ 0 → ReadsZero k (read_call k 0 b f l).buf (read_call k 0 b f l).result.«record»
  unfolding read_done read_call_lem.got read_zero read_tests_lem.not_readable
  read_zero_lem z =
      subst (λ (o : ReadOutcome). ReadsZero k o.buf o.result.«record») (sym (read_done_lem k 0 b f l z)) (reads_zero k _ _ (readable k 0 b f l z).told)

  read_other_lem : (e : ℕ) → (e ≡ 0 → ⊥) → read_number (read_call k e b f l).result.answer ≡ 0 → SameControl k (read_call k e b f l).result.«record»
  unfolding read_done read_call_lem.got read_other
  read_other_lem e n z = subst (λ (o : ReadOutcome). SameControl k o.result.«record») (sym (read_done_lem k e b f l z)) (rw (ne_eqb e 0 n) refl)

  pub read_turns : (e : ℕ) → Turns (part k (read e b f l)) k (outcome k (read e b f l))
  read_turns e = by_answer k (read e b f l) (λ p. go (eqb e 0) refl (eqb-true _ 0 p))
    where
      go : (t : Bool) → eqb e 0 ≡ t → read_number (read_call k e b f l).result.answer ≡ 0 → Turns (cond t reading beside) k (outcome k (read e b f l))
      go true q z = rw (eqb-true e 0 q) (read_zero_lem (subst (λ (i : ℕ). read_number (read_call k i b f l).result.answer ≡ 0) (eqb-true e 0 q) z))
      go false q z = read_other_lem e (eqb-false e 0 q) z

-- the simple calls leave the control state that they are said to leave
module _ (k : Record) (l : List ℕ) (c : ControlState) (g : Log) where
  called_control : (t : Reply Unit) → reply_number (impl.unless t k l (impl.stored k c g)).call.answer ≡ 0
      → (impl.unless t k l (impl.stored k c g)).call.«record».control_state ≡ c
  called_control (Err x) z = absurd (not_zero x z)
  called_control (Ok tt) z = refl

  called_same : c ≡ k.control_state → (t : Reply Unit) → SameControl k (impl.unless t k l (impl.stored k c g)).call.«record»
  called_same p (Err x) = refl
  called_same p (Ok tt) = p

module _ (k : Record) where
  -- the tests of an event, of a call, and of one at an endpoint
  abbrev plain : Reply Unit
  plain = admission_by false (record_sound k) false

  abbrev lent : List ℕ → Reply Unit
  lent l = admission_by (impl.short l) (record_sound k) false

  abbrev lent_at : ℕ → List ℕ → Reply Unit
  lent_at e l = admission_by (impl.short l) (record_sound k) (impl.beyond k e)

  abbrev r : File
  r = k.regs.words

  idle_now : {q : Record} → q.control_state ≡ impl.idled k.control_state → Idles q
  unfolding impl.idled
  idle_now p = record { idle = ap (λ (c : ControlState). c.state) p; none = ap (λ (c : ControlState). c.tx_len) p }

  reset_turns : (l : List ℕ) → Turns (part k (reset l)) k (outcome k (reset l))
  unfolding reset_call
  reset_turns l = by_answer k (reset l) (λ p. idle_now (called_control k l _ (reset_stores k (impl.begun k l)) (lent l) (eqb-true _ 0 p)))

  stall_turns : (e : ℕ) (d : Direction) (s : Bool) (l : List ℕ) → Turns (part k (set_stalled e d s l)) k (outcome k (set_stalled e d s l))
  unfolding impl-stall.set_stalled_call impl-stall.after_stall
  stall_turns e d s l =
      by_answer k (set_stalled e d s l)
      (λ p. go (eqb e 0 && s) (called_control k l _ (impl-stall.ep_stall d e s (impl.begun k l)) (lent_at e l) (eqb-true _ 0 p)))
    where
      go : (t : Bool) → (step k (set_stalled e d s l)).control_state ≡ cond t (impl.idled k.control_state) k.control_state
          → Turns (cond t halting beside) k (outcome k (set_stalled e d s l))
      go true q = idle_now q
      go false q = q

  -- what has no part in it, answered or not
  alone : (o : Op) → SameControl k (step k o) → Turns (cond (answered k o) beside beside) k (outcome k o)
  alone o p = go (answered k o)
    where
      go : (b : Bool) → Turns (cond b beside beside) k (outcome k o)
      go true = p
      go false = p

  told_same : (l : List ℕ) (b : Bool) (g : Log) (t : Reply Unit) → SameControl k (impl-stall.unless_stalled t k l (impl-stall.stalled_of k b g)).call.«record»
  told_same l b g (Err x) = refl
  told_same l b g (Ok tt) = refl

  alloc_same : (o : Answered (Result ℕ AllocRefusal)) → SameControl k o.«record» → (t : Reply Unit) → SameControl k (impl-alloc.unless_allocated t k o).«record»
  alloc_same o p (Err x) = refl
  alloc_same o p (Ok tt) = p

  event_same : (r : File) (t : Reply Unit) → SameControl k (host.unless t k r).«record»
  event_same r (Err x) = refl
  event_same r (Ok tt) = refl

  arrival_same : (f x : List ℕ) (r : File) (t : Reply Unit) → SameControl k (host.unless_arrived t k f (record { event = host.done k r; fifo = x })).event.«record»
  arrival_same f x r (Err y) = refl
  arrival_same f x r (Ok tt) = refl

  collection_same : (e : ℕ) (t : Reply Unit) → SameControl k (host.unless_collected t k (host.collected_from k e)).«record»
  unfolding host.collected_from
  collection_same e (Err x) = refl
  collection_same e (Ok tt) = refl

  interrupt_same : (b : Bool) → SameControl k (interrupt_by b k).«record»
  unfolding interrupted
  interrupt_same true = refl
  interrupt_same false = refl

  -- every operation, poll's turn being given
  pub turns_by : ((l : List ℕ) → Turns (part k (poll l)) k (outcome k (poll l))) → (o : Op) → Turns (part k o) k (outcome k o)
  unfolding impl.bus_init_call impl.enable_call impl.address_call impl-stall.is_stalled_call impl-alloc.alloc_ep_call impl-alloc.alloc_ep interrupt_call host.arrival_call host.collection_call host.bus_reset_call host.suspend_call host.resume_call host.setup_end_call host.underrun_call host.overrun_call host.miss_call
  turns_by polled (poll l) = polled l
  turns_by polled (write e b f l) = write_turns k b f l e
  turns_by polled (read e b f l) = read_turns k b f l e
  turns_by polled (set_stalled e d s l) = stall_turns e d s l
  turns_by polled (reset l) = reset_turns l
  turns_by polled setup_end = by_answer k setup_end (λ p. event_same (wire.setup_ended r) plain)
  turns_by polled (alloc_ep q w) = alone (alloc_ep q w) (alloc_same (impl-alloc.alloc_ep k q w) refl plain)
  turns_by polled (bus_init l) = alone (bus_init l) (called_same k l _ (busInitStores (impl.begun k l)) refl (lent l))
  turns_by polled (enable l) = alone (enable l) (called_same k l _ (write_faddr 0 (impl.begun k l)) refl (lent l))
  turns_by polled (set_device_address a l) = alone (set_device_address a l) (called_same k l _ (write_faddr a (impl.begun k l)) refl (impl.address_entry (lent l) (leb a 127)))
  turns_by polled (is_stalled e d l) = alone (is_stalled e d l) (told_same l (halted d e (impl.begun k l)) (write_index e (impl.begun k l)) (lent_at e l))
  turns_by polled on_interrupt = alone on_interrupt (interrupt_same (record_sound k))
  turns_by polled force_reset = alone force_reset refl
  turns_by polled (arrival e b f) = alone (arrival e b f) (arrival_same f (pasted f (area_of k e Out).start b) (wire.arrived r e (length b)) (host.arrival_refusal k e (length b) (length f)))
  turns_by polled (collection e f) = alone (collection e f) (collection_same e (host.collection_refusal k e (length f)))
  turns_by polled bus_reset = alone bus_reset (event_same (wire.bus_reset r) plain)
  turns_by polled suspend = alone suspend (event_same (wire.bus_suspend r) plain)
  turns_by polled resume = alone resume (event_same (wire.bus_resume r) plain)
  turns_by polled (underrun e) = alone (underrun e) (event_same (wire.missing r e In) (host.miss_refusal k e))
  turns_by polled (overrun e) = alone (overrun e) (event_same (wire.missing r e Out) (host.miss_refusal k e))
