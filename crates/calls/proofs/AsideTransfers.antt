-- That an interrupt which was taken before stands aside, of the calls `write` and `read`: proofs/Aside.antt for the others.
-- Assumes nothing.
use Rattle.std.specs.Prelude.{Ok}
use Prim.Native.Nat.{ℕ}
use mathlib.Core.Path.{◌≡◌, refl, sym, ap, ap₂, ◌∙◌}
use mathlib.Core.Bool.{Bool, true, false, not, ◌&&◌, cond}
use mathlib.Core.List.{List}
use lib.Dec.{eqb, ltb, leb}
use lib.ListN.{length}
use Rattle.laws.specs.Words.{raised}
use Rattle.board.specs.declared.Direction.TheVariants.{Out, In}
use Rattle.csr.specs.declared.Side.{Side}
use Rattle.csr.specs.declared.Csr0lSet.TheVariants as csr0l
use Rattle.csr.specs.declared.TxcsrlSet.TheVariants as txcsrl
use Rattle.csr.specs.declared.RxcsrlSet.TheVariants as rxcsrl
use Rattle.register_file.proofs.Pending.{nothing_done, then_done}
use Rattle.store_rules.specs.Stores.{Log, log, write_index}
use Rattle.store_rules.specs.Promise as store
use Rattle.store_rules.proofs.Pending.{Blind, blind, csr0l_blind, txcsrl_blind, rxcsrl_blind}
use Rattle.control_state.specs.declared.ControlState.{ControlState}
use Rattle.control_state.specs.declared.ControlStateEnum.{ControlStateEnum}
use Rattle.control_state.specs.declared.ControlStateEnum.TheVariants.{Idle, Setup, DataIn, DataOut, Accepted, NodataPhase}
use Rattle.control_state.specs.Control.{decreased}
use Rattle.record.specs.declared.Flags.{Flags}
use Rattle.record.specs.declared.Record.{Record}
use Rattle.record.specs.Record.{with_tx, admission_by, record_sound, endpoints_in, endpoints_of, Reply}
use Rattle.call_rules.specs.declared.Snapshot.{Snapshot}
use Rattle.call_rules.specs.Interrupt.{snapshot_of, cleared, taken, interrupted}
use Rattle.call_rules.proofs.Late.{taken_beside}
use Rattle.transfer_rules.specs.declared.Verdict.{Verdict}
use Rattle.transfer_rules.specs.declared.Verdict.TheVariants as verdict
use Rattle.transfer_rules.specs.Peek.{After, after, leaving, blocked, ended, tests_by, short_in}
use Rattle.transfer_rules.specs.WriteTests as writing
use Rattle.transfer_rules.specs.WriteZero.{nodata_phase, accepted, data_in, sent_data_in, sent_zero, tx_size}
use Rattle.transfer_rules.specs.Write as write
use Rattle.transfer_rules.specs.ReadTests as reading
use Rattle.transfer_rules.specs.ReadZero.{w_length, set_up, data_out, zero_by, read_zero, rx_size}
use Rattle.transfer_rules.specs.Read as read
use Rattle.calls.proofs.Aside.{quieted, blind_quiet, blind_reads, passes_still}
use Rattle.calls.proofs.Happening.{cleared_side}

-- what the steps leave, once an interrupt has read the snapshot s into the flags of n endpoints
abbrev late_after : ℕ → Snapshot → After → After
late_after n s a = after a.control (taken n s a.irq) (quieted a.log)

-- steps that leave the pending interrupts, and whose registers, list and control state are the same whatever is pending and whatever flags are up
record Beside (F : Flags → Log → After) : Type 0 where
  sets : (n : ℕ) (s : Snapshot) (f : Flags) (g : Log) → F (taken n s f) (quieted g) ≡ late_after n s (F f g)
  reads : (f : Flags) (g : Log) → snapshot_of (F f g).log.regs ≡ snapshot_of g.regs

plain_aside : (c : ControlState) {φ : Log → Log} → Blind φ → Beside (λ f g. after c f (φ g))
plain_aside c b = record { sets = λ n s f g. ap (after c (taken n s f)) (blind_quiet b g); reads = λ f g. blind_reads b g }

-- `IRQ_EP_TX | 1`
raised_aside : (c : ControlState) → Beside (λ f g. after c (with_tx f (raised f.ep_tx 0)) g)
raised_aside c = record { sets = λ n s f g. ap (λ (x : Flags). after c x (quieted g)) (sym (taken_beside n 0 s f)); reads = λ f g. refl }

then_aside : {φ : Log → Log} {F : Flags → Log → After} → Blind φ → Beside F → Beside (λ f g. F f (φ g))
then_aside {φ} {F} b a = record {
  sets = λ n s f g. ap (F (taken n s f)) (blind_quiet b g) ∙ a.sets n s f (φ g);
  reads = λ f g. a.reads f (φ g) ∙ blind_reads b g;
}

cond_aside : {F G : Flags → Log → After} (b : Bool) → Beside F → Beside G → Beside (λ f g. cond b (F f g) (G f g))
cond_aside true a c = a
cond_aside false a c = c

-- the record
aside_record : (k : Record) (a : After) → snapshot_of a.log.regs ≡ snapshot_of k.regs.words
    → leaving (interrupted k) (late_after (endpoints_of k) (snapshot_of k.regs.words) a) ≡ interrupted (leaving k a)
unfolding interrupted endpoints_of
aside_record k a p = λ i. record {
  regs = record { board = k.regs.board; words = cleared a.log.regs };
  endpoints = k.endpoints;
  control_state = a.control;
  irq = taken (endpoints_of k) (sym p i) a.irq;
}

-- whatever is made of the record, the count and the list that the steps leave
module _ (k : Record) where
  abbrev flags : Flags
  flags = taken (endpoints_of k) (snapshot_of k.regs.words) k.irq

  abbrev made : {X : Type 0} → (Record → ℕ → List ℕ → X) → Record → After → X
  made make j a = make (leaving j a) a.log.count a.log.list

  settles : {X : Type 0} (make : Record → ℕ → List ℕ → X) {F : Flags → Log → After} → Beside F → (l : List ℕ)
      → made make (interrupted k) (F flags (quieted (log k.regs.words l 0)))
      ≡ made (λ j n m. make (interrupted j) n m) k (F k.irq (log k.regs.words l 0))
  settles make {F} t l =
      let a = F k.irq (log k.regs.words l 0) in
      ap (made make (interrupted k)) (t.sets (endpoints_of k) (snapshot_of k.regs.words) k.irq (log k.regs.words l 0))
      ∙ ap (λ (j : Record). make j a.log.count a.log.list) (aside_record k a (t.reads k.irq (log k.regs.words l 0)))

-- write --------------------------------------------------------------------------------------------------------------------------------------

data_in_aside : (n t : ℕ) (c : ControlState) → Beside (data_in n t c)
unfolding data_in ended
data_in_aside n t c =
    cond_aside (eqb (decreased c n).tx_len 0) (plain_aside _ (csr0l_blind csr0l.DataEnd))
    (cond_aside (ltb n t) (plain_aside _ (csr0l_blind csr0l.DataEnd)) (plain_aside _ nothing_done))

sent_zero_aside : (x : ControlStateEnum) (n t : ℕ) (c : ControlState) → Beside (sent_zero x n t c)
unfolding nodata_phase accepted sent_data_in
sent_zero_aside NodataPhase n t c = raised_aside _
sent_zero_aside DataIn n t c = then_aside (csr0l_blind csr0l.TxPktRdy) (data_in_aside n t c)
sent_zero_aside Idle n t c = plain_aside _ nothing_done
sent_zero_aside Setup n t c = plain_aside _ nothing_done
sent_zero_aside DataOut n t c = plain_aside _ nothing_done
sent_zero_aside Accepted n t c = plain_aside _ nothing_done

sent_aside : (e n t : ℕ) (c : ControlState) → Beside (λ f g. write.sent e n t c f (write.loaded e n g))
unfolding write.sent write.sent_other write.loaded
sent_aside e n t c =
    then_aside (then_done (blind (store.index e)) (blind (store.packet n)))
    (cond_aside (eqb e 0) (sent_zero_aside c.state n t c) (plain_aside c (txcsrl_blind txcsrl.TxPktRdy)))

blocked_aside : (e : ℕ) (c : ControlState) → Beside (blocked e c)
unfolding blocked
blocked_aside e c = plain_aside c (blind (store.index e))

abbrev late_write : write.WriteOutcome → write.WriteOutcome
late_write o = record { result = record { answer = o.result.answer; «record» = interrupted o.result.«record»; stores = o.result.stores }; fifo = o.fifo; list = o.list }

abbrev wrote : Reply ℕ → List ℕ → Record → ℕ → List ℕ → write.WriteOutcome
wrote a x j n l = record { result = record { answer = a; «record» = j; stores = n }; fifo = x; list = l }

module _ (k : Record) (p : record_sound k ≡ true) where
  write_tests_lem : (e m x y : ℕ)
      → writing.tests_in k.regs.board (cleared k.regs.words) k.control_state (flags k) e m x y
      ≡ writing.tests_in k.regs.board k.regs.words k.control_state k.irq e m x y
  unfolding writing.tests_in writing.own_tests_at
  write_tests_lem e m x y =
      ap₂ (λ (ok : Bool) (t : Side). tests_by (admission_by (short_in k.regs.board x y) ok (leb (endpoints_in k.regs.board) e)) (writing.own_tests t.ready (writing.too_long k.regs.board e m) (writing.not_writable k.control_state e m)))
      (passes_still k p) (cleared_side k.regs.words e In)

  write_by_lem : (v : Verdict) (e : ℕ) (b f l : List ℕ)
      → write.outcome (interrupted k) (write.write_by v k.regs.board k.control_state (flags k) (tx_size k) e b f (log (cleared k.regs.words) l 0))
      ≡ late_write (write.outcome k (write.write_by v k.regs.board k.control_state k.irq (tx_size k) e b f (log k.regs.words l 0)))
  unfolding write.write_done
  write_by_lem verdict.Clear e b f l = settles k (wrote _ _) (sent_aside e (length b) (tx_size k) k.control_state) l
  write_by_lem verdict.Blocked e b f l = settles k (wrote _ _) (blocked_aside e k.control_state) l
  write_by_lem (verdict.Refused y) e b f l = settles k (wrote _ _) (plain_aside k.control_state nothing_done) l

  pub write_aside : (e : ℕ) (b f l : List ℕ) → write.write_call (interrupted k) e b f l ≡ late_write (write.write_call k e b f l)
  unfolding write.write_call write.write_in interrupted tx_size
  write_aside e b f l =
      ap (λ (v : Verdict). write.outcome (interrupted k) (write.write_by v k.regs.board k.control_state (flags k) (tx_size k) e b f (log (cleared k.regs.words) l 0)))
      (write_tests_lem e (length b) (length f) (length l))
      ∙ write_by_lem (writing.tests_in k.regs.board k.regs.words k.control_state k.irq e (length b) (length f) (length l)) e b f l

-- read ---------------------------------------------------------------------------------------------------------------------------------------

set_up_aside : (b : List ℕ) (c : ControlState) → Beside (set_up b c)
unfolding set_up ended
set_up_aside b c = cond_aside (eqb (w_length b) 0) (plain_aside _ (csr0l_blind csr0l.DataEnd)) (plain_aside _ nothing_done)

data_out_aside : (n size : ℕ) (c : ControlState) → Beside (data_out n size c)
unfolding data_out ended
data_out_aside n size c = cond_aside (ltb n size) (plain_aside _ (csr0l_blind csr0l.DataEnd)) (plain_aside c nothing_done)

zero_by_aside : (x : ControlStateEnum) (b : List ℕ) (n size : ℕ) (c : ControlState) → Beside (zero_by x b n size c)
zero_by_aside Setup b n size c = set_up_aside b c
zero_by_aside DataOut b n size c = data_out_aside n size c
zero_by_aside Idle b n size c = plain_aside c nothing_done
zero_by_aside DataIn b n size c = plain_aside c nothing_done
zero_by_aside Accepted b n size c = plain_aside c nothing_done
zero_by_aside NodataPhase b n size c = plain_aside c nothing_done

got_aside : (e : ℕ) (x : List ℕ) (n size : ℕ) (c : ControlState) → Beside (λ f g. read.got e x n size c f (write_index e g))
unfolding read.got read.read_other read_zero
got_aside e x n size c =
    then_aside (blind (store.index e))
    (cond_aside (eqb e 0) (then_aside (csr0l_blind csr0l.ServicedRxPktRdy) (zero_by_aside c.state x n size c)) (plain_aside c (rxcsrl_blind rxcsrl.NoRxPktRdy)))

abbrev late_read : read.ReadOutcome → read.ReadOutcome
late_read o = record { result = record { answer = o.result.answer; «record» = interrupted o.result.«record»; stores = o.result.stores }; list = o.list; buf = o.buf }

abbrev fetched : Reply ℕ → List ℕ → Record → ℕ → List ℕ → read.ReadOutcome
fetched a x j n l = record { result = record { answer = a; «record» = j; stores = n }; list = l; buf = x }

module _ (k : Record) (p : record_sound k ≡ true) where
  read_tests_lem : (e m x y : ℕ)
      → reading.tests_in k.regs.board (cleared k.regs.words) k.control_state (flags k) e m x y
      ≡ reading.tests_in k.regs.board k.regs.words k.control_state k.irq e m x y
  unfolding reading.tests_in reading.own_tests_at reading.not_setup reading.overflows
  read_tests_lem e m x y =
      ap₂ (λ (ok : Bool) (t : Side). tests_by (admission_by (short_in k.regs.board x y) ok (leb (endpoints_in k.regs.board) e))
      (reading.own_tests (not t.ready) (reading.not_readable k.control_state e) (eqb e 0 && reading.not_setup_in k.control_state.state t.len m) (ltb m t.len)))
      (passes_still k p) (cleared_side k.regs.words e Out)

  read_by_lem : (v : Verdict) (e : ℕ) (x y l : List ℕ)
      → read.outcome (interrupted k) (read.read_by v k.regs.board k.control_state (flags k) (rx_size k) e x y (log (cleared k.regs.words) l 0))
      ≡ late_read (read.outcome k (read.read_by v k.regs.board k.control_state k.irq (rx_size k) e x y (log k.regs.words l 0)))
  unfolding read.read_done
  read_by_lem verdict.Clear e x y l =
      ap (λ (t : Side). read.outcome (interrupted k) (record {
        answer = Ok t.len;
        buf = read.copied k.regs.board e t.len x y;
        after = read.got e (read.copied k.regs.board e t.len x y) t.len (rx_size k) k.control_state (flags k) (write_index e (log (cleared k.regs.words) l 0));
      }))
      (cleared_side k.regs.words e Out)
      ∙ settles k (fetched _ _) (got_aside e _ _ (rx_size k) k.control_state) l
  read_by_lem verdict.Blocked e x y l = settles k (fetched _ _) (blocked_aside e k.control_state) l
  read_by_lem (verdict.Refused r) e x y l = settles k (fetched _ _) (plain_aside k.control_state nothing_done) l

  pub read_aside : (e : ℕ) (x y l : List ℕ) → read.read_call (interrupted k) e x y l ≡ late_read (read.read_call k e x y l)
  unfolding read.read_call read.read_in interrupted rx_size
  read_aside e x y l =
      ap (λ (v : Verdict). read.outcome (interrupted k) (read.read_by v k.regs.board k.control_state (flags k) (rx_size k) e x y (log (cleared k.regs.words) l 0)))
      (read_tests_lem e (length x) (length y) (length l))
      ∙ read_by_lem (reading.tests_in k.regs.board k.regs.words k.control_state k.irq e (length x) (length y) (length l)) e x y l
