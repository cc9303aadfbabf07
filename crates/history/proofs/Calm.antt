-- The flags after every operation but poll and on_interrupt: as they were, except that an empty write in NodataPhase raises the transmit
-- flag of endpoint 0. Assumes nothing.
use Rattle.std.specs.Prelude.{Err, Ok, Option}
use mathlib.Core.Path.{◌≡◌, refl, sym, ap, subst, ◌∙◌}
use mathlib.Core.Bool.{Bool, true, false, cond}
use mathlib.Core.List.{List}
use Prim.Native.Nat.{ℕ, ◌<◌}
use lib.Dec.{eqb, ltb, leb}
use lib.ListN.{length}
use Rattle.board.specs.declared.Direction.{Direction}
use Rattle.csr.specs.declared.Csr0lSet.TheVariants.{ServicedRxPktRdy}
use Rattle.store_rules.specs.Stores.{Log, log, write_index, write_faddr, modify_csr0l}
use Rattle.common_rules.specs.Common.{bus_init, is_stalled}
use Rattle.control_state.specs.declared.ControlState.{ControlState}
use Rattle.control_state.specs.declared.ControlStateEnum.{ControlStateEnum}
use Rattle.control_state.specs.declared.ControlStateEnum.TheVariants.{Idle, Setup, DataIn, DataOut, Accepted, NodataPhase}
use Rattle.control_state.specs.Control.{decreased}
use Rattle.endpoints.specs.declared.Ask.{Ask}
use Rattle.record.specs.declared.Record.{Record}
use Rattle.record.specs.Record.{admission_by, record_sound, Reply}
use Rattle.transfer_rules.specs.declared.Verdict.{Verdict}
use Rattle.transfer_rules.specs.declared.Verdict.TheVariants as verdict
use Rattle.transfer_rules.specs.Peek.{After, blocked, ended}
use Rattle.call_rules.specs.Alloc.{alloc_ep, unless_allocated, alloc_ep_call}
use Rattle.call_rules.specs.Calls.{unless, stored, begun, short, beyond, bus_init_call, enable_call, idled, address_entry, address_call}
use Rattle.call_rules.specs.Reset.{reset_stores, reset_call}
use Rattle.call_rules.specs.Stall.{after_stall, ep_stall, set_stalled_call, unless_stalled, stalled_of, is_stalled_call}
use Rattle.transfer_rules.specs.WriteTests as write
use Rattle.transfer_rules.specs.WriteZero as zero-write
use Rattle.transfer_rules.specs.Write as write-write
use Rattle.transfer_rules.specs.ReadTests as read
use Rattle.transfer_rules.specs.ReadZero as zero_read
use Rattle.transfer_rules.specs.Read as read-read
use Rattle.transfer_rules.proofs.WriteAnswers.{call_is}
use Rattle.transfer_rules.proofs.ReadAnswers.{tested, by_tests}
use Rattle.history.proofs.Flags.{Alike, same, tx_raised}

module _ (k : Record) where
  -- the simple calls change registers and control state, allocation the endpoints
  called : (x : Reply Unit) (l : List ℕ) (c : ControlState) (g : Log) → (unless x k l (stored k c g)).call.«record».irq ≡ k.irq
  called (Err x) l c g = refl
  called (Ok tt) l c g = refl

  told : (x : Reply Unit) (l : List ℕ) (b : Bool) (g : Log) → (unless_stalled x k l (stalled_of k b g)).call.«record».irq ≡ k.irq
  told (Err x) l b g = refl
  told (Ok tt) l b g = refl

  allocated : (x : Reply Unit) (q : Ask) (w : Option ℕ) → (unless_allocated x k (alloc_ep k q w)).«record».irq ≡ k.irq
  unfolding alloc_ep
  allocated (Err x) q w = refl
  allocated (Ok tt) q w = refl

  pub alloc_ep_call_lem : (q : Ask) (w : Option ℕ) → (alloc_ep_call k q w).«record».irq ≡ k.irq
  unfolding alloc_ep_call
  alloc_ep_call_lem q w = allocated (admission_by false (record_sound k) false) q w

  module _ (l : List ℕ) where
    abbrev first : Bool → Reply Unit
    first beyond = admission_by (short l) (record_sound k) beyond

    pub bus_init_call_lem : (bus_init_call k l).call.«record».irq ≡ k.irq
    unfolding bus_init_call
    bus_init_call_lem = called (first false) l k.control_state (bus_init (begun k l))

    pub enable_call_lem : (enable_call k l).call.«record».irq ≡ k.irq
    unfolding enable_call
    enable_call_lem = called (first false) l k.control_state (write_faddr 0 (begun k l))

    pub reset_call_lem : (reset_call k l).call.«record».irq ≡ k.irq
    unfolding reset_call
    reset_call_lem = called (first false) l (idled k.control_state) (reset_stores k (begun k l))

    pub address_call_lem : (a : ℕ) → (address_call k a l).call.«record».irq ≡ k.irq
    unfolding address_call
    address_call_lem a = called (address_entry (first false) (leb a 127)) l k.control_state (write_faddr a (begun k l))

    pub set_stalled_call_lem : (e : ℕ) (d : Direction) (s : Bool) → (set_stalled_call k e d s l).call.«record».irq ≡ k.irq
    unfolding set_stalled_call
    set_stalled_call_lem e d s = called (first (beyond k e)) l (after_stall e s k.control_state) (ep_stall d e s (begun k l))

    pub is_stalled_call_lem : (e : ℕ) (d : Direction) → (is_stalled_call k e d l).call.«record».irq ≡ k.irq
    unfolding is_stalled_call
    is_stalled_call_lem e d = told (first (beyond k e)) l (is_stalled d e (begun k l)) (write_index e (begun k l))

  -- read: of endpoint 0 by its state, of another endpoint, or refused
  abbrev ReadKeeps : After → Type 0
  ReadKeeps o = o.irq ≡ k.irq

  read_either : (t : Bool) (x y : After) → ReadKeeps x → ReadKeeps y → ReadKeeps (cond t x y)
  read_either true x y p q = p
  read_either false x y p q = q

  read_zero_lem : (s : ControlStateEnum) (b : List ℕ) (n size : ℕ) (c : ControlState) (g : Log) → ReadKeeps (zero_read.zero_by s b n size c k.irq g)
  unfolding zero_read.set_up zero_read.data_out ended
  read_zero_lem Setup b n size c g = read_either (eqb (zero_read.w_length b) 0) _ _ refl refl
  read_zero_lem DataOut b n size c g = read_either (ltb n size) _ _ refl refl
  read_zero_lem Idle b n size c g = refl
  read_zero_lem DataIn b n size c g = refl
  read_zero_lem Accepted b n size c g = refl
  read_zero_lem NodataPhase b n size c g = refl

  read_taken : (e : ℕ) (b : List ℕ) (n size : ℕ) (c : ControlState) (g : Log) → ReadKeeps (read-read.got e b n size c k.irq g)
  unfolding read-read.got zero_read.read_zero read-read.read_other
  read_taken e b n size c g =
      read_either (eqb e 0) (zero_read.read_zero b n size c k.irq g) (read-read.read_other c k.irq g)
      (read_zero_lem c.state b n size c (modify_csr0l ServicedRxPktRdy g)) refl

  module _ (e : ℕ) (b f l : List ℕ) where
    read_by_lem : (v : Verdict) → (tested k e b f l v).result.«record».irq ≡ k.irq
    unfolding read-read.read_done blocked
    read_by_lem verdict.Clear = read_taken e _ _ (zero_read.rx_size k) k.control_state (write_index e (log k.regs.words l 0))
    read_by_lem verdict.Blocked = refl
    read_by_lem (verdict.Refused x) = refl

    pub read_call_lem : (read-read.read_call k e b f l).result.«record».irq ≡ k.irq
    read_call_lem = ap (λ (o : read-read.ReadOutcome). o.result.«record».irq) (by_tests k e b f l) ∙ read_by_lem (read.tests k e (length b) (length f) (length l))

  -- write, likewise; in NodataPhase it raises the flag
  abbrev WriteKeeps : After → Type 0
  WriteKeeps o = Alike k.irq o.irq

  write_either : (t : Bool) (x y : After) → WriteKeeps x → WriteKeeps y → WriteKeeps (cond t x y)
  write_either true x y p q = p
  write_either false x y p q = q

  module _ (small : k.irq.ep_rx < 64) where
    write_zero : (s : ControlStateEnum) (n t : ℕ) (c : ControlState) (g : Log) → WriteKeeps (zero-write.sent_zero s n t c k.irq g)
    unfolding zero-write.nodata_phase zero-write.accepted zero-write.sent_data_in zero-write.data_in ended
    write_zero NodataPhase n t c g = tx_raised k.irq small
    write_zero DataIn n t c g =
        write_either (eqb (decreased c n).tx_len 0) _ _ (same k.irq small) (write_either (ltb n t) _ _ (same k.irq small) (same k.irq small))
    write_zero Idle n t c g = same k.irq small
    write_zero Setup n t c g = same k.irq small
    write_zero DataOut n t c g = same k.irq small
    write_zero Accepted n t c g = same k.irq small

    write_taken : (e n t : ℕ) (c : ControlState) (g : Log) → WriteKeeps (write-write.sent e n t c k.irq g)
    unfolding write-write.sent write-write.sent_other
    write_taken e n t c g =
        write_either (eqb e 0) (zero-write.sent_zero c.state n t c k.irq g) (write-write.sent_other c k.irq g) (write_zero c.state n t c g) (same k.irq small)

    module _ (e : ℕ) (b f l : List ℕ) where
      abbrev ran_by : Verdict → write-write.WriteOutcome
      ran_by v = write-write.outcome k (write-write.write_by v k.regs.board k.control_state k.irq (zero-write.tx_size k) e b f (log k.regs.words l 0))

      write_by_lem : (v : Verdict) → Alike k.irq (ran_by v).result.«record».irq
      unfolding write-write.write_done blocked
      write_by_lem verdict.Clear =
          write_taken e (length b) (zero-write.tx_size k) k.control_state (write-write.loaded e (length b) (log k.regs.words l 0))
      write_by_lem verdict.Blocked = same k.irq small
      write_by_lem (verdict.Refused x) = same k.irq small

      pub write_call_lem : Alike k.irq (write-write.write_call k e b f l).result.«record».irq
      write_call_lem =
          subst (λ (o : write-write.WriteOutcome). Alike k.irq o.result.«record».irq) (sym (call_is k e b f l))
          (write_by_lem (write.tests k e (length b) (length f) (length l)))
