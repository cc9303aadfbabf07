-- An interrupt that was taken before an operation stands aside: every call but poll, and every event, answers the same, and leaves the record that the next interrupt
-- makes the same. A call does so because no step of it looks at what is pending. Of the flags reply 16's test asks, which goes on passing, and one write raises one more,
-- which is up whether it is raised before the interrupt or after. An event only raises more.
-- Assumes nothing.
use Rattle.std.specs.Prelude.{Err, Ok, Option, Result}
use Rattle.record.specs.declared.Answered.{Answered}
use Rattle.call_rules.specs.declared.AllocRefusal.{AllocRefusal}
use Prim.Native.Nat.{ℕ, zero, suc}
use mathlib.Core.Path.{◌≡◌, refl, sym, ap, ap₂, ◌∙◌}
use mathlib.Core.Bool.{Bool, true, false}
use mathlib.Core.List.{List}
use lib.Dec.{leb}
use lib.ListN.{get_or}
use Rattle.board.specs.declared.Direction.{Direction}
use Rattle.board.specs.declared.Direction.TheVariants.{Out, In}
use Rattle.register_file.specs.Registers.{File}
use Rattle.register_file.proofs.Pending.{at_bus, at_tx, at_rx, nothing_done, then_done, cond_done}
use Rattle.store_rules.specs.Stores.{Log, log, write_index}
use Rattle.store_rules.specs.Promise as store
use Rattle.store_rules.proofs.Pending.{at, Blind, blind}
use Rattle.common_rules.specs.Common.{is_stalled}
use Rattle.common_rules.proofs.Pending.{bus_blind, tx_stall_blind, rx_stall_blind, stalled_unseen, tx_enable_blind, rx_enable_blind}
use Rattle.control_state.specs.declared.ControlState.{ControlState}
use Rattle.endpoints.specs.declared.EndpointData.{EndpointData}
use Rattle.endpoints.specs.declared.Ask.{Ask}
use Rattle.endpoints.specs.Endpoints.{blank}
use Rattle.record.specs.declared.Record.{Record}
use Rattle.record.specs.Record.{with_regs, with_control, passes, record_sound, admission_by, endpoints_of, Reply}
use Rattle.call_rules.specs.Interrupt.{snapshot_of, cleared, taken, interrupted}
use Rattle.call_rules.specs.Calls as impl
use Rattle.call_rules.specs.Alloc as impl-alloc
use Rattle.call_rules.specs.Reset as impl-reset
use Rattle.call_rules.specs.Stall as impl-stall
use Rattle.call_rules.proofs.Late.{clears, same_reads, sound_interrupted}

-- what is done to the registers by a step that is blind to what is pending -----------------------------------------------------------------

-- the registers read, and the list as it is
abbrev pub quieted : Log → Log
quieted g = log (cleared g.regs) g.list g.count

pub blind_quiet : {φ : Log → Log} → Blind φ → (g : Log) → φ (quieted g) ≡ quieted (φ g)
blind_quiet {φ} b g =
    ap (λ (w : File). φ (log w g.list g.count)) (clears g.regs) ∙ b.sets 8 0 at_rx (at 7 0 (at 6 0 g))
    ∙ ap (at 8 0) (b.sets 7 0 at_tx (at 6 0 g) ∙ ap (at 7 0) (b.sets 6 0 at_bus g))
    ∙ ap (λ (w : File). log w (φ g).list (φ g).count) (sym (clears (φ g).regs))

pub blind_reads : {φ : Log → Log} → Blind φ → (g : Log) → snapshot_of (φ g).regs ≡ snapshot_of g.regs
blind_reads {φ} b g = same_reads g.regs (φ g).regs (λ q is. b.reads q is g)

-- the record: once the registers were read and the flags taken, with the steps of a call, or the steps first
over : (k : Record) (c : ControlState) (r : File) → snapshot_of r ≡ snapshot_of k.regs.words
    → with_regs (with_control (interrupted k) c) (cleared r) ≡ interrupted (with_regs (with_control k c) r)
unfolding interrupted endpoints_of
over k c r p = λ i. record {
  regs = record { board = k.regs.board; words = cleared r };
  endpoints = k.endpoints;
  control_state = c;
  irq = taken (endpoints_of k) (sym p i) k.irq;
}

-- `reset`: every endpoint that is used is enabled anew
used_blind : (e : ℕ) (ep : EndpointData) → Blind (impl-reset.used_enabled e ep)
unfolding impl-reset.used_enabled impl-reset.tx_enabled impl-reset.rx_enabled
used_blind e ep =
    then_done (cond_done ep.used_tx (tx_enable_blind e ep.ep_conf) nothing_done) (cond_done ep.used_rx (rx_enable_blind e ep.ep_conf) nothing_done)

below_blind : (es : List EndpointData) (n : ℕ) → Blind (impl-reset.enabled_below es n)
unfolding impl-reset.enabled_below
below_blind es zero = nothing_done
below_blind es (suc n) = then_done (below_blind es n) (used_blind n (get_or es n blank))

-- `set_stalled`
stall_blind : (d : Direction) (e : ℕ) (s : Bool) → Blind (impl-stall.ep_stall d e s)
unfolding impl-stall.ep_stall
stall_blind Out e s = rx_stall_blind e s
stall_blind In e s = tx_stall_blind e s

-- the simple calls -------------------------------------------------------------------------------------------------------------------------

abbrev late_call : impl.CallOutcome → impl.CallOutcome
late_call o = record { call = record { answer = o.call.answer; «record» = interrupted o.call.«record»; stores = o.call.stores }; list = o.list }

served : (k : Record) (t : Reply Unit) (c : ControlState) {φ : Log → Log} → Blind φ → (l : List ℕ)
    → impl.unless t (interrupted k) l (impl.stored (interrupted k) c (φ (impl.begun (interrupted k) l))) ≡ late_call (impl.unless t k l (impl.stored k c (φ (impl.begun k l))))
unfolding interrupted
served k (Err x) c b l = refl
served k (Ok tt) c {φ} b l =
    ap (impl.stored (interrupted k) c) (blind_quiet b (impl.begun k l))
    ∙ ap (λ (j : Record). record { call = record { answer = (Ok tt); «record» = j; stores = (φ (impl.begun k l)).count }; list = (φ (impl.begun k l)).list })
    (over k c (φ (impl.begun k l)).regs (blind_reads b (impl.begun k l)))

module _ (k : Record) (p : record_sound k ≡ true) where
  pub still : record_sound (interrupted k) ≡ record_sound k
  still = sound_interrupted k p ∙ sym p

  pub passes_still : passes k.regs.board (cleared k.regs.words) (taken (endpoints_of k) (snapshot_of k.regs.words) k.irq) ≡ passes k.regs.board k.regs.words k.irq
  unfolding record_sound interrupted
  passes_still = still

  pub bus_init_lem : (l : List ℕ) → impl.bus_init_call (interrupted k) l ≡ late_call (impl.bus_init_call k l)
  unfolding impl.bus_init_call interrupted
  bus_init_lem l = rw still (served k (admission_by (impl.short l) (record_sound k) false) k.control_state bus_blind l)

  pub enable : (l : List ℕ) → impl.enable_call (interrupted k) l ≡ late_call (impl.enable_call k l)
  unfolding impl.enable_call interrupted
  enable l = rw still (served k (admission_by (impl.short l) (record_sound k) false) k.control_state (blind (store.faddr 0)) l)

  pub set_device_address_lem : (a : ℕ) (l : List ℕ) → impl.address_call (interrupted k) a l ≡ late_call (impl.address_call k a l)
  unfolding impl.address_call interrupted
  set_device_address_lem a l =
      rw still (served k (impl.address_entry (admission_by (impl.short l) (record_sound k) false) (leb a 127)) k.control_state (blind (store.faddr a)) l)

  pub reset : (l : List ℕ) → impl-reset.reset_call (interrupted k) l ≡ late_call (impl-reset.reset_call k l)
  unfolding impl-reset.reset_call impl-reset.reset_stores interrupted endpoints_of
  reset l =
      rw still (served k (admission_by (impl.short l) (record_sound k) false) (impl.idled k.control_state) (then_done (blind store.power) (below_blind k.endpoints _)) l)

  pub set_stalled_lem : (e : ℕ) (d : Direction) (s : Bool) (l : List ℕ) → impl-stall.set_stalled_call (interrupted k) e d s l ≡ late_call (impl-stall.set_stalled_call k e d s l)
  unfolding impl-stall.set_stalled_call interrupted endpoints_of
  set_stalled_lem e d s l =
      rw still (served k (admission_by (impl.short l) (record_sound k) (impl.beyond k e)) (impl-stall.after_stall e s k.control_state) (stall_blind d e s) l)

abbrev late_told : impl-stall.StalledOutcome → impl-stall.StalledOutcome
late_told o = record { call = record { answer = o.call.answer; «record» = interrupted o.call.«record»; stores = o.call.stores }; list = o.list }

stalled_quiet : (d : Direction) (e : ℕ) (g : Log) → is_stalled d e (quieted g) ≡ is_stalled d e g
stalled_quiet d e g =
    ap (λ (w : File). is_stalled d e (log w g.list g.count)) (clears g.regs)
    ∙ stalled_unseen d e 8 0 at_rx (at 7 0 (at 6 0 g))
    ∙ stalled_unseen d e 7 0 at_tx (at 6 0 g)
    ∙ stalled_unseen d e 6 0 at_bus g

module _ (k : Record) (p : record_sound k ≡ true) where
  pub is_stalled_lem : (e : ℕ) (d : Direction) (l : List ℕ) → impl-stall.is_stalled_call (interrupted k) e d l ≡ late_told (impl-stall.is_stalled_call k e d l)
  unfolding impl-stall.is_stalled_call interrupted endpoints_of
  is_stalled_lem e d l = rw (still k p) (go (admission_by (impl.short l) (record_sound k) (impl.beyond k e)))
    where
      g : Log
      g = impl.begun k l

      go : (t : Reply Unit)
          → impl-stall.unless_stalled t (interrupted k) l (impl-stall.stalled_of (interrupted k) (is_stalled d e (impl.begun (interrupted k) l)) (write_index e (impl.begun (interrupted k) l)))
          ≡ late_told (impl-stall.unless_stalled t k l (impl-stall.stalled_of k (is_stalled d e (impl.begun k l)) (write_index e (impl.begun k l))))
      go (Err x) = refl
      go (Ok tt) =
          ap₂ (impl-stall.stalled_of (interrupted k)) (stalled_quiet d e g) (blind_quiet (blind (store.index e)) g)
          ∙ ap (λ (j : Record). record { call = record { answer = Ok (is_stalled d e g); «record» = j; stores = (write_index e g).count }; list = (write_index e g).list })
          (over k k.control_state (write_index e g).regs (blind_reads (blind (store.index e)) g))

-- no list is lent, and no register stored
abbrev late_alloc : Answered (Result ℕ AllocRefusal) → Answered (Result ℕ AllocRefusal)
late_alloc o = record { answer = o.answer; «record» = interrupted o.«record» }

module _ (k : Record) (p : record_sound k ≡ true) where
  pub alloc_ep_lem : (q : Ask) (w : Option ℕ) → impl-alloc.alloc_ep_call (interrupted k) q w ≡ late_alloc (impl-alloc.alloc_ep_call k q w)
  unfolding impl-alloc.alloc_ep_call impl-alloc.alloc_ep interrupted endpoints_of
  alloc_ep_lem q w = rw (still k p) (go (admission_by false (record_sound k) false))
    where
      go : (t : Reply Unit)
          → impl-alloc.unless_allocated t (interrupted k) (impl-alloc.alloc_ep (interrupted k) q w) ≡ late_alloc (impl-alloc.unless_allocated t k (impl-alloc.alloc_ep k q w))
      go (Err x) = refl
      go (Ok tt) = refl
