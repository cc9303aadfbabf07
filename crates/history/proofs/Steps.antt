-- Every operation keeps the step laws: the driver is lawful. Assumes nothing.
use Rattle.std.specs.Prelude.{Err, Ok}
use Rattle.round_rules.specs.declared.PollResult.{PollResult}
use mathlib.Core.Path.{◌≡◌, refl, sym, subst, ◌∙◌}
use mathlib.Core.Bool.{false, not}
use Prim.Native.Nat.{ℕ}
use lib.Dec.{T}
use lib.ListN.{length}
use Rattle.board.specs.declared.Board.{Board}
use Rattle.board.specs.declared.Direction.TheVariants.{Out, In}
use Rattle.register_file.specs.Registers.{intr_of}
use Rattle.event_rules.specs.declared.BusEvent.TheVariants as bus
use Rattle.event_rules.specs.Events as wire
use Rattle.event_rules.specs.Promise as events
use Rattle.event_rules.specs.Promise.{happens, raises}
use Rattle.event_rules.proofs.Promises.{pending}
use Rattle.record.specs.declared.Flags.{Flags}
use Rattle.record.specs.declared.Record.{Record}
use Rattle.record.specs.Record.{admission_by, record_sound, Reply}
use Rattle.call_rules.specs.Interrupt.{interrupt_call}
use Rattle.round_rules.specs.declared.PollResult.TheVariants.{None, Data, Reset, Resume, Suspend}
use Rattle.round_rules.specs.Poll.{poll_call}
use Rattle.host_rules.specs.Host as host
use Rattle.calls.specs.Calls.{Op, alloc_ep, bus_init, enable, reset, set_device_address, write, read, set_stalled, is_stalled, poll, on_interrupt, force_reset, arrival, collection, bus_reset, suspend, resume, setup_end, underrun, overrun, step}
use Rattle.calls.specs.Kept.{Stores}
use Rattle.calls.proofs.Kept.{same_pending}
use Rattle.rounds.specs.Machine.{arrives_at}
use Rattle.rounds.specs.Laws.{Quiet, Does}
use Rattle.rounds.proofs.Lawful.{unchanged}
use Rattle.history.specs.Driver.{poll_event, interrupt_event, event, waiting}
use Rattle.history.proofs.Flags.{Alike, same}
use Rattle.history.proofs.Look.{look, Kept, small, calm}
use Rattle.history.proofs.Polls.{poll_does}
use Rattle.history.proofs.Arrivals.{arrival_does, one_arrival}
use Rattle.history.proofs.Interrupts.{interrupt_does}
use Rattle.history.proofs.Calm.{alloc_ep_call_lem, bus_init_call_lem, enable_call_lem, reset_call_lem, address_call_lem, set_stalled_call_lem, is_stalled_call_lem, read_call_lem, write_call_lem}

-- no poll and no interrupt is an arrival
pub poll_brings_none : (i : ℕ) (a : Reply PollResult) → T (not (arrives_at i (poll_event a)))
poll_brings_none i (Ok None) = tt
poll_brings_none i (Ok (Data m)) = tt
poll_brings_none i (Ok Reset) = tt
poll_brings_none i (Ok Resume) = tt
poll_brings_none i (Ok Suspend) = tt
poll_brings_none i (Err x) = tt

pub interrupt_brings_none : (i : ℕ) (a : Reply Unit) (k : Record) → T (not (arrives_at i (interrupt_event a k)))
interrupt_brings_none i (Ok tt) k = tt
interrupt_brings_none i (Err x) k = tt

pub one_place : (k : Record) (o : Op) (i : ℕ) → T (waiting k i) → T (not (arrives_at i (event k o)))
one_place k (poll l) i w = poll_brings_none i (poll_call k l).result.answer
one_place k on_interrupt i w = interrupt_brings_none i (interrupt_call k).answer k
one_place k (arrival e bytes f) i w = one_arrival k e bytes f i w
one_place k (alloc_ep q v) i w = tt
one_place k (bus_init l) i w = tt
one_place k (enable l) i w = tt
one_place k (reset l) i w = tt
one_place k (set_device_address a l) i w = tt
one_place k (write e bytes f l) i w = tt
one_place k (read e buf f l) i w = tt
one_place k (set_stalled e d s l) i w = tt
one_place k (is_stalled e d l) i w = tt
one_place k force_reset i w = tt
one_place k (collection e f) i w = tt
one_place k bus_reset i w = tt
one_place k suspend i w = tt
one_place k resume i w = tt
one_place k setup_end i w = tt
one_place k (underrun e) i w = tt
one_place k (overrun e) i w = tt

module _ (b : Board) (k : Record) (kept : Kept b k) where
  -- a call that stores leaves the interrupt registers
  stored : (o : Op) → Stores o → Alike k.irq (step k o).irq → Quiet (look b) k (step k o)
  stored o s a = calm b k (step k o) a ((same_pending k o kept.good.six s).intr Out)

  flags_same : (o : Op) → Stores o → (step k o).irq ≡ k.irq → Quiet (look b) k (step k o)
  flags_same o s p = stored o s (subst (λ (f : Flags). Alike k.irq f) (sym p) (same k.irq (small b k kept)))

  -- a host event other than an arrival, refused or not
  event_does : (x : Reply Unit) (o : events.Event) → raises o Out (intr_of k.regs.words Out) ≡ intr_of k.regs.words Out
      → Quiet (look b) k (host.unless x k (happens o k.regs.words)).«record»
  event_does (Err x) o due = unchanged (look b) k k refl refl refl refl
  event_does (Ok tt) o due = calm b k _ (same k.irq (small b k kept)) (pending o k.regs.words Out kept.good.six ∙ due)

  collects : (x : Reply Unit) (e : ℕ) → Quiet (look b) k (host.unless_collected x k (host.collected_from k e)).«record»
  unfolding host.collected_from
  collects (Err x) e = unchanged (look b) k k refl refl refl refl
  collects (Ok tt) e = event_does (Ok tt) (events.collection e) refl

  abbrev plain : Reply Unit
  plain = admission_by false (record_sound k) false

  pub does : (o : Op) → Does (look b) k (event k o) (step k o)
  unfolding host.collection_call host.bus_reset_call host.suspend_call host.resume_call host.setup_end_call host.underrun_call host.overrun_call host.miss_call wire.bus_reset wire.bus_suspend wire.bus_resume
  does (poll l) = poll_does b k kept l ((same_pending k (poll l) kept.good.six tt).intr Out)
  does on_interrupt = interrupt_does b k kept
  does (arrival e bytes f) = arrival_does k e bytes f b kept.good.six
  does (alloc_ep q w) = flags_same (alloc_ep q w) tt (alloc_ep_call_lem k q w)
  does (bus_init l) = flags_same (bus_init l) tt (bus_init_call_lem k l)
  does (enable l) = flags_same (enable l) tt (enable_call_lem k l)
  does (reset l) = flags_same (reset l) tt (reset_call_lem k l)
  does (set_device_address a l) = flags_same (set_device_address a l) tt (address_call_lem k l a)
  does (write e bytes f l) = stored (write e bytes f l) tt (write_call_lem k (small b k kept) e bytes f l)
  does (read e buf f l) = flags_same (read e buf f l) tt (read_call_lem k e buf f l)
  does (set_stalled e d s l) = flags_same (set_stalled e d s l) tt (set_stalled_call_lem k l e d s)
  does (is_stalled e d l) = flags_same (is_stalled e d l) tt (is_stalled_call_lem k l e d)
  does force_reset = flags_same force_reset tt refl
  does (collection e f) = collects (host.collection_refusal k e (length f)) e
  does bus_reset = event_does plain (events.on_bus bus.Reset) refl
  does suspend = event_does plain (events.on_bus bus.Suspend) refl
  does resume = event_does plain (events.on_bus bus.Resume) refl
  does setup_end = event_does plain events.setupend refl
  does (underrun e) = event_does (host.miss_refusal k e) (events.miss e In) refl
  does (overrun e) = event_does (host.miss_refusal k e) (events.miss e Out) refl
