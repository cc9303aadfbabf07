-- That an interrupt which was taken before stands aside, of the host's events: an event is what it does beside what it raises, and then its bits, which the next interrupt
-- reads. proofs/Aside.antt for the calls.
-- Assumes nothing.
use Rattle.std.specs.Prelude.{Err, Ok}
use Rattle.board.specs.declared.Span.{Span}
use Rattle.record.specs.declared.Answered.{Answered}
use Prim.Native.Nat.{ℕ}
use mathlib.Core.Path.{◌≡◌, refl, sym, ap, ap₂, ◌∙◌}
use mathlib.Core.Bool.{Bool, true, false, ◌||◌}
use mathlib.Core.List.{List, []}
use lib.Dec.{eqb, ltb, leb}
use lib.ListN.{length, take, drop}
use Rattle.laws.specs.Lists.{pasted}
use Rattle.board.specs.declared.Direction.TheVariants.{Out, In}
use Rattle.csr.specs.declared.Side.{Side}
use Rattle.register_file.proofs.Raised.{ups, apart_calm}
use Rattle.event_rules.specs.declared.BusEvent.TheVariants as bus
use Rattle.event_rules.specs.Promise as event
use Rattle.event_rules.specs.Promise.{Event, happens, raises_bus, raises}
use Rattle.event_rules.specs.Events as events
use Rattle.event_rules.proofs.Raised.{raised_is, beside, beside_apart, happens_is}
use Rattle.record.specs.declared.Record.{Record}
use Rattle.record.specs.Record.{with_regs, record_sound, admission_by, endpoints_in, endpoints_of, need_in, area_in, area_of, Reply}
use Rattle.call_rules.specs.declared.Snapshot.{Snapshot}
use Rattle.call_rules.specs.Interrupt.{snapshot_of, cleared, taken, interrupted}
use Rattle.call_rules.specs.Late.{raised_in}
use Rattle.call_rules.proofs.Late.{clears, same_reads, before, twice}
use Rattle.host_rules.specs.Host as host
use Rattle.calls.specs.Calls.{Op, arrival, collection, bus_reset, suspend, resume, setup_end, underrun, overrun, outcome, step, answered, arrived, collected}
use Rattle.calls.specs.Late.{answer_of}
use Rattle.calls.proofs.Aside.{still, passes_still}
use Rattle.calls.proofs.Happening.{cleared_side}

-- one operation, after an interrupt and without it: it answers the same, and the next interrupt makes the records the same
pub record Aside (k : Record) (o : Op) : Type 0 where
  pub answer : answer_of (outcome (interrupted k) o) ≡ answer_of (outcome k o)
  pub same : interrupted (step (interrupted k) o) ≡ interrupted (step k o)

-- an event: what it does beside what it raises, and then its bits
rung : Event → Snapshot
rung v = record { usb = raises_bus v 0; tx = raises v In 0; rx = raises v Out 0 }

module _ (k : Record) (v : Event) where
  without_bits : Record
  without_bits = with_regs k (beside v k.regs.words)

  early : with_regs k (happens v k.regs.words) ≡ raised_in without_bits (rung v)
  unfolding raised_in rung without_bits
  early = ap (with_regs k) (happens_is v k.regs.words ∙ sym (raised_is _ _ _ (beside v k.regs.words)))

  beside_cleared : beside v (cleared k.regs.words) ≡ cleared (beside v k.regs.words)
  beside_cleared = ap (beside v) (clears k.regs.words) ∙ apart_calm (beside_apart v) k.regs.words ∙ sym (clears (beside v k.regs.words))

  beside_reads : snapshot_of (beside v k.regs.words) ≡ snapshot_of k.regs.words
  beside_reads = same_reads k.regs.words (beside v k.regs.words) (λ q is. (beside_apart v).reads q is k.regs.words)

  late : with_regs (interrupted k) (happens v (cleared k.regs.words)) ≡ raised_in (interrupted without_bits) (rung v)
  unfolding raised_in rung without_bits interrupted endpoints_of
  late = λ i. record {
    regs = record {
      board = k.regs.board;
      words = (happens_is v (cleared k.regs.words) ∙ ap (ups (raises_bus v 0) (raises v In 0) (raises v Out 0)) beside_cleared ∙ sym (raised_is _ _ _ (cleared (beside v k.regs.words)))) i;
    };
    endpoints = k.endpoints;
    control_state = k.control_state;
    irq = taken (endpoints_of k) (sym beside_reads i) k.irq;
  }

  happened : interrupted (with_regs (interrupted k) (happens v (cleared k.regs.words))) ≡ interrupted (with_regs k (happens v k.regs.words))
  happened = ap interrupted late ∙ before without_bits (rung v) ∙ sym (ap interrupted early)

-- the tests decide: all that is left, by what they came to
module _ (k : Record) (v : Event) where
  unless_same : (t : Reply Unit)
      → interrupted (host.unless t (interrupted k) (happens v (interrupted k).regs.words)).«record» ≡ interrupted (host.unless t k (happens v k.regs.words)).«record»
  unfolding interrupted
  unless_same (Err x) = twice k
  unless_same (Ok tt) = happened k v

  unless_answer : (t : Reply Unit)
      → answer_of (answered (host.unless t (interrupted k) (happens v (interrupted k).regs.words))) ≡ answer_of (answered (host.unless t k (happens v k.regs.words)))
  unless_answer (Err x) = refl
  unless_answer (Ok tt) = refl

module _ (k : Record) (p : record_sound k ≡ true) where
  signal : admission_by false (record_sound (interrupted k)) false ≡ admission_by false (record_sound k) false
  signal = ap (λ (b : Bool). admission_by false b false) (still k p)

  by_unless : (v : Event) {t u : Reply Unit} → t ≡ u
      → (answer_of (answered (host.unless t (interrupted k) (happens v (interrupted k).regs.words))) ≡ answer_of (answered (host.unless u k (happens v k.regs.words))))
      × (interrupted (host.unless t (interrupted k) (happens v (interrupted k).regs.words)).«record» ≡ interrupted (host.unless u k (happens v k.regs.words)).«record»)
  by_unless v {u = u} e = (
    ap (λ (x : Reply Unit). answer_of (answered (host.unless x (interrupted k) (happens v (interrupted k).regs.words)))) e ∙ unless_answer k v u,
    ap (λ (x : Reply Unit). interrupted (host.unless x (interrupted k) (happens v (interrupted k).regs.words)).«record») e ∙ unless_same k v u,
  )

  pub bus_reset_aside : Aside k bus_reset
  unfolding host.bus_reset_call events.bus_reset
  bus_reset_aside = let x = by_unless (event.on_bus bus.Reset) signal in record { answer = x.0; same = x.1 }

  pub suspend_aside : Aside k suspend
  unfolding host.suspend_call events.bus_suspend
  suspend_aside = let x = by_unless (event.on_bus bus.Suspend) signal in record { answer = x.0; same = x.1 }

  pub resume_aside : Aside k resume
  unfolding host.resume_call events.bus_resume
  resume_aside = let x = by_unless (event.on_bus bus.Resume) signal in record { answer = x.0; same = x.1 }

  pub setup_end_aside : Aside k setup_end
  unfolding host.setup_end_call
  setup_end_aside = let x = by_unless event.setupend signal in record { answer = x.0; same = x.1 }

  missed : (e : ℕ) → host.miss_refusal (interrupted k) e ≡ host.miss_refusal k e
  unfolding interrupted
  missed e = ap (λ (b : Bool). admission_by false b (eqb e 0 || leb (endpoints_in k.regs.board) e)) (passes_still k p)

  pub underrun_aside : (e : ℕ) → Aside k (underrun e)
  unfolding host.underrun_call host.miss_call
  underrun_aside e = let x = by_unless (event.miss e In) (missed e) in record { answer = x.0; same = x.1 }

  pub overrun_aside : (e : ℕ) → Aside k (overrun e)
  unfolding host.overrun_call host.miss_call
  overrun_aside e = let x = by_unless (event.miss e Out) (missed e) in record { answer = x.0; same = x.1 }

  entered : (e m : ℕ) → host.entry_at (interrupted k) e m ≡ host.entry_at k e m
  unfolding interrupted
  entered e m = ap (λ (b : Bool). admission_by (ltb m (need_in k.regs.board)) b (leb (endpoints_in k.regs.board) e)) (passes_still k p)

  -- arrival
  arriving : (e n m : ℕ) → host.arrival_refusal (interrupted k) e n m ≡ host.arrival_refusal k e n m
  unfolding host.arrival_refusal host.arrival_refusal_in interrupted
  arriving e n m = ap₂ (λ (t : Reply Unit) (x : Side). host.arrival_by t (ltb (area_in k.regs.board e Out).size n) x.ready) (entered e m) (cleared_side k.regs.words e Out)

  abbrev comes : Record → ℕ → List ℕ → List ℕ → Reply Unit → host.Arrival
  comes j e b f t = host.unless_arrived t j f (record { event = host.done j (events.arrived j.regs.words e (length b)); fifo = pasted f (area_of j e Out).start b })

  comes_same : (e : ℕ) (b f : List ℕ) (t : Reply Unit) → interrupted (comes (interrupted k) e b f t).event.«record» ≡ interrupted (comes k e b f t).event.«record»
  unfolding interrupted
  comes_same e b f (Err x) = twice k
  comes_same e b f (Ok tt) = happened k (event.arrival e (length b))

  comes_answer : (e : ℕ) (b f : List ℕ) (t : Reply Unit) → answer_of (arrived (comes (interrupted k) e b f t)) ≡ answer_of (arrived (comes k e b f t))
  unfolding interrupted area_of
  comes_answer e b f (Err x) = refl
  comes_answer e b f (Ok tt) = refl

  pub arrival_aside : (e : ℕ) (b f : List ℕ) → Aside k (arrival e b f)
  unfolding host.arrival_call
  arrival_aside e b f = record {
    answer = ap (λ (t : Reply Unit). answer_of (arrived (comes (interrupted k) e b f t))) (arriving e (length b) (length f)) ∙ comes_answer e b f (host.arrival_refusal k e (length b) (length f));
    same = ap (λ (t : Reply Unit). interrupted (comes (interrupted k) e b f t).event.«record») (arriving e (length b) (length f)) ∙ comes_same e b f (host.arrival_refusal k e (length b) (length f));
  }

  -- collection
  collecting : (e m : ℕ) → host.collection_refusal (interrupted k) e m ≡ host.collection_refusal k e m
  unfolding host.collection_refusal host.collection_refusal_in interrupted
  collecting e m = ap₂ (λ (t : Reply Unit) (x : Side). host.collection_by t x.ready) (entered e m) (cleared_side k.regs.words e In)

  abbrev goes : Record → ℕ → Reply Unit → Answered (Reply Span)
  goes j e t = host.unless_collected t j (host.collected_from j e)

  goes_same : (e : ℕ) (t : Reply Unit) → interrupted (goes (interrupted k) e t).«record» ≡ interrupted (goes k e t).«record»
  unfolding host.collected_from interrupted
  goes_same e (Err x) = twice k
  goes_same e (Ok tt) = happened k (event.collection e)

  goes_answer : (e : ℕ) (f : List ℕ) (t : Reply Unit) → answer_of (collected f (goes (interrupted k) e t)) ≡ answer_of (collected f (goes k e t))
  unfolding host.collected_from interrupted
  goes_answer e f (Err x) = refl
  goes_answer e f (Ok tt) = ap (λ (x : Side). record { reply = 0; values = take x.len (drop (area_in k.regs.board e In).start f); stores = 0; fifo = []; list = []; buf = [] }) (cleared_side k.regs.words e In)

  pub collection_aside : (e : ℕ) (f : List ℕ) → Aside k (collection e f)
  unfolding host.collection_call
  collection_aside e f = record {
    answer = ap (λ (t : Reply Unit). answer_of (collected f (goes (interrupted k) e t))) (collecting e (length f)) ∙ goes_answer e f (host.collection_refusal k e (length f));
    same = ap (λ (t : Reply Unit). interrupted (goes (interrupted k) e t).«record») (collecting e (length f)) ∙ goes_same e (host.collection_refusal k e (length f));
  }
