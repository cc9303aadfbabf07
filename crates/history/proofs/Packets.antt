-- Over every operation: at endpoints 1 to 5 there waits what arrived and was not taken. Assumes nothing.
use Rattle.std.specs.Prelude.{Err, Ok}
use mathlib.Core.Path.{◌≡◌, refl, sym, ap, subst, ◌∙◌}
use mathlib.Core.Bool.{Bool, true, false, not, cond, ◌&&◌, ◌||◌, and-true}
use mathlib.Core.List.{List}
use Prim.Native.Nat.{ℕ, ◌<◌}
use native.Mathlib.Omega.{arith}
use native.Mathlib.Decide.{ℕ_discrete}
use borrow.Author.Tests.{eq-eqb, ne_eqb}
use lib.Dec.{T, eqb}
use lib.ListN.{length}
use Rattle.board.specs.declared.Board.{Board}
use Rattle.board.specs.declared.Direction.{Direction}
use Rattle.board.specs.declared.Direction.TheVariants.{Out, In}
use Rattle.csr.specs.declared.Side.{Side}
use Rattle.csr.specs.Registers.{towards}
use Rattle.register_file.specs.Registers.{Whole, side_at}
use Rattle.register_file.proofs.Sides.{fresh_words, fresh_side}
use Rattle.event_rules.specs.Events.{lapsed, received}
use Rattle.event_rules.specs.Promise as events
use Rattle.event_rules.proofs.Promises as promised
use Rattle.record.specs.declared.Record.{Record}
use Rattle.record.specs.Record.{fresh_record, endpoints_in, endpoints_of, Reply}
use Rattle.call_rules.specs.Interrupt.{interrupt_call}
use Rattle.round_rules.specs.Poll.{poll_call}
use Rattle.host_rules.specs.Host.{Arrival}
use Rattle.calls.specs.Calls.{Op, alloc_ep, bus_init, enable, reset, set_device_address, write, read, set_stalled, is_stalled, poll, on_interrupt, force_reset, arrival, collection, bus_reset, suspend, resume, setup_end, underrun, overrun, step}
use Rattle.calls.proofs.Simple as simple
use Rattle.calls.proofs.Writing as writing
use Rattle.calls.proofs.Polling as polling
use Rattle.calls.proofs.Happening as happening
use Rattle.calls.proofs.Remains.{careful_remain, event_remain, interrupt_remain, read_remain, stall_remain, stall_in_remain, reset_remain}
use Rattle.rounds.specs.Machine.{Event, quiet, arrives_at}
use Rattle.rounds.specs.Sentences.{Endpoint}
use Rattle.rounds.proofs.Tests.{is_down}
use Rattle.history.specs.Driver.{poll_event, interrupt_event, arrival_event, event, waiting, takes, driver}
use Rattle.history.proofs.Look.{Kept, below}
use Rattle.history.proofs.Arrivals.{refusal, arrival_of, arrival_is, there}
use Rattle.history.proofs.Steps.{poll_brings_none, interrupt_brings_none}

-- a fresh record: "nothing waiting"
pub none_waits : (b : Board) (e : ℕ) → waiting (fresh_record b) e ≡ false
unfolding fresh_record
none_waits b e = ap (λ (r : List ℕ). (side_at r e Out).ready) (fresh_words b).0 ∙ ap (λ (s : Side). s.ready) (fresh_side e Out)

module _ (b : Board) (k : Record) (kept : Kept b k) (e : ℕ) (ep : Endpoint (driver b) e) where
  six : Whole k.regs.words
  six = kept.good.six

  pub high : e ≡ 0 → ⊥
  high z = omega (arith, ep.low, z)

  -- what is to be shown of an operation, by the record that it leaves, what it tells and what it takes
  abbrev Lasts : Record → Event → Bool → Type 0
  Lasts q v gone = waiting q e ≡ (arrives_at e v || (waiting k e && not gone))

  -- an operation that brings nothing
  calm : (q : Record) (v : Event) (gone : Bool) → arrives_at e v ≡ false → waiting q e ≡ (waiting k e && not gone) → Lasts q v gone
  calm q v gone none p = p ∙ ap (λ (b : Bool). b || (waiting k e && not gone)) (sym none)

  -- an arrival: the packet waits where it came, and every other where it was
  module _ (i : ℕ) (bytes f : List ℕ) where
    arrived : (x : Reply Unit) → refusal k i bytes f ≡ x
        → Lasts (arrival_of k i bytes f x).event.«record» (arrival_event (arrival_of k i bytes f x).event.answer i) false
    arrived (Err x) p = sym (and-true (waiting k e))
    arrived (Ok tt) p =
        ap (λ (s : Side). s.ready)
        (promised.sides (events.arrival i (length bytes)) k.regs.words e Out six (there k i (length bytes) (length f) p))
        ∙ here (ℕ_discrete e i)
      where
        here : Dec (e ≡ i)
            → (cond (eqb e i) (received (length bytes) (side_at k.regs.words e Out)) (side_at k.regs.words e Out)).ready
            ≡ (eqb i e || (waiting k e && true))
        here (yes q) = rw (eq-eqb e i q, eq-eqb i e (sym q))
        here (no m) = rw (ne_eqb e i m, ne_eqb i e (λ q. m (sym q))) (sym (and-true (waiting k e)))

    arrival_lasts : Lasts (step k (arrival i bytes f)) (event k (arrival i bytes f)) false
    arrival_lasts =
        subst (λ (o : Arrival). Lasts o.event.«record» (arrival_event o.event.answer i) false)
        (sym (arrival_is k i bytes f (refusal k i bytes f) refl)) (arrived (refusal k i bytes f) refl)

  -- collection drops at the other side, and a miss leaves the ready bit
  collected : (i j : ℕ) (s : Side) → (events.leaves (events.collection i) j Out s).ready ≡ s.ready
  collected i j s = go (eqb j i)
    where
      go : (b : Bool) → (cond b s s).ready ≡ s.ready
      go true = refl
      go false = refl

  missed : (i : ℕ) (d : Direction) (j : ℕ) (s : Side) → (events.leaves (events.miss i d) j Out s).ready ≡ s.ready
  missed i d j s = go d (eqb j i)
    where
      go : (d : Direction) (b : Bool) → (cond b (towards d Out lapsed s) s).ready ≡ s.ready
      go Out true = refl
      go Out false = refl
      go In true = refl
      go In false = refl

  pub counted : e < endpoints_of k
  unfolding endpoints_in endpoints_of
  counted = rw kept.board (below b e ep)

  pub lasts : (o : Op) → Lasts (step k o) (event k o) (takes k o e)
  lasts (read i x f l) = (read_remain k six i x f l).ready e high
  lasts (set_stalled i Out s l) = (stall_remain k six i s l).ready e high
  lasts (set_stalled i In s l) = (stall_in_remain k six i s l).ready e high
  lasts (reset l) = reset_remain k six l e high counted
  lasts (alloc_ep q w) = (careful_remain k six (simple.alloc_ep_lem k q w)).ready e high
  lasts (bus_init l) = (careful_remain k six (simple.bus_init_lem k l)).ready e high
  lasts (enable l) = (careful_remain k six (simple.enable k l)).ready e high
  lasts (set_device_address a l) = (careful_remain k six (simple.set_device_address_lem k a l)).ready e high
  lasts (write i x f l) = (careful_remain k six (writing.write k i x f l six)).ready e high
  lasts (is_stalled i d l) = (careful_remain k six (simple.is_stalled_lem k i d l)).ready e high
  lasts (poll l) =
      let a = (poll_call k l).result.answer in
      calm (step k (poll l)) (poll_event a) false (is_down (arrives_at e (poll_event a)) (poll_brings_none e a)) ((careful_remain k six (polling.poll k l)).ready e high)
  lasts on_interrupt =
      let v = interrupt_event (interrupt_call k).answer k in
      calm (step k on_interrupt) v false (is_down (arrives_at e v) (interrupt_brings_none e (interrupt_call k).answer k)) ((interrupt_remain k).ready e high)
  lasts force_reset = sym (and-true (waiting k e))
  lasts (arrival i x f) = arrival_lasts i x f
  lasts (collection i f) = (event_remain k six (collected i) (happening.collection_comes k i f)).ready e high
  lasts bus_reset = (event_remain k six (λ j s. refl) (happening.bus_reset_lem k)).ready e high
  lasts suspend = (event_remain k six (λ j s. refl) (happening.bus_suspend_lem k)).ready e high
  lasts resume = (event_remain k six (λ j s. refl) (happening.bus_resume_lem k)).ready e high
  lasts setup_end = (event_remain k six (λ j s. refl) (happening.setup_end_lem k)).ready e high
  lasts (underrun i) = (event_remain k six (missed i In) (happening.underrun k i)).ready e high
  lasts (overrun i) = (event_remain k six (missed i Out) (happening.overrun k i)).ready e high

-- what takes is a call that is asked for: no poll, no interrupt, no arrival
pub calls_take : (k : Record) (o : Op) (e : ℕ) → T (takes k o e) → event k o ≡ quiet
calls_take k (read i b f l) e t = refl
calls_take k (set_stalled i d s l) e t = refl
calls_take k (reset l) e t = refl
calls_take k (alloc_ep q w) e t = refl
calls_take k (bus_init l) e t = refl
calls_take k (enable l) e t = refl
calls_take k (set_device_address a l) e t = refl
calls_take k (write i b f l) e t = refl
calls_take k (is_stalled i d l) e t = refl
calls_take k (poll l) e t = absurd t
calls_take k on_interrupt e t = absurd t
calls_take k force_reset e t = refl
calls_take k (arrival i b f) e t = absurd t
calls_take k (collection i f) e t = refl
calls_take k bus_reset e t = refl
calls_take k suspend e t = refl
calls_take k resume e t = refl
calls_take k setup_end e t = refl
calls_take k (underrun i) e t = refl
calls_take k (overrun i) e t = refl
