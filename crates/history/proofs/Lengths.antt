-- Over every operation: what waits has the length that it arrived with. Assumes nothing.
use Rattle.std.specs.Prelude.{Err, Ok}
use Rattle.record.specs.Record.{Reply}
use mathlib.Core.Path.{◌≡◌, refl, sym, ap, subst, ◌∙◌}
use mathlib.Core.Bool.{Bool, not, cond, ◌&&◌}
use mathlib.Core.List.{List}
use Prim.Native.Nat.{ℕ}
use borrow.Author.Tests.{eq-eqb, ne_eqb}
use lib.Dec.{T, T_not, eqb, eqb→eq}
use lib.ListN.{length}
use Rattle.board.specs.declared.Board.{Board}
use Rattle.board.specs.declared.Direction.TheVariants.{Out}
use Rattle.csr.specs.declared.Side.{Side}
use Rattle.register_file.specs.Registers.{side_at}
use Rattle.event_rules.specs.Events.{received}
use Rattle.event_rules.specs.Promise as events
use Rattle.event_rules.proofs.Promises as promised
use Rattle.record.specs.declared.Record.{Record}
use Rattle.call_rules.specs.Interrupt.{interrupt_call}
use Rattle.round_rules.specs.Poll.{poll_call}
use Rattle.host_rules.specs.Host.{Arrival, arrival_call}
use Rattle.calls.specs.Calls.{Op, alloc_ep, bus_init, enable, reset, set_device_address, write, read, set_stalled, is_stalled, poll, on_interrupt, force_reset, arrival, collection, bus_reset, suspend, resume, setup_end, underrun, overrun, step}
use Rattle.calls.specs.Kept.{Stores}
use Rattle.calls.proofs.Happening as happening
use Rattle.calls.proofs.Lengths.{call_lasting, event_keeps, interrupt_keeps}
use Rattle.rounds.specs.Machine.{arrives_at}
use Rattle.rounds.specs.Sentences.{Endpoint}
use Rattle.rounds.proofs.Tests.{or_right, and_both, is_up}
use Rattle.history.specs.Driver.{poll_event, interrupt_event, arrival_event, event, waiting, length_at, takes, brings, driver}
use Rattle.history.proofs.Look.{Kept}
use Rattle.history.proofs.Arrivals.{refusal, arrival_of, arrival_is, none_waited, there}
use Rattle.history.proofs.Steps.{poll_brings_none, interrupt_brings_none}
use Rattle.history.proofs.Packets.{lasts}

module _ (b : Board) (k : Record) (kept : Kept b k) (e : ℕ) where
  -- an arrival: what came is as long as it came, and what waited elsewhere as it was
  module _ (i : ℕ) (bytes f : List ℕ) where
    abbrev side : Bool → Side
    side here = cond here (received (length bytes) (side_at k.regs.words e Out)) (side_at k.regs.words e Out)

    arrived : refusal k i bytes f ≡ (Ok tt) → length_at (arrival_of k i bytes f (Ok tt)).event.«record» e ≡ (side (eqb e i)).len
    arrived p =
        ap (λ (s : Side). s.len)
        (promised.sides (events.arrival i (length bytes)) k.regs.words e Out kept.good.six (there k i (length bytes) (length f) p))

    abbrev Arrives : Arrival → Type 0
    Arrives o = T (arrives_at e (arrival_event o.event.answer i)) → length_at o.event.«record» e ≡ brings (arrival i bytes f)

    comes : (x : Reply Unit) → refusal k i bytes f ≡ x → Arrives (arrival_of k i bytes f x)
    comes (Err x) p t = absurd t
    comes (Ok tt) p t = arrived p ∙ ap (λ (here : Bool). (side here).len) (eq-eqb e i (sym (eqb→eq i e t)))

    abbrev Stays : Arrival → Type 0
    Stays o = T (waiting k e) → length_at o.event.«record» e ≡ length_at k e

    stays : (x : Reply Unit) → refusal k i bytes f ≡ x → Stays (arrival_of k i bytes f x)
    stays (Err x) p w = refl
    stays (Ok tt) p w =
        arrived p
        ∙ ap (λ (here : Bool). (side here).len) (ne_eqb e i (λ q. subst T (none_waited k i (length bytes) (length f) p) (subst (λ (m : ℕ). T (waiting k m)) q w)))

    arrival_comes : Arrives (arrival_call k i bytes f)
    arrival_comes = subst Arrives (sym (arrival_is k i bytes f (refusal k i bytes f) refl)) (comes (refusal k i bytes f) refl)

    arrival_stays : Stays (arrival_call k i bytes f)
    arrival_stays = subst Stays (sym (arrival_is k i bytes f (refusal k i bytes f) refl)) (stays (refusal k i bytes f) refl)

  -- only an arrival brings
  pub arrives_long : (o : Op) → T (arrives_at e (event k o)) → length_at (step k o) e ≡ brings o
  arrives_long (arrival i x f) t = arrival_comes i x f t
  arrives_long (poll l) t = let a = (poll_call k l).result.answer in absurd (T_not (arrives_at e (poll_event a)) (poll_brings_none e a) t)
  arrives_long on_interrupt t =
      let a = (interrupt_call k).answer in absurd (T_not (arrives_at e (interrupt_event a k)) (interrupt_brings_none e a k) t)
  arrives_long (alloc_ep q w) t = absurd t
  arrives_long (bus_init l) t = absurd t
  arrives_long (enable l) t = absurd t
  arrives_long (reset l) t = absurd t
  arrives_long (set_device_address a l) t = absurd t
  arrives_long (write i x f l) t = absurd t
  arrives_long (read i x f l) t = absurd t
  arrives_long (set_stalled i d s l) t = absurd t
  arrives_long (is_stalled i d l) t = absurd t
  arrives_long force_reset t = absurd t
  arrives_long (collection i f) t = absurd t
  arrives_long bus_reset t = absurd t
  arrives_long suspend t = absurd t
  arrives_long resume t = absurd t
  arrives_long setup_end t = absurd t
  arrives_long (underrun i) t = absurd t
  arrives_long (overrun i) t = absurd t

  -- a call that stores: what is still there is as long
  stored : (o : Op) → Stores o → T (waiting (step k o) e) → length_at (step k o) e ≡ length_at k e
  stored o c v = (call_lasting k o kept.good c e).len (is_up _ v)

  -- at any endpoint, 0 too, what waits before an operation and after it
  pub still_long : (o : Op) → T (waiting k e) → T (waiting (step k o) e) → length_at (step k o) e ≡ length_at k e
  still_long (arrival i x f) w t = arrival_stays i x f w
  still_long on_interrupt w t = interrupt_keeps k e
  still_long (alloc_ep q v) w t = stored (alloc_ep q v) tt t
  still_long (bus_init l) w t = stored (bus_init l) tt t
  still_long (enable l) w t = stored (enable l) tt t
  still_long (reset l) w t = stored (reset l) tt t
  still_long (set_device_address a l) w t = stored (set_device_address a l) tt t
  still_long (write i x f l) w t = stored (write i x f l) tt t
  still_long (read i x f l) w t = stored (read i x f l) tt t
  still_long (set_stalled i d s l) w t = stored (set_stalled i d s l) tt t
  still_long (is_stalled i d l) w t = stored (is_stalled i d l) tt t
  still_long (poll l) w t = stored (poll l) tt t
  still_long force_reset w t = refl
  still_long (collection i f) w t = event_keeps k kept.good.six (happening.collection_comes k i f) tt e
  still_long bus_reset w t = event_keeps k kept.good.six (happening.bus_reset_lem k) tt e
  still_long suspend w t = event_keeps k kept.good.six (happening.bus_suspend_lem k) tt e
  still_long resume w t = event_keeps k kept.good.six (happening.bus_resume_lem k) tt e
  still_long setup_end w t = event_keeps k kept.good.six (happening.setup_end_lem k) tt e
  still_long (underrun i) w t = event_keeps k kept.good.six (happening.underrun k i) tt e
  still_long (overrun i) w t = event_keeps k kept.good.six (happening.overrun k i) tt e

  -- at 1 to 5, what waits and is not taken
  module _ (ep : Endpoint (driver b) e) where
    pub still_there_lem : (o : Op) → T (waiting k e) → T (not (takes k o e)) → T (waiting (step k o) e)
    still_there_lem o w n =
        subst T (sym (lasts b k kept e ep o))
        (or_right (arrives_at e (event k o)) (waiting k e && not (takes k o e)) (and_both (waiting k e) (not (takes k o e)) w n))

    pub stays_long : (o : Op) → T (waiting k e) → T (not (takes k o e)) → length_at (step k o) e ≡ length_at k e
    stays_long o w n = still_long o w (still_there_lem o w n)
