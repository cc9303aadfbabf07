-- The accounts of the host's events and of `on_interrupt`: refused, or the model's own event on the registers, with the flags as they were;
-- the interrupt reads its registers, and takes no flag above the last endpoint's.
-- Assumes nothing.
use Rattle.std.specs.Prelude.{Err, Ok}
use Prim.Native.Nat.{ℕ, ◌≤◌, ◌<◌}
use mathlib.Core.Path.{◌≡◌, refl, ◌∙◌}
use mathlib.Core.Bool.{true, false, cond}
use mathlib.Core.List.{List}
use native.Mathlib.Nat.{le_trans}
use native.Mathlib.Decide.{ℕ_discrete}
use borrow.Author.Tests.{eq-eqb, ne_eqb, ltb-false}
use lib.Dec.{eqb, leb, ltb, lit<}
use lib.ListN.{length}
use Rattle.board.specs.declared.Board.{Board}
use Rattle.board.specs.declared.Direction.{Direction}
use Rattle.board.specs.declared.Direction.TheVariants.{Out, In}
use Rattle.board.specs.Table.{area_at}
use Rattle.board.specs.Boards.{rows, at_most_six, at_least_one}
use Rattle.csr.specs.declared.Side.{Side}
use Rattle.register_file.specs.Registers.{File, side_at}
use Rattle.register_file.specs.Sound.{Clean}
use Rattle.csr.specs.Control.{dropped}
use Rattle.csr.specs.Sound.{SideOk}
use Rattle.event_rules.specs.Events.{received, lapsed, arrived, intrusb_cleared, intr_cleared, bus_reset, bus_suspend, bus_resume}
use Rattle.event_rules.specs.Promise.{Event, arrival, collection, on_bus, setupend, miss, happens, leaves, at, Kept}
use Rattle.event_rules.proofs.Promises.{sides, rest, usb_read, usb_rest, word_read, word_rest}
use Rattle.event_rules.proofs.Others.{clean, usb_clean, word_clean}
use Rattle.record.specs.declared.Record.{Record}
use Rattle.record.specs.Record.{record_sound, admission_by, area_in, area_of, endpoints_in, endpoints_of, Reply}
use Rattle.record.proofs.Rows.{none_refused}
use Rattle.host_rules.specs.Host as host
use Rattle.host_rules.proofs.Host as laws
use Rattle.call_rules.specs.Interrupt.{cleared, snapshot_of, interrupted}
use Rattle.call_rules.proofs.Flags.{taken_low}
use Rattle.laws.proofs.Tests.{clash, neither}
use Rattle.csr.proofs.Tame.{stays_ok, alike, either, one_way, dropped_tame}
use Rattle.calls.proofs.Steps.{Standing, Holds}
use Rattle.calls.proofs.Accounts.{Low, there}
use Rattle.event_rules.specs.declared.BusEvent.TheVariants.{Suspend, Resume, Reset}

-- reply 9 was not given: a packet that arrives fits its area
abbrev pub Fits : Board → Event → Type 0
Fits b (arrival e n) = n ≤ (area_at (rows b) e Out).size
Fits b (collection e) = Unit
Fits b (on_bus o) = Unit
Fits b setupend = Unit
Fits b (miss e d) = Unit

pub data Happens (o : Event) (k q : Record) : Type 0 where
  refused : q ≡ k → Happens o k q
  happened : at o < 6 → Fits k.regs.board o → q.regs.board ≡ k.regs.board → q.regs.words ≡ happens o k.regs.words → q.irq ≡ k.irq → Happens o k q

-- what an event leaves of a side that passes reply 16
received_ok : (n size : ℕ) (s : Side) → n ≤ size → SideOk size (received n s)
received_ok n size s h = record { fits = h; none = λ e. clash e }

module _ (b : Board) where
  leaves_ok : (o : Event) (e : ℕ) (d : Direction) (s : Side) → Fits b o → SideOk (area_at (rows b) e d).size s
      → SideOk (area_at (rows b) e d).size (leaves o e d s)
  leaves_ok (arrival f n) e Out s h ok = go (ℕ_discrete e f)
    where
      go : Dec (e ≡ f) → SideOk (area_at (rows b) e Out).size (cond (eqb e f) (received n s) s)
      go (yes p) = rw (eq-eqb e f p) (received_ok n (area_at (rows b) e Out).size s (rw p h))
      go (no m) = rw (ne_eqb e f m) ok
  leaves_ok (arrival f n) e In s h ok = stays_ok _ (either (eqb f 0) (either (eqb e 0) (alike refl refl))) ok
  leaves_ok (collection f) e d s h ok = stays_ok _ (either (eqb e f) (one_way In d (dropped true) (dropped_tame true s))) ok
  leaves_ok (on_bus o) e d s h ok = ok
  leaves_ok setupend e d s h ok = ok
  leaves_ok (miss f c) e d s h ok = stays_ok _ (either (eqb e f) (one_way c d lapsed (alike refl refl))) ok

  -- the rest of what reply 16 asks of the registers
  stands : {r q : File} → Kept r q → Clean q → Standing b r → Standing b q
  stands t c s = record {
    six = t.whole ∙ s.six;
    selected = rw t.selected s.selected;
    address = rw t.addressed s.address;
    clean = c;
  }

  pub happens_holds : (o : Event) (r : File) → at o < 6 → Fits b o → Holds b r → Holds b (happens o r)
  happens_holds o r i h k = record {
    standing = stands (rest o r) (clean o r k.standing.six k.standing.clean) k.standing;
    side = λ (e : ℕ) (d : Direction). rw (sides o r e d k.standing.six i) (leaves_ok o e d _ h (k.side e d));
  }

-- the events
module _ (k : Record) where
  abbrev b : Board
  b = k.regs.board

  unless_refused : (o : Event) (t : Reply Unit) → (t ≡ (Ok tt) → (at o < 6) × Fits b o) → Happens o k (host.unless t k (happens o k.regs.words)).«record»
  unless_refused o (Err x) f = refused refl
  unless_refused o (Ok tt) f = let p = f refl in happened p.0 p.1 refl refl refl

  pub bus_reset_lem : Happens (on_bus Reset) k (host.bus_reset_call k).«record»
  unfolding host.bus_reset_call bus_reset
  bus_reset_lem = unless_refused (on_bus Reset) (admission_by false (record_sound k) false) (λ c. (lit< tt, tt))

  pub bus_suspend_lem : Happens (on_bus Suspend) k (host.suspend_call k).«record»
  unfolding host.suspend_call bus_suspend
  bus_suspend_lem = unless_refused (on_bus Suspend) (admission_by false (record_sound k) false) (λ c. (lit< tt, tt))

  pub bus_resume_lem : Happens (on_bus Resume) k (host.resume_call k).«record»
  unfolding host.resume_call bus_resume
  bus_resume_lem = unless_refused (on_bus Resume) (admission_by false (record_sound k) false) (λ c. (lit< tt, tt))

  pub setup_end_lem : Happens setupend k (host.setup_end_call k).«record»
  unfolding host.setup_end_call
  setup_end_lem = unless_refused setupend (admission_by false (record_sound k) false) (λ c. (lit< tt, tt))

  missed : (e : ℕ) (d : Direction) → Happens (miss e d) k (host.miss_call k e d).«record»
  unfolding host.miss_call record_sound endpoints_of
  missed e d =
      unless_refused (miss e d) (host.miss_refusal k e)
      (λ c. (le_trans (there k e (neither (eqb e 0) (leb (endpoints_of k) e) (none_refused false (record_sound k) _ c).2).1) (at_most_six b), tt))

  pub underrun : (e : ℕ) → Happens (miss e In) k (host.underrun_call k e).«record»
  unfolding host.underrun_call
  underrun e = missed e In

  pub overrun : (e : ℕ) → Happens (miss e Out) k (host.overrun_call k e).«record»
  unfolding host.overrun_call
  overrun e = missed e Out

  -- arrival and collection have tests of their own after the first ones
  arrives : (e n m : ℕ) → host.arrival_refusal k e n m ≡ (Ok tt) → (e < 6) × (n ≤ (area_at (rows b) e Out).size)
  unfolding host.arrival_refusal host.arrival_refusal_in area_in area_of
  arrives e n m p =
      let q = laws.arrival_passed (host.entry_at k e m) (ltb (area_of k e Out).size n) (side_at k.regs.words e Out).ready p in
      ((laws.admitted k e m q.0).below, ltb-false _ _ q.1)

  unless_arrived_lem : (e n : ℕ) (f x : List ℕ) (t : Reply Unit) → (t ≡ (Ok tt) → (e < 6) × (n ≤ (area_at (rows b) e Out).size))
      → Happens (arrival e n) k (host.unless_arrived t k f (record { event = host.done k (arrived k.regs.words e n); fifo = x })).event.«record»
  unless_arrived_lem e n f x (Err y) h = refused refl
  unless_arrived_lem e n f x (Ok tt) h = let q = h refl in happened q.0 q.1 refl refl refl

  pub arrival_comes : (e : ℕ) (x f : List ℕ) → Happens (arrival e (length x)) k (host.arrival_call k e x f).event.«record»
  unfolding host.arrival_call
  arrival_comes e x f = unless_arrived_lem e (length x) f _ (host.arrival_refusal k e (length x) (length f)) (arrives e (length x) (length f))

  collects : (e m : ℕ) → host.collection_refusal k e m ≡ (Ok tt) → e < 6
  unfolding host.collection_refusal host.collection_refusal_in
  collects e m p = (laws.admitted k e m (laws.collection_passed (host.entry_at k e m) (side_at k.regs.words e In).ready p)).below

  pub collection_comes : (e : ℕ) (f : List ℕ) → Happens (collection e) k (host.collection_call k e f).«record»
  unfolding host.collection_call host.collected_from
  collection_comes e f = go (host.collection_refusal k e (length f)) refl
    where
      go : (t : Reply Unit) → host.collection_refusal k e (length f) ≡ t → Happens (collection e) k (host.unless_collected t k (host.collected_from k e)).«record»
      go (Err y) p = refused refl
      go (Ok tt) p = happened (collects e (length f) p) tt refl refl refl

-- "Interrupt registers clear when read": nothing else of the registers changes
pub cleared_side : (r : File) (e : ℕ) (d : Direction) → side_at (cleared r) e d ≡ side_at r e d
unfolding cleared
cleared_side r e d = word_read (intr_cleared (intrusb_cleared r) In) Out e d ∙ word_read (intrusb_cleared r) In e d ∙ usb_read r e d

pub cleared_rest : (r : File) → Kept r (cleared r)
unfolding cleared
cleared_rest r =
    let x = usb_rest r in
    let y = word_rest (intrusb_cleared r) In in
    let z = word_rest (intr_cleared (intrusb_cleared r) In) Out in
    record {
      whole = z.whole ∙ y.whole ∙ x.whole;
      selected = z.selected ∙ y.selected ∙ x.selected;
      addressed = z.addressed ∙ y.addressed ∙ x.addressed;
    }

cleared_clean : (r : File) → Clean r → Clean (cleared r)
unfolding cleared
cleared_clean r k = word_clean (intr_cleared (intrusb_cleared r) In) Out (word_clean (intrusb_cleared r) In (usb_clean r k))

pub cleared_holds : (b : Board) (r : File) → Holds b r → Holds b (cleared r)
cleared_holds b r k = record {
  standing = stands b (cleared_rest r) (cleared_clean r k.standing.clean) k.standing;
  side = λ (e : ℕ) (d : Direction). rw (cleared_side r e d) (k.side e d);
}

pub interrupt_low : (k : Record) → Low k.regs.board k.irq → Low k.regs.board (interrupted k).irq
unfolding interrupted endpoints_in endpoints_of
interrupt_low k f = taken_low (length (rows k.regs.board)) (snapshot_of k.regs.words) k.irq (at_least_one k.regs.board) f.0 f.1
