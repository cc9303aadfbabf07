-- The length of a packet that waits to be read: no call of the driver changes it but by dropping the packet, and no event of the host but an
-- arrival. Assumes nothing.
use Prim.Native.Nat.{ℕ, ◌<◌}
use mathlib.Core.List.{List}
use mathlib.Core.Path.{◌≡◌, refl, sym, ap, ◌∙◌}
use mathlib.Core.Bool.{Bool, true, false, cond}
use Rattle.laws.proofs.Tests.{clash}
use lib.Dec.{eqb}
use Rattle.board.specs.declared.Board.{Board}
use Rattle.board.specs.declared.Direction.{Direction}
use Rattle.board.specs.declared.Direction.TheVariants.{Out, In}
use Rattle.csr.specs.declared.Side.{Side}
use Rattle.csr.specs.declared.Rxcsrl.{Rxcsrl}
use Rattle.csr.specs.Registers.{with_iso, with_maxp, towards}
use Rattle.csr.specs.Control.{rx_stored, dropped}
use Rattle.csr.proofs.AsWritten.{rx_cleared, rx_kept, rx_flushed, drops}
use Rattle.csr.proofs.Stored.{not_dropped}
use Rattle.register_file.specs.Registers as file
use Rattle.register_file.specs.Registers.{File, Whole, side_at}
use Rattle.store_rules.specs.Stores.{Log}
use Rattle.store_rules.specs.Promise.{Store, faddr, power, index, csr0l, csr0h, txcsrl, rxcsrl, iso, maxp, intrusbe, intre, packet, does, leaves}
use Rattle.store_rules.proofs.Promises.{sides, rest}
use Rattle.event_rules.specs.Promise as events
use Rattle.event_rules.specs.Promise.{Event}
use Rattle.event_rules.proofs.Promises as promised
use Rattle.record.specs.declared.Record.{Record}
use Rattle.call_rules.specs.Interrupt.{interrupted, interrupt_call}
use Rattle.calls.specs.Calls.{Op, step}
use Rattle.calls.specs.Kept.{Good, Stores, Lasting}
use Rattle.calls.proofs.Steps.{one, sent, Reached, none, then, within, Sane, Holds, within_six, holds}
use Rattle.calls.proofs.Accounts.{Account, sane}
use Rattle.calls.proofs.Happening.{Happens, refused, happened, cleared_side}
use Rattle.calls.proofs.Kept.{to_holds, Interrupts, refused as not_taken, taken, on_interrupt_lem, Accounted, gentle, stalling, event, interrupt, account}

same : {s : Side} → Lasting s s
same = record { was = λ p. p; len = λ p. refl }

follows : {s t u : Side} → Lasting s t → Lasting t u → Lasting s u
follows f g = record { was = λ p. f.was (g.was p); len = λ p. g.len p ∙ f.len (g.was p) }

-- the ready bit and the length stay, or the ready bit goes
alike : {s t : Side} → t.ready ≡ s.ready → t.len ≡ s.len → Lasting s t
alike p q = record { was = λ e. sym p ∙ e; len = λ e. q }

gone : {s t : Side} → t.ready ≡ false → Lasting s t
gone p = record { was = λ e. clash (sym e ∙ p); len = λ e. clash (sym e ∙ p) }

either : {s t : Side} (b : Bool) → Lasting s t → Lasting s (cond b t s)
either true l = l
either false l = same

spared : {s t : Side} (b : Bool) → Lasting s t → Lasting s (cond b s t)
spared true l = same
spared false l = l

one_way : {s : Side} (c : Direction) (f : Side → Side) → Lasting s (f s) → Lasting s (towards c Out f s)
one_way Out f l = l
one_way In f l = same

-- a store to RXCSRL, whatever is written, and one that may answer endpoint 0's packet
rx_lasting : (w : Rxcsrl) (s : Side) → Lasting s (rx_stored w s)
rx_lasting w s = go w.flush_fifo w.rx_pkt_rdy refl refl
  where
    go : (f r : Bool) → w.flush_fifo ≡ f → w.rx_pkt_rdy ≡ r → Lasting s (rx_stored w s)
    go true r p q = gone (rx_flushed w s p).0
    go false false p q = gone (rx_cleared w s q).0
    go false true p q = let k = rx_kept w s p q in alike k.0 k.1

dropped_lasting : (b : Bool) (s : Side) → Lasting s (dropped b s)
dropped_lasting true s = gone (drops s).0
dropped_lasting false s = alike (ap (λ (x : Side). x.ready) (not_dropped s)) (ap (λ (x : Side). x.len) (not_dropped s))

-- any store, at any receive side
leaves_lasting : (o : Store) (i e : ℕ) (s : Side) → Lasting s (leaves o i e Out s)
leaves_lasting (faddr a) i e s = same
leaves_lasting power i e s = same
leaves_lasting (index f) i e s = same
leaves_lasting (csr0l w) i e s = either (eqb e 0) (dropped_lasting w.serviced_rx_pkt_rdy s)
leaves_lasting csr0h i e s = either (eqb e 0) (dropped_lasting true s)
leaves_lasting (txcsrl w) i e s = spared (eqb i 0) (either (eqb e i) same)
leaves_lasting (rxcsrl w) i e s = spared (eqb i 0) (either (eqb e i) (rx_lasting w s))
leaves_lasting (iso c) i e s = spared (eqb i 0) (either (eqb e i) (one_way c with_iso (alike refl refl)))
leaves_lasting (maxp c n) i e s = spared (eqb i 0) (either (eqb e i) (one_way c (with_maxp n) (alike refl refl)))
leaves_lasting intrusbe i e s = same
leaves_lasting (intre c v) i e s = same
leaves_lasting (packet n) i e s = spared (eqb n 0) (either (eqb e i) same)

does_lasting : (o : Store) (g : Log) (e : ℕ) → Whole g.regs → file.index g.regs < 6 → Lasting (side_at g.regs e Out) (side_at (does o g).regs e Out)
does_lasting o g e six low = rw (sides o g e Out six low) (leaves_lasting o (file.index g.regs) e (side_at g.regs e Out))

-- the stores of a call
path_lasting : {b : Board} {g : Log} {x : Bool} {h : Log} {c : ℕ} → Reached (Sane b) g x c h → Holds b g.regs → (e : ℕ) → Lasting (side_at g.regs e Out) (side_at h.regs e Out)
path_lasting none k e = same
path_lasting (within r d i) k e = path_lasting r k e
path_lasting (then {h} r (one o) m) k e =
    let t = (holds r k).standing in
    follows (path_lasting r k e) (does_lasting o h e t.six (within_six t))
path_lasting (then {h} r (sent n o) m) k e =
    let t = (holds r k).standing in
    let u = rest (packet n) h t.six in
    follows (path_lasting r k e)
    (follows (does_lasting (packet n) h e t.six (within_six t)) (does_lasting o (does (packet n) h) e (u.whole ∙ t.six) (rw u.selected (within_six t))))

-- every event of the host but an arrival
abbrev pub BringsNone : Event → Type 0
BringsNone (events.arrival f n) = ⊥
BringsNone (events.collection f) = Unit
BringsNone (events.on_bus o) = Unit
BringsNone events.setupend = Unit
BringsNone (events.miss f c) = Unit

-- a change that leaves the length, made or not
made : (b : Bool) (s t : Side) → t.len ≡ s.len → (cond b t s).len ≡ s.len
made true s t p = p
made false s t p = refl

leaves_length : (o : Event) (e : ℕ) (s : Side) → BringsNone o → (events.leaves o e Out s).len ≡ s.len
leaves_length (events.arrival f n) e s c = absurd c
leaves_length (events.collection f) e s c = made (eqb e f) s s refl
leaves_length (events.on_bus o) e s c = refl
leaves_length events.setupend e s c = refl
leaves_length (events.miss f Out) e s c = made (eqb e f) s _ refl
leaves_length (events.miss f In) e s c = made (eqb e f) s s refl

module _ (k : Record) where
  stores_lasting : {x : Bool} {q : Record} {l m : List ℕ} {n : ℕ} → Account (Sane k.regs.board) x k l q m n → Good k → (e : ℕ) → Lasting (side_at k.regs.words e Out) (side_at q.regs.words e Out)
  stores_lasting a g e = path_lasting a.path (to_holds k g.sound g.six) e

  call_of : {o : Op} → Accounted k o → Good k → Stores o → (e : ℕ) → Lasting (side_at k.regs.words e Out) (side_at (step k o).regs.words e Out)
  call_of (gentle a) g c e = stores_lasting (sane a) g e
  call_of (stalling w a) g c e = stores_lasting a g e
  call_of (event n h) g c e = absurd (n c)
  call_of (interrupt n i) g c e = absurd (n c)

  -- every call of the driver but `on_interrupt`
  pub call_lasting : (o : Op) → Good k → Stores o → (e : ℕ) → Lasting (side_at k.regs.words e Out) (side_at (step k o).regs.words e Out)
  call_lasting o g c e = call_of (account k o g.six) g c e

  -- which leaves every side
  interrupt_of : {q : Record} → Interrupts k q → (e : ℕ) → (side_at q.regs.words e Out).len ≡ (side_at k.regs.words e Out).len
  unfolding interrupted
  interrupt_of (not_taken p) e = ap (λ (x : Record). (side_at x.regs.words e Out).len) p
  interrupt_of (taken s p) e =
      ap (λ (x : Record). (side_at x.regs.words e Out).len) p ∙ ap (λ (s : Side). s.len) (cleared_side k.regs.words e Out)

  pub interrupt_keeps : (e : ℕ) → (side_at (interrupt_call k).«record».regs.words e Out).len ≡ (side_at k.regs.words e Out).len
  interrupt_keeps e = interrupt_of (on_interrupt_lem k) e

  -- an event of the host that brings no packet
  pub event_keeps : {o : Event} {q : Record} → Whole k.regs.words → Happens o k q → BringsNone o → (e : ℕ)
      → (side_at q.regs.words e Out).len ≡ (side_at k.regs.words e Out).len
  event_keeps six (refused p) c e = ap (λ (x : Record). (side_at x.regs.words e Out).len) p
  event_keeps {o} six (happened i f b p s) c e =
      ap (λ (r : File). (side_at r e Out).len) p
      ∙ ap (λ (x : Side). x.len) (promised.sides o k.regs.words e Out six i)
      ∙ leaves_length o e (side_at k.regs.words e Out) c
