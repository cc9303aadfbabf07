-- What an operation has done to the registers is what it lists. Assumes nothing.
use Rattle.std.specs.Prelude.{Err, Ok}
use Rattle.board.specs.declared.Span.{Span}
use Rattle.record.specs.declared.Answered.{Answered}
use Prim.Native.Nat.{ℕ, ◌+◌, ◌*◌, ◌≤◌}
use mathlib.Core.Path.{◌≡◌, refl, sym, ap, subst, ◌∙◌}
use mathlib.Core.Bool.{Bool, true, false, not, cond}
use mathlib.Core.List.{List}
use mathlib.Core.Logic.{◌⊎◌, inl, inr}
use native.Mathlib.Omega.{arith}
use native.Mathlib.Nat.{le_trans}
use borrow.Author.Tests.{eqb-true, ne_eqb}
use lib.Dec.{eqb}
use lib.ListN.{length, get_or}
use Rattle.board.specs.declared.Direction.TheVariants.{Out, In}
use Rattle.register_file.specs.Registers as file
use Rattle.register_file.specs.Registers.{File, Whole}
use Rattle.store_list.specs.Stores.{listed}
use Rattle.store_list.proofs.Promises.{listed_other}
use Rattle.store_rules.specs.Stores.{Log, log}
use Rattle.store_rules.specs.Promise.{Store, faddr, power, index, csr0l, csr0h, txcsrl, rxcsrl, iso, maxp, intrusbe, intre, packet, does, is_listed, register, value}
use Rattle.store_rules.proofs.Promises.{rest, packet_none}
use Rattle.store_rules.proofs.Others as noted
use Rattle.event_rules.specs.declared.BusEvent.TheVariants as bus
use Rattle.event_rules.specs.Promise as events
use Rattle.event_rules.specs.Promise.{Event, happens}
use Rattle.record.specs.declared.Record.{Record}
use Rattle.record.specs.declared.Refusal.{Refusal}
use Rattle.record.specs.Record.{record_sound, admission_by, refusal_number, reply_number, Reply}
use Rattle.record.proofs.Numbers.{not_zero}
use Rattle.call_rules.specs.Interrupt.{cleared, interrupted, interrupt_by, interrupt_call}
use Rattle.host_rules.specs.Host as host
use Rattle.calls.specs.Calls.{Op, alloc_ep, bus_init, enable, reset, set_device_address, write, read, set_stalled, is_stalled, poll, on_interrupt, force_reset, arrival, collection, bus_reset, suspend, resume, setup_end, underrun, overrun, outcome, step}
use Rattle.calls.specs.Demand.{lent}
use Rattle.calls.specs.Kept.{Stores}
use Rattle.calls.specs.Listed.{Leads, start, more, unlisted, Unlisted, Listed}
use Rattle.calls.proofs.Steps.{Step, one, sent, Reached, none, then, within, keeps}
use Rattle.calls.proofs.Accounts.{Account, Passes}
use Rattle.calls.proofs.Kept.{Accounted, gentle, stalling, event, interrupt, account}
use Rattle.event_rules.specs.Events as wire

module _ (r : File) (l : List ℕ) where
  abbrev To : Log → Type 0
  To h = Leads r l h.regs h.list h.count

  entered : (o : Store) (h : Log) → Whole h.regs → is_listed o ≡ true → To h → To (does o h)
  entered o h six p t =
      let n = noted.others o h six in
      let entry = listed h.list h.count (register o) (file.index (does o h).regs) (value o) in
      subst (λ (m : List ℕ). Leads r l (does o h).regs m (does o h).count) (sym (n.list ∙ ap (λ (b : Bool). cond b entry h.list) p))
      (subst (λ (c : ℕ). Leads r l (does o h).regs entry c) (sym (n.count ∙ ap (λ (b : Bool). cond b (h.count + 1) h.count) p)) (more t o p))

  -- "none if empty"
  packed : (n : ℕ) (h : Log) → Whole h.regs → To h → To (does (packet n) h)
  packed n h six t = go (eqb n 0) refl
    where
      go : (b : Bool) → eqb n 0 ≡ b → To (does (packet n) h)
      go true e = subst To (packet_none n h (eqb-true n 0 e)) t
      go false e = entered (packet n) h six (ap not e) t

  store : (o : Store) (h : Log) → Whole h.regs → To h → To (does o h)
  store (packet n) h six t = packed n h six t
  store (faddr a) h six t = entered (faddr a) h six refl t
  store power h six t = entered power h six refl t
  store (index e) h six t = entered (index e) h six refl t
  store (csr0l w) h six t = entered (csr0l w) h six refl t
  store csr0h h six t = entered csr0h h six refl t
  store (txcsrl w) h six t = entered (txcsrl w) h six refl t
  store (rxcsrl w) h six t = entered (rxcsrl w) h six refl t
  store (iso d) h six t = entered (iso d) h six refl t
  store (maxp d n) h six t = entered (maxp d n) h six refl t
  store intrusbe h six t = entered intrusbe h six refl t
  store (intre d v) h six t = entered (intre d v) h six refl t

  leads : {May : Step → Log → Type 0} {x : Bool} {h : Log} {c : ℕ} → Whole r → Reached May (log r l 0) x c h → To h
  leads six none = start
  leads six (then {h} p (one o) m) = store o h (keeps six p).six (leads six p)
  leads six (then {h} p (sent n o) m) =
      let s = (keeps six p).six in
      store o (does (packet n) h) ((rest (packet n) h s).whole ∙ s) (store (packet n) h s (leads six p))
  leads six (within p c i) = leads six p

  stays : {q : File} {m : List ℕ} {n : ℕ} → Leads r l q m n → (i z : ℕ) → n * 3 ≤ i → get_or m i z ≡ get_or l i z
  stays start i z h = refl
  stays (more {q} {m} {n} t o p) i z h =
      listed_other m n (register o) (file.index (does o (log q m n)).regs) (value o) i z (inr (omega arith)) ∙ stays t i z (omega arith)

-- how many stores a path counts
pub counted : (o : Store) (h : Log) {c : ℕ} → Whole h.regs → h.count ≤ c → (does o h).count ≤ c + 1
counted o h {c} six i = rw (noted.others o h six).count (go (is_listed o))
  where
    go : (b : Bool) → cond b (h.count + 1) h.count ≤ c + 1
    go true = omega arith
    go false = omega arith

pub few : {May : Step → Log → Type 0} {g : Log} {x : Bool} {h : Log} {c : ℕ} → Whole g.regs → g.count ≡ 0 → Reached May g x c h → h.count ≤ c
few six z none = omega (arith, z)
few six z (then {h} p (one o) m) = counted o h (keeps six p).six (few six z p)
few six z (then {h} {c} p (sent n o) m) =
    let s = (keeps six p).six in
    le_trans (counted o (does (packet n) h) ((rest (packet n) h s).whole ∙ s) (counted (packet n) h s (few six z p))) (two c)
  where
    two : (c : ℕ) → c + 1 + 1 ≤ c + 2
    two c = omega arith
few six z (within p c i) = le_trans (few six z p) i

-- the interrupt and the host's events: refused, or done
module _ (k : Record) where
  abbrev r : File
  r = k.regs.words

  -- q is left by an operation that would leave x
  abbrev Left : ℕ → File → File → Type 0
  Left reply q x = q ≡ cond (eqb reply 0) x r

  abbrev Happened : Answered (Reply Unit) → File → Type 0
  Happened a x = Left (reply_number a.answer) a.«record».regs.words x

  abbrev Fetched : Answered (Reply Span) → File → Type 0
  Fetched a x = Left (host.collect_number a.answer) a.«record».regs.words x

  not_done : (y : Refusal) (x : File) → Left (refusal_number y) r x
  not_done y x = rw (ne_eqb (refusal_number y) 0 (not_zero y))

  happens_left : (v : Event) (t : Reply Unit) → Happened (host.unless t k (happens v r)) (happens v r)
  happens_left v (Err y) = not_done y (happens v r)
  happens_left v (Ok tt) = refl

  arrival_left : (v : Event) (f x : List ℕ) (t : Reply Unit)
      → Happened (host.unless_arrived t k f (record { event = host.done k (happens v r); fifo = x })).event (happens v r)
  arrival_left v f x (Err y) = not_done y (happens v r)
  arrival_left v f x (Ok tt) = refl

  collection_left : (e : ℕ) (t : Reply Unit) → Fetched (host.unless_collected t k (host.collected_from k e)) (happens (events.collection e) r)
  unfolding host.collected_from
  collection_left e (Err y) = not_done y (happens (events.collection e) r)
  collection_left e (Ok tt) = refl

  interrupt_left : (b : Bool) → Happened (interrupt_by b k) (unlisted on_interrupt r)
  unfolding interrupted cleared
  interrupt_left true = refl
  interrupt_left false = refl

  abbrev plain : Reply Unit
  plain = admission_by false (record_sound k) false

  pub others : (o : Op) → (Stores o → ⊥) → Unlisted k o
  unfolding interrupt_call host.arrival_call host.collection_call host.bus_reset_call host.suspend_call host.resume_call host.setup_end_call host.underrun_call host.overrun_call host.miss_call wire.bus_reset wire.bus_suspend wire.bus_resume
  others on_interrupt n = record { regs = interrupt_left (record_sound k); list = refl; count = refl }
  others (arrival e b f) n = record { regs = arrival_left (events.arrival e (length b)) f _ (host.arrival_refusal k e (length b) (length f)); list = refl; count = refl }
  others (collection e f) n = record { regs = collection_left e (host.collection_refusal k e (length f)); list = refl; count = refl }
  others bus_reset n = record { regs = happens_left (events.on_bus bus.Reset) plain; list = refl; count = refl }
  others suspend n = record { regs = happens_left (events.on_bus bus.Suspend) plain; list = refl; count = refl }
  others resume n = record { regs = happens_left (events.on_bus bus.Resume) plain; list = refl; count = refl }
  others setup_end n = record { regs = happens_left events.setupend plain; list = refl; count = refl }
  others (underrun e) n = record { regs = happens_left (events.miss e In) (host.miss_refusal k e); list = refl; count = refl }
  others (overrun e) n = record { regs = happens_left (events.miss e Out) (host.miss_refusal k e); list = refl; count = refl }
  others (alloc_ep q w) n = absurd (n tt)
  others (bus_init l) n = absurd (n tt)
  others (enable l) n = absurd (n tt)
  others (reset l) n = absurd (n tt)
  others (set_device_address a l) n = absurd (n tt)
  others (write e b f l) n = absurd (n tt)
  others (read e b f l) n = absurd (n tt)
  others (set_stalled e d s l) n = absurd (n tt)
  others (is_stalled e d l) n = absurd (n tt)
  others (poll l) n = absurd (n tt)
  others force_reset n = absurd (n tt)

  -- a call that stores was lent room for 128
  has_room : (q : File) (l : List ℕ) (n : ℕ) → n ≤ 128 → ((q ≡ r) × (n ≡ 0)) ⊎ Passes k l → n * 3 ≤ length l
  has_room q l n i (inl p) = omega (arith, p.1)
  has_room q l n i (inr p) = omega (arith, p.1)

  called : {May : Step → Log → Type 0} {x : Bool} (o : Op) → Whole r → Account May x k (lent o).list (step k o) (outcome k o).list (outcome k o).stores → Listed k o
  called o six a =
      let t = leads r (lent o).list six a.path in
      record {
        stores = λ c. t;
        others = others o;
        room = has_room (step k o).regs.words (lent o).list (outcome k o).stores (few six refl a.path) a.served;
        past = stays r (lent o).list t;
      }

  silent : (o : Op) → (Stores o → ⊥) → Listed k o
  silent o n =
      let t = others o n in
      record {
        stores = λ c. absurd (n c);
        others = others o;
        room = omega (arith, t.count);
        past = λ i z c. ap (λ (m : List ℕ). get_or m i z) t.list;
      }

  -- every operation, by its account
  listed_by : (o : Op) → Whole r → Accounted k o → Listed k o
  listed_by o six (gentle a) = called o six a
  listed_by o six (stalling w a) = called o six a
  listed_by o six (event n h) = silent o n
  listed_by o six (interrupt n h) = silent o n

pub what_it_lists : (k : Record) (o : Op) → Whole k.regs.words → Listed k o
what_it_lists k o six = listed_by k o six (account k o six)
