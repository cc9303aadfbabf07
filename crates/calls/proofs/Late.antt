-- Interrupts that are joined: over any operations the record at the end is the same, and every answer on the way. Assumes nothing.
use mathlib.Core.Path.{◌≡◌, refl, sym, ap, ap₂, subst, ◌∙◌}
use mathlib.Core.Logic.{◌⊎◌, inl, inr}
use mathlib.Core.Bool.{Bool, true, false, not, ◌&&◌}
use mathlib.Core.List.{List, [], ◌∷◌, ◌++◌}
use Prim.Native.Nat.{ℕ}
use lib.Dec.{T}
use Rattle.register_file.specs.Registers.{Whole}
use Rattle.record.specs.declared.Record.{Record}
use Rattle.record.specs.Record.{record_sound}
use Rattle.record.proofs.Passing.{record_is_sound, sound_record_passes}
use Rattle.call_rules.specs.Interrupt.{interrupted}
use Rattle.call_rules.proofs.Late.{again, twice, is_refused, is_taken}
use Rattle.calls.specs.Calls.{Op, alloc_ep, bus_init, enable, reset, set_device_address, write, read, set_stalled, is_stalled, poll, on_interrupt, force_reset, arrival, collection, bus_reset, suspend, resume, setup_end, underrun, overrun, Outcome, outcome, step, runs, called, told, allocated, written, fetched}
use Rattle.calls.specs.Kept.{Good, Kind, stalling, polling, interrupting, plain, hosted, kind}
use Rattle.calls.specs.Late.{Answer, answer_of, unless_interrupt, answers, soon_by, soon, Joined, end, kept, out, CostsNothing, is_event, is_poll, all, TwoTurns, without, LastAlone}
use Rattle.calls.proofs.Kept.{good_step, whole_step}
use Rattle.calls.proofs.Aside as aside
use Rattle.calls.proofs.AsideTransfers as aside-transfers
use Rattle.calls.proofs.AsideEvents.{Aside, bus_reset_aside, suspend_aside, resume_aside, setup_end_aside, underrun_aside, overrun_aside, arrival_aside, collection_aside}

-- an operation that is neither a poll nor an interrupt
abbrev pub between : Kind → Type 0
between polling = ⊥
between interrupting = ⊥
between stalling = Unit
between plain = Unit
between hosted = Unit

-- a call: all that it leaves is the same, but that the interrupt is taken in its record
by_call : {k : Record} {o : Op} (x : Outcome) → outcome (interrupted k) o ≡ x → answer_of x ≡ answer_of (outcome k o) → x.«record» ≡ interrupted (step k o) → Aside k o
by_call {k} {o} x e a r = record { answer = ap answer_of e ∙ a; same = ap (λ (y : Outcome). interrupted y.«record») e ∙ ap interrupted r ∙ twice (step k o) }

stands_aside : (k : Record) → record_sound k ≡ true → (o : Op) → between (kind o) → Aside k o
stands_aside k p (alloc_ep q w) c = by_call _ (ap allocated (aside.alloc_ep_lem k p q w)) refl refl
stands_aside k p (bus_init l) c = by_call _ (ap called (aside.bus_init_lem k p l)) refl refl
stands_aside k p (enable l) c = by_call _ (ap called (aside.enable k p l)) refl refl
stands_aside k p (reset l) c = by_call _ (ap called (aside.reset k p l)) refl refl
stands_aside k p (set_device_address a l) c = by_call _ (ap called (aside.set_device_address_lem k p a l)) refl refl
stands_aside k p (write e b f l) c = by_call _ (ap written (aside-transfers.write_aside k p e b f l)) refl refl
stands_aside k p (read e b f l) c = by_call _ (ap fetched (aside-transfers.read_aside k p e b f l)) refl refl
stands_aside k p (set_stalled e d s l) c = by_call _ (ap called (aside.set_stalled_lem k p e d s l)) refl refl
stands_aside k p (is_stalled e d l) c = by_call _ (ap told (aside.is_stalled_lem k p e d l)) refl refl
stands_aside k p (poll l) c = absurd c
stands_aside k p on_interrupt c = absurd c
stands_aside k p force_reset c = by_call (outcome (interrupted k) force_reset) refl refl refl
stands_aside k p (arrival e b f) c = arrival_aside k p e b f
stands_aside k p (collection e f) c = collection_aside k p e f
stands_aside k p bus_reset c = bus_reset_aside k p
stands_aside k p suspend c = suspend_aside k p
stands_aside k p resume c = resume_aside k p
stands_aside k p setup_end c = setup_end_aside k p
stands_aside k p (underrun e) c = underrun_aside k p e
stands_aside k p (overrun e) c = overrun_aside k p e

-- the record after an interrupt, taken or refused
abbrev pub after_interrupt : Record → Record
after_interrupt k = step k on_interrupt

-- so of any record: an interrupt before an operation changes neither its answer, nor what the next interrupt leaves
record Late (k : Record) (o : Op) : Type 0 where
  answer : answer_of (outcome (after_interrupt k) o) ≡ answer_of (outcome k o)
  same : after_interrupt (step (after_interrupt k) o) ≡ after_interrupt (step k o)

late : (k : Record) (o : Op) → Whole k.regs.words → between (kind o) → Late k o
late k o six c = go (record_sound k) refl
  where
    passed : (j : Record) → Good j → after_interrupt (step j o) ≡ interrupted (step j o)
    passed j g = is_taken (step j o) (sound_record_passes (step j o) (good_step j o g).sound)

    go : (b : Bool) → record_sound k ≡ b → Late k o
    go false p = record {
      answer = ap (λ (j : Record). answer_of (outcome j o)) (is_refused k p);
      same = ap (λ (j : Record). after_interrupt (step j o)) (is_refused k p);
    }
    go true p =
        let t = is_taken k p in
        let a = stands_aside k p o c in
        let good : Good k = record { sound = record_is_sound k p; six = six } in
        let good' : Good (interrupted k) = subst Good t (good_step k on_interrupt good) in
        record {
          answer = ap (λ (j : Record). answer_of (outcome j o)) t ∙ a.answer;
          same = ap (λ (j : Record). after_interrupt (step j o)) t ∙ passed (interrupted k) good' ∙ a.same ∙ sym (passed k good);
        }

-- what an operation is
pub data View (o : Op) : Type 0 where
  is_interrupt_lem : o ≡ on_interrupt → View o
  is_poll_lem : kind o ≡ polling → View o
  other : between (kind o) → View o

pub view : (o : Op) → View o
view (alloc_ep q w) = other tt
view (bus_init l) = other tt
view (enable l) = other tt
view (reset l) = other tt
view (set_device_address a l) = other tt
view (write e b f l) = other tt
view (read e b f l) = other tt
view (set_stalled e d s l) = other tt
view (is_stalled e d l) = other tt
view (poll l) = is_poll_lem refl
view on_interrupt = is_interrupt_lem refl
view force_reset = other tt
view (arrival e b f) = other tt
view (collection e f) = other tt
view bus_reset = other tt
view suspend = other tt
view resume = other tt
view setup_end = other tt
view (underrun e) = other tt
view (overrun e) = other tt

-- The words of specs/Late.antt, beside their clauses. An outcome is its answer and its record:
pub all_of : (p q : Outcome) → answer_of p ≡ answer_of q → p.«record» ≡ q.«record» → p ≡ q
all_of p q a r = λ i. record { reply = (a i).reply; values = (a i).values; «record» = r i; stores = (a i).stores; fifo = (a i).fifo; list = (a i).list; buf = (a i).buf }

-- what goes on with every operation but an interrupt,
pub each : {A : Type 0} (o : Op) (x : A) (l : List A) → (o ≡ on_interrupt → ⊥) → unless_interrupt (kind o) x l ≡ x ∷ l
each {A} o x l n = go (view o)
  where
    between_each : (q : Kind) → between q → unless_interrupt q x l ≡ x ∷ l
    between_each polling c = absurd c
    between_each interrupting c = absurd c
    between_each stalling c = refl
    between_each plain c = refl
    between_each hosted c = refl

    go : View o → unless_interrupt (kind o) x l ≡ x ∷ l
    go (is_interrupt_lem p) = absurd (n p)
    go (is_poll_lem p) = ap (λ (q : Kind). unless_interrupt q x l) p
    go (other c) = between_each (kind o) c

-- the host's events, and the one call that can't be passed
pub every_event : (e : ℕ) (b f : List ℕ)
    → T (all is_event (arrival e b f ∷ collection e f ∷ bus_reset ∷ suspend ∷ resume ∷ setup_end ∷ underrun e ∷ overrun e ∷ []))
every_event e b f = tt

pub only_poll : (o : Op) → T (is_poll (kind o)) → (l : List ℕ) × (o ≡ poll l)
only_poll (alloc_ep q w) t = absurd t
only_poll (bus_init l) t = absurd t
only_poll (enable l) t = absurd t
only_poll (reset l) t = absurd t
only_poll (set_device_address a l) t = absurd t
only_poll (write e b f l) t = absurd t
only_poll (read e b f l) t = absurd t
only_poll (set_stalled e d s l) t = absurd t
only_poll (is_stalled e d l) t = absurd t
only_poll (poll l) t = (l, refl)
only_poll on_interrupt t = absurd t
only_poll force_reset t = absurd t
only_poll (arrival e b f) t = absurd t
only_poll (collection e f) t = absurd t
only_poll bus_reset t = absurd t
only_poll suspend t = absurd t
only_poll resume t = absurd t
only_poll setup_end t = absurd t
only_poll (underrun e) t = absurd t
only_poll (overrun e) t = absurd t

-- what is between says nothing of what comes
soon_on : (q : Kind) (x : Bool) → between q → soon_by q x ≡ x
soon_on polling x c = absurd c
soon_on interrupting x c = absurd c
soon_on stalling x c = refl
soon_on plain x c = refl
soon_on hosted x c = refl

-- Two records on the way: the same, or made the same by an interrupt that comes before any poll.
abbrev pub Near : List Op → Record → Record → Type 0
Near h k m = (k ≡ m) ⊎ (T (soon h) × (after_interrupt k ≡ after_interrupt m))

module _ (o : Op) (h : List Op) (k m : Record) (six : Whole k.regs.words) (six' : Whole m.regs.words) where
  pub near_step : Near (o ∷ h) k m → Near h (step k o) (step m o)
  near_step (inl e) = inl (ap (λ (j : Record). step j o) e)
  near_step (inr (s, e)) = go (view o)
    where
      go : View o → Near h (step k o) (step m o)
      go (is_interrupt_lem p) = inl (rw p e)
      go (is_poll_lem p) = absurd (subst (λ (q : Kind). T (soon_by q (soon h))) p s)
      go (other c) =
          inr (
            subst T (soon_on (kind o) (soon h) c) s,
            sym (late k o six c).same ∙ ap (λ (j : Record). after_interrupt (step j o)) e ∙ (late m o six' c).same,
          )

  answer_step : Near (o ∷ h) k m → {x y : List Answer} → x ≡ y → unless_interrupt (kind o) (answer_of (outcome k o)) x ≡ unless_interrupt (kind o) (answer_of (outcome m o)) y
  answer_step (inl e) r = ap₂ (λ (j : Record) (l : List Answer). unless_interrupt (kind o) (answer_of (outcome j o)) l) e r
  answer_step (inr (s, e)) {x} {y} r = go (view o)
    where
      go : View o → unless_interrupt (kind o) (answer_of (outcome k o)) x ≡ unless_interrupt (kind o) (answer_of (outcome m o)) y
      go (is_interrupt_lem p) = rw p r
      go (is_poll_lem p) = absurd (subst (λ (q : Kind). T (soon_by q (soon h))) p s)
      go (other c) =
          ap₂ (unless_interrupt (kind o)) (sym (late k o six c).answer ∙ ap (λ (j : Record). answer_of (outcome j o)) e ∙ (late m o six' c).answer) r

pub meets : (h : List Op) (k m : Record) → Near h k m → after_interrupt k ≡ after_interrupt m
meets h k m (inl e) = ap after_interrupt e
meets h k m (inr (s, e)) = e

alike : {h g : List Op} → Joined h g → (k m : Record) → Whole k.regs.words → Whole m.regs.words → Near h k m → (runs k h ≡ runs m g) × (answers k h ≡ answers m g)
alike end k m six six' (inl e) = (e, refl)
alike end k m six six' (inr (s, e)) = absurd s
alike (kept {h} o j) k m six six' n =
    let r = alike j (step k o) (step m o) (whole_step k o six) (whole_step m o six') (near_step o h k m six six' n) in
    (r.0, answer_step o h k m six six' n r.1)
alike (out {h} s j) k m six six' n = alike j (after_interrupt k) m (whole_step k on_interrupt six) six' (inr (s, again k ∙ meets (on_interrupt ∷ h) k m n))

pub costs_nothing : CostsNothing
costs_nothing k six h g j = let r = alike j k k six six (inl refl) in record { «record» = r.0; answered = r.1 }

-- the display team's two turns, and any number of them
all_kept : (h : List Op) → Joined h h
all_kept [] = end
all_kept (o ∷ h) = kept o (all_kept h)

under : (a : List Op) {h g : List Op} → Joined h g → Joined (a ++ h) (a ++ g)
under [] j = j
under (o ∷ a) j = kept o (under a j)

no_poll : (q : Kind) (x y : Bool) → T (not (is_poll q) && x) → (T x → T y) → T (soon_by q y)
no_poll polling x y t f = absurd t
no_poll interrupting x y t f = tt
no_poll stalling x y t f = f t
no_poll plain x y t f = f t
no_poll hosted x y t f = f t

soon_end : (b : List Op) → T (all (λ q. not (is_poll q)) b) → T (soon (b ++ on_interrupt ∷ []))
soon_end [] t = tt
soon_end (o ∷ b) t = no_poll (kind o) (all (λ q. not (is_poll q)) b) (soon (b ++ on_interrupt ∷ [])) t (soon_end b)

event_no_poll : (q : Kind) (x y : Bool) → T (is_event q && x) → (T x → T y) → T (not (is_poll q) && y)
event_no_poll polling x y t f = absurd t
event_no_poll interrupting x y t f = absurd t
event_no_poll stalling x y t f = absurd t
event_no_poll plain x y t f = absurd t
event_no_poll hosted x y t f = f t

events_no_poll : (b : List Op) → T (all is_event b) → T (all (λ q. not (is_poll q)) b)
events_no_poll [] t = tt
events_no_poll (o ∷ b) t = event_no_poll (kind o) (all is_event b) (all (λ q. not (is_poll q)) b) t (events_no_poll b)

pub two_turns : TwoTurns
two_turns k six a b ta tb =
    (costs_nothing k six _ _ (under a (out (soon_end b (events_no_poll b tb)) (all_kept (b ++ on_interrupt ∷ []))))).«record»

-- the interrupts left out, but for the last
left_out : (h : List Op) → T (all (λ q. not (is_poll q)) h) → Joined (h ++ on_interrupt ∷ []) (without h ++ on_interrupt ∷ [])
left_out [] t = all_kept (on_interrupt ∷ [])
left_out (o ∷ h) t = go (view o) (left_out h (rest (kind o) _ t)) (rest (kind o) _ t)
  where
    rest : (q : Kind) (x : Bool) → T (not (is_poll q) && x) → T x
    rest polling x t = absurd t
    rest interrupting x t = t
    rest stalling x t = t
    rest plain x t = t
    rest hosted x t = t

    go : View o → Joined (h ++ on_interrupt ∷ []) (without h ++ on_interrupt ∷ []) → T (all (λ q. not (is_poll q)) h) → Joined (o ∷ h ++ on_interrupt ∷ []) (without (o ∷ h) ++ on_interrupt ∷ [])
    go (is_interrupt_lem p) j u = rw p (out (soon_end h u) j)
    go (is_poll_lem p) j u = absurd (subst (λ (q : Kind). T (not (is_poll q) && all (λ q. not (is_poll q)) h)) p t)
    go (other c) j u = subst (λ (g : List Op). Joined (o ∷ h ++ on_interrupt ∷ []) (g ++ on_interrupt ∷ [])) (sym (each o o (without h) (λ p. subst (λ (x : Op). between (kind x)) p c))) (kept o j)

pub last_alone : LastAlone
last_alone k six h t = (costs_nothing k six _ _ (left_out h t)).«record»
