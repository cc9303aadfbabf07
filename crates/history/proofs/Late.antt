-- Joined interrupts over a history: every round is the same, on the way and after. Assumes nothing.
use Rattle.std.specs.Prelude.{Err, Ok}
use mathlib.Core.Path.{◌≡◌, refl, sym, ap, ap₂, subst, ◌∙◌}
use mathlib.Core.Logic.{inl, inr}
use mathlib.Core.Bool.{Bool, false, cond}
use mathlib.Core.List.{List, ◌∷◌}
use Prim.Native.Nat.{ℕ}
use lib.Dec.{T}
use Rattle.board.specs.declared.Board.{Board}
use Rattle.register_file.specs.Registers.{Whole}
use Rattle.record.specs.declared.Record.{Record}
use Rattle.record.specs.Record.{fresh_record, Reply}
use Rattle.call_rules.specs.Interrupt.{interrupt_call}
use Rattle.call_rules.proofs.Late.{again}
use Rattle.round_rules.specs.Poll.{poll_call}
use Rattle.host_rules.specs.Host.{arrival_call}
use Rattle.calls.specs.Calls.{Op, alloc_ep, bus_init, enable, reset, set_device_address, write, read, set_stalled, is_stalled, poll, on_interrupt, force_reset, arrival, collection, bus_reset, suspend, resume, setup_end, underrun, overrun, step, runs}
use Rattle.calls.specs.Kept.{Kind, kind}
use Rattle.calls.specs.Late.{soon_by, soon, Joined, end, kept, out}
use Rattle.calls.proofs.Kept.{good_fresh, whole_step}
use Rattle.calls.proofs.Late.{between, after_interrupt, View, is_interrupt_lem, is_poll_lem, other, view, Near, near_step, meets, costs_nothing}
use Rattle.rounds.specs.Machine.{Event, is_round, run}
use Rattle.history.specs.Driver.{event, interrupt_event, arrival_event, driver}
use Rattle.history.specs.Late.{rounds_from, LateCostsNothing}

-- only a poll is a round
interrupt_none : (a : Reply Unit) (k : Record) → is_round (interrupt_event a k) ≡ false
interrupt_none (Ok tt) k = refl
interrupt_none (Err x) k = refl

arrival_none : (a : Reply Unit) (e : ℕ) → is_round (arrival_event a e) ≡ false
arrival_none (Ok tt) e = refl
arrival_none (Err x) e = refl

other_none : (k : Record) (o : Op) → between (kind o) → is_round (event k o) ≡ false
other_none k (alloc_ep q w) c = refl
other_none k (bus_init l) c = refl
other_none k (enable l) c = refl
other_none k (reset l) c = refl
other_none k (set_device_address a l) c = refl
other_none k (write e b f l) c = refl
other_none k (read e b f l) c = refl
other_none k (set_stalled e d s l) c = refl
other_none k (is_stalled e d l) c = refl
other_none k (poll l) c = absurd c
other_none k on_interrupt c = absurd c
other_none k force_reset c = refl
other_none k (arrival e b f) c = arrival_none (arrival_call k e b f).event.answer e
other_none k (collection e f) c = refl
other_none k bus_reset c = refl
other_none k suspend c = refl
other_none k resume c = refl
other_none k setup_end c = refl
other_none k (underrun e) c = refl
other_none k (overrun e) c = refl

-- one operation of both histories
abbrev told : Event → List Event → List Event
told v l = cond (is_round v) (v ∷ l) l

unheard : (v : Event) → is_round v ≡ false → (l : List Event) → told v l ≡ l
unheard v p l = ap (λ (b : Bool). cond b (v ∷ l) l) p

told_step : (o : Op) (h : List Op) (k m : Record) → Near (o ∷ h) k m → {x y : List Event} → x ≡ y → told (event k o) x ≡ told (event m o) y
told_step o h k m (inl e) r = ap₂ (λ (j : Record) (l : List Event). told (event j o) l) e r
told_step o h k m (inr (s, e)) {x} {y} r = go (view o)
  where
    none : (v w : Event) → is_round v ≡ false → is_round w ≡ false → told v x ≡ told w y
    none v w p q = unheard v p x ∙ r ∙ sym (unheard w q y)

    go : View o → told (event k o) x ≡ told (event m o) y
    go (is_interrupt_lem p) = rw p (none (event k on_interrupt) (event m on_interrupt) (interrupt_none (interrupt_call k).answer k) (interrupt_none (interrupt_call m).answer m))
    go (is_poll_lem p) = absurd (subst (λ (q : Kind). T (soon_by q (soon h))) p s)
    go (other c) = none (event k o) (event m o) (other_none k o c) (other_none m o c)

module _ (b : Board) where
  same_rounds : {h g : List Op} → Joined h g → (k m : Record) → Whole k.regs.words → Whole m.regs.words → Near h k m
      → rounds_from (driver b) k h ≡ rounds_from (driver b) m g
  same_rounds end k m six six' n = refl
  same_rounds (kept {h} o j) k m six six' n =
      told_step o h k m n (same_rounds j (step k o) (step m o) (whole_step k o six) (whole_step m o six') (near_step o h k m six six' n))
  same_rounds (out {h} s j) k m six six' n =
      unheard (event k on_interrupt) (interrupt_none (interrupt_call k).answer k) _
      ∙ same_rounds j (after_interrupt k) m (whole_step k on_interrupt six) six' (inr (s, again k ∙ meets (on_interrupt ∷ h) k m n))

  pub late_costs_nothing : LateCostsNothing b
  late_costs_nothing h g j =
      let six = (good_fresh b).six in
      let same : runs (fresh_record b) h ≡ runs (fresh_record b) g = (costs_nothing (fresh_record b) six h g j).«record» in
      record {
        after = λ k p. ap (λ (q : Record). event (run (driver b) q k) p) (same);
        answer = λ k l. ap (λ (q : Record). (poll_call (run (driver b) q k) l).result.answer) (same);
        on_the_way = same_rounds j (fresh_record b) (fresh_record b) six six (inl refl);
      }
