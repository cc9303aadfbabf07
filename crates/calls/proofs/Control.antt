-- What every operation makes of the control state, and of SetupEnd: specs/Control.antt says. Assumes nothing.
use Prim.Native.Nat.{ℕ}
use mathlib.Core.Path.{◌≡◌, refl, sym, ap, ◌∙◌}
use mathlib.Core.Bool.{Bool, true, false, ◌&&◌, cond}
use mathlib.Core.List.{List}
use borrow.Author.Tests.{eqb-true}
use lib.Dec.{eqb}
use lib.ListN.{length}
use Rattle.board.specs.declared.Direction.TheVariants.{Out, In}
use Rattle.register_file.specs.Registers.{Whole, setupend}
use Rattle.event_rules.specs.declared.BusEvent.TheVariants as bus
use Rattle.event_rules.specs.Promise as events
use Rattle.event_rules.specs.Promise.{Event, happens, ends}
use Rattle.event_rules.proofs.Others.{others, reads_keep_end}
use Rattle.record.specs.declared.Record.{Record}
use Rattle.calls.specs.Calls.{Op, alloc_ep, bus_init, enable, reset, set_device_address, write, read, set_stalled, is_stalled, poll, on_interrupt, force_reset, arrival, collection, bus_reset, suspend, resume, setup_end, underrun, overrun, outcome, step}
use Rattle.calls.specs.Control.{answered, reports_setup, Part, sending, reading, reporting, polling, halting, cutting, beside, part, Turns, SetupEnds, Turned}
use Rattle.calls.specs.Kept.{Stores}
use Rattle.calls.specs.Listed.{unlisted}
use Rattle.calls.proofs.Kept.{Accounted, gentle, stalling, event, interrupt, account}
use Rattle.calls.proofs.Listed as lists
use Rattle.calls.proofs.Turning.{turns_by}
use Rattle.calls.proofs.PollTurning.{path_ended, poll_turns, poll_cleared}

turns : (k : Record) (o : Op) → Whole k.regs.words → Turns (part k o) k (outcome k o)
turns k o six = turns_by k (λ l. poll_turns k l six) o

-- every part but setup end and a poll that reports Setup
abbrev Calm : Part → Type 0
Calm cutting = ⊥
Calm reporting = ⊥
Calm (sending n) = Unit
Calm reading = Unit
Calm polling = Unit
Calm halting = Unit
Calm beside = Unit

calm_if : (b : Bool) (p q : Part) → Calm p → Calm q → Calm (cond b p q)
calm_if true p q c d = c
calm_if false p q c d = d

module _ (k : Record) (six : Whole k.regs.words) where
  abbrev before : Bool
  before = setupend k.regs.words

  abbrev after : Op → Bool
  after o = setupend (step k o).regs.words

  -- the calls that store
  stored : {o : Op} → Accounted k o → Stores o → after o ≡ true → before ≡ true
  stored (gentle a) c p = path_ended six a.path p
  stored (stalling w a) c p = path_ended six a.path p
  stored (event n h) c p = absurd (n c)
  stored (interrupt n h) c p = absurd (n c)

  -- the events, answered or not, and the interrupt
  happened : (o : Op) → (Stores o → ⊥) → (setupend (unlisted o k.regs.words) ≡ before) → after o ≡ true → before ≡ true
  happened o n e p = go (answered k o) (sym (ap setupend (lists.others k o n).regs) ∙ p)
    where
      go : (b : Bool) → setupend (cond b (unlisted o k.regs.words) k.regs.words) ≡ true → before ≡ true
      go true q = sym e ∙ q
      go false q = q

  came : (v : Event) → setupend (happens v k.regs.words) ≡ ends v before
  came v = (others v k.regs.words six).ended

  calmly : (p : Part) (x y : Bool) → Calm p → (y ≡ true → x ≡ true) → SetupEnds p x y
  calmly cutting x y c f = absurd c
  calmly reporting x y c f = absurd c
  calmly (sending n) x y c f = f
  calmly reading x y c f = f
  calmly polling x y c f = f
  calmly halting x y c f = f
  calmly beside x y c f = f

  -- a call, and an event or the interrupt, which have no part
  call : (o : Op) (p : Part) → Stores o → Calm p → SetupEnds (cond (answered k o) p beside) before (after o)
  call o p c d = calmly (cond (answered k o) p beside) before (after o) (calm_if (answered k o) p beside d tt) (stored (account k o six) c)

  aside : (o : Op) → (Stores o → ⊥) → setupend (unlisted o k.regs.words) ≡ before → SetupEnds (cond (answered k o) beside beside) before (after o)
  aside o n e = calmly (cond (answered k o) beside beside) before (after o) (calm_if (answered k o) beside beside tt tt) (happened o n e)

  -- a poll that reports Setup leaves SetupEnd clear
  polls : (l : List ℕ) (a b : Bool) → answered k (poll l) ≡ a → reports_setup (outcome k (poll l)) ≡ b
      → SetupEnds (cond a (cond b reporting polling) beside) before (after (poll l))
  polls l true true p q = poll_cleared k l six (eqb-true _ 0 p) q
  polls l true false p q = stored (account k (poll l) six) tt
  polls l false b p q = stored (account k (poll l) six) tt

  -- and setup end sets it, or is refused
  ended : (b : Bool) → answered k setup_end ≡ b → SetupEnds (cond b cutting beside) before (after setup_end)
  ended true p =
      ap setupend ((lists.others k setup_end (λ c. c)).regs ∙ ap (λ (b : Bool). cond b (unlisted setup_end k.regs.words) k.regs.words) p)
      ∙ came events.setupend
  ended false p =
      λ e.
      sym (ap setupend ((lists.others k setup_end (λ c. c)).regs ∙ ap (λ (b : Bool). cond b (unlisted setup_end k.regs.words) k.regs.words) p)) ∙ e

  setup_ends : (o : Op) → SetupEnds (part k o) before (after o)
  setup_ends (poll l) = polls l (answered k (poll l)) (reports_setup (outcome k (poll l))) refl refl
  setup_ends setup_end = ended (answered k setup_end) refl
  setup_ends (write e b f l) = call (write e b f l) _ tt (calm_if (eqb e 0) (sending (length b)) beside tt tt)
  setup_ends (read e b f l) = call (read e b f l) _ tt (calm_if (eqb e 0) reading beside tt tt)
  setup_ends (set_stalled e d s l) = call (set_stalled e d s l) _ tt (calm_if (eqb e 0 && s) halting beside tt tt)
  setup_ends (reset l) = call (reset l) halting tt tt
  setup_ends (alloc_ep q w) = call (alloc_ep q w) beside tt tt
  setup_ends (bus_init l) = call (bus_init l) beside tt tt
  setup_ends (enable l) = call (enable l) beside tt tt
  setup_ends (set_device_address a l) = call (set_device_address a l) beside tt tt
  setup_ends (is_stalled e d l) = call (is_stalled e d l) beside tt tt
  setup_ends force_reset = call force_reset beside tt tt
  setup_ends on_interrupt = aside on_interrupt (λ c. c) (reads_keep_end k.regs.words six)
  setup_ends (arrival e b f) = aside (arrival e b f) (λ c. c) (came (events.arrival e (length b)))
  setup_ends (collection e f) = aside (collection e f) (λ c. c) (came (events.collection e))
  setup_ends bus_reset = aside bus_reset (λ c. c) (came (events.on_bus bus.Reset))
  setup_ends suspend = aside suspend (λ c. c) (came (events.on_bus bus.Suspend))
  setup_ends resume = aside resume (λ c. c) (came (events.on_bus bus.Resume))
  setup_ends (underrun e) = aside (underrun e) (λ c. c) (came (events.miss e In))
  setup_ends (overrun e) = aside (overrun e) (λ c. c) (came (events.miss e Out))

pub turned : (k : Record) (o : Op) → Whole k.regs.words → Turned k o
turned k o six = record { turns = turns k o six; setup_end = setup_ends k six o }
