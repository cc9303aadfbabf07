-- FIFO memory and the list go on from entry to entry as the operation leaves them where it is lent them to write (`calls` Demand.`lent`), and
-- else as they were. Assumes nothing.
use Prim.Native.Nat.{ℕ}
use mathlib.Core.Path.{◌≡◌, refl}
use mathlib.Core.List.{List, ◌∷◌}
use Rattle.record.specs.declared.Record.{Record}
use Rattle.calls.specs.Calls.{Op, outcome}
use Rattle.calls.specs.Demand.{lent}
use Rattle.calls.specs.Memory.{goes_on}
use Rattle.event_rules.specs.declared.BusEvent.TheVariants as bus
use Rattle.trace_rules.specs.declared.Entry.{Entry}
use Rattle.trace_rules.specs.declared.Entry.TheVariants.{Allocate, Init, Reset, Address, Write, Read, Stall, IsStalled, Poll, Interrupt, Enable, Arrival, Collect, Bus, SetupEnd, Underrun, Overrun}
use Rattle.report_rules.specs.Act.{State, state, operation, did, acted}

-- of an entry of the trace s, with FIFO memory and a list that are not empty
module _ (s : List ℕ) (k : Record) (a b : ℕ) (f l : List ℕ) where
  abbrev does : Entry → Op
  does e = operation s e (a ∷ f) (b ∷ l)

  abbrev before : State
  before = state k (a ∷ f) (b ∷ l)

  abbrev Handed : Entry → State → Type 0
  Handed e x =
      (x.fifo ≡ goes_on (lent (does e)).fifo (outcome k (does e)).fifo (a ∷ f))
      × (x.list ≡ goes_on (lent (does e)).list (outcome k (does e)).list (b ∷ l))

  by_operation : (e : Entry) → Handed e (did before (does e)).state
  by_operation (Allocate d w t n) = (refl, refl)
  by_operation Init = (refl, refl)
  by_operation Reset = (refl, refl)
  by_operation (Address n) = (refl, refl)
  by_operation (Write p) = (refl, refl)
  by_operation (Read e n) = (refl, refl)
  by_operation (Stall e d on) = (refl, refl)
  by_operation (IsStalled e d) = (refl, refl)
  by_operation Poll = (refl, refl)
  by_operation Interrupt = (refl, refl)
  by_operation Enable = (refl, refl)
  by_operation (Arrival p) = (refl, refl)
  by_operation (Collect e) = (refl, refl)
  by_operation (Bus bus.Reset) = (refl, refl)
  by_operation (Bus bus.Suspend) = (refl, refl)
  by_operation (Bus bus.Resume) = (refl, refl)
  by_operation SetupEnd = (refl, refl)
  by_operation (Underrun e) = (refl, refl)
  by_operation (Overrun e) = (refl, refl)

  pub goes_on_lem : (e : Entry) → Handed e (acted s e before).state
  unfolding acted
  goes_on_lem e = by_operation e
