-- FIFO memory goes on as an operation leaves it where the operation is lent it to write, and else as it was. Assumes nothing.
use Prim.Native.Nat.{ℕ}
use mathlib.Core.Path.{◌≡◌, refl, sym, ap}
use mathlib.Core.List.{List, ◌∷◌}
use Rattle.calls.specs.Calls.{Op, alloc_ep, bus_init, enable, reset, set_device_address, write, read, set_stalled, is_stalled, poll, on_interrupt, force_reset, arrival, collection, bus_reset, suspend, resume, setup_end, underrun, overrun, Outcome}
use Rattle.calls.specs.Demand.{lent}
use Rattle.calls.specs.Memory.{fifo_after, LentFifo, goes_on}

-- of memory that is not empty
module _ (a : ℕ) (f : List ℕ) (r : Outcome) where
  written : {g : List ℕ} → g ≡ a ∷ f → r.fifo ≡ goes_on g r.fifo (a ∷ f)
  written p = sym (ap (λ (g : List ℕ). goes_on g r.fifo (a ∷ f)) p)

  pub goes_on_lem : (o : Op) → LentFifo (a ∷ f) o → fifo_after (a ∷ f) o r ≡ goes_on (lent o).fifo r.fifo (a ∷ f)
  goes_on_lem (write e b g l) p = written p
  goes_on_lem (arrival e b g) p = written p
  goes_on_lem (alloc_ep q w) p = refl
  goes_on_lem (bus_init l) p = refl
  goes_on_lem (enable l) p = refl
  goes_on_lem (reset l) p = refl
  goes_on_lem (set_device_address n l) p = refl
  goes_on_lem (read e b g l) p = refl
  goes_on_lem (set_stalled e d s l) p = refl
  goes_on_lem (is_stalled e d l) p = refl
  goes_on_lem (poll l) p = refl
  goes_on_lem on_interrupt p = refl
  goes_on_lem force_reset p = refl
  goes_on_lem (collection e g) p = refl
  goes_on_lem bus_reset p = refl
  goes_on_lem suspend p = refl
  goes_on_lem resume p = refl
  goes_on_lem setup_end p = refl
  goes_on_lem (underrun e) p = refl
  goes_on_lem (overrun e) p = refl
