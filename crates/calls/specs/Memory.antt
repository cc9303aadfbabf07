-- What is lent goes on from one operation to the next: FIFO memory, and the list of stores.
-- Assumes nothing.
use Rattle.std.specs.Prelude.{ℕ, ◌≡◌, List, [], ◌∷◌}
use Rattle.record.specs.declared.Record.{Record}
use Rattle.calls.specs.Calls.{Op, alloc_ep, bus_init, enable, reset, set_device_address, write, read, set_stalled, is_stalled, poll, on_interrupt, force_reset, arrival, collection, bus_reset, suspend, resume, setup_end, underrun, overrun, Outcome, outcome, step}

-- FIFO memory f after an operation whose outcome is o: as it left it where it was lent it to write, and else as it was
abbrev pub fifo_after : List ℕ → Op → Outcome → List ℕ
fifo_after f (alloc_ep q w) o = f
fifo_after f (bus_init l) o = f
fifo_after f (enable l) o = f
fifo_after f (reset l) o = f
fifo_after f (set_device_address a l) o = f
fifo_after f (write e b g l) o = o.fifo
fifo_after f (read e b g l) o = f
fifo_after f (set_stalled e d s l) o = f
fifo_after f (is_stalled e d l) o = f
fifo_after f (poll l) o = f
fifo_after f on_interrupt o = f
fifo_after f force_reset o = f
fifo_after f (arrival e b g) o = o.fifo
fifo_after f (collection e g) o = f
fifo_after f bus_reset o = f
fifo_after f suspend o = f
fifo_after f resume o = f
fifo_after f setup_end o = f
fifo_after f (underrun e) o = f
fifo_after f (overrun e) o = f

-- the list after it, likewise
abbrev pub list_after : List ℕ → Op → Outcome → List ℕ
list_after x (alloc_ep q w) o = x
list_after x (bus_init l) o = o.list
list_after x (enable l) o = o.list
list_after x (reset l) o = o.list
list_after x (set_device_address a l) o = o.list
list_after x (write e b f l) o = o.list
list_after x (read e b f l) o = o.list
list_after x (set_stalled e d s l) o = o.list
list_after x (is_stalled e d l) o = o.list
list_after x (poll l) o = o.list
list_after x on_interrupt o = x
list_after x force_reset o = x
list_after x (arrival e b f) o = x
list_after x (collection e f) o = x
list_after x bus_reset o = x
list_after x suspend o = x
list_after x resume o = x
list_after x setup_end o = x
list_after x (underrun e) o = x
list_after x (overrun e) o = x

-- the operation is lent f, where it is lent FIFO memory at all
abbrev pub LentFifo : List ℕ → Op → Type 0
LentFifo f (alloc_ep q w) = Unit
LentFifo f (bus_init l) = Unit
LentFifo f (enable l) = Unit
LentFifo f (reset l) = Unit
LentFifo f (set_device_address a l) = Unit
LentFifo f (write e b g l) = g ≡ f
LentFifo f (read e b g l) = g ≡ f
LentFifo f (set_stalled e d s l) = Unit
LentFifo f (is_stalled e d l) = Unit
LentFifo f (poll l) = Unit
LentFifo f on_interrupt = Unit
LentFifo f force_reset = Unit
LentFifo f (arrival e b g) = g ≡ f
LentFifo f (collection e g) = g ≡ f
LentFifo f bus_reset = Unit
LentFifo f suspend = Unit
LentFifo f resume = Unit
LentFifo f setup_end = Unit
LentFifo f (underrun e) = Unit
LentFifo f (overrun e) = Unit

-- How lent memory goes on, beside the clauses above and apart from them, of a buffer that is not empty: one that an operation is lent to write (Demand.`lent`) as
-- the operation leaves it; one that it is not lent, or lent only to be read, as it was
abbrev pub goes_on : List ℕ → List ℕ → List ℕ → List ℕ
goes_on [] left before = before
goes_on (a ∷ lent) left before = left

-- From the record k on, one FIFO memory is lent to the operations in turn: f to the first, and to each what those before it have left.
abbrev pub OneFifo : Record → List ℕ → List Op → Type 0
OneFifo k f [] = Unit
OneFifo k f (o ∷ h) = LentFifo f o × OneFifo (step k o) (fifo_after f o (outcome k o)) h

-- what they leave of it
abbrev pub fifo_after_all : Record → List ℕ → List Op → List ℕ
fifo_after_all k f [] = f
fifo_after_all k f (o ∷ h) = fifo_after_all (step k o) (fifo_after f o (outcome k o)) h
