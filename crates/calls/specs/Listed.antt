-- "A call that stores writes its stores into a lent list .., three a store: register, selected endpoint, value; it returns how many .. entries
-- past the count stay."
-- What a call has done to the registers is what it lists: the stores that stand in the list, in order, carried out one by one from the record's
-- registers, lead to its registers; the count is their number; beyond them the lent list is as it was. What changes registers and is no store are
-- the reads of an interrupt and the host's events: these list nothing.
-- Assumes nothing.
use Rattle.std.specs.Prelude.{ℕ, ◌+◌, ◌*◌, ◌≤◌, ◌≡◌, true, cond, List, eqb, length, get_or}
use Rattle.board.specs.declared.Direction.TheVariants.{Out, In}
use Rattle.register_file.specs.Registers.{File, index}
use Rattle.store_list.specs.Stores.{listed}
use Rattle.store_rules.specs.Stores.{log}
use Rattle.store_rules.specs.Promise.{Store, does, register, value, is_listed}
use Rattle.event_rules.specs.Events.{intrusb_cleared, intr_cleared}
use Rattle.event_rules.specs.declared.BusEvent.TheVariants as bus
use Rattle.event_rules.specs.Promise as events
use Rattle.event_rules.specs.Promise.{happens}
use Rattle.record.specs.declared.Record.{Record}
use Rattle.calls.specs.Calls.{Op, alloc_ep, bus_init, enable, reset, set_device_address, write, read, set_stalled, is_stalled, poll, on_interrupt, force_reset, arrival, collection, bus_reset, suspend, resume, setup_end, underrun, overrun, outcome, step}
use Rattle.calls.specs.Demand.{lent}
use Rattle.calls.specs.Kept.{Stores}

-- Stores lead from the registers r and the lent list l to the registers q, with m in the list and n as the count. One store more leaves what it
-- leaves of the registers, stands in the list at the place that the count tells, and is counted. An empty packet is none.
pub data Leads (r : File) (l : List ℕ) : File → List ℕ → ℕ → Type 0 where
  start : Leads r l r l 0
  more : {q : File} {m : List ℕ} {n : ℕ} → Leads r l q m n → (o : Store) → is_listed o ≡ true
      → Leads r l (does o (log q m n)).regs (listed m n (register o) (index (does o (log q m n)).regs) (value o)) (n + 1)

-- What an operation does to the registers that is no store, where it is answered: `on_interrupt` reads its three registers ("Interrupt registers
-- clear when read"), and an event is what the host does.
abbrev pub unlisted : Op → File → File
unlisted on_interrupt r = intr_cleared (intr_cleared (intrusb_cleared r) In) Out
unlisted (arrival e b f) r = happens (events.arrival e (length b)) r
unlisted (collection e f) r = happens (events.collection e) r
unlisted bus_reset r = happens (events.on_bus bus.Reset) r
unlisted suspend r = happens (events.on_bus bus.Suspend) r
unlisted resume r = happens (events.on_bus bus.Resume) r
unlisted setup_end r = happens events.setupend r
unlisted (underrun e) r = happens (events.miss e In) r
unlisted (overrun e) r = happens (events.miss e Out) r
unlisted (alloc_ep q w) r = r
unlisted (bus_init l) r = r
unlisted (enable l) r = r
unlisted (reset l) r = r
unlisted (set_device_address a l) r = r
unlisted (write e b f l) r = r
unlisted (read e b f l) r = r
unlisted (set_stalled e d s l) r = r
unlisted (is_stalled e d l) r = r
unlisted (poll l) r = r
unlisted force_reset r = r

-- an operation that lists nothing: refused, it leaves the registers
pub record Unlisted (k : Record) (o : Op) : Type 0 where
  pub regs : (step k o).regs.words ≡ cond (eqb (outcome k o).reply 0) (unlisted o k.regs.words) k.regs.words
  pub list : (outcome k o).list ≡ (lent o).list
  pub count : (outcome k o).stores ≡ 0

pub record Listed (k : Record) (o : Op) : Type 0 where
  -- the driver's calls but `on_interrupt` store, and that is all
  pub stores : Stores o → Leads k.regs.words (lent o).list (step k o).regs.words (outcome k o).list (outcome k o).stores
  -- `on_interrupt` and the host's events
  pub others : (Stores o → ⊥) → Unlisted k o
  -- "The list must hold 128 stores": each has its place
  pub room : (outcome k o).stores * 3 ≤ length (lent o).list
  -- "entries past the count stay"
  pub past : (i z : ℕ) → (outcome k o).stores * 3 ≤ i → get_or (outcome k o).list i z ≡ get_or (lent o).list i z
