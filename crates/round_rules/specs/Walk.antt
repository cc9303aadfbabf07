-- The walk of the receive flags, in one round of `poll`.
-- Assumes nothing.
use Rattle.std.specs.Prelude.{ℕ, Bool, cond, eqb}
use mathlib.Core.List.{foldl}
use Rattle.laws.specs.Words.{clear, set_bits}
use Rattle.register_file.specs.Registers.{File}
use Rattle.register_file.specs.Control.{csr0l_read, rxcsrl_read}
use Rattle.store_rules.specs.Stores.{Log, write_index}

-- the walk's RxPktRdy, read after the index store: CSR0L's for endpoint 0, RXCSRL's for the others
unfoldable pub ready_at : ℕ → File → Bool
ready_at e r = cond (eqb e 0) (csr0l_read r).rx_pkt_rdy (rxcsrl_read r).rx_pkt_rdy

-- the log and the receive flags on the way
pub record Walk : Type 0 where
  pub log : Log
  pub out : ℕ

abbrev pub walk : Log → ℕ → Walk
walk g out = record { log = g; out = out }

-- `IRQ_EP_RX.store(rx_flags & !(1 << index), ..)`: "Each drained flag is cleared from the flags as first read, so one round clears only
-- the highest drained one."
unfoldable pub drained : ℕ → ℕ → ℕ → File → ℕ
drained flags out e r = cond (ready_at e r) out (clear flags e)

unfoldable pub visit : ℕ → Walk → ℕ → Walk
visit flags o e = walk (write_index e o.log) (drained flags o.out e (write_index e o.log).regs)

-- "a walk of receive flags from the lowest set bit"
unfoldable pub walked : ℕ → Log → Walk
walked flags g = foldl (visit flags) (walk g flags) (set_bits flags)
