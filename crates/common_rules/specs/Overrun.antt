-- What `check_overrun` of the source's common_impl.rs stores, as a step from a Log to a Log over the model's operations.
-- Assumes nothing.
use Rattle.std.specs.Prelude.{ℕ, zero, suc, ◌-◌, Bool, false, ◌||◌, cond}
use mathlib.Core.List.{foldl}
use Rattle.laws.specs.Lists.{numbers}
use Rattle.board.specs.declared.Direction.TheVariants.{Out, In}
use Rattle.csr.specs.declared.TxcsrlSet.TheVariants as txcsrl
use Rattle.csr.specs.declared.RxcsrlSet.TheVariants as rxcsrl
use Rattle.register_file.specs.Registers.{File, side_at}
use Rattle.register_file.specs.Control.{txcsrl_read, rxcsrl_read}
use Rattle.store_rules.specs.Stores.{Log, write_index, modify_txcsrl, modify_rxcsrl}

-- the body of `check_overrun`'s loop
unfoldable pub under_run_cleared : Log → Log
under_run_cleared g = cond (txcsrl_read g.regs).under_run (modify_txcsrl txcsrl.NoUnderRun g) g

unfoldable pub over_run_cleared : Log → Log
over_run_cleared g = cond (rxcsrl_read g.regs).over_run (modify_rxcsrl rxcsrl.NoOverRun g) g

unfoldable pub repaired : Log → ℕ → Log
repaired g e = over_run_cleared (under_run_cleared (write_index e g))

unfoldable pub repaired_below : ℕ → Log → Log
repaired_below count g = foldl repaired g (numbers 1 (count - 1))

-- `check_overrun`: `for index in 1..ENDPOINTS.len()`
unfoldable pub check_overrun : ℕ → Log → Log
check_overrun count g = repaired_below count g

-- whether an endpoint has anything to repair, and whether one of 1 to n has
unfoldable pub missed_at : File → ℕ → Bool
missed_at w e = (side_at w e In).missed || (side_at w e Out).missed

unfoldable pub missed_to : ℕ → File → Bool
missed_to zero w = false
missed_to (suc n) w = missed_to n w || missed_at w (suc n)

-- the index stores alone: what is left of the loop where nothing is to be repaired (proofs/Missed.antt)
unfoldable pub selected_only : Log → ℕ → Log
selected_only g e = write_index e g

unfoldable pub selected_below : ℕ → Log → Log
selected_below count g = foldl selected_only g (numbers 1 (count - 1))
