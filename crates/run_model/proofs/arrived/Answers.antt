-- `run_model::arrived` meets its contract.
-- Assumes nothing.
use native.Mathlib.Omega.{arith}
use Rattle.board.specs.declared.Board.TheVariants.{Display}
use Rattle.board.specs.Boards.{total_fits}
use Rattle.run_model.proofs.arrived.Goals as goal

pub arrive-requires : goal.arrive-requires
arrive-requires c = (omega (arith, total_fits Display), omega (arith, total_fits Display), omega (arith, total_fits Display), omega (arith, total_fits Display))
