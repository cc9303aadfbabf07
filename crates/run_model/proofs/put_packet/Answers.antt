-- `run_model::put_packet` meets its contract.
-- Assumes nothing.
use native.Mathlib.Omega.{arith}
use Rattle.board.specs.declared.Board.TheVariants.{Display}
use Rattle.board.specs.Boards.{total_fits}
use Rattle.run_model.proofs.put_packet.Goals as goal

pub put_bytes-requires : goal.put_bytes-requires
put_bytes-requires c = (omega (arith, total_fits Display), omega (arith, total_fits Display))
