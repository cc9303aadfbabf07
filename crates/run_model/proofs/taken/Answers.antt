use native.Mathlib.Omega.{arith}
use Prim.Native.Nat.{ℕ}
use lib.ListN.{replicate}
use lib.Seq.{length-take-le}
use Rattle.board.specs.declared.Board.TheVariants.{Display}
use Rattle.board.specs.Boards.{total_fits}
use Rattle.run_model.proofs.taken.Goals as goal

pub take_bytes-requires : goal.take_bytes-requires
take_bytes-requires c = (omega (arith, total_fits Display), omega (arith, total_fits Display), rw (length-take-le {A = ℕ} c.min-k.result (replicate 8 255) (omega arith)) (omega arith))
