use native.Mathlib.Omega.{arith}
use Rattle.board.specs.Boards.{at_most_six}
use Rattle.record.specs.Record.{endpoints_in}
use Rattle.record_ops.proofs.endpoints.Goals as goal

pub returns : goal.returns
unfolding endpoints_in
returns c = (c.endpoints.ensures, omega (arith, at_most_six c.args.b, c.endpoints.ensures))
