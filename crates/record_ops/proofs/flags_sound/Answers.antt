use Rattle.laws.proofs.Words.{shifted}
use native.Mathlib.Omega.{arith}
use Rattle.board.specs.Boards.{at_most_six}
use Rattle.laws.specs.Tests.{◌also◌}
use Rattle.record.specs.Record.{flags_sound}
use Rattle.record_ops.proofs.flags_sound.Goals as goal

pub overflow_shl-bound : goal.overflow_shl-bound
overflow_shl-bound c = omega (arith, at_most_six c.args.b, c.endpoints-n.ensures)

pub returns : goal.returns
unfolding flags_sound ◌also◌
returns c = rw (shifted c.endpoints-n.result (omega (arith, at_most_six c.args.b, c.endpoints-n.ensures)), c.endpoints-n.ensures)
