use Rattle.board.specs.Boards.{total_fits}
use native.Mathlib.Omega.{arith}
use Rattle.record.specs.Record.{area_in, need_in}
use Rattle.record_ops.proofs.area.Goals as goal

pub returns : goal.returns
unfolding area_in need_in
returns c = (c.area.ensures.is, c.area.ensures.within, omega (arith, total_fits c.args.b, c.area.ensures.within))
