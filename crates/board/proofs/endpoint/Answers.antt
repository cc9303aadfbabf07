use Rattle.std.proofs.Common.{rules}
use Rattle.board.specs.Boards.{rows_if_display, sole}
use Rattle.board.proofs.endpoint.Goals as goal

pub returns : goal.returns
returns c = rw (rows_if_display c.args.b (sole c.args.b)) (search rules)
