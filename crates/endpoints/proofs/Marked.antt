-- What an endpoint that is given changes: its type and the asked direction's size and mark, and nothing else.
-- Assumes nothing.
use mathlib.Core.Path.{◌≡◌}
use Rattle.board.specs.declared.Direction.{Direction}
use Rattle.board.specs.declared.Direction.TheVariants.{Out, In}
use Rattle.endpoints.specs.declared.EndpointData.{EndpointData}
use Rattle.endpoints.specs.declared.Ask.{Ask}
use Rattle.endpoints.specs.Endpoints.{granted, Granted}

pub by_way : (e : EndpointData) (q : Ask) (d : Direction) → q.way ≡ d → Granted e (granted e q) q
unfolding granted
by_way e q Out w = record { kind = rw w; size = rw w; mark = rw w; other_size = rw w; other_mark = rw w }
by_way e q In w = record { kind = rw w; size = rw w; mark = rw w; other_size = rw w; other_mark = rw w }
