-- The check of one endpoint against its row of the table: the source's `check_endpoint`. Nothing here names a board.
-- Assumes nothing.
use Rattle.std.specs.Prelude.{ℕ, Bool, true, false, not, ◌&&◌, ◌||◌, List, ltb, get_or, set, Err, Ok, Result}
use Rattle.endpoints.specs.declared.EndpointAllocError.{EndpointAllocError}
use Rattle.board.specs.declared.Row.{Row}
use Rattle.board.specs.declared.Direction.{Direction}
use Rattle.board.specs.Table.{has_row}
use Rattle.endpoints.specs.declared.EndpointType.{EndpointType}
use Rattle.endpoints.specs.declared.EndpointType.TheVariants.{Bulk}
use Rattle.endpoints.specs.declared.EndpointData.{EndpointData}
use Rattle.endpoints.specs.declared.EndpointAllocError.TheVariants.{EpDirNotSupported, EpUsed, MaxPacketSizeBiggerThanEpFifoSize}
use Rattle.endpoints.specs.declared.Ask.{Ask}
use Rattle.endpoints.specs.Endpoints.{same_type, kind_of, used, used_in, granted, blank}

-- reply 5: "size over the table's"
abbrev pub over_size : Row → Ask → Bool
over_size r q = ltb r.size q.size

-- reply 3: "table lacks the direction"
abbrev pub lacks : Row → Ask → Bool
lacks r q = not (has_row r q.way)

-- reply 4: "bulk with either direction used; or used, with another type or that same direction"
unfoldable pub in_use : EndpointData → EndpointType → Direction → Bool
in_use e k d = (same_type k Bulk && used e) || (used e && (not (same_type (kind_of e) k) || used_in e d))

-- document 01: "allocation 2, 5, 3, 4". The first of the tests 5, 3, 4 that holds; 2 stands before them in `numbered`.
abbrev pub pick : Bool → Bool → Bool → Result Unit EndpointAllocError
pick true three four = Err MaxPacketSizeBiggerThanEpFifoSize
pick false true four = Err EpDirNotSupported
pick false false true = Err EpUsed
pick false false false = Ok tt

-- `check_endpoint`
unfoldable pub checked : Row → EndpointData → Ask → Result Unit EndpointAllocError
checked r e q = pick (over_size r q) (lacks r q) (in_use e q.kind q.way)

abbrev pub passes : Result Unit EndpointAllocError → Bool
passes (Ok tt) = true
passes (Err x) = false

-- the endpoints once one is given; the others stay
unfoldable pub given : List EndpointData → Ask → ℕ → List EndpointData
given es q n = set es n (granted (get_or es n blank) q)
