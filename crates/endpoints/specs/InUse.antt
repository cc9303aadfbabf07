-- Reply 4's row in its own words, apart from the test `in_use`: a driver that gives a bulk endpoint a number whose other direction is used would
-- have to make these false.
-- Assumes nothing.
use Rattle.std.specs.Prelude.{◌≡◌, true}
use Rattle.board.specs.declared.Direction.{Direction}
use Rattle.board.specs.declared.Direction.TheVariants.{Out, In}
use Rattle.endpoints.specs.declared.EndpointType.{EndpointType}
use Rattle.endpoints.specs.declared.EndpointType.TheVariants.{Bulk}
use Rattle.endpoints.specs.declared.EndpointData.{EndpointData}
use Rattle.endpoints.specs.Endpoints.{kind_of}

-- a direction of an endpoint is used
abbrev pub Marked : EndpointData → Direction → Type 0
Marked e Out = e.used_rx ≡ true
Marked e In = e.used_tx ≡ true

-- "bulk with either direction used; or used, with another type or that same direction"
pub data InUse (e : EndpointData) (k : EndpointType) (d : Direction) : Type 0 where
  bulk : (c : Direction) → k ≡ Bulk → Marked e c → InUse e k d
  another : (c : Direction) → Marked e c → (kind_of e ≡ k → ⊥) → InUse e k d
  same : Marked e d → InUse e k d
