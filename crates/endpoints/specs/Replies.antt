-- Document 01's table of replies, the rows of allocation, "Given exactly when"; over any table of endpoints.
-- Assumes nothing.
use Rattle.std.specs.Prelude.{◌≡◌, Bool, true, false, not, ◌&&◌, List, ℕ, ◌≤◌, ◌<◌, eqb, length, get_or, None, Option, Some}
use Rattle.board.specs.declared.Row.{Row}
use Rattle.board.specs.Table.{row_at}
use Rattle.endpoints.specs.declared.EndpointData.{EndpointData}
use Rattle.endpoints.specs.declared.EndpointAllocError.{EndpointAllocError}
use Rattle.endpoints.specs.declared.EndpointAllocError.TheVariants.{EndpointOverflow, InvalidEndpoint, EpDirNotSupported, EpUsed, MaxPacketSizeBiggerThanEpFifoSize}
use Rattle.endpoints.specs.declared.Ask.{Ask}
use Rattle.endpoints.specs.Endpoints.{blank}
use Rattle.endpoints.specs.Allocate.{beyond, passes_at}
use Rattle.endpoints.specs.Check.{over_size, lacks, in_use}

-- "wanted 1 to 5", and the test f holds of that number
abbrev pub wanted_and : List Row → (ℕ → Bool) → Option ℕ → Bool
wanted_and t f None = false
wanted_and t f (Some n) = not (eqb n 0) && (not (beyond t n) && f n)

-- none of the numbers from i up to e passes the test f
abbrev pub NonePasses : (ℕ → Bool) → ℕ → ℕ → Type 0
NonePasses f i e = (n : ℕ) → i ≤ n → n < e → f n ≡ false

-- n is the lowest of them that does
pub record Lowest (f : ℕ → Bool) (i e n : ℕ) : Type 0 where
  pub from : i ≤ n
  pub below : n < e
  pub passing : f n ≡ true
  pub lower : NonePasses f i n

module _ (t : List Row) (es : List EndpointData) (q : Ask) where
  -- "no number wanted, and none of 1 to 5 passes the check"
  abbrev pub Row1 : Option ℕ → Type 0
  Row1 w = (w ≡ None) × ((n : ℕ) → 1 ≤ n → n < length t → passes_at t es q n ≡ false)

  -- "wanted number 6 or more"
  abbrev pub row2 : Option ℕ → Bool
  row2 None = false
  row2 (Some n) = beyond t n

  -- "wanted 1 to 5: table lacks the direction"
  abbrev pub row3 : Option ℕ → Bool
  row3 = wanted_and t (λ n. lacks (row_at t n) q)

  -- "wanted 1 to 5: bulk with either direction used; or used, with another type or that same direction"
  abbrev pub row4 : Option ℕ → Bool
  row4 = wanted_and t (λ n. in_use (get_or es n blank) q.kind q.way)

  -- "wanted 1 to 5: size over the table's"
  abbrev pub row5 : Option ℕ → Bool
  row5 = wanted_and t (λ n. over_size (row_at t n) q)

  -- the error's row holds, and in the order 2, 5, 3, 4 none before it
  abbrev pub Given : EndpointAllocError → Option ℕ → Type 0
  Given EndpointOverflow w = Row1 w
  Given InvalidEndpoint w = row2 w ≡ true
  Given MaxPacketSizeBiggerThanEpFifoSize w = (row2 w ≡ false) × (row5 w ≡ true)
  Given EpDirNotSupported w = (row2 w ≡ false) × (row5 w ≡ false) × (row3 w ≡ true)
  Given EpUsed w = (row2 w ≡ false) × (row5 w ≡ false) × (row3 w ≡ false) × (row4 w ≡ true)

  -- which endpoint is given: the one that is wanted, or the lowest of 1 to 5 that passes
  abbrev pub Gives : Option ℕ → ℕ → Type 0
  Gives None n = Lowest (passes_at t es q) 1 (length t) n
  Gives (Some m) n = (n ≡ m) × (n < length t)
