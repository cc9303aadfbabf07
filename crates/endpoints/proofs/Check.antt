-- Each answer of the check from the tests that led there.
-- Assumes nothing.
use Rattle.std.specs.Prelude.{Err, Ok}
use mathlib.Core.Path.{◌≡◌, sym, ◌∙◌}
use mathlib.Core.Bool.{Bool, true, false, not}
use Prim.Native.Nat.{◌≤◌, ◌<◌}
use borrow.Author.Tests.{lt-ltb, le-ltb}
use Rattle.board.specs.declared.Row.{Row}
use Rattle.board.specs.Table.{has_row}
use Rattle.endpoints.specs.declared.Ask.{Ask}
use Rattle.endpoints.specs.declared.EndpointData.{EndpointData}
use Rattle.endpoints.specs.declared.EndpointAllocError.TheVariants.{EpDirNotSupported, EpUsed, MaxPacketSizeBiggerThanEpFifoSize}
use Rattle.endpoints.specs.Check.{in_use, checked}

-- `check_endpoint`, asked q: s is the row that the board gave, h and u what the tests of direction and use said
module _ {r s : Row} (e : EndpointData) (q : Ask) (at : s ≡ r) where
  pub too_big : s.size < q.size → Err MaxPacketSizeBiggerThanEpFifoSize ≡ checked r e q
  unfolding checked
  too_big big = rw (← at, lt-ltb s.size q.size big)

  module _ (fits : q.size ≤ s.size) {h : Bool} (has : h ≡ has_row s q.way) where
    pub lacking : not h ≡ true → Err EpDirNotSupported ≡ checked r e q
    unfolding checked
    lacking p = rw (← at, le-ltb s.size q.size fits, ← has, p)

    pub in_use_lem : not h ≡ false → {u : Bool} → u ≡ in_use e q.kind q.way → u ≡ true → Err EpUsed ≡ checked r e q
    unfolding checked
    in_use_lem p is busy = rw (← at, le-ltb s.size q.size fits, ← has, p, sym is ∙ busy)

    pub passing : not h ≡ false → {u : Bool} → u ≡ in_use e q.kind q.way → u ≡ false → (Ok tt) ≡ checked r e q
    unfolding checked
    passing p is free = rw (← at, le-ltb s.size q.size fits, ← has, p, sym is ∙ free)
