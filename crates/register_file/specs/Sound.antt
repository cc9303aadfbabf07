-- The register part of reply 16's test.
-- Assumes nothing.
use Rattle.std.specs.Prelude.{ℕ, zero, suc, ◌+◌, ◌<◌, ◌≤◌, Bool, true, List, leb, ltb, get_or}
use Rattle.laws.specs.Tests.{◌also◌}
use Rattle.board.specs.Table.{place}
use Rattle.board.specs.declared.Direction.{Direction}
use Rattle.register_file.specs.Registers.{File, index, faddr, side_in, side_at}
use Rattle.csr.specs.Sound.{side_sound, SideOk}

-- of every side below a place: no control bits but the five, since all else of a control register reads 0
unfoldable pub words_below : File → ℕ → Bool
words_below w zero = true
words_below w (suc i) = words_below w i also ltb (get_or w (10 + i) 0) 32

-- and its waiting length; the sizes stand in the order of the areas: an endpoint's transmit area, then its receive area
unfoldable pub sides_below : List ℕ → File → ℕ → Bool
sides_below sizes w zero = true
sides_below sizes w (suc i) = sides_below sizes w i also side_sound (get_or sizes i 0) (side_in w i)

-- and "selection over 5, address over 127": the board's own last endpoint is the bound of a selection. SetupEnd is one bit.
unfoldable pub regs_sound : List ℕ → ℕ → File → Bool
regs_sound sizes count w = ltb (index w) count also leb (faddr w) 127 also leb (get_or w 9 0) 1 also words_below w 12 also sides_below sizes w 12

-- no number stands in the file that no register can hold: SetupEnd is one bit, and of a control register five bits are kept
pub record Clean (w : File) : Type 0 where
  pub ended : get_or w 9 0 ≤ 1
  pub bits : (i : ℕ) → i < 12 → get_or w (10 + i) 0 < 32

-- what the test says, for a file of a board with so many endpoints: proofs/Soundness.antt shows that a file passes exactly when it is sound
pub record Sound (sizes : List ℕ) (count : ℕ) (w : File) : Type 0 where
  pub selected : index w < count
  pub address : faddr w ≤ 127
  pub clean : Clean w
  pub side : (e : ℕ) (d : Direction) → SideOk (get_or sizes (place e d) 0) (side_at w e d)
