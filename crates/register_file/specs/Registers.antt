-- The register file: numbers by named places, one side of an endpoint, and the file with one of its parts changed.
-- Assumes nothing.
use Rattle.std.specs.Prelude.{ℕ, ◌+◌, ◌≡◌, Bool, false, cond, List, eqb, ltb, length, get_or, set, replicate}
use Rattle.laws.specs.Words.{bit}
use Rattle.board.specs.declared.Board.{Board}
use Rattle.board.specs.declared.Direction.{Direction}
use Rattle.board.specs.declared.Direction.TheVariants.{Out, In}
use Rattle.board.specs.Table.{place}
use Rattle.csr.specs.declared.Side.{Side}
use Rattle.csr.specs.Registers.{no_side}
use Rattle.register_file.specs.declared.Regs.{Regs}

-- the numbers of the file, in their order:
--   0 index, 1 faddr, 2 power, 3 intrusbe, 4 intrtxe, 5 intrrxe, 6 intrusb, 7 intrtx, 8 intrrx, 9 SetupEnd;
--   then twelve of each, an endpoint's transmit side before its receive side: 10 the control bits, 22 the waiting packet's length, 34 maxp
abbrev pub File : Type 0
File = List ℕ

-- every file of the code has 46 numbers; of a list a law has to say it
abbrev pub Whole : File → Type 0
Whole w = length w ≡ 46

-- "A fresh record: registers 0, nothing waiting"
unfoldable pub fresh_file : File
fresh_file = replicate 46 0

unfoldable pub fresh_regs : Board → Regs
unfolding fresh_file
fresh_regs b = record { board = b; words = fresh_file }

-- the registers that are there once
unfoldable pub index : File → ℕ
index w = get_or w 0 0

unfoldable pub with_index : File → ℕ → File
with_index w e = set w 0 e

unfoldable pub faddr : File → ℕ
faddr w = get_or w 1 0

unfoldable pub with_faddr : File → ℕ → File
with_faddr w a = set w 1 a

unfoldable pub power : File → ℕ
power w = get_or w 2 0

unfoldable pub with_power : File → ℕ → File
with_power w v = set w 2 v

unfoldable pub intrusbe : File → ℕ
intrusbe w = get_or w 3 0

unfoldable pub with_intrusbe : File → ℕ → File
with_intrusbe w v = set w 3 v

-- intrtxe of In, intrrxe of Out
unfoldable pub enabled_of : Direction → File → ℕ
enabled_of Out w = get_or w 5 0
enabled_of In w = get_or w 4 0

unfoldable pub with_enabled : Direction → ℕ → File → File
with_enabled Out v w = set w 5 v
with_enabled In v w = set w 4 v

-- the interrupt registers: what is raised and not read yet. Of the bus register suspend is bit 0, resume bit 1, reset bit 2.
unfoldable pub intrusb : File → ℕ
intrusb w = get_or w 6 0

unfoldable pub with_intrusb : File → ℕ → File
with_intrusb w v = set w 6 v

-- intrtx of In, intrrx of Out
unfoldable pub intr_of : File → Direction → ℕ
intr_of w Out = get_or w 8 0
intr_of w In = get_or w 7 0

unfoldable pub with_intr : File → Direction → ℕ → File
with_intr w Out v = set w 8 v
with_intr w In v = set w 7 v

-- SetupEnd of CSR0L
unfoldable pub setupend : File → Bool
setupend w = eqb (get_or w 9 0) 1

unfoldable pub with_setupend : File → Bool → File
with_setupend w b = set w 9 (cond b 1 0)

-- a side's control bits as one number, and back
unfoldable pub side_word : Side → ℕ
side_word s = cond s.ready 1 0 + cond s.missed 2 0 + cond s.stall 4 0 + cond s.stalled 8 0 + cond s.iso 16 0

unfoldable pub side_of : ℕ → ℕ → ℕ → Side
side_of c m n = record { ready = bit c 0; missed = bit c 1; stall = bit c 2; stalled = bit c 3; iso = bit c 4; maxp = m; len = n }

-- the side in a place
unfoldable pub side_in : File → ℕ → Side
side_in w i = side_of (get_or w (10 + i) 0) (get_or w (34 + i) 0) (get_or w (22 + i) 0)

unfoldable pub with_side_in : File → ℕ → Side → File
with_side_in w i s = set (set (set w (10 + i) (side_word s)) (34 + i) s.maxp) (22 + i) s.len

-- the side of an endpoint by its number; past the last endpoint nothing is there, and nothing is changed
unfoldable pub side_at : File → ℕ → Direction → Side
side_at w e d = cond (ltb e 6) (side_in w (place e d)) no_side

unfoldable pub with_side : File → ℕ → Direction → Side → File
with_side w e d s = cond (ltb e 6) (with_side_in w (place e d) s) w

-- the side that the selection names, which the registers TXCSRL, RXCSRL, TXMAXP, .. are about
abbrev pub chosen : File → Direction → Side
chosen w d = side_at w (index w) d

abbrev pub with_chosen : File → Direction → Side → File
with_chosen w d s = with_side w (index w) d s

-- "registers 0, nothing waiting", register by register: proofs/Sides.antt shows it of a fresh file
pub record Fresh (w : File) : Type 0 where
  pub whole : Whole w
  pub selection : index w ≡ 0
  pub address : faddr w ≡ 0
  pub powered : power w ≡ 0
  pub buses : intrusbe w ≡ 0
  pub enables : (d : Direction) → enabled_of d w ≡ 0
  pub bus : intrusb w ≡ 0
  pub pending : (d : Direction) → intr_of w d ≡ 0
  pub ended : setupend w ≡ false
  pub side : (e : ℕ) (d : Direction) → side_at w e d ≡ no_side
