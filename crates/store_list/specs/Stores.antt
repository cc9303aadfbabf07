-- The lent list of stores: three numbers a store, and document 01's numbers of the registers.
-- Assumes nothing.
use Rattle.std.specs.Prelude.{ℕ, ◌+◌, ◌*◌, List, set}
use Rattle.board.specs.declared.Direction.{Direction}
use Rattle.board.specs.declared.Direction.TheVariants.{Out, In}

-- document 01: "three a store: register, selected endpoint, value"; "entries past the count stay"
unfoldable pub listed : List ℕ → ℕ → ℕ → ℕ → ℕ → List ℕ
listed l n register endpoint value = set (set (set l (n * 3) register) (n * 3 + 1) endpoint) (n * 3 + 2) value

-- document 01's register numbers
abbrev pub FADDR : ℕ
FADDR = 1

abbrev pub POWER : ℕ
POWER = 2

abbrev pub INDEX : ℕ
INDEX = 3

abbrev pub CSR0L : ℕ
CSR0L = 4

abbrev pub CSR0H : ℕ
CSR0H = 5

abbrev pub TXCSRL : ℕ
TXCSRL = 6

abbrev pub RXCSRL : ℕ
RXCSRL = 7

abbrev pub TXCSRH : ℕ
TXCSRH = 8

abbrev pub RXCSRH : ℕ
RXCSRH = 9

abbrev pub TXMAXP : ℕ
TXMAXP = 10

abbrev pub RXMAXP : ℕ
RXMAXP = 11

abbrev pub INTRTXE : ℕ
INTRTXE = 12

abbrev pub INTRRXE : ℕ
INTRRXE = 13

abbrev pub INTRUSBE : ℕ
INTRUSBE = 14

abbrev pub FIFO : ℕ
FIFO = 15

-- the registers that come in pairs, by direction
abbrev pub csrh : Direction → ℕ
csrh In = TXCSRH
csrh Out = RXCSRH

abbrev pub maxp : Direction → ℕ
maxp In = TXMAXP
maxp Out = RXMAXP

abbrev pub intre : Direction → ℕ
intre In = INTRTXE
intre Out = INTRRXE
