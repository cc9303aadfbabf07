-- Words for what a step of the driver leaves: the registers that no side holds, and what it lists. (Of a side: Kept of csr.)
-- Assumes nothing.
use Rattle.std.specs.Prelude.{ℕ, ◌+◌, ◌≡◌, List, [], ◌∷◌, length}
use Rattle.board.specs.declared.Direction.{Direction}
use Rattle.register_file.specs.Registers.{File, faddr, power, intrusbe, intrusb, intr_of}
use Rattle.store_list.specs.Stores.{listed}
use Rattle.store_rules.specs.Stores.{Log}

-- the registers that no side holds, but for the selection, SetupEnd and the enable words of the endpoints
pub record SameRest (r q : File) : Type 0 where
  pub address : faddr q ≡ faddr r
  pub power : power q ≡ power r
  pub bus_enable : intrusbe q ≡ intrusbe r
  pub usb : intrusb q ≡ intrusb r
  pub intr : (d : Direction) → intr_of q d ≡ intr_of r d
  pub whole : length q ≡ length r

-- a store in the list: its register and its value
pub record Stored : Type 0 where
  pub register : ℕ
  pub value : ℕ

abbrev pub to : ℕ → ℕ → Stored
to register value = record { register = register; value = value }

-- the list with more stores from place n on, while endpoint e is selected
abbrev pub entered : List ℕ → ℕ → ℕ → List Stored → List ℕ
entered l n e [] = l
entered l n e (x ∷ xs) = entered (listed l n x.register e x.value) (n + 1) e xs

-- these stores were listed, in this order, and no others
pub record Lists (g h : Log) (e : ℕ) (xs : List Stored) : Type 0 where
  pub list : h.list ≡ entered g.list g.count e xs
  pub count : h.count ≡ g.count + length xs
