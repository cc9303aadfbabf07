-- Two stores that list the same register and the same value are one store. Assumes nothing.
use Prim.Native.Nat.{ℕ}
use mathlib.Core.Path.{◌≡◌, refl, sym, ap, ◌∙◌}
use mathlib.Core.List.{List, [], ◌∷◌}
use lib.ListN.{get_or}
use Rattle.board.specs.declared.Direction.TheVariants.{Out, In}
use Rattle.csr.specs.declared.Csr0l.{Csr0l}
use Rattle.csr.specs.declared.Txcsrl.{Txcsrl}
use Rattle.csr.specs.declared.Rxcsrl.{Rxcsrl}
use Rattle.csr.specs.Control.{csr0l_number, txcsrl_number, rxcsrl_number, csr0l_bits, txcsrl_bits, rxcsrl_bits}
use Rattle.csr.proofs.AsWritten.{csr0l_places, txcsrl_places, rxcsrl_places}
use Rattle.store_rules.specs.Promise.{Store, faddr, power, index, csr0l, csr0h, txcsrl, rxcsrl, iso, maxp, intrusbe, intre, packet, register, value}
use Rattle.store_rules.specs.Told.{Told}
use Rattle.csr.proofs.Bits.{bit_from}
use Rattle.laws.specs.Words.{bit}

-- a control register by its number
abbrev csr0l_from : ℕ → Csr0l
csr0l_from v = csr0l_bits (bit v 0) (bit v 1) (bit v 2) (bit v 3) (bit v 4) (bit v 5) (bit v 6) (bit v 7)

abbrev txcsrl_from : ℕ → Txcsrl
txcsrl_from v = txcsrl_bits (bit v 0) (bit v 1) (bit v 2) (bit v 3) (bit v 4) (bit v 5) (bit v 6)

abbrev rxcsrl_from : ℕ → Rxcsrl
rxcsrl_from v = rxcsrl_bits (bit v 0) (bit v 1) (bit v 2) (bit v 3) (bit v 4) (bit v 5) (bit v 6) (bit v 7)

csr0l_back : (w : Csr0l) → csr0l_from (csr0l_number w) ≡ w
csr0l_back w =
    let at = bit_from _ (csr0l_places w) in
    λ t. csr0l_bits (at 0 t) (at 1 t) (at 2 t) (at 3 t) (at 4 t) (at 5 t) (at 6 t) (at 7 t)

txcsrl_back : (w : Txcsrl) → txcsrl_from (txcsrl_number w) ≡ w
txcsrl_back w =
    let at = bit_from _ (txcsrl_places w) in
    λ t. txcsrl_bits (at 0 t) (at 1 t) (at 2 t) (at 3 t) (at 4 t) (at 5 t) (at 6 t)

rxcsrl_back : (w : Rxcsrl) → rxcsrl_from (rxcsrl_number w) ≡ w
rxcsrl_back w =
    let at = bit_from _ (rxcsrl_places w) in
    λ t. rxcsrl_bits (at 0 t) (at 1 t) (at 2 t) (at 3 t) (at 4 t) (at 5 t) (at 6 t) (at 7 t)

-- the store of a register's number and a value
stores : ℕ → List Store
stores v =
    packet v
    ∷ faddr v
    ∷ power
    ∷ index v
    ∷ csr0l (csr0l_from v)
    ∷ csr0h
    ∷ txcsrl (txcsrl_from v)
    ∷ rxcsrl (rxcsrl_from v)
    ∷ iso In
    ∷ iso Out
    ∷ maxp In v
    ∷ maxp Out v
    ∷ intre In v
    ∷ intre Out v
    ∷ intrusbe
    ∷ packet v
    ∷ []

-- is the store that lists them
named : (o : Store) → get_or (stores (value o)) (register o) power ≡ o
unfolding stores
named (faddr a) = refl
named power = refl
named (index e) = refl
named (csr0l w) = ap csr0l (csr0l_back w)
named csr0h = refl
named (txcsrl w) = ap txcsrl (txcsrl_back w)
named (rxcsrl w) = ap rxcsrl (rxcsrl_back w)
named (iso Out) = refl
named (iso In) = refl
named (maxp Out n) = refl
named (maxp In n) = refl
named intrusbe = refl
named (intre Out v) = refl
named (intre In v) = refl
named (packet n) = refl

pub told : Told
told o p r v = sym (named o) ∙ (λ i. get_or (stores (v i)) (r i) power) ∙ named p
