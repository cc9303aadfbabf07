-- A number that is taken apart into bits, a type, a state or a mark, and printed again: computed at every number of its range.
-- Assumes nothing.
use Prim.Native.Nat.{ℕ, ◌+◌, ◌<◌}
use native.Mathlib.Nat.{mod-eq_of_lt}
use native.Mathlib.Omega.{arith}
use mathlib.Core.Path.{◌≡◌, ap, ◌∙◌}
use mathlib.Core.Logic.{inl, inr}
use mathlib.Core.Bool.{Bool, cond}
use mathlib.Core.List.{List}
use lib.Dec.{eqb, eqb→eq}
use Rattle.laws.specs.Words.{bit}
use Rattle.laws.proofs.Range.{all_at}
use Rattle.csr.specs.Control.{txcsrl_of, rxcsrl_of, csr0l_number, txcsrl_number, rxcsrl_number}
use Rattle.board.specs.declared.Direction.TheVariants.{Out, In}
use Rattle.register_file.specs.Registers.{File, setupend, side_at}
use Rattle.register_file.specs.Control.{csr0l_read}
use Rattle.endpoints.specs.Endpoints.{type_number, type_of}
use Rattle.control_state.specs.Numbers.{state_number}
use Rattle.detail_rules.specs.DetailNumbers.{csr0l_at}
use Rattle.detail_rules.specs.Given.{long_at, word_at, truth_at, zero_tx, zero_rx, side_from, state_of}
use Rattle.detail_rules.specs.GivenPrinted.{Csr0lReads, TxcsrlReads, RxcsrlReads, IsoReads}

-- a number below 64, and below 128, by its bits
six : ℕ → Bool
unfolding bit
six v = eqb (cond (bit v 0) 1 0 + cond (bit v 1) 2 0 + cond (bit v 2) 4 0 + cond (bit v 3) 8 0 + cond (bit v 4) 16 0 + cond (bit v 5) 32 0) v

of_six : (v : ℕ) → v < 64 → cond (bit v 0) 1 0 + cond (bit v 1) 2 0 + cond (bit v 2) 4 0 + cond (bit v 3) 8 0 + cond (bit v 4) 16 0 + cond (bit v 5) 32 0 ≡ v
unfolding six
of_six v h = eqb→eq _ _ (all_at six 64 tt v h)

seven : ℕ → Bool
unfolding bit
seven v =
    eqb (cond (bit v 0) 1 0 + cond (bit v 1) 2 0 + cond (bit v 2) 4 0 + cond (bit v 3) 8 0 + cond (bit v 4) 16 0 + cond (bit v 5) 32 0 + cond (bit v 6) 64 0) v

of_seven : (v : ℕ) → v < 128
    → cond (bit v 0) 1 0 + cond (bit v 1) 2 0 + cond (bit v 2) 4 0 + cond (bit v 3) 8 0 + cond (bit v 4) 16 0 + cond (bit v 5) 32 0 + cond (bit v 6) 64 0 ≡ v
unfolding seven
of_seven v h = eqb→eq _ _ (all_at seven 128 tt v h)

-- the three control registers
pub csr0l_back : (ns : List ℕ) (w : File) → Csr0lReads (word_at ns 9) → side_at w 0 In ≡ zero_tx ns → side_at w 0 Out ≡ zero_rx ns
    → setupend w ≡ bit (word_at ns 9) 4 → csr0l_at w ≡ word_at ns 9
unfolding csr0l_at csr0l_number csr0l_read zero_tx zero_rx
csr0l_back ns w p i o s = rw (i, o, s) (omega (arith, rw p.data_end at (of_six (word_at ns 9) p.below)))

pub txcsrl_back : (ns : List ℕ) (i : ℕ) → TxcsrlReads (word_at ns i) → txcsrl_number (txcsrl_of (side_from ns i 4)) ≡ word_at ns i
unfolding txcsrl_number txcsrl_of side_from
txcsrl_back ns i p = omega (arith, rw (p.not_empty_lem, p.flush) at (of_six (word_at ns i) p.below))

pub rxcsrl_back : (ns : List ℕ) (i : ℕ) → RxcsrlReads (word_at ns i) → rxcsrl_number (rxcsrl_of (side_from ns i 5)) ≡ word_at ns i
unfolding rxcsrl_number rxcsrl_of side_from
rxcsrl_back ns i p = omega (arith, rw (p.full, p.data_error, p.flush) at (of_seven (word_at ns i) p.below))

-- a word, the ISO bit, a mark
pub word_back : (ns : List ℕ) (i : ℕ) → long_at ns i < 65536 → word_at ns i ≡ long_at ns i
unfolding word_at
word_back ns i h = mod-eq_of_lt h

iso_lt : (v : ℕ) → IsoReads v → v < 65536
iso_lt v (inl e) = omega arith
iso_lt v (inr e) = omega arith

iso : (v : ℕ) → IsoReads v → cond (bit v 6) 64 0 ≡ v
unfolding bit
iso v (inl e) = rw e
iso v (inr e) = rw e

pub iso_back : (ns : List ℕ) (i : ℕ) → IsoReads (long_at ns i) → cond (bit (word_at ns i) 6) 64 0 ≡ long_at ns i
iso_back ns i h = ap {B = ℕ} (λ (v : ℕ). cond (bit v 6) 64 0) (word_back ns i (iso_lt (long_at ns i) h)) ∙ iso (long_at ns i) h

marked : ℕ → Bool
marked v = eqb (cond (eqb v 1) 1 0) v

pub mark_back : (ns : List ℕ) (i : ℕ) → long_at ns i < 2 → cond (truth_at ns i) 1 0 ≡ long_at ns i
unfolding truth_at marked
mark_back ns i h = eqb→eq _ _ (all_at marked 2 tt (long_at ns i) h)

-- the type and the control state
typed : ℕ → Bool
typed v = eqb (type_number (type_of v)) v

pub type_back : (v : ℕ) → v < 4 → type_number (type_of v) ≡ v
unfolding typed
type_back v h = eqb→eq _ _ (all_at typed 4 tt v h)

stated : ℕ → Bool
stated v = eqb (state_number (state_of v)) v

pub state_back : (v : ℕ) → v < 6 → state_number (state_of v) ≡ v
unfolding stated
state_back v h = eqb→eq _ _ (all_at stated 6 tt v h)
