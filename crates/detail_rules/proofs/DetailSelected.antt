-- What the detail report prints of an endpoint's TXCSRL and RXCSRL is what these registers read with the endpoint selected. Assumes nothing.
use Prim.Native.Nat.{ℕ}
use mathlib.Core.Path.{◌≡◌, sym, ap}
use Rattle.board.specs.declared.Direction.TheVariants.{Out, In}
use Rattle.csr.specs.declared.Side.{Side}
use Rattle.csr.specs.Control.{txcsrl_of, rxcsrl_of, txcsrl_number, rxcsrl_number}
use Rattle.register_file.specs.Registers.{File, with_index}
use Rattle.register_file.specs.Control.{txcsrl_read, rxcsrl_read}
use Rattle.register_file.proofs.Readings.{chosen_selected}
use Rattle.detail_rules.specs.DetailNumbers.{txcsrl_at, rxcsrl_at}

pub selected_tx : (r : File) (e : ℕ) → txcsrl_at r e ≡ txcsrl_number (txcsrl_read (with_index r e))
unfolding txcsrl_at
selected_tx r e = ap (λ (s : Side). txcsrl_number (txcsrl_of s)) (sym (chosen_selected r e In))

pub selected_rx : (r : File) (e : ℕ) → rxcsrl_at r e ≡ rxcsrl_number (rxcsrl_read (with_index r e))
unfolding rxcsrl_at
selected_rx r e = ap (λ (s : Side). rxcsrl_number (rxcsrl_of s)) (sym (chosen_selected r e Out))
