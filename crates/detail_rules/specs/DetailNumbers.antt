-- The record as the 96 numbers of the detail report, registers as they read. The order is that of the original's own detail report
-- (oracle/README.md), so that the two can be compared line by line.
-- Assumes nothing.
use Rattle.std.specs.Prelude.{ℕ, zero, suc, Bool, cond, List, [], ◌∷◌, ◌++◌, get_or}
use Rattle.board.specs.declared.Direction.TheVariants.{Out, In}
use Rattle.register_file.specs.Registers.{File, index, faddr, power, intrusbe, enabled_of, intrusb, intr_of, side_at}
use Rattle.csr.specs.Control.{txcsrl_of, rxcsrl_of, csr0l_number, txcsrl_number, rxcsrl_number}
use Rattle.register_file.specs.Control.{csr0l_read}
use Rattle.endpoints.specs.declared.EndpointData.{EndpointData}
use Rattle.endpoints.specs.Endpoints.{type_number, blank}
use Rattle.control_state.specs.declared.ControlState.{ControlState}
use Rattle.control_state.specs.Numbers.{state_number}
use Rattle.record.specs.declared.Flags.{Flags}
use Rattle.record.specs.declared.Record.{Record}

abbrev pub flag : Bool → ℕ
flag b = cond b 1 0

unfoldable pub csr0l_at : File → ℕ
csr0l_at r = csr0l_number (csr0l_read r)

-- faddr, power, index, intrtxe, intrrxe, intrusbe, intrusb, intrtx, intrrx, csr0l.
-- "Bits of the bus interrupt register: suspend 0, resume 1, reset 2" (docs/DECISIONS.md)
unfoldable pub of_chip : File → List ℕ
of_chip r =
    faddr r ∷ power r ∷ index r
    ∷ enabled_of In r ∷ enabled_of Out r ∷ intrusbe r
    ∷ intrusb r ∷ intr_of r In ∷ intr_of r Out
    ∷ csr0l_at r
    ∷ []

-- what TXCSRL and RXCSRL read with an endpoint selected: what is read of its sides. That a selection gives the same is `selected_tx` and
-- `selected_rx` of proofs/DetailSelected.antt.
unfoldable pub txcsrl_at : File → ℕ → ℕ
txcsrl_at r e = txcsrl_number (txcsrl_of (side_at r e In))

unfoldable pub rxcsrl_at : File → ℕ → ℕ
rxcsrl_at r e = rxcsrl_number (rxcsrl_of (side_at r e Out))

-- txcsrl, rxcsrl, txcsrh, rxcsrh, txmaxp, rxmaxp; document 01: "ISO is bit 6 of TXCSRH and RXCSRH"
unfoldable pub registers_at : File → ℕ → List ℕ
registers_at r e =
    txcsrl_at r e ∷ rxcsrl_at r e
    ∷ cond (side_at r e In).iso 64 0 ∷ cond (side_at r e Out).iso 64 0
    ∷ (side_at r e In).maxp ∷ (side_at r e Out).maxp
    ∷ []

-- endpoint 0 has none of these: its bits stand in CSR0L
unfoldable pub shown_at : File → ℕ → List ℕ
shown_at r zero = 0 ∷ 0 ∷ 0 ∷ 0 ∷ 0 ∷ 0 ∷ []
shown_at r (suc e) = registers_at r (suc e)

-- the waiting transmit and receive lengths
unfoldable pub lengths_at : File → ℕ → List ℕ
lengths_at r e = (side_at r e In).len ∷ (side_at r e Out).len ∷ []

-- type, recorded transmit and receive size, used transmit, used receive
unfoldable pub of_data : EndpointData → List ℕ
of_data d =
    type_number d.ep_conf.ep_type
    ∷ d.ep_conf.tx_max_packet_size ∷ d.ep_conf.rx_max_packet_size
    ∷ flag d.used_tx ∷ flag d.used_rx
    ∷ []

unfoldable pub of_endpoint : File → EndpointData → ℕ → List ℕ
of_endpoint r d e = shown_at r e ++ lengths_at r e ++ of_data d

-- the endpoints below n, in number order
unfoldable pub of_endpoints : File → List EndpointData → ℕ → List ℕ
of_endpoints r ds zero = []
of_endpoints r ds (suc n) = of_endpoints r ds n ++ of_endpoint r (get_or ds n blank) n

-- control state, remaining length, the flags reset, suspend, resume and ep0, the transmit and receive flag words
unfoldable pub of_flags : ControlState → Flags → List ℕ
of_flags c f =
    state_number c.state ∷ c.tx_len
    ∷ flag f.reset ∷ flag f.suspend ∷ flag f.resume ∷ flag f.ep0
    ∷ f.ep_tx ∷ f.ep_rx
    ∷ []

unfoldable pub record_numbers : Record → List ℕ
record_numbers k = of_chip k.regs.words ++ of_endpoints k.regs.words k.endpoints 6 ++ of_flags k.control_state k.irq
