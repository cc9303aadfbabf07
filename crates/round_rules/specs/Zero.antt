-- Endpoint 0 and the Accepted step, in one round of `poll`.
-- Assumes nothing.
use Rattle.std.specs.Prelude.{Bool, true, false, cond, eqb}
use Rattle.laws.specs.Words.{bit, raised, clear}
use Rattle.csr.specs.declared.Csr0lSet.TheVariants.{ServicedSetupEnd}
use Rattle.register_file.specs.Control.{csr0l_read, count0}
use Rattle.store_rules.specs.Stores.{Log, write_index, modify_csr0l}
use Rattle.control_state.specs.declared.ControlState.{ControlState}
use Rattle.control_state.specs.declared.ControlStateEnum.{ControlStateEnum}
use Rattle.control_state.specs.declared.ControlStateEnum.TheVariants.{Idle, Setup, DataIn, DataOut, Accepted, NodataPhase}
use Rattle.control_state.specs.Control.{with_state, with_tx_len}
use Rattle.record.specs.declared.Flags.{Flags}
use Rattle.record.specs.Record.{with_ep0, with_tx, with_rx}

-- what the steps of a round change: the log, the control state, the flags, and the source's `setup`
pub record Round : Type 0 where
  pub log : Log
  pub control : ControlState
  pub irq : Flags
  pub setup : Bool

abbrev pub round : Log → ControlState → Flags → Bool → Round
round g c f s = record { log = g; control = c; irq = f; setup = s }

-- `(false, false)`: in DataIn "interrupt generated due to a packet has been transmitted"
unfoldable pub sent_by : ControlStateEnum → Flags → Flags
sent_by DataIn f = with_tx f (raised f.ep_tx 0)
sent_by Idle f = f
sent_by Setup f = f
sent_by DataOut f = f
sent_by Accepted f = f
sent_by NodataPhase f = f

-- a packet of eight bytes in Idle is a Setup packet: `match count { 8 => .., _ => warn!(..) }`
unfoldable pub setup_taken : Log → ControlState → Flags → Round
setup_taken g c f =
    cond (eqb (count0 g.regs) 8) (round (modify_csr0l ServicedSetupEnd g) (with_state c Setup) f true) (round g c f false)

-- in DataIn the packet that follows `setup_end`: serviced, Idle and nothing remaining, and then Setup where it has eight bytes
unfoldable pub restarted : Log → ControlState → Flags → Round
restarted g c f =
    cond (eqb (count0 g.regs) 8)
    (round (modify_csr0l ServicedSetupEnd g) (with_state (with_tx_len (with_state c Idle) 0) Setup) f true)
    (round (modify_csr0l ServicedSetupEnd g) (with_tx_len (with_state c Idle) 0) f false)

unfoldable pub cut_short : Log → ControlState → Flags → Round
cut_short g c f = cond (csr0l_read g.regs).setup_end (restarted g c f) (round g c f false)

-- `(true, _)`: a packet waits at endpoint 0
unfoldable pub received_by : ControlStateEnum → Log → ControlState → Flags → Round
received_by Idle g c f = setup_taken g c f
received_by DataOut g c f = round g c (with_rx f (raised f.ep_rx 0)) false
received_by DataIn g c f = cut_short g c f
received_by Setup g c f = round g c f false
received_by Accepted g c f = round g c f false
received_by NodataPhase g c f = round g c f false

-- `match (rx_pkt_rdy, tx_pkt_rdy)`, after `IRQ_EP0.store(false, ..)`, which stands in each of its cases
abbrev pub zero_by : Bool → Bool → Log → ControlState → Flags → Round
zero_by true tx g c f = received_by c.state g c f
zero_by false false g c f = round g c (sent_by c.state f) false
zero_by false true g c f = round g c f false

unfoldable pub zero_served : Log → ControlState → Flags → Round
zero_served g c f = zero_by (csr0l_read g.regs).rx_pkt_rdy (csr0l_read g.regs).tx_pkt_rdy g c (with_ep0 f false)

-- `if IRQ_EP0.load(..) { index().write(0) .. }`
unfoldable pub endpoint_zero : Log → ControlState → Flags → Round
endpoint_zero g c f = cond f.ep0 (zero_served (write_index 0 g) c f) (round g c f false)

-- what the Accepted step changes
pub record AfterAccept : Type 0 where
  pub control_state : ControlState
  pub irq : Flags

abbrev pub after_accept : ControlState → Flags → AfterAccept
after_accept c f = record { control_state = c; irq = f }

-- the Accepted step: a receive flag of endpoint 0 "will be addressed in the next poll"
unfoldable pub put_back : Flags → Flags
put_back f = cond (bit f.ep_rx 0) (with_rx (with_ep0 f true) (clear f.ep_rx 0)) f

unfoldable pub accepted_by : ControlStateEnum → ControlState → Flags → AfterAccept
accepted_by Accepted c f = record { control_state = with_state c Idle; irq = with_tx (put_back f) (raised (put_back f).ep_tx 0) }
accepted_by Idle c f = record { control_state = c; irq = f }
accepted_by Setup c f = record { control_state = c; irq = f }
accepted_by DataIn c f = record { control_state = c; irq = f }
accepted_by DataOut c f = record { control_state = c; irq = f }
accepted_by NodataPhase c f = record { control_state = c; irq = f }

unfoldable pub accept_step : ControlState → Flags → AfterAccept
accept_step c f = accepted_by c.state c f
