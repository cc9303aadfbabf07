-- The tests of the call `read`, in document 01's order, and behind them document 02's.
-- Assumes nothing.
use Rattle.std.specs.Prelude.{ℕ, Bool, true, false, not, ◌&&◌, ◌||◌, ltb, eqb}
use Rattle.board.specs.declared.Board.{Board}
use Rattle.register_file.specs.Registers.{File}
use Rattle.transfer_rules.specs.declared.Verdict.{Verdict}
use Rattle.transfer_rules.specs.declared.Verdict.TheVariants as verdict
use Rattle.transfer_rules.specs.Peek.{first_tests, has_rx_pkt_rdy, rx_count, tests_by}
use Rattle.control_state.specs.declared.ControlState.{ControlState}
use Rattle.control_state.specs.declared.ControlStateEnum.{ControlStateEnum}
use Rattle.control_state.specs.declared.ControlStateEnum.TheVariants.{Idle, Setup, DataIn, DataOut, Accepted, NodataPhase}
use Rattle.record.specs.declared.Flags.{Flags}
use Rattle.record.specs.declared.Record.{Record}
use Rattle.record.specs.declared.Refusal.TheVariants.{NotReadable, NotSetup, BufferOverflow}

-- the tests --------------------------------------------------------------------------------------------------------------------

-- the waiting packet's length: `count0` or `rxcount`, as it reads once the endpoint is selected
unfoldable pub waiting : Record → ℕ → ℕ
waiting k ep = rx_count ep k.regs.words

-- reply 12: "endpoint 0 read outside Setup and DataOut"
abbrev pub unreadable_in : ControlStateEnum → Bool
unreadable_in Idle = true
unreadable_in Setup = false
unreadable_in DataIn = true
unreadable_in DataOut = false
unreadable_in Accepted = true
unreadable_in NodataPhase = true

unfoldable pub not_readable : ControlState → ℕ → Bool
not_readable c ep = eqb ep 0 && unreadable_in c.state

-- reply 13: "Setup read, packet not 8 bytes or buffer under 8"
abbrev pub not_setup_in : ControlStateEnum → ℕ → ℕ → Bool
not_setup_in Idle n room = false
not_setup_in Setup n room = not (eqb n 8) || ltb room 8
not_setup_in DataIn n room = false
not_setup_in DataOut n room = false
not_setup_in Accepted n room = false
not_setup_in NodataPhase n room = false

unfoldable pub not_setup : File → ControlState → ℕ → ℕ → Bool
not_setup w c ep room = eqb ep 0 && not_setup_in c.state (rx_count ep w) room

-- reply 18 (document 02, T-02): the caller's buffer is shorter than the waiting packet. "A buffer of exactly the packet's length is enough, and
-- an empty packet fits any buffer."
unfoldable pub overflows : File → ℕ → ℕ → Bool
overflows w ep room = ltb room (rx_count ep w)

-- "then .. read 6, 12, 13"; document 02: "reply 18, after 13 in a read"
abbrev pub own_tests : Bool → Bool → Bool → Bool → Verdict
own_tests true unreadable unset over = verdict.Blocked
own_tests false true unset over = verdict.Refused NotReadable
own_tests false false true over = verdict.Refused NotSetup
own_tests false false false true = verdict.Refused BufferOverflow
own_tests false false false false = verdict.Clear

-- reply 6: "read: RxPktRdy clear", as it reads once the endpoint is selected
unfoldable pub own_tests_at : File → ControlState → ℕ → ℕ → Verdict
own_tests_at w c ep room = own_tests (not (has_rx_pkt_rdy ep w)) (not_readable c ep) (not_setup w c ep room) (overflows w ep room)

-- "Order: 15, 16, 8, then .."
unfoldable pub tests_in : Board → File → ControlState → Flags → ℕ → ℕ → ℕ → ℕ → Verdict
tests_in b w c f ep room fifo list = tests_by (first_tests b w f ep fifo list) (own_tests_at w c ep room)

unfoldable pub tests : Record → ℕ → ℕ → ℕ → ℕ → Verdict
tests k ep room fifo list = tests_in k.regs.board k.regs.words k.control_state k.irq ep room fifo list
