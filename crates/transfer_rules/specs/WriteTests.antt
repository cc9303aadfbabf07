-- The tests of the call `write`, in document 01's order.
-- Assumes nothing.
use Rattle.std.specs.Prelude.{ℕ, Bool, true, false, not, ◌&&◌, ltb, eqb}
use Rattle.board.specs.declared.Board.{Board}
use Rattle.board.specs.declared.Direction.TheVariants.{In}
use Rattle.register_file.specs.Registers.{File}
use Rattle.transfer_rules.specs.Peek.{first_tests, has_tx_pkt_rdy, tests_by}
use Rattle.transfer_rules.specs.declared.Verdict.{Verdict}
use Rattle.transfer_rules.specs.declared.Verdict.TheVariants as verdict
use Rattle.control_state.specs.declared.ControlState.{ControlState}
use Rattle.control_state.specs.declared.ControlStateEnum.{ControlStateEnum}
use Rattle.control_state.specs.declared.ControlStateEnum.TheVariants.{Idle, Setup, DataIn, DataOut, Accepted, NodataPhase}
use Rattle.record.specs.declared.Flags.{Flags}
use Rattle.record.specs.declared.Record.{Record}
use Rattle.record.specs.declared.Refusal.TheVariants.{TooLong, NotWritable}
use Rattle.record.specs.Record.{area_in}

-- the tests --------------------------------------------------------------------------------------------------------------------

-- reply 9: "write or arrival longer than its area"
unfoldable pub too_long : Board → ℕ → ℕ → Bool
too_long b ep n = ltb (area_in b ep In).size n

-- reply 11: "endpoint 0 write: non-empty in NodataPhase or Idle, or any in Setup, DataOut, Accepted"
abbrev pub untaken_in : ControlStateEnum → ℕ → Bool
untaken_in Idle n = not (eqb n 0)
untaken_in Setup n = true
untaken_in DataIn n = false
untaken_in DataOut n = true
untaken_in Accepted n = true
untaken_in NodataPhase n = not (eqb n 0)

unfoldable pub not_writable : ControlState → ℕ → ℕ → Bool
not_writable c ep n = eqb ep 0 && untaken_in c.state n

-- "then write 6, 9, 11"
abbrev pub own_tests : Bool → Bool → Bool → Verdict
own_tests true long untaken = verdict.Blocked
own_tests false true untaken = verdict.Refused TooLong
own_tests false false true = verdict.Refused NotWritable
own_tests false false false = verdict.Clear

-- reply 6: "write: TxPktRdy set", as it reads once the endpoint is selected
unfoldable pub own_tests_at : Board → File → ControlState → ℕ → ℕ → Verdict
own_tests_at b w c ep n = own_tests (has_tx_pkt_rdy ep w) (too_long b ep n) (not_writable c ep n)

-- "Order: 15, 16, 8, then .."
unfoldable pub tests_in : Board → File → ControlState → Flags → ℕ → ℕ → ℕ → ℕ → Verdict
tests_in b w c f ep n fifo list = tests_by (first_tests b w f ep fifo list) (own_tests_at b w c ep n)

unfoldable pub tests : Record → ℕ → ℕ → ℕ → ℕ → Verdict
tests k ep n fifo list = tests_in k.regs.board k.regs.words k.control_state k.irq ep n fifo list
