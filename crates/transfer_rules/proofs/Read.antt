-- A packet that waits where the record passes reply 16's test fits its area. Assumes nothing.
use Prim.Native.Nat.{ℕ, ◌≤◌}
use mathlib.Core.Path.{◌≡◌}
use mathlib.Core.Bool.{true}
use mathlib.Core.List.{[]}
use Rattle.board.specs.declared.Board.{Board}
use Rattle.board.specs.declared.Direction.TheVariants.{Out}
use Rattle.register_file.specs.Registers.{File}
use Rattle.control_state.specs.Control.{idle}
use Rattle.control_state.specs.declared.ControlState.{ControlState}
use Rattle.record.specs.declared.Flags.{Flags}
use Rattle.record.specs.declared.Record.{Record}
use Rattle.record.specs.Record.{area_in, area_of, passes, record_sound}
use Rattle.record.proofs.Passing.{record_is_sound, waiting_fits}
use Rattle.transfer_rules.specs.Peek.{rx_count}

-- a record with these parts
abbrev pub whole : Board → File → ControlState → Flags → Record
whole b w c f = record { regs = record { board = b; words = w }; endpoints = []; control_state = c; irq = f }

-- the packet that waits fits its area, because the record passes reply 16's test
pub packet_fits : (b : Board) (w : File) (f : Flags) (ep : ℕ) → passes b w f ≡ true → rx_count ep w ≤ (area_in b ep Out).size
unfolding record_sound area_of
packet_fits b w f ep p = waiting_fits (whole b w idle f) (record_is_sound (whole b w idle f) p) ep Out
