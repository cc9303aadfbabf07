-- Document 01's table of replies, the rows of `read`: "Given exactly when"; and document 02's reply 18.
-- Assumes nothing.
use Rattle.std.specs.Prelude.{ℕ, ◌≤◌, ◌<◌, ◌≡◌, ◌⊎◌, false, List, [], ◌∷◌}
use Rattle.board.specs.declared.Direction.TheVariants.{Out}
use Rattle.register_file.specs.Registers.{side_at}
use Rattle.control_state.specs.declared.ControlStateEnum.{ControlStateEnum}
use Rattle.control_state.specs.declared.ControlStateEnum.TheVariants.{Setup, DataOut}
use Rattle.record.specs.declared.Record.{Record}
use Rattle.record.specs.Record.{endpoints_of, need_of, SoundRecord}
use Rattle.record.specs.Rows.{Row, row}

-- "endpoint 0 read outside Setup and DataOut"
abbrev pub Unreadable : ControlStateEnum → Type 0
Unreadable s = (s ≡ Setup → ⊥) × (s ≡ DataOut → ⊥)

-- "Setup read, packet not 8 bytes or buffer under 8"
abbrev pub Unset : ControlStateEnum → ℕ → ℕ → Type 0
Unset s len room = (s ≡ Setup) × ((len ≡ 8 → ⊥) ⊎ (room < 8))

-- the caller's buffer has room for so many bytes; so many bytes of FIFO memory and so many numbers of a list are lent. "15, 16, 8, then ..
-- read 6, 12, 13"; document 02, T-02: "reply 18, after 13 in a read", a buffer under the packet's length
abbrev pub read_rows : Record → ℕ → ℕ → ℕ → ℕ → List Row
read_rows k ep room fifo list =
    row 15 ((fifo < need_of k) ⊎ (list < 384))
    ∷ row 16 (SoundRecord k → ⊥)
    ∷ row 8 (endpoints_of k ≤ ep)
    ∷ row 6 ((side_at k.regs.words ep Out).ready ≡ false)
    ∷ row 12 ((ep ≡ 0) × Unreadable k.control_state.state)
    ∷ row 13 ((ep ≡ 0) × Unset k.control_state.state (side_at k.regs.words ep Out).len room)
    ∷ row 18 (room < (side_at k.regs.words ep Out).len)
    ∷ []
