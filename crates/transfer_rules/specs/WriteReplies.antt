-- Document 01's table of replies, the rows of `write`: "Given exactly when".
-- Assumes nothing.
use Rattle.std.specs.Prelude.{ℕ, ◌≤◌, ◌<◌, ◌≡◌, ◌⊎◌, true, List, [], ◌∷◌}
use Rattle.board.specs.declared.Direction.TheVariants.{In}
use Rattle.register_file.specs.Registers.{side_at}
use Rattle.control_state.specs.declared.ControlStateEnum.{ControlStateEnum}
use Rattle.control_state.specs.declared.ControlStateEnum.TheVariants.{Idle, Setup, DataOut, Accepted, NodataPhase}
use Rattle.record.specs.declared.Record.{Record}
use Rattle.record.specs.Record.{endpoints_of, area_of, need_of, SoundRecord}
use Rattle.record.specs.Rows.{Row, row}

-- "endpoint 0 write: non-empty in NodataPhase or Idle, or any in Setup, DataOut, Accepted"
abbrev pub Untaken : ControlStateEnum → ℕ → Type 0
Untaken s n = ((0 < n) × ((s ≡ NodataPhase) ⊎ (s ≡ Idle))) ⊎ ((s ≡ Setup) ⊎ ((s ≡ DataOut) ⊎ (s ≡ Accepted)))

-- n bytes are written; so many bytes of FIFO memory and so many numbers of a list are lent. "15, 16, 8, then write 6, 9, 11"
abbrev pub write_rows : Record → ℕ → ℕ → ℕ → ℕ → List Row
write_rows k ep n fifo list =
    row 15 ((fifo < need_of k) ⊎ (list < 384))
    ∷ row 16 (SoundRecord k → ⊥)
    ∷ row 8 (endpoints_of k ≤ ep)
    ∷ row 6 ((side_at k.regs.words ep In).ready ≡ true)
    ∷ row 9 ((area_of k ep In).size < n)
    ∷ row 11 ((ep ≡ 0) × Untaken k.control_state.state n)
    ∷ []
