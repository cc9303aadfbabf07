-- One side of an endpoint: fresh, and with one part changed.
-- Assumes nothing.
use Rattle.std.specs.Prelude.{ℕ, true, false}
use Rattle.board.specs.declared.Direction.{Direction}
use Rattle.board.specs.declared.Direction.TheVariants.{Out, In}
use Rattle.csr.specs.declared.Side.{Side}

-- document 01: "A fresh record: registers 0, nothing waiting"
abbrev pub no_side : Side
no_side = record { ready = false; missed = false; stall = false; stalled = false; iso = false; maxp = 0; len = 0 }

-- a side with one part changed
abbrev pub with_iso : Side → Side
with_iso s = record { ready = s.ready; missed = s.missed; stall = s.stall; stalled = s.stalled; iso = true; maxp = s.maxp; len = s.len }

abbrev pub with_maxp : ℕ → Side → Side
with_maxp n s = record { ready = s.ready; missed = s.missed; stall = s.stall; stalled = s.stalled; iso = s.iso; maxp = n; len = s.len }

abbrev pub with_len : ℕ → Side → Side
with_len n s = record { ready = s.ready; missed = s.missed; stall = s.stall; stalled = s.stalled; iso = s.iso; maxp = s.maxp; len = n }

-- a side of direction d is changed by what concerns direction c, where the two are one
abbrev pub towards : Direction → Direction → (Side → Side) → Side → Side
towards Out Out f s = f s
towards Out In f s = s
towards In Out f s = s
towards In In f s = f s
