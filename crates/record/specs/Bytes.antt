-- What a write or an arrival puts into FIFO memory, beside their definitions and apart from them.
-- Assumes nothing.
use Rattle.std.specs.Prelude.{ℕ, ◌+◌, ◌≤◌, ◌<◌, ◌≡◌, List, length, get_or}
use Rattle.board.specs.declared.Span.{Span}

-- "a write or arrival changes only the first bytes of its area": the bytes b stand there, and every other byte of FIFO memory, f before and g
-- after, is as it was
pub record Fills (area : Span) (b f g : List ℕ) : Type 0 where
  pub fits : length b ≤ area.size
  pub within : area.start + area.size ≤ length f
  pub bytes : (i : ℕ) → i < length b → get_or g (area.start + i) 0 ≡ get_or b i 0
  pub before : (i : ℕ) → i < area.start → get_or g i 0 ≡ get_or f i 0
  pub past : (i : ℕ) → area.start + length b ≤ i → get_or g i 0 ≡ get_or f i 0
  pub whole : length g ≡ length f
