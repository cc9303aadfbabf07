-- The packet of an entry: it stays where it stands in the trace, so that an entry holds its start and its length. Document 01: "a packet is handed on as a part of
-- the trace".
-- Assumes nothing.
use Rattle.std.specs.Prelude.{ℕ, ◌+◌, List, Option, Some, None, cond, leb, length}
use Rattle.trace_rules.specs.declared.Packet.{Packet}
use Rattle.trace_rules.specs.Steps.{◌>>=◌}
use Rattle.trace_rules.specs.Arguments.{two_at}

-- the n bytes from `start` on, with the place after them, where they lie inside the trace
unfoldable pub held_in : List ℕ → ℕ → ℕ → ℕ → Option (Packet × ℕ)
held_in s e n start = cond (leb (start + n) (length s)) (Some (record { endpoint = e; start = start; len = n }, start + n)) None

-- "(endpoint, length, bytes)", "Packet bytes stand raw."
unfoldable pub packet_at : List ℕ → ℕ → Option (Packet × ℕ)
packet_at s at = do
  (e, n, start) ← two_at s at 255 65535
  held_in s e n start
