-- Reply 16's test of one side.
-- Assumes nothing.
use Rattle.std.specs.Prelude.{ℕ, ◌≤◌, ◌≡◌, Bool, false, cond, leb}
use Rattle.csr.specs.declared.Side.{Side}

-- reply 16: "waiting length over its area or non-zero with its ready bit clear"
unfoldable pub side_sound : ℕ → Side → Bool
side_sound size s = leb s.len (cond s.ready size 0)

-- what the test says, side by side: proofs/Soundness.antt shows that a record passes the test exactly when it is sound
pub record SideOk (size : ℕ) (s : Side) : Type 0 where
  pub fits : s.len ≤ size
  pub none : s.ready ≡ false → s.len ≡ 0
