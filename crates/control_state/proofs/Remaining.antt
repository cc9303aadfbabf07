-- Document 01: of a fresh record "Idle, nothing remaining"; "the remaining length falls, never below 0". Assumes nothing.
use Prim.Native.Nat.{ℕ, ◌+◌, ◌≤◌}
use mathlib.Core.Path.{◌≡◌, refl}
use native.Mathlib.Omega.{arith}
use Rattle.control_state.specs.declared.ControlState.{ControlState}
use Rattle.control_state.specs.declared.ControlStateEnum.TheVariants.{Idle}
use Rattle.control_state.specs.Control.{idle, decreased}

pub fresh : (idle.state ≡ Idle) × (idle.tx_len ≡ 0)
fresh = (refl, refl)

module _ (c : ControlState) (n : ℕ) where
  pub falls : n ≤ c.tx_len → (decreased c n).tx_len + n ≡ c.tx_len
  falls h = omega arith

  pub never_below : c.tx_len ≤ n → (decreased c n).tx_len ≡ 0
  never_below h = omega arith
