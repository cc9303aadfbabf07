-- w_length 0 has no data phase, for either direction; with receive size 0 no packet ends a DataOut. Assumes nothing.
use Prim.Native.Nat.{ℕ}
use mathlib.Core.Path.{◌≡◌}
use mathlib.Core.List.{List}
use native.Mathlib.Omega.{arith}
use borrow.Author.Tests.{eq-eqb, le-ltb}
use Rattle.store_rules.specs.Stores.{Log}
use Rattle.control_state.specs.Control.{with_state}
use Rattle.control_state.specs.declared.ControlState.{ControlState}
use Rattle.control_state.specs.declared.ControlStateEnum.TheVariants.{DataOut, NodataPhase}
use Rattle.record.specs.declared.Flags.{Flags}
use Rattle.transfer_rules.specs.Peek.{after, ended}
use Rattle.transfer_rules.specs.ReadZero.{w_length, set_up, data_out, read_zero}

-- "Setup with wLength 0 goes to NodataPhase with DataEnd, for either direction"
pub no_data : (b : List ℕ) (c : ControlState) (f : Flags) (g : Log) → w_length b ≡ 0 → set_up b c f g ≡ ended (with_state c NodataPhase) f g
unfolding set_up
no_data b c f g z = rw (eq-eqb (w_length b) 0 z)

-- P13: "with receive size 0 none ends", a packet of any length
pub never_ends : (n : ℕ) (c : ControlState) (f : Flags) (g : Log) → data_out n 0 c f g ≡ after c f g
unfolding data_out
never_ends n c f g = rw (le-ltb n 0 (omega arith))

-- and of the whole read: the control state stays
pub stays_out : (b : List ℕ) (n : ℕ) (c : ControlState) (f : Flags) (g : Log) → c.state ≡ DataOut → (read_zero b n 0 c f g).control ≡ c
unfolding read_zero data_out
stays_out b n c f g s = rw (s, le-ltb n 0 (omega arith))
