-- Each control state has its own number. Assumes nothing.
use Prim.Native.Nat.{ℕ}
use mathlib.Core.Path.{◌≡◌, refl, sym, ap, ◌∙◌}
use mathlib.Core.List.{List, [], ◌∷◌}
use lib.ListN.{get_or}
use Rattle.control_state.specs.declared.ControlStateEnum.{ControlStateEnum}
use Rattle.control_state.specs.declared.ControlStateEnum.TheVariants.{Idle, Setup, DataIn, DataOut, Accepted, NodataPhase}
use Rattle.control_state.specs.Numbers.{state_number}

states : List ControlStateEnum
states = Idle ∷ Setup ∷ DataIn ∷ DataOut ∷ Accepted ∷ NodataPhase ∷ []

stands : (s : ControlStateEnum) → get_or states (state_number s) Idle ≡ s
unfolding states
stands Idle = refl
stands Setup = refl
stands DataIn = refl
stands DataOut = refl
stands Accepted = refl
stands NodataPhase = refl

pub number_tells : (s t : ControlStateEnum) → state_number s ≡ state_number t → s ≡ t
number_tells s t e = sym (stands s) ∙ ap (λ (n : ℕ). get_or states n Idle) e ∙ stands t
