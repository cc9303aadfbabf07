-- A step that may fail, and the next with what it gave: what holds of the whole, and what was given where it did not fail.
-- Assumes nothing.
use Rattle.std.specs.Prelude.{Option, Some, None}
use mathlib.Core.Path.{◌≡◌, refl}
use mathlib.Core.Bool.{Bool, true, false, cond}
use Rattle.trace_rules.specs.Steps.{◌>>=◌}

module _ {A B : Type 0} where
  -- P of the whole: of no result, and of the next step with what the first gave
  pub step : (P : Option B → Type 0) (x : Option A) (k : A → Option B) → P None → ((a : A) → x ≡ Some a → P (k a)) → P (x >>= k)
  step P None k none some = none
  step P (Some a) k none some = some a refl

  pub gave : (x : Option A) (k : A → Option B) {b : B} → (x >>= k) ≡ Some b → (a : A) × (x ≡ Some a) × (k a ≡ Some b)
  gave None k e = cc
  gave (Some a) k e = (a, refl, e)

-- P of a choice
pub either : {B : Type 0} (P : B → Type 0) (t : Bool) {x y : B} → P x → P y → P (cond t x y)
either P true p q = p
either P false p q = q
