-- Tests that are joined, taken apart.
-- Assumes nothing.
use mathlib.Core.Path.{◌≡◌, refl}
use mathlib.Core.Logic.{◌⊎◌, inl, inr}
use mathlib.Core.Bool.{Bool, true, false, not, ◌&&◌, ◌||◌}
use lib.Dec.{T, T_not, not_T}

pub or_cases : (a b : Bool) → T (a || b) → T a ⊎ T b
or_cases true b t = inl tt
or_cases false b t = inr t

pub or_left : (a b : Bool) → T a → T (a || b)
or_left true b t = tt
or_left false b t = absurd t

pub or_right : (a b : Bool) → T b → T (a || b)
or_right true b t = tt
or_right false b t = t

-- neither of two
pub neither : (a b : Bool) → T (not (a || b)) → T (not a) × T (not b)
neither true b t = absurd t
neither false b t = (tt, t)

pub nor : (a b : Bool) → T (not a) → T (not b) → T (not (a || b))
nor true b t u = t
nor false b t u = u

pub and_left : (a b : Bool) → T (a && b) → T a
and_left true b t = tt
and_left false b t = t

pub and_right : (a b : Bool) → T (a && b) → T b
and_right true b t = t
and_right false b t = absurd t

pub and_both : (a b : Bool) → T a → T b → T (a && b)
and_both true b x y = y
and_both false b x y = x

pub put_down : (a b : Bool) → T b → T (not (a && not b))
put_down true b t = not_T (not b) (λ n. T_not b n t)
put_down false b t = tt

pub is_up : (a : Bool) → T a → a ≡ true
is_up true t = refl
is_up false t = absurd t

pub is_down : (a : Bool) → T (not a) → a ≡ false
is_down true t = absurd t
is_down false t = refl
