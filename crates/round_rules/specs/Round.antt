-- What a round of `poll` tells: its three masks.
-- Assumes nothing.
use Rattle.std.specs.Prelude.{ℕ, Bool, not, ◌||◌, cond, eqb}
use Rattle.round_rules.specs.declared.Masks.{Masks}
use Rattle.round_rules.specs.declared.PollResult.{PollResult}
use Rattle.round_rules.specs.declared.PollResult.TheVariants.{None, Data}

-- `if in_complete != 0 || out != 0 || setup { Data { .. } } else { None }`
abbrev pub masks : ℕ → ℕ → Bool → Masks
masks out sent setup = record { ep_out = out; ep_in_complete = sent; ep_setup = cond setup 1 0 }

unfoldable pub told : ℕ → ℕ → Bool → PollResult
told out sent setup = cond (not (eqb sent 0) || not (eqb out 0) || setup) (Data (masks out sent setup)) None
