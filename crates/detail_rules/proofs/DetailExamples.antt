-- The lines of two lists of stores, as they are printed. Assumes nothing.
use mathlib.Core.Path.{◌≡◌, refl}
use mathlib.Core.List.{[], ◌∷◌}
use Rattle.trace_rules.specs.Text.{digits, decimal, field}
use Rattle.detail_rules.specs.DetailLines.{store, stores, stores_line}

-- `  stores 3,1,1 7,1,10`
two_stores : stores_line (3 ∷ 1 ∷ 1 ∷ 7 ∷ 1 ∷ 10 ∷ 99 ∷ []) 2 ≡ 32 ∷ 32 ∷ 115 ∷ 116 ∷ 111 ∷ 114 ∷ 101 ∷ 115 ∷ 32 ∷ 51 ∷ 44 ∷ 49 ∷ 44 ∷ 49 ∷ 32 ∷ 55 ∷ 44 ∷ 49 ∷ 44 ∷ 49 ∷ 48 ∷ 10 ∷ []
unfolding stores_line stores store field decimal digits
two_stores = refl

-- `  stores`
no_store : stores_line (3 ∷ 1 ∷ 1 ∷ []) 0 ≡ 32 ∷ 32 ∷ 115 ∷ 116 ∷ 111 ∷ 114 ∷ 101 ∷ 115 ∷ 10 ∷ []
unfolding stores_line stores
no_store = refl
