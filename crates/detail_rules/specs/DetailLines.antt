-- The two lines of the detail report, byte by byte.
-- Assumes nothing.
use Rattle.std.specs.Prelude.{ℕ, zero, suc, ◌+◌, ◌*◌, List, [], ◌∷◌, ◌++◌, get_or}
use Rattle.trace_rules.specs.Text.{decimal, field, fields}
use Rattle.trace_rules.specs.Lines.{newline}
use Rattle.record.specs.declared.Record.{Record}
use Rattle.detail_rules.specs.DetailNumbers.{record_numbers}

abbrev pub comma : List ℕ
comma = 44 ∷ []

-- a blank and `register,endpoint,value`
unfoldable pub store : ℕ → ℕ → ℕ → List ℕ
store register endpoint value = (((field register ++ comma) ++ decimal endpoint) ++ comma) ++ decimal value

-- the first n stores of a list. Document 01: "three a store: register, selected endpoint, value".
unfoldable pub stores : List ℕ → ℕ → List ℕ
stores l zero = []
stores l (suc n) = stores l n ++ store (get_or l (3 * n) 0) (get_or l (3 * n + 1) 0) (get_or l (3 * n + 2) 0)

-- `  stores`, and the stores
unfoldable pub stores_line : List ℕ → ℕ → List ℕ
stores_line l n = ((32 ∷ 32 ∷ 115 ∷ 116 ∷ 111 ∷ 114 ∷ 101 ∷ 115 ∷ []) ++ stores l n) ++ newline

-- `  record`, and its numbers
unfoldable pub record_line : Record → List ℕ
record_line k = ((32 ∷ 32 ∷ 114 ∷ 101 ∷ 99 ∷ 111 ∷ 114 ∷ 100 ∷ []) ++ fields (record_numbers k)) ++ newline
