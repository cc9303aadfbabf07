-- The lines of a report. Document 01: "Each line ends in one newline; one blank parts its fields".
-- Assumes nothing.
use Rattle.std.specs.Prelude.{ℕ, List, [], ◌∷◌, ◌++◌}
use Rattle.trace_rules.specs.Text.{decimal, field, fields}

-- numbers, parted by one blank: none before the first, none after the last
unfoldable pub numbers : List ℕ → List ℕ
numbers [] = []
numbers (n ∷ ns) = decimal n ++ fields ns

abbrev pub newline : List ℕ
newline = 10 ∷ []

-- an entry's line: "its code, reply and values"
unfoldable pub line : List ℕ → List ℕ
line ns = numbers ns ++ newline

-- `musb-trace 1`
unfoldable pub header : List ℕ
header = 109 ∷ 117 ∷ 115 ∷ 98 ∷ 45 ∷ 116 ∷ 114 ∷ 97 ∷ 99 ∷ 101 ∷ 32 ∷ 49 ∷ newline

-- the last line is a word and a number
abbrev pub last_line : List ℕ → ℕ → List ℕ
last_line word n = (word ++ field n) ++ newline

-- "`end` and the entry count"
unfoldable pub end_line : ℕ → List ℕ
end_line n = last_line (101 ∷ 110 ∷ 100 ∷ []) n

-- "`bad` and the offset of its first byte"
unfoldable pub bad_line : ℕ → List ℕ
bad_line at = last_line (98 ∷ 97 ∷ 100 ∷ []) at
