-- The two lines of the detail report that stand under an entry's line.
-- Assumes nothing.
use Rattle.std.specs.Prelude.{ℕ, ◌≡◌, List}
use Rattle.record.specs.declared.Record.{Record}
use Rattle.detail_rules.specs.DetailLines.{stores_line, record_line}

-- the first n stores of the list, or the record
pub data Under (l : List ℕ) (n : ℕ) (k : Record) (bytes : List ℕ) : Type 0 where
  its_stores : bytes ≡ stores_line l n → Under l n k bytes
  its_record : bytes ≡ record_line k → Under l n k bytes
