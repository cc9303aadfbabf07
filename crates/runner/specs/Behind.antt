-- Where a trace begins that a record and FIFO memory stand before.
-- Assumes nothing.
use Rattle.std.specs.Prelude.{List, ℕ, take, drop}
use Rattle.detail_rules.specs.Given.{numbers_of, record_of}
use Rattle.report_rules.specs.Act.{State}
use Rattle.report_rules.specs.Report.{beginning}

-- the record is in the first 384 bytes, and the FIFO memory is the 1,664 after them
abbrev pub begun_behind : List ℕ → State
begun_behind xs = beginning (record_of (numbers_of (take 384 xs))) (take 1664 (drop 384 xs))
