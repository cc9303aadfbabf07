-- The report with an entry's stores and the record after it under each entry's line.
-- Assumes nothing.
use Rattle.std.specs.Prelude.{ℕ, min, List, ◌++◌}
use Rattle.record.specs.declared.Record.{Record}
use Rattle.report_rules.specs.Act.{State}
use Rattle.report_rules.specs.Report.{rest_with, report_with}
use Rattle.detail_rules.specs.DetailLines.{stores_line, record_line}

-- the first n stores of a list, at most 128, and a record
abbrev pub details : List ℕ → ℕ → Record → List ℕ
details l n k = stores_line l (min n 128) ++ record_line k

-- .. of what an entry leaves: its own stores, and the record after it
abbrev pub under : State → ℕ → List ℕ
under y stores = details y.list stores y.«record»

-- the report from a place on, and the whole report, with these under each entry's line (proofs/Detailing.antt, `bare`: with nothing there it is the report)
abbrev pub detailed_rest : List ℕ → ℕ → ℕ → State → List ℕ
detailed_rest s at n x = rest_with under s at n x

abbrev pub detailed_for : State → List ℕ → List ℕ
detailed_for x s = report_with under x s
