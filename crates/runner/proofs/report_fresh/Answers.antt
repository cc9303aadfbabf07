-- `runner::report_fresh` meets its contract.
-- Assumes nothing.
use native.Mathlib.Omega.{arith}
use borrow.Author.Rules.{rules}
use Rattle.board.specs.declared.Board.TheVariants.{Display}
use Rattle.record.specs.Record.{fresh_record}
use Rattle.report_rules.specs.Report.{begun, nothing}
use Rattle.trace_reporter.specs.Detailed.{under}
use Rattle.runner.proofs.Reading.{of_all}
use Rattle.runner.proofs.report_fresh.Goals as goal

pub returns-clause-written : goal.returns-clause-written
returns-clause-written g c =
    let e = c.in_ok-n.ensures in
    λ d. of_all nothing (begun (fresh_record Display)) _ _ _ _ c.read_full.new.into _ c.in_ok-n.n (record { takes = e.bytes; count = e.bound.1; end = e.end }) (omega arith) (search rules) (c.in_ok-put_fresh.ensures.written d)

pub returns-clause-detailed : goal.returns-clause-detailed
returns-clause-detailed g c =
    let e = c.in_ok-n.ensures in
    λ d. of_all under (begun (fresh_record Display)) _ _ _ _ c.read_full.new.into _ c.in_ok-n.n (record { takes = e.bytes; count = e.bound.1; end = e.end }) (omega arith) (search rules) (c.in_ok-put_fresh.ensures.detailed d)
