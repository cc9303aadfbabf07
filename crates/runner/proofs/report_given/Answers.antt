-- `runner::report_given` meets its contract.
-- Assumes nothing.
use native.Mathlib.Omega.{arith}
use borrow.Author.Rules.{rules}
use Rattle.report_rules.specs.Report.{beginning, nothing}
use Rattle.trace_reporter.specs.Detailed.{under}
use Rattle.runner.proofs.Reading.{of_all, given_all}
use Rattle.runner.proofs.report_given.Goals as goal

pub returns-clause-written : goal.returns-clause-written
returns-clause-written g c =
    let h = c.in_ok-read_full.ensures in
    let f = c.in_ok-read_full-2.ensures in
    let e = c.in_ok-n.ensures in
    λ d. given_all nothing _ _ _ _ _ c.read_full.new.into c.read_full-2.new.into _ _ c.record_from-start.result
    (record { takes = h.bytes; count = h.bound.1; end = h.end }) (record { takes = f.bytes; count = f.bound.1; end = f.end }) (omega arith) (omega arith) c.record_from-start.ensures
    (of_all nothing (beginning c.record_from-start.result c.read_full-2.new.into) _ _ _ _ c.read_full-3.new.into _ c.in_ok-n.n (record { takes = e.bytes; count = e.bound.1; end = e.end }) (omega arith) (search rules)
    (c.in_ok-put_report.ensures.written d))

pub returns-clause-detailed : goal.returns-clause-detailed
returns-clause-detailed g c =
    let h = c.in_ok-read_full.ensures in
    let f = c.in_ok-read_full-2.ensures in
    let e = c.in_ok-n.ensures in
    λ d. given_all under _ _ _ _ _ c.read_full.new.into c.read_full-2.new.into _ _ c.record_from-start.result
    (record { takes = h.bytes; count = h.bound.1; end = h.end }) (record { takes = f.bytes; count = f.bound.1; end = f.end }) (omega arith) (omega arith) c.record_from-start.ensures
    (of_all under (beginning c.record_from-start.result c.read_full-2.new.into) _ _ _ _ c.read_full-3.new.into _ c.in_ok-n.n (record { takes = e.bytes; count = e.bound.1; end = e.end }) (omega arith) (search rules)
    (c.in_ok-put_report.ensures.detailed d))
