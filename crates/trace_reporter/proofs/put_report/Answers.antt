-- `trace_reporter::put_report` meets its contract.
-- Assumes nothing.
use Rattle.std.specs.Io.KnownBytes.{Appends}
use Prim.Native.Nat.{ℕ}
use native.Mathlib.Omega.{arith}
use mathlib.Core.Path.{subst}
use borrow.Author.Rules.{rules}
use lib.ListN.{length-take}
use Rattle.trace_rules.proofs.Appended.{front}
use Rattle.trace_rules.specs.Lines.{bad_line}
use Rattle.report_rules.specs.Report.{beginning}
use Rattle.report_rules.proofs.Whole.{begins_with}
use Rattle.trace_reporter.proofs.Reaching.{from_front, too_long_here, left_on, of_error}
use Rattle.trace_reporter.proofs.Detailing.{detailed_short, detailed_long}
use Rattle.trace_reporter.proofs.put_report.Goals as goal

pub put-requires : goal.put-requires
put-requires g c =
    let e = c.header_line-len.ensures in
    (omega (arith, e.upper_bound, length-take {A = ℕ}), from_front _ _ _ e.wrote (omega (arith, e.upper_bound, c.line_buffer-line.ensures)) (begins_with _ _))

pub put_last-requires : goal.put_last-requires
unfolding bad_line
put_last-requires g c =
    let e = c.header_line-len.ensures in
    (search rules, omega (arith, e.upper_bound, c.put.ensures.place, length-take {A = ℕ}), too_long_here _ _ e.wrote (omega (arith, e.upper_bound, c.put.ensures.place, c.line_buffer-line.ensures, length-take {A = ℕ})) c.if-trace-gt65536.true)

pub returns-in_err-put_last-clause-left : goal.returns-in_err-put_last-clause-left
returns-in_err-put_last-clause-left g c =
    λ d. of_error c.from_residual-in_err-put_last.result (left_on (beginning c.args.start c.args.first) c.args.trace.now _ _ _ 0 _ (omega arith) c.in_ok-put.ensures.told c.in_err-put_last.ensures.left)

pub returns-in_err-put_entries-clause-left : goal.returns-in_err-put_entries-clause-left
returns-in_err-put_entries-clause-left g c =
    λ d. of_error c.from_residual-in_err-put_entries.result (left_on (beginning c.args.start c.args.first) c.args.trace.now _ _ _ 0 _ (omega arith) c.in_ok-put.ensures.told (c.in_err-put_entries.ensures.left d))

pub returns-then-trace-gt65536-clause-detailed : goal.returns-then-trace-gt65536-clause-detailed
unfolding bad_line
returns-then-trace-gt65536-clause-detailed g c =
    let e = c.header_line-len.ensures in
    let first = subst (Appends _ _) (front e.wrote (omega (arith, e.upper_bound, c.line_buffer-line.ensures))) c.in_ok-put.ensures.bytes in
    λ d. detailed_long _ _ _ _ _ c.if-trace-gt65536.true first c.in_ok-put_last.ensures.bytes

pub returns-clause-detailed : goal.returns-clause-detailed
returns-clause-detailed g c =
    let e = c.header_line-len.ensures in
    let first = subst (Appends _ _) (front e.wrote (omega (arith, e.upper_bound, c.line_buffer-line.ensures))) c.in_ok-put.ensures.bytes in
    λ d. detailed_short _ _ _ _ _ (omega (arith, c.if-trace-gt65536.false)) first (c.in_ok-put_entries.ensures.detailed d)
