use Rattle.std.proofs.lemmas.Result.{on_ok_weaker, on_err_weaker}
use Prim.Native.Nat.{ℕ}
use native.Mathlib.Omega.{arith}
use mathlib.Core.Path.{ap}
use borrow.Author.Rules.{rules}
use lib.ListN.{length-take}
use Rattle.trace_rules.specs.Lines.{end_line, bad_line}
use Rattle.report_rules.specs.Act.{state}
use Rattle.report_rules.specs.Report.{beginning}
use Rattle.trace_reporter.proofs.Reaching.{stands_first, line_here, stands_next, ends_here, stops_here, moved, told_nothing, told_on, told_no_more, told_is_left, left_on, of_error}
use Rattle.trace_reporter.proofs.Detailing.{shown_first, shown_next, shown_end, shown_bad}
use Rattle.trace_reporter.proofs.put_entries.Goals as goal

pub loop-len-init : goal.loop-len-init
loop-len-init g c =
    (search rules, search rules, search rules, search rules, search rules, stands_first _ _ _ c.store_list-list.ensures c.requires.1, omega arith, λ _. told_nothing _ _ _ _, λ _. shown_first _ _ _ (ap (state c.args.start c.args.first) c.store_list-list.ensures))

pub put-requires : goal.put-requires
put-requires g c =
    let i = c.loop-len.invariant in
    let m = moved c.args.trace.now c.loop-len.at c.loop-len.line c.step-r.ensures.moves c.in-Line.is in
    (omega (arith, m.0, i.2, i.3, i.4, i.5.small, c.requires.0, length-take {A = ℕ}), line_here _ _ _ _ _ _ _ _ i.5 c.loop-len.line c.step-r.ensures.line_after c.step-r.ensures.moves c.requires.0 _ _ c.in-Line.is)

pub loop-len-preserved : goal.loop-len-preserved
loop-len-preserved g c =
    let i = c.loop-len.invariant in
    let m = moved c.args.trace.now c.loop-len.at c.loop-len.line c.step-r.ensures.moves c.in-Line.is in
    let x = beginning c.args.start c.args.first in
    let s = c.args.trace.now in (
      search rules,
      search rules,
      search rules,
      omega (arith, i.3, m.1),
      m.2,
      stands_next _ _ _ _ _ _ _ _ i.5 c.loop-len.line c.step-r.ensures.line_after c.step-r.ensures.moves _ _ c.in-Line.is (omega (arith, m.0)) (omega (arith, m.0, i.2)) (omega (arith, m.0, c.put.ensures.place, length-take {A = ℕ})),
      omega (arith, i.6, c.put.ensures.place),
      λ d. told_no_more x s _ _ _ _ _ (told_on x s _ _ _ _ _ _ i.6 (omega (arith, c.put.ensures.place)) (i.7 d) c.in_ok-put-in-Line.ensures.told) (c.put_details.ensures.none d),
      λ d. shown_next x s _ _ _ _ _ (i.8 d) c.loop-len.line c.step-r.ensures.line_after _ _ _ _ c.in-Line.is m.0 c.in_ok-put-in-Line.ensures.bytes (c.in_ok-put_details-in-Line.ensures.both d),
    )

pub put_last-requires : goal.put_last-requires
unfolding end_line
put_last-requires g c =
    let i = c.loop-len.invariant in
    (search rules, omega (arith, i.3, i.4, i.5.small, c.requires.0), ends_here _ _ _ _ _ _ _ _ i.5 c.loop-len.line c.step-r.ensures.line_after c.step-r.ensures.moves c.requires.0 c.in-End.is)

pub returns-in-End-clause-told : goal.returns-in-End-clause-told
returns-in-End-clause-told g c =
    let i = c.loop-len.invariant in
    let last = ends_here _ _ _ _ _ _ _ _ i.5 c.loop-len.line c.step-r.ensures.line_after c.step-r.ensures.moves c.requires.0 c.in-End.is in
    λ d. on_ok_weaker _ (told_on (beginning c.args.start c.args.first) c.args.trace.now _ _ _ _ _ _ i.6 (omega (arith, last.whole, c.put_last.ensures.place)) (i.7 d)) c.put_last.ensures.told

pub put_last-requires-in-Bad : goal.put_last-requires-in-Bad
unfolding bad_line
put_last-requires-in-Bad g c =
    let i = c.loop-len.invariant in
    (search rules, omega (arith, i.3, i.4, i.5.small, c.requires.0), stops_here _ _ _ _ _ _ _ _ i.5 c.loop-len.line c.step-r.ensures.line_after c.step-r.ensures.moves c.requires.0 c.in-Bad.is)

pub returns-in-Bad-clause-told : goal.returns-in-Bad-clause-told
returns-in-Bad-clause-told g c =
    let i = c.loop-len.invariant in
    let last = stops_here _ _ _ _ _ _ _ _ i.5 c.loop-len.line c.step-r.ensures.line_after c.step-r.ensures.moves c.requires.0 c.in-Bad.is in
    λ d. on_ok_weaker _ (told_on (beginning c.args.start c.args.first) c.args.trace.now _ _ _ _ _ _ i.6 (omega (arith, last.whole, c.put_last-in-Bad.ensures.place)) (i.7 d)) c.put_last-in-Bad.ensures.told

pub returns-in_err-put-in-Line-clause-left : goal.returns-in_err-put-in-Line-clause-left
returns-in_err-put-in-Line-clause-left g c =
    let i = c.loop-len.invariant in
    λ d. of_error c.from_residual.result (left_on (beginning c.args.start c.args.first) c.args.trace.now _ _ _ _ _ i.6 (i.7 d) c.in_err-put-in-Line.ensures.left)

pub returns-in_err-put_details-in-Line-clause-left : goal.returns-in_err-put_details-in-Line-clause-left
returns-in_err-put_details-in-Line-clause-left g c =
    let i = c.loop-len.invariant in
    let x = beginning c.args.start c.args.first in
    let s = c.args.trace.now in
    λ d. of_error c.from_residual-in_err-put_details-in-Line.result (told_is_left x s _ _ _ _ (told_no_more x s _ _ _ _ _ (told_on x s _ _ _ _ _ _ i.6 (omega (arith, c.put.ensures.place)) (i.7 d) c.in_ok-put-in-Line.ensures.told) (c.put_details.ensures.none d)))

pub returns-in-End-clause-left : goal.returns-in-End-clause-left
returns-in-End-clause-left g c =
    let i = c.loop-len.invariant in
    λ d. on_err_weaker _ (left_on (beginning c.args.start c.args.first) c.args.trace.now _ _ _ _ _ i.6 (i.7 d)) c.put_last.ensures.left

pub returns-in-Bad-clause-left : goal.returns-in-Bad-clause-left
returns-in-Bad-clause-left g c =
    let i = c.loop-len.invariant in
    λ d. on_err_weaker _ (left_on (beginning c.args.start c.args.first) c.args.trace.now _ _ _ _ _ i.6 (i.7 d)) c.put_last-in-Bad.ensures.left

pub returns-in-End-clause-detailed : goal.returns-in-End-clause-detailed
unfolding end_line
returns-in-End-clause-detailed g c =
    λ d. on_ok_weaker _ (shown_end (beginning c.args.start c.args.first) c.args.trace.now _ _ _ _ _ (c.loop-len.invariant.8 d) c.loop-len.line c.step-r.ensures.line_after _ c.in-End.is) c.put_last.ensures.bytes

pub returns-in-Bad-clause-detailed : goal.returns-in-Bad-clause-detailed
unfolding bad_line
returns-in-Bad-clause-detailed g c =
    λ d. on_ok_weaker _ (shown_bad (beginning c.args.start c.args.first) c.args.trace.now _ _ _ _ _ (c.loop-len.invariant.8 d) c.loop-len.line c.step-r.ensures.line_after _ c.in-Bad.is) c.put_last-in-Bad.ensures.bytes
