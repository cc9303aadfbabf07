-- `trace_reporter::put_fresh` meets its contract.
-- Assumes nothing.
use Rattle.std.specs.Prelude.{IfOk}
use Rattle.std.specs.Io.KnownBytes.{Appends}
use Rattle.std.proofs.lemmas.Result.{on_ok_weaker, on_err_weaker}
use Prim.Native.Nat.{ℕ}
use mathlib.Core.Path.{◌≡◌, subst}
use mathlib.Core.List.{List}
use lib.ListN.{length}
use Rattle.trace_reporter.specs.Told.{AppendsFront}
use Rattle.trace_reporter.proofs.Reaching.{fresh_report, fresh_detailed}
use Rattle.trace_reporter.proofs.put_fresh.Goals as goal

pub returns-clause-count : goal.returns-clause-count
returns-clause-count g c = subst (λ (t : List ℕ). IfOk c.put_report.result (λ n. n ≡ length t)) (fresh_report _ c.args.trace.now c.fresh.ensures) c.put_report.ensures.count

pub returns-clause-written : goal.returns-clause-written
returns-clause-written g c = λ d. on_ok_weaker _ (subst (Appends _ _) (fresh_report _ c.args.trace.now c.fresh.ensures)) (c.put_report.ensures.written d)

pub returns-clause-left : goal.returns-clause-left
returns-clause-left g c = λ d. on_err_weaker _ (subst (AppendsFront _ _) (fresh_report _ c.args.trace.now c.fresh.ensures)) (c.put_report.ensures.left d)

pub returns-clause-detailed : goal.returns-clause-detailed
returns-clause-detailed g c = λ d. on_ok_weaker _ (subst (Appends _ _) (fresh_detailed _ c.args.trace.now c.fresh.ensures)) (c.put_report.ensures.detailed d)
