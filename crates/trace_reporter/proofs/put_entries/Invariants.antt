-- `trace_reporter::put_entries`: what holds before each step.
-- Assumes nothing.
use Rattle.std.specs.Prelude.{false, true}
use Prim.Native.Nat.{◌-◌, ◌≤◌}
use mathlib.Core.Path.{◌≡◌}
use lib.ListN.{length}
use Rattle.report_rules.specs.Act.{state}
use Rattle.report_rules.specs.Report.{beginning}
use Rattle.trace_reporter.specs.Told.{Told}
use Rattle.trace_reporter.proofs.Detailing.{Shown}
use Rattle.trace_reporter.proofs.Reaching.{Stands}
use Rattle.trace_reporter.proofs.put_entries.Given as goal

abbrev pub invariant-loop-len : goal.invariant-loop-len
invariant-loop-len g l = (length l.fifo ≡ 1664) × (length l.list ≡ 384) × (length l.line ≡ 8192) × (l.count ≤ l.at) × (l.at ≤ length l.trace) × Stands (beginning l.start l.first) l.trace l.k l.fifo l.list l.at l.count l.done
    × (l.initial.done ≤ l.done) × (l.detail ≡ false → Told (beginning l.start l.first) l.trace (g.W.Write.contents l.initial.to) (g.W.Write.contents l.to) l.initial.done l.done)
    × (l.detail ≡ true → Shown (beginning l.start l.first) l.trace (g.W.Write.contents l.initial.to) (g.W.Write.contents l.to) (state l.k l.fifo l.list) l.at l.count)

abbrev pub decreases-loop-len : goal.decreases-loop-len
decreases-loop-len g l = length l.trace - l.at
