-- No second outcome meets the contract of `step`: what it gives back, the FIFO, the list and the line are one.
-- An exit has a place for each argument: the FIFO's is the fourth, the list's the fifth, the line's the sixth.
-- Assumes nothing.
use mathlib.Core.Path.{◌≡◌, sym, ap, ◌∙◌}
use contract.Lifetimes.{Lfts}
use borrow.Fn.Kinds.{Dens, res_t, ended_of}
use denote.Triple.Clauses.{AtExit}
use Rattle.report_rules.specs.Report.{StepOutcome}
use Rattle.trace_step.proofs.step.Kinds as kinds
use Rattle.trace_step.proofs.step.Reads as reads

pub once : (κs : Lfts 4) (a : Dens κs kinds.ps) (x y : (res_t kinds.r κs).Denot) (e f : AtExit (ended_of 4 kinds.ps kinds.r) κs) → reads.Post κs a x e → reads.Post κs a y f
    → (x ≡ y) × (e.1.1.1.0.now ≡ f.1.1.1.0.now) × (e.1.1.1.1.0.now ≡ f.1.1.1.1.0.now) × (e.1.1.1.1.1.0.now ≡ f.1.1.1.1.1.0.now)
once κs a x y e f p q = (
  ap (λ (o : StepOutcome). o.result) (p.0 ∙ sym q.0),
  ap (λ (o : StepOutcome). o.fifo) (p.0 ∙ sym q.0),
  ap (λ (o : StepOutcome). o.list) (p.0 ∙ sym q.0),
  ap (λ (o : StepOutcome). o.line) (p.0 ∙ sym q.0),
)
