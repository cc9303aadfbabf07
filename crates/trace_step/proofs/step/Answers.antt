-- `trace_step::step` meets its contract.
-- Assumes nothing.
use Rattle.report_rules.proofs.Steps.{carried_out, at_end, at_bad, moves_on}
use Rattle.trace_rules.proofs.Found.{within}
use Rattle.trace_step.proofs.step.Goals as goal

pub act-a-requires : goal.act-a-requires
act-a-requires c = (c.requires, within _ _ _ _ _ c.entry_at-p.ensures c.in-Found.is)

pub returns-in-Found-clause-line_after : goal.returns-in-Found-clause-line_after
returns-in-Found-clause-line_after c = carried_out _ _ _ _ _ _ _ c.entry_at-p.ensures c.in-Found.is c.act-a.ensures

pub returns-in-Found-clause-moves : goal.returns-in-Found-clause-moves
returns-in-Found-clause-moves c = moves_on _ _ c.args.line.now _ c.entry_at-p.ensures c.in-Found.is c.act-a.ensures.shown.fits

pub returns-in-End-clause-line_after : goal.returns-in-End-clause-line_after
returns-in-End-clause-line_after c = at_end _ _ _ _ _ _ _ c.entry_at-p.ensures c.in-End.is

pub returns-in-End-clause-moves : goal.returns-in-End-clause-moves
returns-in-End-clause-moves c = tt

pub returns-in-Bad-clause-line_after : goal.returns-in-Bad-clause-line_after
returns-in-Bad-clause-line_after c = at_bad _ _ _ _ _ _ _ c.entry_at-p.ensures c.in-Bad.is

pub returns-in-Bad-clause-moves : goal.returns-in-Bad-clause-moves
returns-in-Bad-clause-moves c = tt
