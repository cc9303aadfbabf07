-- `trace_details::shown_at` meets its contract.
-- Assumes nothing.
use mathlib.Core.Path.{refl, ap, ◌∙◌}
use Rattle.csr.specs.Control.{txcsrl_number, rxcsrl_number}
use Rattle.detail_rules.proofs.DetailWritten.{shown_zero, shown_other}
use Rattle.trace_details.proofs.shown_at.Goals as goal

pub returns-then-e-eq0 : goal.returns-then-e-eq0
returns-then-e-eq0 c = shown_zero _ _ c.if-e-eq0.true

pub returns : goal.returns
returns c = shown_other _ _ c.if-e-eq0.false c.side_at-tx.ensures c.side_at-rx.ensures (c.number.ensures ∙ ap txcsrl_number c.of.ensures)
    (c.number-2.ensures ∙ ap rxcsrl_number c.of-2.ensures) c.weight.ensures.0 c.weight-2.ensures.0 refl refl
