-- `trace_given::words` meets its contract: the endpoints before e have their sides.
-- Assumes nothing.
use Rattle.std.proofs.Common.{◌≡◌, ◌-◌}
use Rattle.detail_rules.specs.Given.{numbers_of, with_others}
use Rattle.trace_given.proofs.words.Given as goal

abbrev pub invariant-loop-e : goal.invariant-loop-e
invariant-loop-e l = l.w ≡ with_others (numbers_of l.h) (l.e - 1) l.initial.w
