-- `trace_text::put_decimal` calls itself on n / 10, so that n falls.
-- Assumes nothing.
use Rattle.trace_text.proofs.+put_decimal.Given as goal

abbrev pub decreases-put_decimal : goal.decreases-put_decimal
decreases-put_decimal l = l.n
