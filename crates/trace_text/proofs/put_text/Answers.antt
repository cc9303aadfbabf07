-- `trace_text::put_text` meets its contract.
-- Assumes nothing.
use native.Mathlib.Omega.{arith}
use Rattle.trace_rules.proofs.Appended.{text_put}
use Rattle.trace_text.proofs.put_text.Goals as goal

pub returns : goal.returns
returns c = text_put _ c.args.s.now _ _ _ c.copy_from_slice.ensures.after (omega arith) (omega arith)
