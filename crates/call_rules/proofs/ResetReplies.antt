-- Which reply `reset` gives: the number of the first of its rows that holds; and that a refused one changes nothing.
-- Assumes nothing.
use Prim.Native.Nat.{ℕ}
use mathlib.Core.Bool.{false}
use mathlib.Core.List.{List}
use Rattle.record.specs.declared.Record.{Record}
use Rattle.record.specs.Record.{record_sound, admission_by}
use Rattle.call_rules.specs.Calls.{short, begun, idled}
use Rattle.call_rules.specs.Replies.{list_rows, Answers}
use Rattle.call_rules.proofs.Replies.{answers, lent}
use Rattle.call_rules.specs.Reset.{reset_stores, reset_call}

-- the calls
module _ (k : Record) (l : List ℕ) where
  pub reset : Answers (reset_call k l) k l (list_rows k l)
  unfolding reset_call
  reset =
      answers k l (idled k.control_state) (reset_stores k (begun k l)) (admission_by (short l) (record_sound k) false) (list_rows k l) (lent k l)
