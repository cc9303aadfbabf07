-- Which reply each call gives: the number of the first of its rows that holds; and that a refused call changes nothing. Assumes nothing.
use Rattle.std.specs.Prelude.{Err, Ok}
use Prim.Native.Nat.{ℕ}
use mathlib.Core.Path.{◌≡◌, refl}
use mathlib.Core.Bool.{Bool}
use mathlib.Core.List.{List}
use Rattle.board.specs.declared.Direction.{Direction}
use Rattle.store_rules.specs.Stores.{Log, write_index}
use Rattle.common_rules.specs.Common.{is_stalled}
use Rattle.record.specs.declared.Record.{Record}
use Rattle.record.specs.Record.{reply_number, record_sound, admission_by, Reply}
use Rattle.record.specs.Rows.{Row, Given}
use Rattle.record.proofs.Numbers.{not_zero}
use Rattle.record.proofs.Rows.{exactly}
use Rattle.call_rules.specs.Calls.{short, begun, beyond}
use Rattle.call_rules.specs.Replies.{endpoint_rows, Answers}
use Rattle.call_rules.proofs.Replies.{answers, at_endpoint}
use Rattle.call_rules.specs.Stall.{ep_stall, after_stall, set_stalled_call, is_stalled_call, StalledOutcome, stalled_of, stalled_number, unless_stalled}
use Rattle.call_rules.specs.StallReplies.{Tells}

-- the calls
module _ (k : Record) (l : List ℕ) where
  pub set_stalled_lem : (e : ℕ) (d : Direction) (b : Bool) → Answers (set_stalled_call k e d b l) k l (endpoint_rows k e l)
  unfolding set_stalled_call
  set_stalled_lem e d b =
      answers k l (after_stall e b k.control_state) (ep_stall d e b (begun k l)) (admission_by (short l) (record_sound k) (beyond k e)) (endpoint_rows k e l)
      (at_endpoint k e l)

-- `is_stalled`
module _ (k : Record) (l : List ℕ) (b : Bool) (g : Log) where
  abbrev left : Reply Unit → StalledOutcome
  left t = unless_stalled t k l (stalled_of k b g)

  same_number : (t : Reply Unit) → stalled_number (left t).call.answer ≡ reply_number t
  same_number (Ok tt) = refl
  same_number (Err x) = refl

  told_value : (t : Reply Unit) → stalled_number (left t).call.answer ≡ 0 → (left t).call.answer ≡ Ok b
  told_value (Ok tt) z = refl
  told_value (Err x) z = absurd (not_zero x z)

  kept : (t : Reply Unit) → (stalled_number (left t).call.answer ≡ 0 → ⊥)
      → left t ≡ record { call = record { answer = (left t).call.answer; «record» = k; stores = 0 }; list = l }
  kept (Ok tt) n = absurd (n refl)
  kept (Err x) n = refl

  tells : (t : Reply Unit) (rs : List Row) → Given (reply_number t) rs → Tells (unless_stalled t k l (stalled_of k b g)) k l rs b
  tells t rs r = record { replies = exactly rs (rw (same_number t) r); value = told_value t; unchanged = kept t }

pub is_stalled_lem : (k : Record) (e : ℕ) (d : Direction) (l : List ℕ)
    → Tells (is_stalled_call k e d l) k l (endpoint_rows k e l) (is_stalled d e (begun k l))
unfolding is_stalled_call
is_stalled_lem k e d l =
    tells k l (is_stalled d e (begun k l)) (write_index e (begun k l)) (admission_by (short l) (record_sound k) (beyond k e)) (endpoint_rows k e l) (at_endpoint k e l)
