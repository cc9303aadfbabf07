-- Which reply each call gives: the number of the first of its rows that holds; and that a refused call changes nothing. Assumes nothing.
use Rattle.std.specs.Prelude.{Err, Ok}
use Prim.Native.Nat.{ℕ}
use mathlib.Core.Path.{◌≡◌, refl}
use mathlib.Core.Bool.{Bool, true, false, not, cond}
use mathlib.Core.List.{List}
use native.Mathlib.Omega.{arith}
use lib.Dec.{leb}
use lib.ListN.{length}
use Rattle.control_state.specs.declared.ControlState.{ControlState}
use Rattle.store_rules.specs.Stores.{Log, write_faddr}
use Rattle.common_rules.specs.Common.{bus_init}
use Rattle.record.specs.declared.Record.{Record}
use Rattle.record.specs.declared.Refusal.{Refusal}
use Rattle.record.specs.Record.{reply_number, record_sound, endpoints_of, admission_by, Reply}
use Rattle.record.specs.Rows.{Row, Given}
use Rattle.record.proofs.Rows.{exactly, none_left, tested, tells_under, tells_from, tells_over, tells_bad, first_all, first_lent}
use Rattle.call_rules.specs.Calls.{CallOutcome, stored, unless, short, begun, beyond, address_entry, bus_init_call, enable_call, address_call, force_reset_call}
use Rattle.call_rules.specs.Replies.{list_rows, address_rows, endpoint_rows, Answers}

-- a call that is refused is not done
pub not_refused : {A : Type 0} {x : Refusal} → ◌≡◌ {A = Reply Unit} (Err x) (Ok tt) → A
not_refused e = let z : ◌≡◌ {A = ℕ} 0 1 = cc in absurd (omega arith)

-- what a call leaves, by what its tests came to
module _ (k : Record) (l : List ℕ) (c : ControlState) (g : Log) where
  abbrev left : Reply Unit → CallOutcome
  left t = unless t k l (stored k c g)

  same_number : (t : Reply Unit) → reply_number (left t).call.answer ≡ reply_number t
  same_number (Ok tt) = refl
  same_number (Err x) = refl

  kept : (t : Reply Unit) → (reply_number (left t).call.answer ≡ 0 → ⊥)
      → left t ≡ record { call = record { answer = (left t).call.answer; «record» = k; stores = 0 }; list = l }
  kept (Ok tt) n = absurd (n refl)
  kept (Err x) n = refl

  pub answers : (t : Reply Unit) (rs : List Row) → Given (reply_number t) rs → Answers (unless t k l (stored k c g)) k l rs
  answers t rs r = record { replies = exactly rs (rw (same_number t) r); unchanged = kept t }

pub lent : (k : Record) (l : List ℕ) → Given (reply_number (admission_by (short l) (record_sound k) false)) (list_rows k l)
lent k l = first_lent k (short l) (tells_under (length l) 384)

pub at_endpoint : (k : Record) (e : ℕ) (l : List ℕ) → Given (reply_number (admission_by (short l) (record_sound k) (beyond k e))) (endpoint_rows k e l)
at_endpoint k e l = first_all k (short l) (beyond k e) (tells_under (length l) 384) (tells_from (endpoints_of k) e)

-- "address 14", after the first tests
numbered : (short passes fits : Bool)
    → reply_number (address_entry (admission_by short passes false) fits) ≡ cond short 15 (cond (not passes) 16 (cond (not fits) 14 0))
numbered true p f = refl
numbered false false f = refl
numbered false true true = refl
numbered false true false = refl

at_address : (k : Record) (a : ℕ) (l : List ℕ)
    → Given (reply_number (address_entry (admission_by (short l) (record_sound k) false) (leb a 127))) (address_rows k a l)
at_address k a l =
    rw (numbered (short l) (record_sound k) (leb a 127))
    (tested 15 _ _ (short l) (tells_under (length l) 384) (tested 16 _ _ _ (tells_bad k) (tested 14 _ _ _ (tells_over a 127) none_left)))

-- the calls
module _ (k : Record) (l : List ℕ) where
  pub bus_init_lem : Answers (bus_init_call k l) k l (list_rows k l)
  unfolding bus_init_call
  bus_init_lem = answers k l k.control_state (bus_init (begun k l)) (admission_by (short l) (record_sound k) false) (list_rows k l) (lent k l)

  pub enable : Answers (enable_call k l) k l (list_rows k l)
  unfolding enable_call
  enable = answers k l k.control_state (write_faddr 0 (begun k l)) (admission_by (short l) (record_sound k) false) (list_rows k l) (lent k l)

  pub set_device_address_lem : (a : ℕ) → Answers (address_call k a l) k l (address_rows k a l)
  unfolding address_call
  set_device_address_lem a =
      answers k l k.control_state (write_faddr a (begun k l)) (address_entry (admission_by (short l) (record_sound k) false) (leb a 127)) (address_rows k a l) (at_address k a l)

-- "`force_reset`, always"
pub force_reset_lem : reply_number force_reset_call ≡ 7
force_reset_lem = refl
