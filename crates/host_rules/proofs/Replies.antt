-- Which reply each event gives: the number of the first of its rows that holds; and that a refused event changes nothing. Assumes nothing.
use Rattle.std.specs.Prelude.{Err, Ok}
use Rattle.board.specs.declared.Span.{Span}
use Rattle.record.specs.declared.Answered.{Answered}
use Prim.Native.Nat.{ℕ}
use mathlib.Core.Path.{◌≡◌, refl}
use mathlib.Core.Bool.{Bool, true, false, not, cond, ◌||◌}
use mathlib.Core.List.{List}
use lib.Dec.{eqb, leb, ltb}
use lib.ListN.{length}
use Rattle.laws.specs.Lists.{pasted}
use Rattle.board.specs.declared.Direction.{Direction}
use Rattle.board.specs.declared.Direction.TheVariants.{Out, In}
use Rattle.register_file.specs.Registers.{File, side_at}
use Rattle.event_rules.specs.Events.{arrived, bus_reset, bus_suspend, bus_resume, setup_ended, missing}
use Rattle.record.specs.declared.Record.{Record}
use Rattle.record.specs.Record.{reply_number, record_sound, admission_by, endpoints_of, area_of, need_of, Reply}
use Rattle.record.specs.Rows.{Row, Given}
use Rattle.record.proofs.Numbers.{not_zero}
use Rattle.record.proofs.Rows.{exactly, none_left, tested, tells_under, tells_from, tells_is, tells_set, tells_clear, tells_bad, tells_either, first_named, first_plain}
use Rattle.host_rules.specs.Host.{done, unless, bus_reset_call, suspend_call, resume_call, setup_end_call, miss_refusal, miss_call, underrun_call, overrun_call, arrival_by, arrival_refusal_in, arrival_refusal, unless_arrived, arrival_call, collection_by, collection_refusal_in, collection_refusal, collected_from, unless_collected, collection_call, collect_number}
use Rattle.host_rules.specs.Replies.{plain_rows, miss_rows, arrival_rows, collection_rows, Answers, Arrives, Collects}

-- an event, by what its tests came to
module _ (k : Record) (r : File) where
  same_number : (t : Reply Unit) → reply_number (unless t k r).answer ≡ reply_number t
  same_number (Ok tt) = refl
  same_number (Err x) = refl

  kept : (t : Reply Unit) → (reply_number (unless t k r).answer ≡ 0 → ⊥) → (unless t k r).«record» ≡ k
  kept (Ok tt) n = absurd (n refl)
  kept (Err x) n = refl

  answers : (t : Reply Unit) (rs : List Row) → Given (reply_number t) rs → Answers (unless t k r) k rs
  answers t rs g = record { replies = exactly rs (rw (same_number t) g); unchanged = kept t }

-- "(underrun, overrun: also 0)"
missed : (k : Record) (e : ℕ) (d : Direction) → Answers (miss_call k e d) k (miss_rows k e)
unfolding miss_call record_sound endpoints_of
missed k e d =
    answers k (missing k.regs.words e d) (miss_refusal k e) (miss_rows k e)
    (first_named k (eqb e 0 || leb (endpoints_of k) e) (tells_either (eqb e 0) (leb (endpoints_of k) e) (tells_is e 0) (tells_from (endpoints_of k) e)))

module _ (k : Record) where
  pub bus_reset_lem : Answers (bus_reset_call k) k (plain_rows k)
  unfolding bus_reset_call
  bus_reset_lem = answers k (bus_reset k.regs.words) (admission_by false (record_sound k) false) (plain_rows k) (first_plain k)

  pub suspend : Answers (suspend_call k) k (plain_rows k)
  unfolding suspend_call
  suspend = answers k (bus_suspend k.regs.words) (admission_by false (record_sound k) false) (plain_rows k) (first_plain k)

  pub resume : Answers (resume_call k) k (plain_rows k)
  unfolding resume_call
  resume = answers k (bus_resume k.regs.words) (admission_by false (record_sound k) false) (plain_rows k) (first_plain k)

  pub setup_end_lem : Answers (setup_end_call k) k (plain_rows k)
  unfolding setup_end_call
  setup_end_lem = answers k (setup_ended k.regs.words) (admission_by false (record_sound k) false) (plain_rows k) (first_plain k)

  pub underrun : (e : ℕ) → Answers (underrun_call k e) k (miss_rows k e)
  unfolding underrun_call
  underrun e = missed k e In

  pub overrun : (e : ℕ) → Answers (overrun_call k e) k (miss_rows k e)
  unfolding overrun_call
  overrun e = missed k e Out

-- arrival
arrives : (k : Record) (f g : List ℕ) (r : File) (t : Reply Unit) (rs : List Row) → Given (reply_number t) rs
    → Arrives (unless_arrived t k f (record { event = done k r; fifo = g })) k f rs
arrives k f g r (Ok tt) rs h = record { event = answers k r (Ok tt) rs h; kept = λ n. absurd (n refl) }
arrives k f g r (Err x) rs h = record { event = answers k r (Err x) rs h; kept = λ n. refl }

arrival_numbered : (short passes beyond long waits : Bool)
    → reply_number (arrival_by (admission_by short passes beyond) long waits) ≡ cond short 15 (cond (not passes) 16 (cond beyond 8 (cond long 9 (cond waits 17 0))))
arrival_numbered true p b l w = refl
arrival_numbered false false b l w = refl
arrival_numbered false true true l w = refl
arrival_numbered false true false true w = refl
arrival_numbered false true false false true = refl
arrival_numbered false true false false false = refl

arrival_given : (k : Record) (e n m : ℕ) → Given (reply_number (arrival_refusal k e n m)) (arrival_rows k e n m)
unfolding arrival_refusal arrival_refusal_in record_sound endpoints_of area_of need_of
arrival_given k e n m =
    let long = ltb (area_of k e Out).size n in
    let waits = (side_at k.regs.words e Out).ready in
    rw (arrival_numbered (ltb m (need_of k)) (record_sound k) (leb (endpoints_of k) e) long waits)
    (tested 15 _ _ _ (tells_under m (need_of k)) (tested 16 _ _ _ (tells_bad k) (tested 8 _ _ _ (tells_from (endpoints_of k) e) (tested 9 _ _ long (tells_under (area_of k e Out).size n) (tested 17 _ _ waits (tells_set waits) none_left)))))

pub arrival : (k : Record) (e : ℕ) (b f : List ℕ) → Arrives (arrival_call k e b f) k f (arrival_rows k e (length b) (length f))
unfolding arrival_call
arrival k e b f =
    arrives k f (pasted f (area_of k e Out).start b) (arrived k.regs.words e (length b)) (arrival_refusal k e (length b) (length f))
    (arrival_rows k e (length b) (length f))
    (arrival_given k e (length b) (length f))

-- collection
module _ (k : Record) (e : ℕ) where
  abbrev left : Reply Unit → Answered (Reply Span)
  left t = unless_collected t k (collected_from k e)

  collect_number_lem : (t : Reply Unit) → collect_number (left t).answer ≡ reply_number t
  unfolding collected_from
  collect_number_lem (Ok tt) = refl
  collect_number_lem (Err x) = refl

  collect_value : (t : Reply Unit) → collect_number (left t).answer ≡ 0 → (left t).answer ≡ Ok (record { start = (area_of k e In).start; size = (side_at k.regs.words e In).len })
  unfolding collected_from area_of
  collect_value (Ok tt) z = refl
  collect_value (Err x) z = absurd (not_zero x z)

  collect_kept : (t : Reply Unit) → (collect_number (left t).answer ≡ 0 → ⊥) → (left t).«record» ≡ k
  unfolding collected_from
  collect_kept (Ok tt) n = absurd (n refl)
  collect_kept (Err x) n = refl

  collects : (t : Reply Unit) (rs : List Row) → Given (reply_number t) rs
      → Collects (unless_collected t k (collected_from k e)) k rs (area_of k e In).start (side_at k.regs.words e In).len
  collects t rs g = record { replies = exactly rs (rw (collect_number_lem t) g); value = collect_value t; unchanged = collect_kept t }

collection_numbered : (short passes beyond waits : Bool)
    → reply_number (collection_by (admission_by short passes beyond) waits) ≡ cond short 15 (cond (not passes) 16 (cond beyond 8 (cond (not waits) 17 0)))
collection_numbered true p b w = refl
collection_numbered false false b w = refl
collection_numbered false true true w = refl
collection_numbered false true false true = refl
collection_numbered false true false false = refl

collection_given : (k : Record) (e m : ℕ) → Given (reply_number (collection_refusal k e m)) (collection_rows k e m)
unfolding collection_refusal collection_refusal_in record_sound endpoints_of need_of
collection_given k e m =
    let waits = (side_at k.regs.words e In).ready in
    rw (collection_numbered (ltb m (need_of k)) (record_sound k) (leb (endpoints_of k) e) waits)
    (tested 15 _ _ _ (tells_under m (need_of k)) (tested 16 _ _ _ (tells_bad k) (tested 8 _ _ _ (tells_from (endpoints_of k) e) (tested 17 _ _ _ (tells_clear waits) none_left))))

pub collection : (k : Record) (e : ℕ) (f : List ℕ)
    → Collects (collection_call k e f) k (collection_rows k e (length f)) (area_of k e In).start (side_at k.regs.words e In).len
unfolding collection_call
collection k e f = collects k e (collection_refusal k e (length f)) (collection_rows k e (length f)) (collection_given k e (length f))
