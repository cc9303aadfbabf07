-- An arrival that is answered makes its endpoint's receive interrupt due; it is answered only where none waits. Assumes nothing.
use Rattle.std.specs.Prelude.{Err, Ok}
use mathlib.Core.Path.{◌≡◌, refl, sym, ap, subst, ◌∙◌}
use mathlib.Core.Bool.{Bool, true, false, not, ◌||◌}
use mathlib.Core.List.{List}
use Prim.Native.Nat.{ℕ, ◌≤◌, ◌<◌}
use native.Mathlib.Omega.{arith}
use native.Mathlib.Decide.{ℕ_discrete}
use lib.Dec.{T, not_T, eqb, eqb_refl, eqb→eq, ltb}
use lib.ListN.{length}
use borrow.Author.Tests.{ne_eqb, eq-eqb, le-ltb, lt-leb}
use Rattle.laws.specs.Lists.{pasted}
use Rattle.laws.specs.Words.{bit}
use Rattle.laws.proofs.Words.{bit_raised}
use Rattle.board.specs.declared.Board.{Board}
use Rattle.board.specs.declared.Direction.TheVariants.{Out}
use Rattle.register_file.specs.Registers.{Whole, side_at, intr_of}
use Rattle.event_rules.specs.Events.{arrived}
use Rattle.event_rules.specs.Promise as events
use Rattle.event_rules.proofs.Promises.{pending}
use Rattle.record.specs.declared.Record.{Record}
use Rattle.record.specs.Record.{record_sound, admission_by, endpoints_of, area_of, need_of, Reply}
use Rattle.host_rules.specs.Host.{Arrival, done, unless_arrived, entry_at, arrival_by, arrival_refusal_in, arrival_refusal, arrival_call}
use Rattle.host_rules.proofs.Host.{admitted, arrival_passed}
use Rattle.rounds.specs.Machine.{arrives_at}
use Rattle.rounds.specs.Laws.{Does}
use Rattle.rounds.proofs.Lawful.{unchanged}
use Rattle.history.specs.Driver.{arrival_event, waiting}
use Rattle.history.proofs.Look.{look, low}

module _ (k : Record) (e n m : ℕ) (clear : arrival_refusal k e n m ≡ (Ok tt)) where
  -- the tests that an answered arrival has passed
  tests : (entry_at k e m ≡ (Ok tt)) × (ltb (area_of k e Out).size n ≡ false) × (waiting k e ≡ false)
  unfolding arrival_refusal arrival_refusal_in need_of record_sound endpoints_of area_of
  tests = arrival_passed (entry_at k e m) (ltb (area_of k e Out).size n) (side_at k.regs.words e Out).ready clear

  pub none_waited : waiting k e ≡ false
  none_waited = tests.2

  pub there : e < 6
  there = (admitted k e m tests.0).below

-- the receive bits that an arrival leaves; that of endpoint 0 raises none
raised_bits : (e n j p : ℕ) → e < 6 → 1 ≤ j → j < 6 → bit (events.raises (events.arrival e n) Out p) j ≡ (eqb j e || bit p j)
raised_bits e n j p he h hj = go (ℕ_discrete e 0)
  where
    go : Dec (e ≡ 0) → bit (events.raises (events.arrival e n) Out p) j ≡ (eqb j e || bit p j)
    go (yes z) = rw (eq-eqb e 0 z, ne_eqb j e (λ q. omega arith))
    go (no z) = rw (ne_eqb e 0 z) (bit_raised p e j he hj)

module _ (k : Record) (e : ℕ) (bytes f : List ℕ) where
  abbrev pub refusal : Reply Unit
  refusal = arrival_refusal k e (length bytes) (length f)

  -- the outcome by its refusal
  abbrev pub arrival_of : Reply Unit → Arrival
  arrival_of x = unless_arrived x k f (record { event = done k (arrived k.regs.words e (length bytes)); fifo = pasted f (area_of k e Out).start bytes })

  pub arrival_is : (x : Reply Unit) → refusal ≡ x → arrival_call k e bytes f ≡ arrival_of x
  unfolding arrival_call
  arrival_is x p = ap arrival_of p

  -- while a packet waits, no other arrives there
  pub one_arrival : (i : ℕ) → T (waiting k i) → T (not (arrives_at i (arrival_event (arrival_call k e bytes f).event.answer e)))
  one_arrival i w = subst (λ (o : Arrival). T (not (arrives_at i (arrival_event o.event.answer e)))) (sym (arrival_is refusal refl)) (go refusal refl)
    where
      go : (x : Reply Unit) → refusal ≡ x → T (not (arrives_at i (arrival_event (arrival_of x).event.answer e)))
      go (Err x) p = tt
      go (Ok tt) p =
          not_T (eqb e i)
          (λ here. subst T (none_waited k e (length bytes) (length f) p) (subst (λ (m : ℕ). T (waiting k m)) (sym (eqb→eq e i here)) w))

  -- an arrival that fits, where none waits, lent enough, is answered
  pub arrival_answered : record_sound k ≡ true → e < endpoints_of k → length bytes ≤ (area_of k e Out).size → need_of k ≤ length f → T (not (waiting k e))
      → T (arrives_at e (arrival_event (arrival_call k e bytes f).event.answer e))
  unfolding arrival_refusal arrival_refusal_in need_of record_sound endpoints_of area_of
  arrival_answered passes there fits lent none =
      subst (λ (o : Arrival). T (arrives_at e (arrival_event o.event.answer e))) (sym (arrival_is (Ok tt) clear)) (eqb_refl e)
    where
      down : (w : Bool) → T (not w) → w ≡ false
      down true t = absurd t
      down false t = refl

      clear : refusal ≡ (Ok tt)
      clear = λ i.
          arrival_by (admission_by (le-ltb (length f) (need_of k) lent i) (passes i) (lt-leb (endpoints_of k) e there i))
          (le-ltb (area_of k e Out).size (length bytes) fits i) (down (waiting k e) none i)

  -- what an arrival does, refused or not
  module _ (b : Board) (six : Whole k.regs.words) where
    abbrev ArrivalDoes : Arrival → Type 0
    ArrivalDoes o = Does (look b) k (arrival_event o.event.answer e) o.event.«record»

    by_refusal : (x : Reply Unit) → refusal ≡ x → ArrivalDoes (arrival_of x)
    by_refusal (Err x) p = unchanged (look b) k k refl refl refl refl
    by_refusal (Ok tt) p =
        record {
          flag = λ j ep. refl;
          due = λ j ep.
              ap (λ (w : ℕ). bit w j) (pending (events.arrival e (length bytes)) k.regs.words Out six)
              ∙ raised_bits e (length bytes) j (intr_of k.regs.words Out) (there k e (length bytes) (length f) p) ep.low (low b j ep);
          sent = λ j ep. refl;
          bus = omega arith;
        }

    pub arrival_does : ArrivalDoes (arrival_call k e bytes f)
    arrival_does = subst ArrivalDoes (sym (arrival_is refusal refl)) (by_refusal refusal refl)
