-- What a poll does: refused, a pause, or a round. Assumes nothing.
use Rattle.std.specs.Prelude.{Err, Ok}
use Rattle.round_rules.specs.declared.PollResult.{PollResult}
use mathlib.Core.Path.{◌≡◌, refl, sym, ap, subst, ◌∙◌}
use mathlib.Core.Bool.{Bool, true, false, not, cond, ◌||◌}
use mathlib.Core.List.{List}
use Prim.Native.Nat.{ℕ, ◌≤◌, ◌<◌}
use native.Mathlib.Nat.{le_trans}
use native.Mathlib.Omega.{arith}
use lib.Dec.{T, not_T, eqb, ltb}
use lib.ListN.{length}
use borrow.Author.Tests.{eqb-true, le-ltb}
use Rattle.laws.specs.Words.{bit}
use Rattle.laws.proofs.Words.{bit_zero, bit_below}
use Rattle.laws.proofs.Tests.{clash}
use Rattle.board.specs.declared.Board.{Board}
use Rattle.board.specs.declared.Direction.TheVariants.{Out}
use Rattle.board.specs.Boards.{rows, at_most_six, at_least_one}
use Rattle.register_file.specs.Registers.{side_at, intr_of}
use Rattle.store_rules.specs.Stores.{Log, log}
use Rattle.common_rules.specs.Overrun.{check_overrun}
use Rattle.record.specs.declared.Flags.{Flags}
use Rattle.record.specs.declared.Record.{Record}
use Rattle.record.specs.declared.Refusal.TheVariants.{TooLittleLent}
use Rattle.record.specs.Record.{admission_by, record_sound, endpoints_in, endpoints_of, with_tx, with_rx, Reply}
use Rattle.record.proofs.Passing.{sound_record_passes}
use Rattle.round_rules.specs.Zero.{endpoint_zero, accept_step}
use Rattle.round_rules.specs.Walk.{walked}
use Rattle.round_rules.specs.Round.{masks, told}
use Rattle.round_rules.specs.declared.PollResult.TheVariants.{None, Data, Reset, Resume, Suspend}
use Rattle.round_rules.specs.Poll.{PollOutcome, outcome_of, ended, walked_on, accepted_on, round_out, poll_by, poll_logged, poll_served, poll_when, poll_admitted, poll_call}
use Rattle.round_rules.proofs.Drained.{left_by, none_new, ready_stays, false_naming}
use Rattle.rounds.specs.Machine.{Event, count, is_answered_poll}
use Rattle.rounds.specs.Machine as rounds
use Rattle.rounds.specs.Laws.{PutDown, Rounds, Pauses, Does}
use Rattle.rounds.proofs.Lawful.{unchanged}
use Rattle.history.specs.Driver.{result_event, poll_event, driver}
use Rattle.history.proofs.Flags.{Alike, then, zero_step, accept_step_lem}
use Rattle.history.proofs.Ready.{Waits, overrun_checked, zero_served_lem, walk_leaves}
use Rattle.history.proofs.Look.{look, Kept, low, receive_bound, small}

-- None is given when all masks are 0, so that it names what its masks would
none_named : (w : ℕ) → w ≡ 0 → (λ (e : ℕ). false) ≡ bit w
none_named w z = λ i e. (sym (bit_zero e) ∙ ap (λ (x : ℕ). bit x e) (sym z)) i

told_names : (out sent : ℕ) (setup : Bool) → result_event (told out sent setup) ≡ rounds.round (bit out) (bit sent)
unfolding told
told_names out sent setup = go (eqb sent 0) (eqb out 0) setup refl refl
  where
    go : (a b c : Bool) → eqb sent 0 ≡ a → eqb out 0 ≡ b
        → result_event (cond (not a || not b || c) (Data (masks out sent setup)) None) ≡ rounds.round (bit out) (bit sent)
    go false b c p q = refl
    go true false c p q = refl
    go true true true p q = refl
    go true true false p q = λ i. rounds.round (none_named out (eqb-true out 0 q) i) (none_named sent (eqb-true sent 0 p) i)

-- the answer Suspend, which no round gives
abbrev says_suspend : Reply PollResult → Bool
says_suspend (Ok None) = false
says_suspend (Ok (Data m)) = false
says_suspend (Ok Reset) = false
says_suspend (Ok Resume) = false
says_suspend (Ok Suspend) = true
says_suspend (Err x) = false

told_awake : (out sent : ℕ) (setup : Bool) → says_suspend (Ok (told out sent setup)) ≡ false
unfolding told
told_awake out sent setup = go (not (eqb sent 0) || not (eqb out 0) || setup)
  where
    go : (b : Bool) → says_suspend (Ok (cond b (Data (masks out sent setup)) None)) ≡ false
    go true = refl
    go false = refl

module _ (b : Board) (k : Record) (kept : Kept b k) where
  none_waits : (e : ℕ) → (side_at k.regs.words e Out).ready ≡ false → (side_at k.regs.words e Out).len ≡ 0
  none_waits e = (kept.good.sound.regs.side e Out).none

  at_start : (l : List ℕ) → Waits k.regs.words none_waits (log k.regs.words l 0)
  at_start l =
      record {
        six = kept.good.six;
        low = le_trans kept.good.sound.regs.selected (at_most_six k.regs.board);
        packet = λ e. record { ready = refl; length = refl };
      }

  counted : endpoints_of k ≤ 6
  unfolding endpoints_in endpoints_of
  counted = at_most_six k.regs.board

  abbrev ready : ℕ → Bool
  ready e = (side_at k.regs.words e Out).ready

  -- the end of a round, with the flags f as the walk found them
  module _ (f : Flags) (a : Alike k.irq f) (none_up : (look b).up k ≡ 0) where
    abbrev left : ℕ
    left = left_by f.ep_rx ready

    lower : (i : ℕ) → i ≤ (driver b).top → i < 6
    lower i h = omega (arith, at_least_one b, at_most_six b)

    flagged : (j : ℕ) → 1 ≤ j → j < 6 → T (bit f.ep_rx j) → T (bit k.irq.ep_rx j)
    flagged j h l t = subst T (a.rx j h l) t

    rounded : (t : Record) → t.irq ≡ with_rx (with_tx f 0) left → intr_of t.regs.words Out ≡ intr_of k.regs.words Out
        → Rounds (look b) (bit left) (bit f.ep_tx) k t
    rounded t is due =
        record {
          named = λ i h. sym (at i);
          none_new = λ j ep x. flagged j ep.low (low b j ep) (none_new f.ep_rx ready a.small j (low b j ep) (subst T (at j) x));
          kept = λ j ep w x.
              subst T (sym (at j)) (ready_stays f.ep_rx ready a.small j (low b j ep) w (subst T (sym (a.rx j ep.low (low b j ep))) x));
          mistaken = λ i h x w. higher i (false_naming f.ep_rx ready a.small i (lower i h) (subst T (at i) x) w);
          due = λ j ep. ap (λ (w : ℕ). bit w j) due;
          sent = λ j ep. a.tx j ep.low (low b j ep);
          wiped = λ j ep. ap (λ (x : Flags). bit x.ep_tx j) is ∙ bit_zero j;
          none_up = none_up;
          bus =
              omega (
                arith,
                ap (λ (x : Flags). count x.reset) is,
                ap (λ (x : Flags). count x.resume) is,
                ap (λ (x : Flags). count x.suspend) is,
                ap count a.reset,
                ap count a.resume,
                ap count a.suspend,
              );
        }
      where
        at : (j : ℕ) → bit t.irq.ep_rx j ≡ bit left j
        at j = ap (λ (x : Flags). bit x.ep_rx j) is

        higher : (i : ℕ) → (j : ℕ) × (i < j) × (j < 6) × T (bit f.ep_rx j) × (T (bit left j) → ⊥) → PutDown (look b) i k t
        higher i (j, above, six, was, gone) =
            let w = flagged j (omega arith) six was in
            let h = bit_below k.irq.ep_rx (length (rows b)) j (receive_bound b k kept) w in
            record {
              at = j;
              above = above;
              high = omega arith;
              was = w;
              down = not_T (bit t.irq.ep_rx j) (λ x. gone (subst T (at j) x));
            }

  module _ (l : List ℕ) where
    abbrev checked : Log
    checked = check_overrun (endpoints_of k) (log k.regs.words l 0)

    -- what a poll does, of any outcome
    abbrev PollDoes : PollOutcome → Type 0
    PollDoes o = Does (look b) k (poll_event o.result.answer) o.result.«record»

    abbrev in_round : PollOutcome
    in_round = outcome_of k (round_out checked k.control_state k.irq)

    abbrev by_flags : Bool → Bool → Bool → PollOutcome
    by_flags r m u = outcome_of k (poll_by r m u checked k.control_state k.irq)

    abbrev SameDue : PollOutcome → Type 0
    SameDue o = intr_of o.result.«record».regs.words Out ≡ intr_of k.regs.words Out

    -- endpoint 0's step, the Accepted step, and what the walk then leaves
    in_round_lem : (look b).up k ≡ 0 → SameDue in_round → PollDoes in_round
    unfolding round_out accepted_on walked_on ended
    in_round_lem none_up due =
        let o = endpoint_zero checked k.control_state k.irq in
        let z = zero_step checked k.control_state k.irq (small b k kept) in
        let f = (accept_step o.control o.irq).irq in
        let a = then z (accept_step_lem o.control o.irq z.small) in
        let w = zero_served_lem k.regs.words none_waits k.control_state k.irq checked (overrun_checked k.regs.words none_waits (endpoints_of k) (log k.regs.words l 0) counted (at_start l)) in
        let left = walk_leaves k.regs.words none_waits f.ep_rx o.log w in
        let t = in_round.result.«record» in
        subst (λ (v : Event). Does (look b) k v t)
        (sym (told_names (walked f.ep_rx o.log).out f.ep_tx o.setup ∙ ap (λ (x : ℕ). rounds.round (bit x) (bit f.ep_tx)) left))
        (rounded f a none_up t (ap (with_rx (with_tx f 0)) left) due)

    -- a pause puts down one of the flags of reset, resume and suspend
    paused : (t : Record) → t.irq.ep_rx ≡ k.irq.ep_rx → t.irq.ep_tx ≡ k.irq.ep_tx
        → intr_of t.regs.words Out ≡ intr_of k.regs.words Out → (look b).up t < (look b).up k → Pauses (look b) k t
    paused t rx tx due less =
        record {
          receive = record { flag = λ j ep. ap (λ (w : ℕ). bit w j) rx; due = λ j ep. ap (λ (w : ℕ). bit w j) due };
          sent = λ j ep. ap (λ (w : ℕ). bit w j) tx;
          less = less;
        }

    abbrev when_tested : Reply Unit → PollOutcome
    when_tested t = outcome_of k (poll_when t k.regs.board (log k.regs.words l 0) k.control_state k.irq)

    -- the outcome by what is tested: too short a list, then the flags of reset, resume and suspend
    abbrev poll_of : Bool → Bool → Bool → Bool → PollOutcome
    poll_of true r m u = when_tested (Err TooLittleLent)
    poll_of false r m u = by_flags r m u

    poll_is : (short r m u : Bool) → ltb (length l) 384 ≡ short → k.irq.reset ≡ r → k.irq.resume ≡ m → k.irq.suspend ≡ u
        → poll_call k l ≡ poll_of short r m u
    unfolding poll_call poll_admitted poll_served poll_logged record_sound endpoints_of
    poll_is true r m u es er em eu = λ i. when_tested (admission_by (es i) (sound_record_passes k kept.good.sound i) false)
    poll_is false r m u es er em eu =
        (λ i. when_tested (admission_by (es i) (sound_record_passes k kept.good.sound i) false)) ∙ (λ i. by_flags (er i) (em i) (eu i))

    by_tests : (short r m u : Bool) → k.irq.reset ≡ r → k.irq.resume ≡ m → k.irq.suspend ≡ u → SameDue (poll_of short r m u) → PollDoes (poll_of short r m u)
    by_tests true r m u er em eu due = unchanged (look b) k k refl refl refl refl
    by_tests false true m u er em eu due =
        let c = ap count er in paused (by_flags true m u).result.«record» refl refl due (omega (arith, c))
    by_tests false false true u er em eu due =
        let c = ap count em in paused (by_flags false true u).result.«record» refl refl due (omega (arith, c))
    by_tests false false false true er em eu due =
        let c = ap count eu in paused (by_flags false false true).result.«record» refl refl due (omega (arith, c))
    by_tests false false false false er em eu due = in_round_lem (omega (arith, ap count er, ap count em, ap count eu)) due

    -- no store of a poll touches the interrupt registers: `due` is what is known of every call that stores
    pub poll_does : SameDue (poll_call k l) → PollDoes (poll_call k l)
    poll_does due =
        let is = poll_is (ltb (length l) 384) k.irq.reset k.irq.resume k.irq.suspend refl refl refl refl in
        subst PollDoes (sym is)
        (by_tests (ltb (length l) 384) k.irq.reset k.irq.resume k.irq.suspend refl refl refl (subst SameDue is due))

    -- a poll that says Suspend leaves none of the three flags up: Suspend is the last that is reported before a round
    asleep : (short r m u : Bool) → k.irq.reset ≡ r → k.irq.resume ≡ m → (poll_of short r m u).result.answer ≡ Ok Suspend
        → (look b).up (poll_of short r m u).result.«record» ≡ 0
    unfolding round_out accepted_on walked_on ended
    asleep true r m u er em p = clash (sym (ap says_suspend p))
    asleep false true m u er em p = clash (sym (ap says_suspend p))
    asleep false false true u er em p = clash (sym (ap says_suspend p))
    asleep false false false true er em p = omega (arith, ap count er, ap count em)
    asleep false false false false er em p = clash (sym (ap says_suspend p) ∙ told_awake _ _ _)

    pub suspend_leaves_none : (poll_call k l).result.answer ≡ Ok Suspend → (look b).up (poll_call k l).result.«record» ≡ 0
    suspend_leaves_none p =
        let is = poll_is (ltb (length l) 384) k.irq.reset k.irq.resume k.irq.suspend refl refl refl refl in
        ap (λ (o : PollOutcome). (look b).up o.result.«record») is
        ∙ asleep (ltb (length l) 384) k.irq.reset k.irq.resume k.irq.suspend refl refl (sym (ap (λ (o : PollOutcome). o.result.answer) is) ∙ p)

    -- a poll that is lent enough is answered
    told_answered : (r m u : Bool) → T (is_answered_poll (poll_event (poll_of false r m u).result.answer))
    unfolding round_out accepted_on walked_on ended
    told_answered true m u = tt
    told_answered false true u = tt
    told_answered false false true = tt
    told_answered false false false = subst (λ (v : Event). T (is_answered_poll v)) (sym (told_names _ _ _)) tt

    pub poll_answered : 384 ≤ length l → T (is_answered_poll (poll_event (poll_call k l).result.answer))
    poll_answered h =
        let is = poll_is false k.irq.reset k.irq.resume k.irq.suspend (le-ltb (length l) 384 h) refl refl refl in
        subst (λ (o : PollOutcome). T (is_answered_poll (poll_event o.result.answer))) (sym is) (told_answered k.irq.reset k.irq.resume k.irq.suspend)
