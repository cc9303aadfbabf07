-- Each sham breaks a sentence: a history that shows it, computed, on a machine with the display's endpoints.
-- Assumes nothing.
use mathlib.Core.Path.{◌≡◌, refl, ap}
use mathlib.Core.Bool.{true, false, true≢false, false≢true}
use mathlib.Core.List.{[], ◌∷◌}
use Prim.Native.Nat.{ℕ}
use native.Mathlib.Nat.{not-suc-le-zero}
use native.Mathlib.Omega.{arith}
use Rattle.rounds.specs.Machine.{is_round}
use Rattle.rounds.specs.Sentences.{Endpoint, Named, FewFalse, SentExactly, UntilTaken, SameLength, FourthIsRound, none, more, NotEmpty}
use Rattle.rounds.specs.Shams.{State, Polled, arrive, collect, take, raise, irq, poll, taken, calls, display, never_clears, clears_waiting, keeps_sent, hides_receive, hides_sent, repeats, throws_away, throws_taken, calls_takers, empties_waiting, stays_asleep, always_none, always_reset, refuses}

one : (ask : (top : ℕ) → State → Polled) → Endpoint (display ask) 1
one ask = record { low = omega arith; high = omega arith }

-- a packet is read, and named once more with nothing arrived above
pub never_clears_out : FewFalse (display never_clears) → ⊥
never_clears_out few = not-suc-le-zero (few 1 (omega arith) (arrive 1 8 ∷ irq ∷ take 1 ∷ poll ∷ []))

pub repeats_out : FewFalse (display repeats) → ⊥
repeats_out few = not-suc-le-zero (few 1 (omega arith) (arrive 1 8 ∷ irq ∷ poll ∷ take 1 ∷ poll ∷ []))

-- a waiting packet is not named the second time, or at all
pub clears_waiting_out : Named (display clears_waiting) → ⊥
clears_waiting_out named =
    named 1 (one clears_waiting) [] (arrive 1 8) (irq ∷ poll ∷ []) poll (record { arrived = tt; still = (tt, (tt, tt)); taken = tt; polled = tt })

pub hides_receive_out : Named (display hides_receive) → ⊥
hides_receive_out named = named 1 (one hides_receive) [] (arrive 1 8) (irq ∷ []) poll (record { arrived = tt; still = (tt, tt); taken = tt; polled = tt })

pub always_none_out : Named (display always_none) → ⊥
always_none_out named = named 1 (one always_none) [] (arrive 1 8) (irq ∷ []) poll (record { arrived = tt; still = (tt, tt); taken = tt; polled = tt })

-- sent again with nothing read since, and read but not said
pub keeps_sent_out : SentExactly (display keeps_sent) → ⊥
keeps_sent_out exactly =
    true≢false (exactly 1 (one keeps_sent) (collect 1 ∷ irq ∷ poll ∷ []) [] poll (record { since = tt; between = tt; polled = tt }))

pub hides_sent_out : SentExactly (display hides_sent) → ⊥
hides_sent_out exactly = false≢true (exactly 1 (one hides_sent) [] (collect 1 ∷ irq ∷ []) poll (record { since = tt; between = tt; polled = tt }))

-- gone after the poll that named it, or before any could
pub throws_away_out : UntilTaken (display throws_away) → ⊥
throws_away_out lasts = false≢true (lasts.each 1 (one throws_away) (arrive 1 8 ∷ irq ∷ []) poll)

pub throws_taken_out : UntilTaken (throws_taken 5) → ⊥
throws_taken_out lasts = false≢true (lasts.each 1 (record { low = omega arith; high = omega arith }) (arrive 1 8 ∷ []) irq)

-- a poll is no taker
pub calls_takers_out : UntilTaken calls_takers → ⊥
calls_takers_out lasts = true≢false (ap is_round (lasts.takers 1 (record { low = omega arith; high = omega arith }) [] poll tt))

-- still there after the poll that named it, and empty
pub empties_waiting_out : SameLength (display empties_waiting) → ⊥
empties_waiting_out same =
    let p : ◌≡◌ {A = ℕ} 0 8 = same.waits 1 (one empties_waiting) (arrive 1 8 ∷ irq ∷ []) poll tt tt in
    absurd (omega arith)

-- four polls with nothing taken at all
pub always_reset_out : FourthIsRound (display always_reset) → ⊥
always_reset_out fourth = fourth [] _ poll (more (more (more none poll [] tt tt) poll [] tt tt) poll [] tt tt) tt

-- four polls after one suspend
pub stays_asleep_out : FourthIsRound (display stays_asleep) → ⊥
stays_asleep_out fourth =
    fourth (raise (record { reset = false; resume = false; suspend = true }) ∷ irq ∷ []) _ poll
    (more (more (more none poll [] tt tt) poll [] tt tt) poll [] tt tt) tt

-- a poll that is lent enough, and refused
pub refuses_out : NotEmpty (display refuses) (calls 5 taken (refuses 5)) → ⊥
refuses_out promised = promised.polled [] poll refl
