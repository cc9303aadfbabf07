-- A history for each sentence in which its premises hold, computed on the honest machine with the display's endpoints.
-- Assumes nothing.
use mathlib.Core.Path.{◌≡◌, refl}
use mathlib.Core.Bool.{true, false}
use mathlib.Core.List.{List, [], ◌∷◌}
use Rattle.rounds.specs.Machine.{Machine, names, names_sent, is_round, run, after, false_namings, arrivals_above}
use Rattle.rounds.specs.Sentences.{StillWaits, NextRound, Polls, none, more}
use Rattle.rounds.specs.Shams.{Op, arrive, collect, take, raise, irq, poll, display, honest}

abbrev M : Machine
M = display honest

-- 1. Packets at 1 and 5, of which 1 is read: 5 waits through a round, and the next names it and not 1.
abbrev one_read : List Op
one_read = irq ∷ take 1 ∷ poll ∷ []

waits : StillWaits M 5 (arrive 1 8 ∷ []) (arrive 5 8) one_read poll
waits = record { arrived = tt; still = (tt, (tt, (tt, tt))); taken = tt; polled = tt }

named_5 : names 5 (M.event (after M (arrive 1 8 ∷ arrive 5 8 ∷ one_read)) poll) ≡ true
named_5 = refl

not_named_1 : names 1 (M.event (after M (arrive 1 8 ∷ arrive 5 8 ∷ one_read)) poll) ≡ false
not_named_1 = refl

-- 2. Packets at 1, 2 and 5, all read: a round clears one flag, the highest, so 1 is named twice with nothing waiting, and two
-- packets arrived above it: the bound is reached.
abbrev all_read : List Op
all_read = arrive 1 8 ∷ arrive 2 8 ∷ arrive 5 8 ∷ irq ∷ take 1 ∷ take 2 ∷ take 5 ∷ poll ∷ poll ∷ poll ∷ []

bound_reached : (false_namings M 1 M.fresh all_read ≡ 2) × (arrivals_above M 1 M.fresh all_read ≡ 2)
bound_reached = (refl, refl)

-- 3. 1 was sent before the last round, 5 since: the next round names 5 and not 1.
abbrev before : List Op
before = collect 1 ∷ irq ∷ poll ∷ []

abbrev since : List Op
since = collect 5 ∷ irq ∷ []

next : NextRound M before since poll
next = record { since = tt; between = tt; polled = tt }

named_sent_5 : names_sent 5 (M.event (run M (after M before) since) poll) ≡ true
named_sent_5 = refl

not_sent_1 : names_sent 1 (M.event (run M (after M before) since) poll) ≡ false
not_sent_1 = refl

-- 4. Reset, resume and suspend taken: of four polls the third is no round yet, and the fourth is.
abbrev woken : List Op
woken = raise (record { reset = true; resume = true; suspend = true }) ∷ irq ∷ []

polls : Polls M (after M woken) 3 (run M (after M woken) (poll ∷ poll ∷ poll ∷ []))
polls = more (more (more none poll [] tt tt) poll [] tt tt) poll [] tt tt

third_is_none : is_round (M.event (run M (after M woken) (poll ∷ poll ∷ [])) poll) ≡ false
third_is_none = refl

fourth_is_round_lem : is_round (M.event (run M (after M woken) (poll ∷ poll ∷ poll ∷ [])) poll) ≡ true
fourth_is_round_lem = refl

-- The premises are needed. With no interrupt taken a waiting packet is not named; and a fourth poll after further interrupts need not be a
-- round.
not_taken : names 1 (M.event (after M (arrive 1 8 ∷ [])) poll) ≡ false
not_taken = refl

interrupted : is_round (M.event (run M (run M (run M (after M woken) (poll ∷ woken)) (poll ∷ woken)) (poll ∷ woken)) poll) ≡ false
interrupted = refl
