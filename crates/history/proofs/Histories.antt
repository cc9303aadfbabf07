-- A history of the display for each sentence, computed: this file and LateHistories alone of this crate unfold the register model. Assumes nothing.
use Rattle.std.specs.Prelude.{Ok}
use Rattle.round_rules.specs.declared.PollResult.{PollResult}
use mathlib.Core.Path.{◌≡◌, refl, ap, subst, ◌∙◌}
use mathlib.Core.Bool.{Bool, true, false}
use mathlib.Core.List.{List, [], ◌∷◌, ◌++◌}
use native.Mathlib.Nat.{le_refl}
use lib.Dec.{T}
use Rattle.laws.specs.Words.{bit, raised, clear, bits_below, set_bits}
use Rattle.board.specs.declared.Board.TheVariants.{Display}
use Rattle.register_file.specs.Registers.{fresh_file, fresh_regs, index, with_index, intrusb, with_intrusb, intr_of, with_intr, side_word, side_of, side_in, with_side_in, side_at, with_side}
use Rattle.register_file.specs.Control.{csr0l_read}
use Rattle.csr.specs.Control.{txcsrl_of, rxcsrl_of, tx_stored, rx_stored, txcsrl_set, rxcsrl_set, dropped}
use Rattle.store_list.specs.Stores.{listed}
use Rattle.store_rules.specs.Stores.{listing, with_own, write_index, write_txcsrl, write_rxcsrl, modify_txcsrl, modify_rxcsrl, write_packet}
use Rattle.event_rules.specs.Events.{interrupting, waiting_at, arrived, collected, bus_raised, bus_reset, bus_resume, bus_suspend, intrusb_cleared, intr_cleared}
use Rattle.common_rules.specs.Overrun.{under_run_cleared, over_run_cleared, repaired, repaired_below}
use Rattle.laws.specs.Lists.{numbers}
use Rattle.record.specs.Record.{fresh_record, Reply}
use Rattle.transfer_rules.specs.WriteTests as write
use Rattle.transfer_rules.specs.Write as write-write
use Rattle.transfer_rules.specs.ReadTests as read
use Rattle.transfer_rules.specs.Read as read-read
use Rattle.call_rules.specs.Interrupt.{snapshot_of, cleared, bus_taken, raised_if, endpoint_taken, endpoints_taken, taken}
use Rattle.round_rules.specs.Zero.{endpoint_zero, accepted_by, accept_step}
use Rattle.round_rules.specs.Walk.{ready_at, drained, visit, walked}
use Rattle.round_rules.specs.Round.{told}
use Rattle.round_rules.specs.declared.PollResult.TheVariants.{None, Reset, Resume, Suspend}
use Rattle.round_rules.specs.Poll.{ended, walked_on, accepted_on, round_out, poll_logged}
use Rattle.host_rules.specs.Host.{collected_from}
use Rattle.rounds.specs.Machine.{Event, round, names, names_sent, is_round, is_answered_poll, after, false_namings, arrivals_above}
use Rattle.rounds.specs.Sentences.{StillWaits, NextRound, Polls, none, more, RoundAfter}
use Rattle.history.specs.Driver.{poll_event}
use Rattle.history.specs.Demands.{Slept}
use Rattle.history.proofs.Demand.{not_empty_lem}
use Rattle.history.proofs.Sample.{list, Do, arrive, take, put, collect, reset, resume, suspend, irq, poll, op, ops, sample, M, at_start, false_of, above_of, still_waits, next_round, answers, replies, answers_is, given, says, given_is}

-- 1. Packets at 1 and 5, of which 1 is read: 5 waits through a round, and the next names it and not 1.
abbrev one_read : List Do
one_read = irq ∷ take 1 ∷ poll ∷ []

abbrev named : List Do
named = arrive 1 ∷ arrive 5 ∷ one_read

-- 2. Packets at 1 and 5, both read: the first round names 1 with nothing waiting, and one packet arrived above it. The bound is reached,
-- and the next round names nothing (document 01's P14).
abbrev both_read : List Do
both_read = arrive 1 ∷ arrive 5 ∷ irq ∷ take 1 ∷ take 5 ∷ []

-- 3. 1 was sent before the last round, 5 since: the next round names 5 and not 1.
abbrev before : List Do
before = put 1 ∷ collect 1 ∷ irq ∷ poll ∷ []

abbrev since : List Do
since = put 5 ∷ collect 5 ∷ irq ∷ []

-- 4. Reset, resume and suspend taken: Reset, Resume and Suspend come first, and of four polls the fourth is the first round.
abbrev woken : List Do
woken = reset ∷ resume ∷ suspend ∷ irq ∷ []

-- A chart row comes, and the lid is closed before the device has looked: Suspend is told, and the next poll names the row.
abbrev asleep : List Do
asleep = arrive 5 ∷ suspend ∷ irq ∷ []

record Computed : Type 0 where
  waits : StillWaits sample 5 (arrive 1 ∷ []) (arrive 5) one_read poll
  reads_5 : names 5 (says named) ≡ true
  reads_not_1 : names 1 (says named) ≡ false
  falsely : names 1 (says both_read) ≡ true
  then_none : says (both_read ++ poll ∷ []) ≡ round (λ e. false) (λ e. false)
  once : false_namings sample 1 sample.fresh (both_read ++ poll ∷ poll ∷ []) ≡ 1
  above : arrivals_above sample 1 sample.fresh (both_read ++ poll ∷ poll ∷ []) ≡ 1
  next : NextRound sample before since poll
  sent_5 : names_sent 5 (says (before ++ since)) ≡ true
  sent_not_1 : names_sent 1 (says (before ++ since)) ≡ false
  sent_1 : names_sent 1 (says (put 1 ∷ collect 1 ∷ irq ∷ [])) ≡ true
  first : replies woken ≡ Ok Reset
  second : replies (woken ++ poll ∷ []) ≡ Ok Resume
  third : replies (woken ++ poll ∷ poll ∷ []) ≡ Ok Suspend
  fourth : replies (woken ++ poll ∷ poll ∷ poll ∷ []) ≡ Ok None
  sleeps : replies asleep ≡ Ok Suspend
  wakes : names 5 (says (asleep ++ poll ∷ [])) ≡ true

computed : Computed
unfolding bit raised clear bits_below set_bits fresh_file fresh_regs index with_index intrusb with_intrusb intr_of with_intr side_word side_of side_in with_side_in side_at with_side csr0l_read txcsrl_of rxcsrl_of tx_stored rx_stored txcsrl_set rxcsrl_set dropped listed listing with_own write_index write_txcsrl write_rxcsrl modify_txcsrl modify_rxcsrl write_packet interrupting waiting_at arrived collected bus_raised bus_reset bus_resume bus_suspend intrusb_cleared intr_cleared under_run_cleared over_run_cleared repaired numbers repaired_below fresh_record write.own_tests_at write.not_writable write-write.write_done write-write.loaded write-write.sent write-write.sent_other read.own_tests_at read.not_readable read.not_setup read.overflows read-read.read_done read-read.got read-read.read_other collected_from snapshot_of cleared bus_taken raised_if endpoint_taken endpoints_taken taken endpoint_zero accepted_by accept_step ready_at drained visit walked told ended walked_on accepted_on round_out poll_logged
computed =
    record {
      waits = record { arrived = tt; still = (tt, (tt, (tt, tt))); taken = tt; polled = tt };
      reads_5 = refl;
      reads_not_1 = refl;
      falsely = refl;
      then_none = refl;
      once = refl;
      above = refl;
      next = record { since = tt; between = tt; polled = tt };
      sent_5 = refl;
      sent_not_1 = refl;
      sent_1 = refl;
      first = refl;
      second = refl;
      third = refl;
      fourth = refl;
      sleeps = refl;
      wakes = refl;
    }

-- the driver's own: what a test says of the poll after a history
told_by : (test : Event → Bool) (h : List Do) (b : Bool) → test (says h) ≡ b → test (given h) ≡ b
told_by test h b p = ap test (given_is h) ∙ p

-- 1.
pub waits_5 : StillWaits M 5 (ops (arrive 1 ∷ [])) (op (arrive 5)) (ops one_read) (op poll)
waits_5 = still_waits 5 (arrive 1 ∷ []) (arrive 5) one_read poll computed.waits

pub named_5 : names 5 (given named) ≡ true
named_5 = told_by (names 5) named true computed.reads_5

pub not_named_1 : names 1 (given named) ≡ false
not_named_1 = told_by (names 1) named false computed.reads_not_1

-- 2.
pub falsely_named_1 : names 1 (given both_read) ≡ true
falsely_named_1 = told_by (names 1) both_read true computed.falsely

pub then_none : given (both_read ++ poll ∷ []) ≡ round (λ e. false) (λ e. false)
then_none = given_is (both_read ++ poll ∷ []) ∙ computed.then_none

pub bound_reached : (false_namings M 1 M.fresh (ops (both_read ++ poll ∷ poll ∷ [])) ≡ 1) × (arrivals_above M 1 M.fresh (ops (both_read ++ poll ∷ poll ∷ [])) ≡ 1)
bound_reached =
    (false_of 1 at_start (both_read ++ poll ∷ poll ∷ []) ∙ computed.once, above_of 1 at_start (both_read ++ poll ∷ poll ∷ []) ∙ computed.above)

-- 3.
pub next : NextRound M (ops before) (ops since) (op poll)
next = next_round before since poll computed.next

pub sent_1 : names_sent 1 (given (put 1 ∷ collect 1 ∷ irq ∷ [])) ≡ true
sent_1 = told_by (names_sent 1) (put 1 ∷ collect 1 ∷ irq ∷ []) true computed.sent_1

pub sent_5 : names_sent 5 (given (before ++ since)) ≡ true
sent_5 = told_by (names_sent 5) (before ++ since) true computed.sent_5

pub not_sent_1 : names_sent 1 (given (before ++ since)) ≡ false
not_sent_1 = told_by (names_sent 1) (before ++ since) false computed.sent_not_1

-- 4. The bound is reached: three polls that are no rounds, and then one that is.
pub first : answers woken ≡ Ok Reset
first = answers_is woken ∙ computed.first

pub second : answers (woken ++ poll ∷ []) ≡ Ok Resume
second = answers_is (woken ++ poll ∷ []) ∙ computed.second

pub third : answers (woken ++ poll ∷ poll ∷ []) ≡ Ok Suspend
third = answers_is (woken ++ poll ∷ poll ∷ []) ∙ computed.third

pub fourth : answers (woken ++ poll ∷ poll ∷ poll ∷ []) ≡ Ok None
fourth = answers_is (woken ++ poll ∷ poll ∷ poll ∷ []) ∙ computed.fourth

answered : (h : List Do) → T (is_answered_poll (given h))
answered h = (not_empty_lem Display).polled (ops h) (op poll) (record { list = list; is = refl; lent = le_refl 384 })

two_polls : Polls M (after M (ops woken)) 2 (after M (ops (woken ++ poll ∷ poll ∷ [])))
two_polls = more (more none (op poll) [] (answered woken) tt) (op poll) [] (answered (woken ++ poll ∷ [])) tt

pub polls : Polls M (after M (ops woken)) 3 (after M (ops (woken ++ poll ∷ poll ∷ poll ∷ [])))
polls = more two_polls (op poll) [] (answered (woken ++ poll ∷ poll ∷ [])) tt

-- so the sentence is false of three polls
pub not_the_third : RoundAfter M 2 → ⊥
not_the_third claimed =
    subst (λ (a : Reply PollResult). T (is_round (poll_event a))) third
    (claimed (ops woken) _ (op poll) two_polls (answered (woken ++ poll ∷ poll ∷ [])))

-- the lid closed
pub sleeps : answers asleep ≡ Ok Suspend
sleeps = answers_is asleep ∙ computed.sleeps

pub slept : Slept Display (ops asleep) list [] (op poll)
slept = record { told = sleeps; between = tt; polled = answered (asleep ++ poll ∷ []) }

pub wakes : names 5 (given (asleep ++ poll ∷ [])) ≡ true
wakes = told_by (names 5) (asleep ++ poll ∷ []) true computed.wakes
