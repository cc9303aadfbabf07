-- T-11 over histories of the display, computed: the two turns of the display team, three interrupts with calls between, polls on the way, and why a poll is excepted. Unfolds the register
-- model, as proofs/Histories.antt does. Assumes nothing.
use Rattle.std.specs.Prelude.{Ok}
use mathlib.Core.Path.{◌≡◌, refl, sym, ap, subst, ◌∙◌}
use mathlib.Core.Bool.{Bool, true, false}
use mathlib.Core.List.{List, [], ◌∷◌, map}
use lib.Dec.{T}
use Rattle.board.specs.declared.Board.TheVariants.{Display}
use Rattle.laws.specs.Words.{bit, raised, clear, bits_below, set_bits}
use Rattle.register_file.specs.Registers.{fresh_file, fresh_regs, index, with_index, intrusb, with_intrusb, intr_of, with_intr, side_word, side_of, side_in, with_side_in, side_at, with_side}
use Rattle.register_file.specs.Control.{csr0l_read}
use Rattle.csr.specs.Control.{txcsrl_of, rxcsrl_of, tx_stored, rx_stored, txcsrl_set, rxcsrl_set, dropped}
use Rattle.store_list.specs.Stores.{listed}
use Rattle.store_rules.specs.Stores.{listing, with_own, write_index, write_txcsrl, write_rxcsrl, modify_txcsrl, modify_rxcsrl, write_packet}
use Rattle.event_rules.specs.Events.{interrupting, waiting_at, arrived, collected, bus_raised, bus_reset, bus_resume, bus_suspend, intrusb_cleared, intr_cleared}
use Rattle.common_rules.specs.Overrun.{under_run_cleared, over_run_cleared, repaired, repaired_below}
use Rattle.laws.specs.Lists.{numbers}
use Rattle.record.specs.Record.{fresh_record}
use Rattle.transfer_rules.specs.WriteTests as write
use Rattle.transfer_rules.specs.Write as write-write
use Rattle.transfer_rules.specs.ReadTests as read
use Rattle.transfer_rules.specs.Read as read-read
use Rattle.call_rules.specs.Interrupt.{snapshot_of, cleared, bus_taken, raised_if, endpoint_taken, endpoints_taken, taken}
use Rattle.round_rules.specs.Zero.{endpoint_zero, accepted_by, accept_step}
use Rattle.round_rules.specs.Walk.{ready_at, drained, visit, walked}
use Rattle.round_rules.specs.Round.{told}
use Rattle.round_rules.specs.Poll.{ended, walked_on, accepted_on, round_out, poll_logged}
use Rattle.host_rules.specs.Host.{collected_from}
use Rattle.record.specs.declared.Record.{Record}
use Rattle.round_rules.specs.declared.PollResult.TheVariants.{None, Reset}
use Rattle.calls.specs.Late.{Joined, end, kept, out}
use Rattle.rounds.specs.Machine.{Event, names, after}
use Rattle.history.specs.Late.{rounds_from}
use Rattle.history.proofs.Sample.{Do, arrive, take, put, collect, reset, suspend, irq, poll, op, ops, sample, M, at_start, after_all, answers, replies, answers_is, given, says, given_is, rounds_of}
use Rattle.history.proofs.Late.{late_costs_nothing}

-- the record after a history: of the driver, and of the sample
abbrev left : List Do → Record
left h = after M (ops h)

abbrev leaves : List Do → Record
leaves h = after sample h

left_is : (h : List Do) → left h ≡ leaves h
left_is h = (after_all at_start h).same

-- 1. Two turns: a packet at 1, and while the display draws one at 5; and the first interrupt left out.
abbrev turns : List Do
turns = arrive 1 ∷ irq ∷ arrive 5 ∷ irq ∷ []

abbrev one_turn : List Do
one_turn = arrive 1 ∷ arrive 5 ∷ irq ∷ []

-- 2. Three of them, with calls between: what arrived at 1 is read, and a packet is written at 5 and collected; and two left out.
abbrev many : List Do
many = arrive 1 ∷ irq ∷ take 1 ∷ put 5 ∷ collect 5 ∷ irq ∷ suspend ∷ irq ∷ []

abbrev last : List Do
last = arrive 1 ∷ take 1 ∷ put 5 ∷ collect 5 ∷ suspend ∷ irq ∷ []

-- 3. Two interrupts and a poll, twice; and the first of each two left out.
abbrev polled : List Do
polled = arrive 1 ∷ irq ∷ irq ∷ poll ∷ take 1 ∷ arrive 5 ∷ irq ∷ irq ∷ poll ∷ []

abbrev polled_once : List Do
polled_once = arrive 1 ∷ irq ∷ poll ∷ take 1 ∷ arrive 5 ∷ irq ∷ poll ∷ []

-- 4. A poll between: it tells of the reset that the first interrupt took; without that interrupt it tells of nothing, and the reset is still to be told.
abbrev told_between : List Do
told_between = reset ∷ irq ∷ poll ∷ irq ∷ []

abbrev across : List Do
across = reset ∷ poll ∷ irq ∷ []

-- whether a round names 1, and 5, for reading
abbrev names_1_5 : Event → List Bool
names_1_5 v = names 1 v ∷ names 5 v ∷ []

record Computed : Type 0 where
  two_turns : leaves turns ≡ leaves one_turn
  names_1 : names 1 (says one_turn) ≡ true
  names_5 : names 5 (says one_turn) ≡ true
  last_alone : leaves many ≡ leaves last
  sent : (leaves last).irq.ep_tx ≡ 32
  asleep : (leaves last).irq.suspend ≡ true
  rounds : map names_1_5 (rounds_from sample sample.fresh polled_once) ≡ ((true ∷ false ∷ []) ∷ (false ∷ true ∷ []) ∷ [])
  told : (leaves told_between).irq.reset ≡ false
  untold : (leaves across).irq.reset ≡ true
  first : replies (reset ∷ irq ∷ []) ≡ Ok Reset
  not_first : replies (reset ∷ []) ≡ Ok None

computed : Computed
unfolding bit raised clear bits_below set_bits fresh_file fresh_regs index with_index intrusb with_intrusb intr_of with_intr side_word side_of side_in with_side_in side_at with_side csr0l_read txcsrl_of rxcsrl_of tx_stored rx_stored txcsrl_set rxcsrl_set dropped listed listing with_own write_index write_txcsrl write_rxcsrl modify_txcsrl modify_rxcsrl write_packet interrupting waiting_at arrived collected bus_raised bus_reset bus_resume bus_suspend intrusb_cleared intr_cleared under_run_cleared over_run_cleared repaired numbers repaired_below fresh_record write.own_tests_at write.not_writable write-write.write_done write-write.loaded write-write.sent write-write.sent_other read.own_tests_at read.not_readable read.not_setup read.overflows read-read.read_done read-read.got read-read.read_other collected_from snapshot_of cleared bus_taken raised_if endpoint_taken endpoints_taken taken endpoint_zero accepted_by accept_step ready_at drained visit walked told ended walked_on accepted_on round_out poll_logged
computed = record {
  two_turns = refl;
  names_1 = refl;
  names_5 = refl;
  last_alone = refl;
  sent = refl;
  asleep = refl;
  rounds = refl;
  told = refl;
  untold = refl;
  first = refl;
  not_first = refl;
}

-- 1. The records are the same, and the next round names both.
pub two_turns : left turns ≡ left one_turn
two_turns = left_is turns ∙ computed.two_turns ∙ sym (left_is one_turn)

pub joined_turns : Joined (ops turns) (ops one_turn)
joined_turns = kept (op (arrive 1)) (out tt (kept (op (arrive 5)) (kept (op irq) end)))

pub both_named : (names 1 (given turns) ≡ true) × (names 5 (given turns) ≡ true)
both_named =
    let same : given turns ≡ given one_turn = (late_costs_nothing Display (ops turns) (ops one_turn) joined_turns).after [] (op poll) in
    (ap (names 1) (same ∙ given_is one_turn) ∙ computed.names_1, ap (names 5) (same ∙ given_is one_turn) ∙ computed.names_5)

-- 2. So with three, and calls between: what was sent and the suspend stand in the flags.
pub last_alone : left many ≡ left last
last_alone = left_is many ∙ computed.last_alone ∙ sym (left_is last)

pub joined_many : Joined (ops many) (ops last)
joined_many = kept (op (arrive 1)) (out tt (kept (op (take 1)) (kept (op (put 5)) (kept (op (collect 5)) (out tt (kept (op suspend) (kept (op irq) end)))))))

pub all_taken : ((left many).irq.ep_tx ≡ 32) × ((left many).irq.suspend ≡ true)
all_taken =
    (ap (λ (k : Record). k.irq.ep_tx) (last_alone ∙ left_is last) ∙ computed.sent, ap (λ (k : Record). k.irq.suspend) (last_alone ∙ left_is last) ∙ computed.asleep)

-- 3. The rounds on the way are the same: the first names 1, the second 5.
pub joined_polled : Joined (ops polled) (ops polled_once)
joined_polled =
    kept (op (arrive 1)) (out tt (kept (op irq) (kept (op poll) (kept (op (take 1)) (kept (op (arrive 5)) (out tt (kept (op irq) (kept (op poll) end))))))))

pub same_rounds : map names_1_5 (rounds_from M M.fresh (ops polled)) ≡ ((true ∷ false ∷ []) ∷ (false ∷ true ∷ []) ∷ [])
same_rounds =
    ap (map names_1_5) ((late_costs_nothing Display (ops polled) (ops polled_once) joined_polled).on_the_way ∙ rounds_of at_start polled_once) ∙ computed.rounds

-- 4. Two records that differ: an interrupt before a poll can't be left out for one after it.
pub not_across_poll : left told_between ≡ left across → ⊥
not_across_poll same =
    let flag : true ≡ false = sym computed.untold ∙ ap (λ (k : Record). k.irq.reset) (sym (left_is across) ∙ sym same ∙ left_is told_between) ∙ computed.told in
    subst T flag tt

-- and the poll between answers otherwise
pub told_reset : answers (reset ∷ irq ∷ []) ≡ Ok Reset
told_reset = answers_is (reset ∷ irq ∷ []) ∙ computed.first

pub told_nothing : answers (reset ∷ []) ≡ Ok None
told_nothing = answers_is (reset ∷ []) ∙ computed.not_first
