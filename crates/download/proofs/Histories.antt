-- T-12 over histories of the display, computed: downloads that end in each way, with refused writes between, and why setup end and a stall are excepted. Unfolds
-- the register model, as `history` proofs/Histories.antt does. Assumes nothing.
use mathlib.Core.Path.{◌≡◌, refl, sym, ap, subst, ◌∙◌}
use mathlib.Core.Bool.{Bool, true, false}
use mathlib.Core.List.{List, [], ◌∷◌, ◌++◌, map-append}
use Prim.Native.Nat.{ℕ}
use lib.Dec.{T, ltb, eqb, ltb→lt}
use lib.ListN.{length, replicate}
use Rattle.laws.specs.Words.{bit, raised, set_bits}
use Rattle.laws.specs.Lists.{numbers, pasted}
use Rattle.board.specs.declared.Board.TheVariants.{Display}
use Rattle.register_file.specs.Registers.{fresh_file, fresh_regs, index, with_index, intrusb, with_intrusb, intr_of, with_intr, setupend, with_setupend, side_word, side_of, side_in, with_side_in, side_at, with_side}
use Rattle.register_file.specs.Control.{csr0l_read, csr0l_stored}
use Rattle.csr.specs.Control.{csr0l_number, zero_tx_stored, csr0l_set, txcsrl_of, rxcsrl_of, dropped}
use Rattle.store_list.specs.Stores.{listed}
use Rattle.store_rules.specs.Stores.{listing, write_index, write_csr0l, modify_csr0l, write_packet}
use Rattle.event_rules.specs.Events.{interrupting, waiting_at, arrived, collected, bus_raised, bus_reset, setup_ended, intrusb_cleared, intr_cleared}
use Rattle.common_rules.specs.Common.{selected, stall_csr0l, ep_rx_stall}
use Rattle.common_rules.specs.Overrun.{under_run_cleared, over_run_cleared, repaired, repaired_below}
use Rattle.control_state.specs.declared.ControlStateEnum.{ControlStateEnum}
use Rattle.control_state.specs.declared.ControlStateEnum.TheVariants.{Idle, Setup, DataIn, Accepted}
use Rattle.endpoints.specs.Endpoints.{granted}
use Rattle.endpoints.specs.Check.{given}
use Rattle.endpoints.specs.Allocate.{answer_to, allocate}
use Rattle.record.specs.declared.Record.{Record}
use Rattle.record.specs.Record.{fresh_record}
use Rattle.call_rules.specs.Calls.{idled}
use Rattle.call_rules.specs.Stall.{ep_stall, after_stall}
use Rattle.call_rules.specs.Interrupt.{snapshot_of, cleared, bus_taken, raised_if, endpoint_taken, endpoints_taken, taken}
use Rattle.transfer_rules.specs.Peek.{blocked, ended as dataEnded}
use Rattle.transfer_rules.specs.WriteZero.{accepted, tx_size_in, tx_size, data_in, sent_data_in}
use Rattle.transfer_rules.specs.ReadZero.{w_length, way_in, set_up, read_zero}
use Rattle.transfer_rules.specs.WriteTests as write
use Rattle.transfer_rules.specs.Write as write-write
use Rattle.transfer_rules.specs.ReadTests as read
use Rattle.transfer_rules.specs.Read as read-read
use Rattle.round_rules.specs.Zero.{sent_by, setup_taken, restarted, cut_short, received_by, zero_served, endpoint_zero, put_back, accepted_by, accept_step}
use Rattle.round_rules.specs.Walk.{walked}
use Rattle.round_rules.specs.Round.{told}
use Rattle.round_rules.specs.Poll.{ended as roundEnded, walked_on, accepted_on, round_out, poll_logged}
use Rattle.host_rules.specs.Host.{collected_from}
use Rattle.calls.specs.Calls.{Op, Outcome, outcome, step, runs}
use Rattle.calls.specs.Control.{remaining, reporting, part}
use Rattle.download.specs.Download.{disturbs, total, finishes, finished, is_reading, none, none_anew, Asked, opening}
use Rattle.history.proofs.Sample.{list, Both, at_start}
use Rattle.download.proofs.Sample.{holding, buffer, Act, alloc, ask, fetch, send, collect, irq, poll, cut, stall, shake, op, ops, does, next, last, part_in, total_in, finished_in, none_in, none_anew_in, replies, replies_in, states, states_in, ended, ended_in, stores, outcome_of_lem, part_of_lem, after_one, after_all, total_of, finished_of, none_of, none_anew_of, replies_of, states_of, ended_of}

-- a write with a list that is long enough, and what comes before the next can be taken
abbrev put : ℕ → Act
put n = send n 384

abbrev turn : List Act
turn = collect ∷ irq ∷ poll ∷ []

-- before the poll: a size is recorded, and a Setup packet comes that asks n bytes
abbrev asking : ℕ → ℕ → List Act
asking size n = alloc size ∷ ask n ∷ irq ∷ []

-- the poll that reports it, operations a, and the read
abbrev begin : ℕ → List Act → List Act
begin n a = poll ∷ (a ++ fetch n ∷ [])

-- the record after a history: of the driver, and of the sample; and of a download after the read
abbrev left : List Act → Record
left h = runs (fresh_record Display) (ops h)

abbrev leaves : List Act → Record
leaves = last (fresh_record Display)

abbrev begun : ℕ → List Act → List Act → Record
begun n h a = runs (left h) (opening list (ops a) buffer (holding n) list)

abbrev begins : ℕ → List Act → List Act → Record
begins n h a = last (leaves h) (begin n a)

-- what is seen of it: Setup from the poll to the read, DataIn from there to the write that ends it, then Idle; and DataEnd in that write alone
abbrev phases : List Act → List Act → List ControlStateEnum
phases a c = Idle ∷ Setup ∷ replicate (length a) Setup ++ DataIn ∷ replicate (length c) DataIn ++ Idle ∷ []

abbrev at_last : List Act → List Act → List Bool
at_last a c = false ∷ false ∷ replicate (length a) false ++ replicate (length c) false ++ true ∷ []

-- A download of n bytes: its Setup is reported in the record after h, and read after a. c neither disturbs nor finishes it, and o finishes it. The replies from the
-- poll on are rs, and the stores of o are ns.
pub record Ends (n : ℕ) (h a c : List Act) (o : Act) (rs ns : List ℕ) : Type 0 where
  pub asked : Asked (left h) list (ops a) buffer (holding n) list n
  pub calm : none disturbs (begun n h a) (ops c) ≡ true
  pub unfinished : finished n 0 (begun n h a) (ops c) ≡ false
  pub finishing : finishes n (total (begun n h a) (ops c)) (tx_size (runs (begun n h a) (ops c))) (part (runs (begun n h a) (ops c)) (op o)) ≡ true
  pub replied : replies (left h) (ops (begin n a ++ c ++ o ∷ [])) ≡ rs
  pub entered : states (left h) (ops (begin n a ++ c ++ o ∷ [])) ≡ phases a c
  pub once : ended (left h) (ops (begin n a ++ c ++ o ∷ [])) ≡ at_last a c
  pub nothing : remaining (step (runs (begun n h a) (ops c)) (op o)) ≡ 0
  pub stored : stores (outcome (runs (begun n h a) (ops c)) (op o)) ≡ ns

-- the operations c after h give these control states, and DataEnd is among no stores
pub record Breaks (h c : List Act) (ss : List ControlStateEnum) : Type 0 where
  pub entered : states (left h) (ops c) ≡ ss
  pub never : ended (left h) (ops c) ≡ replicate (length c) false

-- the same of the sample; the read is answered, and its eight bytes ask n in
abbrev Asks : ℕ → Outcome → Type 0
Asks n x = (eqb x.reply 0 ≡ true) × (way_in x.buf ≡ true) × (w_length x.buf ≡ n) × T (ltb 0 n)

record EndsIn (n : ℕ) (h a c : List Act) (o : Act) (rs ns : List ℕ) : Type 0 where
  reported : part_in (leaves h) poll ≡ reporting
  undisturbed : none_in disturbs (next (leaves h) poll) a ≡ true
  unread : none_in is_reading (next (leaves h) poll) a ≡ true
  given : Asks n (does (last (leaves h) (poll ∷ a)) (fetch n))
  calm : none_in disturbs (begins n h a) c ≡ true
  unfinished : finished_in n 0 (begins n h a) c ≡ false
  finishing : finishes n (total_in (begins n h a) c) (tx_size (last (begins n h a) c)) (part_in (last (begins n h a) c) o) ≡ true
  replied : replies_in (leaves h) (begin n a ++ c ++ o ∷ []) ≡ rs
  entered : states_in (leaves h) (begin n a ++ c ++ o ∷ []) ≡ phases a c
  once : ended_in (leaves h) (begin n a ++ c ++ o ∷ []) ≡ at_last a c
  nothing : remaining (next (last (begins n h a) c) o) ≡ 0
  stored : stores (does (last (begins n h a) c) o) ≡ ns

record BreaksIn (h c : List Act) (ss : List ControlStateEnum) : Type 0 where
  entered : states_in (leaves h) c ≡ ss
  never : ended_in (leaves h) c ≡ replicate (length c) false

ends : {n : ℕ} {h a c : List Act} {o : Act} {rs ns : List ℕ} → EndsIn n h a c o rs ns → Ends n h a c o rs ns
ends {n} {h} {a} {c} {o} s =
    let x = after_all at_start h in
    let told = after_one x poll in
    let y : Both (begun n h a) (begins n h a) =
    subst (λ (l : List Op). Both (runs (left h) (op poll ∷ l)) (begins n h a)) (map-append op a (fetch n ∷ [])) (after_all x (begin n a)) in
    let z = after_all y c in
    let got : outcome (runs (left h) (op poll ∷ ops a)) (op (fetch n)) ≡ does (last (leaves h) (poll ∷ a)) (fetch n) = outcome_of_lem (after_all told a) (fetch n) in
    record {
      asked = record {
        before = record {
          whole = x.kept.good.six;
          reported = part_of_lem x poll ∙ s.reported;
          calm = subst T (sym (none_of disturbs told a ∙ s.undisturbed)) tt;
          unread = subst T (sym (none_of is_reading told a ∙ s.unread)) tt;
        };
        given = ap (λ (r : Outcome). eqb r.reply 0) got ∙ s.given.0;
        way = ap (λ (r : Outcome). way_in r.buf) got ∙ s.given.1;
        asks = ap (λ (r : Outcome). w_length r.buf) got ∙ s.given.2;
        some = ltb→lt 0 n s.given.3;
      };
      calm = none_of disturbs y c ∙ s.calm;
      unfinished = finished_of n refl y c ∙ s.unfinished;
      finishing = (λ i. finishes n (total_of y c i) (tx_size (z.same i)) (part_of_lem z o i)) ∙ s.finishing;
      replied = replies_of x (begin n a ++ c ++ o ∷ []) ∙ s.replied;
      entered = states_of x (begin n a ++ c ++ o ∷ []) ∙ s.entered;
      once = ended_of x (begin n a ++ c ++ o ∷ []) ∙ s.once;
      nothing = ap (λ (r : Outcome). remaining r.«record») (outcome_of_lem z o) ∙ s.nothing;
      stored = ap stores (outcome_of_lem z o) ∙ s.stored;
    }

breaks : {h c : List Act} {ss : List ControlStateEnum} → BreaksIn h c ss → Breaks h c ss
breaks {h} {c} s = record { entered = states_of (after_all at_start h) c ∙ s.entered; never = ended_of (after_all at_start h) c ∙ s.never }

-- Between the poll and the read: a write is refused with 11, and an interrupt and a poll change nothing.
abbrev meanwhile : List Act
meanwhile = put 64 ∷ irq ∷ poll ∷ []

-- 1. 128 bytes are asked, and the second packet of 64 reaches them: a download that ends by the total, with a full packet.
-- 2. 255 are asked, and after 64 come 10: it ends by a short packet.
abbrev one_full : List Act
one_full = put 64 ∷ turn

-- 3. 255 are asked, and there are 128: it ends by an empty packet.
abbrev two_full : List Act
two_full = put 64 ∷ turn ++ put 64 ∷ turn

-- 4. 100 are asked. Between 64 and 36 stand a write before the first packet was collected, one that is longer than the area, and one that is lent a list of 383.
abbrev with_refused : List Act
with_refused = put 64 ∷ put 36 ∷ turn ++ put 65 ∷ send 36 383 ∷ []

-- Of what may stand between: after 64 of 100 bytes the size is allocated anew, as 8; the bus is reset, and a poll says so; a packet comes that looks
-- like a Setup packet, without setup end: a read of it is refused with 12, and a poll takes no notice of it. Then 10 bytes are no short packet, and 36 are more than was left.
abbrev amid : List Act
amid = put 64 ∷ turn ++ alloc 8 ∷ shake ∷ irq ∷ poll ∷ ask 100 ∷ fetch 100 ∷ irq ∷ poll ∷ put 10 ∷ turn

-- 5. Endpoint 0 was not allocated, so that the size is 0: no packet is short, and an empty one ends nothing. And a size over the area's: allocation doesn't check
-- endpoint 0, so that 65 can be recorded, and every packet is short.
abbrev unallocated : List Act
unallocated = ask 64 ∷ irq ∷ []

abbrev one_empty : List Act
one_empty = put 0 ∷ turn

-- 6. Setup end between the poll and the read: with the next Setup packet a poll leaves DataIn, and nothing has disturbed since the read. The stall call leaves it too.
abbrev cut_before : List Act
cut_before = poll ∷ cut ∷ fetch 100 ∷ []

abbrev anew : List Act
anew = ask 100 ∷ irq ∷ poll ∷ []

-- 7. Afterwards: setup end, a stall, an empty write and a poll, and another Setup that a poll reports; it is not read, and a stall, an empty write, a poll and a setup end come, and a
-- Setup that is reported again: DataIn is not entered, and DataEnd not stored. But then it is read, and there is another download.
abbrev whole : List Act
whole = begin 128 [] ++ one_full ++ put 64 ∷ []

abbrev afterwards : List Act
afterwards = cut ∷ stall ∷ collect ∷ put 0 ∷ poll ∷ ask 100 ∷ irq ∷ poll ∷ stall ∷ put 0 ∷ poll ∷ cut ∷ ask 100 ∷ irq ∷ poll ∷ []

abbrev states_afterwards : List ControlStateEnum
states_afterwards = Idle ∷ Idle ∷ Idle ∷ Idle ∷ Accepted ∷ Idle ∷ Idle ∷ Idle ∷ Setup ∷ Idle ∷ Accepted ∷ Idle ∷ Idle ∷ Idle ∷ Idle ∷ Setup ∷ []

-- the stores of a write of n bytes, over 0, that ends a download: the selection, the packet, TxPktRdy, and last CSR0L with DataEnd, which is 8 of the 10
abbrev ending : ℕ → List ℕ
ending n = 3 ∷ 0 ∷ 0 ∷ 15 ∷ 0 ∷ n ∷ 4 ∷ 0 ∷ 2 ∷ 4 ∷ 0 ∷ 10 ∷ []

-- the same where a packet waits: RxPktRdy, 1, is stored as it reads
abbrev ending_amid : List ℕ
ending_amid = 3 ∷ 0 ∷ 0 ∷ 15 ∷ 0 ∷ 36 ∷ 4 ∷ 0 ∷ 3 ∷ 4 ∷ 0 ∷ 11 ∷ []

record Computed : Type 0 where
  brought : (size n : ℕ) → (does (leaves (alloc size ∷ [])) (ask n)).fifo ≡ holding n
  full : EndsIn 128 (asking 64 128) meanwhile one_full (put 64) (0 ∷ 11 ∷ replicate 8 0) (ending 64)
  short : EndsIn 255 (asking 64 255) [] one_full (put 10) (replicate 7 0) (ending 10)
  empty : EndsIn 255 (asking 64 255) [] two_full (put 0) (replicate 11 0) (3 ∷ 0 ∷ 0 ∷ 4 ∷ 0 ∷ 2 ∷ 4 ∷ 0 ∷ 10 ∷ [])
  refused : EndsIn 100 (asking 64 100) [] with_refused (put 36) (0 ∷ 0 ∷ 0 ∷ 6 ∷ 0 ∷ 0 ∷ 0 ∷ 9 ∷ 15 ∷ 0 ∷ []) (ending 36)
  between : EndsIn 100 (asking 64 100) [] amid (put 36) (replicate 11 0 ++ 12 ∷ replicate 7 0) ending_amid
  no_size : EndsIn 64 unallocated [] one_empty (put 64) (replicate 7 0) (ending 64)
  over_size_lem : EndsIn 255 (asking 65 255) [] [] (put 64) (replicate 3 0) (ending 64)
  cut_short_lem : BreaksIn (asking 64 100) (cut_before ++ anew) (Idle ∷ Setup ∷ Setup ∷ DataIn ∷ DataIn ∷ DataIn ∷ Setup ∷ [])
  cuts : none_in disturbs (next (leaves (asking 64 100)) poll) (cut ∷ []) ≡ false
  not_since : none_in disturbs (last (leaves (asking 64 100)) cut_before) anew ≡ true
  stalled : BreaksIn (asking 64 100) (begin 100 [] ++ put 64 ∷ stall ∷ []) (Idle ∷ Setup ∷ DataIn ∷ DataIn ∷ Idle ∷ [])
  afterwards_silent : BreaksIn (asking 64 128 ++ whole) afterwards states_afterwards
  none_anew_lem : none_anew_in false (leaves (asking 64 128 ++ whole)) afterwards ≡ true
  anew_read : none_anew_in false (leaves (asking 64 128 ++ whole)) (afterwards ++ fetch 100 ∷ []) ≡ false
  stalls : none_in disturbs (begins 100 (asking 64 100) []) (put 64 ∷ stall ∷ []) ≡ false

computed : Computed
unfolding bit raised set_bits fresh_file fresh_regs index with_index intrusb with_intrusb intr_of with_intr side_word side_of side_in with_side_in side_at with_side csr0l_read txcsrl_of rxcsrl_of dropped listed listing write_index write_packet interrupting waiting_at arrived collected intrusb_cleared intr_cleared under_run_cleared over_run_cleared repaired numbers repaired_below fresh_record write.not_writable write-write.write_done write-write.loaded write-write.sent read.own_tests_at read.not_readable read.not_setup read.overflows read-read.got collected_from snapshot_of cleared bus_taken raised_if endpoint_taken endpoints_taken taken endpoint_zero accepted_by accept_step walked told roundEnded walked_on accepted_on round_out poll_logged pasted setupend with_setupend csr0l_stored csr0l_number zero_tx_stored csr0l_set write_csr0l modify_csr0l setup_ended bus_raised bus_reset selected stall_csr0l ep_rx_stall granted given answer_to allocate idled ep_stall after_stall blocked dataEnded tx_size_in tx_size data_in sent_data_in w_length way_in set_up read_zero sent_by setup_taken restarted cut_short received_by zero_served accepted put_back
computed =
    record {
      brought = λ size n. refl;
      full = record { reported = refl; undisturbed = refl; unread = refl; given = (refl, refl, refl, tt); calm = refl; unfinished = refl; finishing = refl; replied = refl; entered = refl; once = refl; nothing = refl; stored = refl };
      short = record { reported = refl; undisturbed = refl; unread = refl; given = (refl, refl, refl, tt); calm = refl; unfinished = refl; finishing = refl; replied = refl; entered = refl; once = refl; nothing = refl; stored = refl };
      empty = record { reported = refl; undisturbed = refl; unread = refl; given = (refl, refl, refl, tt); calm = refl; unfinished = refl; finishing = refl; replied = refl; entered = refl; once = refl; nothing = refl; stored = refl };
      refused = record { reported = refl; undisturbed = refl; unread = refl; given = (refl, refl, refl, tt); calm = refl; unfinished = refl; finishing = refl; replied = refl; entered = refl; once = refl; nothing = refl; stored = refl };
      between = record { reported = refl; undisturbed = refl; unread = refl; given = (refl, refl, refl, tt); calm = refl; unfinished = refl; finishing = refl; replied = refl; entered = refl; once = refl; nothing = refl; stored = refl };
      no_size = record { reported = refl; undisturbed = refl; unread = refl; given = (refl, refl, refl, tt); calm = refl; unfinished = refl; finishing = refl; replied = refl; entered = refl; once = refl; nothing = refl; stored = refl };
      over_size_lem = record { reported = refl; undisturbed = refl; unread = refl; given = (refl, refl, refl, tt); calm = refl; unfinished = refl; finishing = refl; replied = refl; entered = refl; once = refl; nothing = refl; stored = refl };
      cut_short_lem = record { entered = refl; never = refl };
      cuts = refl;
      not_since = refl;
      stalled = record { entered = refl; never = refl };
      afterwards_silent = record { entered = refl; never = refl };
      none_anew_lem = refl;
      anew_read = refl;
      stalls = refl;
    }

-- the driver's own: what a read is lent is the FIFO memory as the arrival left it
pub brought : (size n : ℕ) → (outcome (left (alloc size ∷ [])) (op (ask n))).fifo ≡ holding n
brought size n = ap (λ (x : Outcome). x.fifo) (outcome_of_lem (after_all at_start (alloc size ∷ [])) (ask n)) ∙ computed.brought size n

-- 1.
pub ends_full : Ends 128 (asking 64 128) meanwhile one_full (put 64) (0 ∷ 11 ∷ replicate 8 0) (ending 64)
ends_full = ends computed.full

-- 2.
pub ends_short : Ends 255 (asking 64 255) [] one_full (put 10) (replicate 7 0) (ending 10)
ends_short = ends computed.short

-- 3.
pub ends_empty : Ends 255 (asking 64 255) [] two_full (put 0) (replicate 11 0) (3 ∷ 0 ∷ 0 ∷ 4 ∷ 0 ∷ 2 ∷ 4 ∷ 0 ∷ 10 ∷ [])
ends_empty = ends computed.empty

-- 4.
pub refused_between : Ends 100 (asking 64 100) [] with_refused (put 36) (0 ∷ 0 ∷ 0 ∷ 6 ∷ 0 ∷ 0 ∷ 0 ∷ 9 ∷ 15 ∷ 0 ∷ []) (ending 36)
refused_between = ends computed.refused

pub ends_between : Ends 100 (asking 64 100) [] amid (put 36) (replicate 11 0 ++ 12 ∷ replicate 7 0) ending_amid
ends_between = ends computed.between

-- 5.
pub no_size : Ends 64 unallocated [] one_empty (put 64) (replicate 7 0) (ending 64)
no_size = ends computed.no_size

pub over_size_lem : Ends 255 (asking 65 255) [] [] (put 64) (replicate 3 0) (ending 64)
over_size_lem = ends computed.over_size_lem

-- 6.
pub cut_short_lem : Breaks (asking 64 100) (cut_before ++ anew) (Idle ∷ Setup ∷ Setup ∷ DataIn ∷ DataIn ∷ DataIn ∷ Setup ∷ [])
cut_short_lem = breaks computed.cut_short_lem

pub cut_disturbs : none disturbs (step (left (asking 64 100)) (op poll)) (ops (cut ∷ [])) ≡ false
cut_disturbs = none_of disturbs (after_one (after_all at_start (asking 64 100)) poll) (cut ∷ []) ∙ computed.cuts

pub not_since_the_read : none disturbs (left (asking 64 100 ++ cut_before)) (ops anew) ≡ true
not_since_the_read = none_of disturbs (after_all at_start (asking 64 100 ++ cut_before)) anew ∙ computed.not_since

pub stalled : Breaks (asking 64 100) (begin 100 [] ++ put 64 ∷ stall ∷ []) (Idle ∷ Setup ∷ DataIn ∷ DataIn ∷ Idle ∷ [])
stalled = breaks computed.stalled

pub stall_disturbs : none disturbs (begun 100 (asking 64 100) []) (ops (put 64 ∷ stall ∷ [])) ≡ false
stall_disturbs = none_of disturbs (after_all (after_all at_start (asking 64 100)) (begin 100 [])) (put 64 ∷ stall ∷ []) ∙ computed.stalls

-- 7.
pub afterwards_silent : Breaks (asking 64 128 ++ whole) afterwards states_afterwards
afterwards_silent = breaks computed.afterwards_silent

pub none_anew_lem : none_anew false (left (asking 64 128 ++ whole)) (ops afterwards) ≡ true
none_anew_lem = none_anew_of {b = false} refl (after_all at_start (asking 64 128 ++ whole)) afterwards ∙ computed.none_anew_lem

pub anew_read : none_anew false (left (asking 64 128 ++ whole)) (ops (afterwards ++ fetch 100 ∷ [])) ≡ false
anew_read = none_anew_of {b = false} refl (after_all at_start (asking 64 128 ++ whole)) (afterwards ++ fetch 100 ∷ []) ∙ computed.anew_read
