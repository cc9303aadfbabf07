-- A few operations on the display, lent what they need, as a machine that computes: the board's table stands written out, and that a
-- record passes reply 16's test is known. Its histories are the driver's own. Assumes nothing.
use Rattle.std.specs.Prelude.{Err, Ok}
use Rattle.round_rules.specs.declared.PollResult.{PollResult}
use mathlib.Core.Path.{◌≡◌, refl, sym, ap, subst, ◌∙◌}
use mathlib.Core.Bool.{Bool, true, false, not, ◌&&◌, ◌||◌, cond}
use mathlib.Core.List.{List, [], ◌∷◌, map}
use Prim.Native.Nat.{ℕ, ◌+◌}
use lib.Dec.{T, ltb, leb}
use lib.ListN.{length, replicate}
use Rattle.laws.specs.Lists.{pasted}
use Rattle.board.specs.declared.Row.{Row}
use Rattle.board.specs.declared.Board.TheVariants.{Display}
use Rattle.board.specs.declared.Direction.TheVariants.{Out, In}
use Rattle.board.specs.Table.{area_at, total}
use Rattle.board.specs.Boards.{rows, display, rows_display}
use Rattle.register_file.specs.Registers.{File, side_at}
use Rattle.store_rules.specs.Stores.{log}
use Rattle.event_rules.specs.Events as events
use Rattle.common_rules.specs.Overrun.{repaired_below, check_overrun}
use Rattle.record.specs.declared.Record.{Record}
use Rattle.record.specs.Record.{fresh_record, record_sound, admission_by, area_in, area_of, need_in, need_of, endpoints_in, endpoints_of, Reply}
use Rattle.record.proofs.Passing.{sound_record_passes}
use Rattle.transfer_rules.specs.Peek.{short_in, has_tx_pkt_rdy, tests_by}
use Rattle.transfer_rules.specs.WriteZero.{tx_size}
use Rattle.transfer_rules.specs.ReadZero.{rx_size}
use Rattle.transfer_rules.specs.WriteTests as write
use Rattle.transfer_rules.specs.Write as write-write
use Rattle.transfer_rules.specs.ReadTests as read
use Rattle.transfer_rules.specs.Read as read-read
use Rattle.call_rules.specs.Interrupt.{snapshot_of, cleared, taken, interrupted, interrupt_by, interrupt_call}
use Rattle.round_rules.specs.Poll.{PollOutcome, outcome_of, poll_logged, poll_served, poll_when, poll_admitted, poll_call}
use Rattle.host_rules.specs.Host as host
use Rattle.calls.specs.Calls.{Op, step}
use Rattle.calls.specs.Calls as calls
use Rattle.rounds.specs.Machine.{Event, quiet, Machine, is_round, is_interrupt, arrives_at, names, arrives_above, count, run, after, some, Stays, false_namings, arrivals_above, ends_in_round}
use Rattle.rounds.specs.Sentences.{StillWaits, NextRound}
use Rattle.history.specs.Driver.{event, poll_event, interrupt_event, arrival_event, waiting, length_at, takes, brings, driver}
use Rattle.history.specs.Late.{rounds_from}
use Rattle.history.proofs.Look.{Kept}
use Rattle.history.proofs.Demand.{kept_fresh, kept_step}

-- what is lent, and the packet that goes either way
abbrev pub fifo : List ℕ
fifo = replicate 1664 0

abbrev pub list : List ℕ
list = replicate 384 0

abbrev buffer : List ℕ
buffer = replicate 64 0

abbrev packet : List ℕ
packet = 7 ∷ 9 ∷ []

pub data Do : Type 0 where
  arrive take put collect : ℕ → Do  -- the packet arrives at an endpoint and is read there, or is written there and collected
  reset resume suspend : Do  -- of the bus
  irq poll : Do

abbrev pub op : Do → Op
op (arrive e) = calls.arrival e packet fifo
op (take e) = calls.read e buffer fifo list
op (put e) = calls.write e packet fifo list
op (collect e) = calls.collection e fifo
op reset = calls.bus_reset
op resume = calls.resume
op suspend = calls.suspend
op irq = calls.on_interrupt
op poll = calls.poll list

-- What they leave, with the table t and the answer of reply 16's test as arguments: an interrupt, a poll, and then each.
abbrev pub irq_in : Bool → List Row → Record → Record
irq_in true t k = record {
  regs = record { board = k.regs.board; words = cleared k.regs.words };
  endpoints = k.endpoints;
  control_state = k.control_state;
  irq = taken (length t) (snapshot_of k.regs.words) k.irq;
}
irq_in false t k = k

abbrev pub poll_in : Reply Unit → List Row → Record → PollOutcome
poll_in (Err x) t k = outcome_of k (poll_when (Err x) k.regs.board (log k.regs.words list 0) k.control_state k.irq)
poll_in (Ok tt) t k = outcome_of k (poll_logged (repaired_below (length t) (log k.regs.words list 0)) k.control_state k.irq)

module _ (t : List Row) (passes : Bool) (k : Record) where
  abbrev entry_in : ℕ → Reply Unit
  entry_in e = admission_by (ltb (length fifo) (total t)) passes (leb (length t) e)

  abbrev both_in : ℕ → Reply Unit
  both_in e = admission_by (ltb (length fifo) (total t) || ltb (length list) 384) passes (leb (length t) e)

  abbrev arrive_in : ℕ → host.Arrival
  arrive_in e =
      host.unless_arrived (host.arrival_by (entry_in e) (ltb (area_at t e Out).size (length packet)) (side_at k.regs.words e Out).ready) k fifo
      (record { event = host.done k (events.arrived k.regs.words e (length packet)); fifo = pasted fifo (area_at t e Out).start packet })

  abbrev take_in : ℕ → Record
  take_in e =
      (read-read.outcome k
      (read-read.read_by (tests_by (both_in e) (read.own_tests_at k.regs.words k.control_state e (length buffer)))
      k.regs.board k.control_state k.irq (rx_size k) e buffer fifo (log k.regs.words list 0))).result.«record»

  abbrev put_in : ℕ → Record
  put_in e =
      (write-write.outcome k
      (write-write.write_by
      (tests_by (both_in e)
      (write.own_tests (has_tx_pkt_rdy e k.regs.words) (ltb (area_at t e In).size (length packet)) (write.not_writable k.control_state e (length packet))))
      k.regs.board k.control_state k.irq (tx_size k) e packet fifo (log k.regs.words list 0))).result.«record»

  abbrev collect_in : ℕ → Record
  collect_in e = (host.unless_collected (host.collection_by (entry_in e) (side_at k.regs.words e In).ready) k (host.collected_from k e)).«record»

  abbrev bus_in : File → Record
  bus_in r = (host.unless (admission_by false passes false) k r).«record»

  abbrev pub step_in : Do → Record
  step_in (arrive e) = (arrive_in e).event.«record»
  step_in (take e) = take_in e
  step_in (put e) = put_in e
  step_in (collect e) = collect_in e
  step_in reset = bus_in (events.bus_reset k.regs.words)
  step_in resume = bus_in (events.bus_resume k.regs.words)
  step_in suspend = bus_in (events.bus_suspend k.regs.words)
  step_in irq = irq_in passes t k
  step_in poll = (poll_in (admission_by (ltb (length list) 384) passes false) t k).result.«record»

  abbrev pub answer_in : Reply PollResult
  answer_in = (poll_in (admission_by (ltb (length list) 384) passes false) t k).result.answer

  abbrev pub event_in : Do → Event
  event_in (arrive e) = arrival_event (arrive_in e).event.answer e
  event_in (take e) = quiet
  event_in (put e) = quiet
  event_in (collect e) = quiet
  event_in reset = quiet
  event_in resume = quiet
  event_in suspend = quiet
  event_in irq = interrupt_event (interrupt_by passes k).answer k
  event_in poll = poll_event answer_in

-- the driver's are these, over its own table
pub poll_in_lem : (k : Record) (x : Reply Unit)
    → outcome_of k (poll_when x k.regs.board (log k.regs.words list 0) k.control_state k.irq) ≡ poll_in x (rows k.regs.board) k
unfolding poll_served check_overrun endpoints_in
poll_in_lem k (Err x) = refl
poll_in_lem k (Ok tt) = refl

pub irq_in_lem : (k : Record) (passes : Bool) → (interrupt_by passes k).«record» ≡ irq_in passes (rows k.regs.board) k
unfolding interrupted endpoints_in endpoints_of
irq_in_lem k true = refl
irq_in_lem k false = refl

step_in_lem : (k : Record) (o : Do) → step k (op o) ≡ step_in (rows k.regs.board) (record_sound k) k o
unfolding host.arrival_call host.arrival_refusal host.arrival_refusal_in read-read.read_call read-read.read_in read.tests_in write-write.write_call write-write.write_in write.tests_in write.own_tests_at write.too_long host.collection_call host.collection_refusal host.collection_refusal_in host.bus_reset_call host.resume_call host.suspend_call interrupt_call poll_call poll_admitted record_sound area_in area_of need_in need_of endpoints_in endpoints_of short_in
step_in_lem k (arrive e) = refl
step_in_lem k (take e) = refl
step_in_lem k (put e) = refl
step_in_lem k (collect e) = refl
step_in_lem k reset = refl
step_in_lem k resume = refl
step_in_lem k suspend = refl
step_in_lem k irq = irq_in_lem k (record_sound k)
step_in_lem k poll = ap (λ (o : PollOutcome). o.result.«record») (poll_in_lem k (admission_by (ltb (length list) 384) (record_sound k) false))

abbrev pub answer : Record → Reply PollResult
answer k = (poll_call k list).result.answer

answer_in_lem : (k : Record) → answer k ≡ answer_in (rows k.regs.board) (record_sound k) k
unfolding poll_call poll_admitted record_sound
answer_in_lem k = ap (λ (o : PollOutcome). o.result.answer) (poll_in_lem k (admission_by (ltb (length list) 384) (record_sound k) false))

event_in_lem : (k : Record) (o : Do) → event k (op o) ≡ event_in (rows k.regs.board) (record_sound k) k o
unfolding host.arrival_call host.arrival_refusal host.arrival_refusal_in interrupt_call record_sound area_in area_of need_in need_of endpoints_in endpoints_of
event_in_lem k (arrive e) = refl
event_in_lem k (take e) = refl
event_in_lem k (put e) = refl
event_in_lem k (collect e) = refl
event_in_lem k reset = refl
event_in_lem k resume = refl
event_in_lem k suspend = refl
event_in_lem k irq = refl
event_in_lem k poll = ap poll_event (answer_in_lem k)

-- with the display's table, and a record that passes
abbrev pub sample : Machine
sample = record {
  top = 5;
  State = Record;
  Op = Do;
  fresh = fresh_record Display;
  step = step_in display true;
  event = event_in display true;
  waiting = waiting;
  length = length_at;
  takes = λ k o. takes k (op o);
  brings = λ o. brings (op o);
}

abbrev pub M : Machine
M = driver Display

abbrev pub ops : List Do → List Op
ops = map op

-- A record of a history of the driver, and the same one of the sample. There the two do the same.
pub record Both (k q : Record) : Type 0 where
  pub kept : Kept Display k
  pub same : k ≡ q

pub at_start : Both M.fresh sample.fresh
at_start = record { kept = kept_fresh Display; same = refl }

module _ {k q : Record} (x : Both k q) where
  pub table : rows k.regs.board ≡ display
  table = ap rows x.kept.board ∙ rows_display

  pub passes : record_sound k ≡ true
  passes = sound_record_passes k x.kept.good.sound

  pub after_one : (o : Do) → Both (M.step k (op o)) (sample.step q o)
  after_one o = record {
    kept = kept_step Display k (op o) x.kept;
    same = step_in_lem k o ∙ (λ i. step_in (table i) (passes i) (x.same i) o);
  }

  pub event_of : (o : Do) → M.event k (op o) ≡ sample.event q o
  event_of o = event_in_lem k o ∙ (λ i. event_in (table i) (passes i) (x.same i) o)

  pub answer_of_lem : answer k ≡ answer_in display true q
  answer_of_lem = answer_in_lem k ∙ (λ i. answer_in (table i) (passes i) (x.same i))

-- so they do over any more operations
pub after_all : {k q : Record} → Both k q → (h : List Do) → Both (run M k (ops h)) (run sample q h)
after_all x [] = x
after_all {k} x (o ∷ h) = after_all {k = M.step k (op o)} (after_one x o) h

some_of : (test : Event → Bool) {k q : Record} → Both k q → (h : List Do) → some M test k (ops h) ≡ some sample test q h
some_of test x [] = refl
some_of test {k} x (o ∷ h) = λ i. test (event_of x o i) || some_of test {k = M.step k (op o)} (after_one x o) h i

stays_of : (e : ℕ) {k q : Record} → Both k q → (h : List Do) → Stays sample e q h → Stays M e k (ops h)
stays_of e x [] w = subst (λ (k : Record). T (waiting k e)) (sym x.same) w
stays_of e {k} x (o ∷ h) w = (subst (λ (k : Record). T (waiting k e)) (sym x.same) w.0, stays_of e {k = M.step k (op o)} (after_one x o) h w.1)

ends_of : (first : Bool) {k q : Record} → Both k q → (h : List Do) → ends_in_round M first k (ops h) ≡ ends_in_round sample first q h
ends_of first x [] = refl
ends_of first {k} {q} x (o ∷ h) =
    ends_of (is_round (M.event k (op o))) (after_one x o) h ∙ ap (λ (v : Event). ends_in_round sample (is_round v) (sample.step q o) h) (event_of x o)

pub false_of : (e : ℕ) {k q : Record} → Both k q → (h : List Do) → false_namings M e k (ops h) ≡ false_namings sample e q h
false_of e x [] = refl
false_of e {k} x (o ∷ h) = λ i. count (names e (event_of x o i) && not (waiting (x.same i) e)) + false_of e {k = M.step k (op o)} (after_one x o) h i

pub above_of : (e : ℕ) {k q : Record} → Both k q → (h : List Do) → arrivals_above M e k (ops h) ≡ arrivals_above sample e q h
above_of e x [] = refl
above_of e {k} x (o ∷ h) = λ i. count (arrives_above e (event_of x o i)) + above_of e {k = M.step k (op o)} (after_one x o) h i

pub rounds_of : {k q : Record} → Both k q → (h : List Do) → rounds_from M k (ops h) ≡ rounds_from sample q h
rounds_of x [] = refl
rounds_of {k} x (o ∷ h) =
    let r = rounds_of {k = M.step k (op o)} (after_one x o) h in
    λ i. cond (is_round (event_of x o i)) (event_of x o i ∷ r i) (r i)

-- the sentences' premises, from the sample's history to the driver's
back : (test : Event → Bool) {v w : Event} → v ≡ w → T (test w) → T (test v)
back test p t = subst (λ (x : Event). T (test x)) (sym p) t

none : {a b : Bool} → a ≡ b → T (not b) → T (not a)
none p t = subst (λ (x : Bool). T (not x)) (sym p) t

pub still_waits : (e : ℕ) (h : List Do) (a : Do) (k : List Do) (p : Do) → StillWaits sample e h a k p → StillWaits M e (ops h) (op a) (ops k) (op p)
still_waits e h a k p w =
    let x = after_all at_start h in
    record {
      arrived = back (arrives_at e) (event_of x a) w.arrived;
      still = stays_of e (after_one x a) k w.still;
      taken = subst T (sym (some_of is_interrupt (after_one x a) k)) w.taken;
      polled = back is_round (event_of (after_all (after_one x a) k) p) w.polled;
    }

pub next_round : (h k : List Do) (p : Do) → NextRound sample h k p → NextRound M (ops h) (ops k) (op p)
next_round h k p w =
    let x = after_all at_start h in
    record {
      since = subst T (sym (ends_of true at_start h)) w.since;
      between = none (some_of is_round x k) w.between;
      polled = back is_round (event_of (after_all x k) p) w.polled;
    }

-- what a poll after a history answers, and what it gives
abbrev pub answers : List Do → Reply PollResult
answers h = answer (after M (ops h))

abbrev pub replies : List Do → Reply PollResult
replies h = answer_in display true (after sample h)

pub answers_is : (h : List Do) → answers h ≡ replies h
answers_is h = answer_of_lem (after_all at_start h)

abbrev pub given : List Do → Event
given h = M.event (after M (ops h)) (op poll)

abbrev pub says : List Do → Event
says h = sample.event (after sample h) poll

pub given_is : (h : List Do) → given h ≡ says h
given_is h = event_of (after_all at_start h) poll
