-- A control read of endpoint 0 on the display, as `history` proofs/Sample.antt has the rounds: its operations with the board's table written out, each with all that it
-- answers and leaves, so that T-12's words compute. What is computed is the driver's own. Assumes nothing.
use Rattle.std.specs.Prelude.{Ok, Some}
use mathlib.Core.Path.{◌≡◌, refl, sym, ap, subst, ◌∙◌}
use native.Mathlib.Omega.{arith}
use native.Mathlib.Decide.{ℕ_discrete}
use borrow.Author.Tests.{eq-eqb, eqb-true}
use Rattle.laws.proofs.Tests.{clash, neither}
use mathlib.Core.Bool.{Bool, true, false, not, ◌&&◌, ◌||◌, cond}
use mathlib.Core.List.{List, [], ◌∷◌, map, foldl}
use Prim.Native.Nat.{ℕ, zero, suc, ◌+◌, ◌*◌}
use lib.Dec.{ltb, leb, eqb}
use lib.ListN.{length, get_or, replicate, take, drop}
use Rattle.laws.specs.Words.{bit}
use Rattle.laws.specs.Lists.{pasted}
use Rattle.board.specs.declared.Row.{Row}
use Rattle.board.specs.declared.Board.TheVariants.{Display}
use Rattle.board.specs.declared.Direction.TheVariants.{Out, In}
use Rattle.board.specs.Table.{area_at, total as bytes}
use Rattle.board.specs.Boards.{rows, display}
use Rattle.register_file.specs.Registers.{side_at}
use Rattle.store_list.specs.Stores.{CSR0L}
use Rattle.store_rules.specs.Stores.{log, write_index}
use Rattle.event_rules.specs.Events as events
use Rattle.control_state.specs.declared.ControlStateEnum.{ControlStateEnum}
use Rattle.endpoints.specs.declared.EndpointType.TheVariants.{Control}
use Rattle.endpoints.specs.Endpoints as endpoints
use Rattle.endpoints.specs.Allocate.{allocate}
use Rattle.record.specs.declared.Record.{Record}
use Rattle.record.specs.Record.{record_sound, admission_by, area_in, area_of, need_in, need_of, endpoints_in, endpoints_of, Reply}
use Rattle.call_rules.specs.Alloc.{handed, alloc_ep, unless_allocated, alloc_ep_call}
use Rattle.call_rules.specs.Calls.{stored, unless, begun}
use Rattle.call_rules.specs.Stall.{ep_stall, after_stall, set_stalled_call}
use Rattle.call_rules.specs.Interrupt.{interrupt_by, interrupt_call}
use Rattle.transfer_rules.specs.declared.Verdict.{Verdict}
use Rattle.transfer_rules.specs.declared.Verdict.TheVariants as verdict
use Rattle.transfer_rules.specs.Peek.{short_in, has_tx_pkt_rdy, rx_count, tests_by}
use Rattle.transfer_rules.specs.WriteZero.{tx_size}
use Rattle.transfer_rules.specs.ReadZero.{rx_size}
use Rattle.transfer_rules.specs.WriteTests as write
use Rattle.transfer_rules.specs.Write as write-write
use Rattle.transfer_rules.specs.ReadTests as read
use Rattle.transfer_rules.specs.Read as read-read
use Rattle.transfer_rules.specs.Read.{ReadLeft}
use Rattle.round_rules.specs.Poll.{poll_admitted, poll_call}
use Rattle.host_rules.specs.Host as host
use Rattle.calls.specs.Calls.{Op, Outcome, outcome, step, runs}
use Rattle.calls.specs.Calls as calls
use Rattle.calls.specs.DataEnd.{DataEndAt}
use Rattle.calls.specs.Control.{state, role, Part, beside, part_by, part}
use Rattle.download.specs.Download.{sent, total, finishes, finished, is_reading, is_reporting, none, none_anew}
use Rattle.history.proofs.Sample.{fifo, list, irq_in, poll_in, poll_in_lem, irq_in_lem, Both, table, passes}
use Rattle.history.proofs.Demand.{kept_step}

-- a Setup packet that asks n bytes in, n under 256; the FIFO memory with it in endpoint 0's receive area; and the buffer that it is read to
abbrev request : ℕ → List ℕ
request n = 128 ∷ 6 ∷ 0 ∷ 1 ∷ 0 ∷ 0 ∷ n ∷ 0 ∷ []

abbrev pub holding : ℕ → List ℕ
holding n = pasted fifo 64 (request n)

abbrev pub buffer : List ℕ
buffer = replicate 8 0

-- the bytes that are written, and a list that is lent
abbrev payload : ℕ → List ℕ
payload n = replicate n 7

abbrev lent : ℕ → List ℕ
lent m = replicate m 0

pub data Act : Type 0 where
  alloc : ℕ → Act  -- endpoint 0's transmit side, with a size
  ask fetch : ℕ → Act  -- a Setup packet that asks so many bytes in arrives, and is read
  send : ℕ → ℕ → Act  -- so many bytes are written, with a list of so many numbers
  collect irq poll : Act
  cut stall : Act  -- setup end, and the stall call
  shake : Act  -- a reset of the bus

abbrev pub op : Act → Op
op (alloc n) = calls.alloc_ep (endpoints.ask Control In n) (Some 0)
op (ask n) = calls.arrival 0 (request n) fifo
op (fetch n) = calls.read 0 buffer (holding n) list
op (send n m) = calls.write 0 (payload n) fifo (lent m)
op collect = calls.collection 0 fifo
op irq = calls.on_interrupt
op poll = calls.poll list
op cut = calls.setup_end
op shake = calls.bus_reset
op stall = calls.set_stalled 0 Out true list

-- a read that passes its tests takes the packet from the table's place
abbrev read_in : Verdict → List Row → Record → List ℕ → ReadLeft
read_in verdict.Clear t k f =
    let n = rx_count 0 k.regs.words in
    let b = pasted buffer 0 (take n (drop (area_at t 0 Out).start f)) in
    record { answer = Ok n; buf = b; after = read-read.got 0 b n (rx_size k) k.control_state k.irq (write_index 0 (log k.regs.words list 0)) }
read_in verdict.Blocked t k f =
    read-read.read_by verdict.Blocked k.regs.board k.control_state k.irq (rx_size k) 0 buffer f (log k.regs.words list 0)
read_in (verdict.Refused x) t k f =
    read-read.read_by (verdict.Refused x) k.regs.board k.control_state k.irq (rx_size k) 0 buffer f (log k.regs.words list 0)

-- What they answer and leave, with the table t and the answer of reply 16's test as arguments. The length of FIFO memory stands as a number, since counting its bytes for each
-- operation takes most of the time.
module _ (t : List Row) (ok : Bool) (k : Record) where
  abbrev entry_in : Reply Unit
  entry_in = admission_by (ltb 1664 (bytes t)) ok (leb (length t) 0)

  abbrev both_in : ℕ → Reply Unit
  both_in m = admission_by (ltb 1664 (bytes t) || ltb m 384) ok (leb (length t) 0)

  abbrev outcome_in : Act → Outcome
  outcome_in (alloc n) = calls.allocated (unless_allocated (admission_by false ok false) k (handed k (allocate t k.endpoints (endpoints.ask Control In n) (Some 0))))
  outcome_in (ask n) =
      calls.arrived
      (host.unless_arrived (host.arrival_by entry_in (ltb (area_at t 0 Out).size 8) (side_at k.regs.words 0 Out).ready) k fifo
      (record { event = host.done k (events.arrived k.regs.words 0 8); fifo = pasted fifo (area_at t 0 Out).start (request n) }))
  outcome_in (fetch n) =
      calls.fetched
      (read-read.outcome k (read_in (tests_by (both_in 384) (read.own_tests_at k.regs.words k.control_state 0 8)) t k (holding n)))
  outcome_in (send n m) =
      calls.written
      (write-write.outcome k
      (write-write.write_by
      (tests_by (both_in (length (lent m)))
      (write.own_tests (has_tx_pkt_rdy 0 k.regs.words) (ltb (area_at t 0 In).size (length (payload n))) (write.not_writable k.control_state 0 (length (payload n)))))
      k.regs.board k.control_state k.irq (tx_size k) 0 (payload n) fifo (log k.regs.words (lent m) 0)))
  outcome_in collect = calls.collected fifo (host.unless_collected (host.collection_by entry_in (side_at k.regs.words 0 In).ready) k (host.collected_from k 0))
  outcome_in irq = calls.answered (record { answer = (interrupt_by ok k).answer; «record» = irq_in ok t k })
  outcome_in poll = calls.polled (poll_in (admission_by false ok false) t k)
  outcome_in cut = calls.answered (host.unless (admission_by false ok false) k (events.setup_ended k.regs.words))
  outcome_in shake = calls.answered (host.unless (admission_by false ok false) k (events.bus_reset k.regs.words))
  outcome_in stall =
      calls.called
      (unless (admission_by false ok (leb (length t) 0)) k list (stored k (after_stall 0 true k.control_state) (ep_stall Out 0 true (begun k list))))

-- the driver's are these, over its own table
read_in_lem : (k : Record) (v : Verdict) (f : List ℕ)
    → read-read.read_by v k.regs.board k.control_state k.irq (rx_size k) 0 buffer f (log k.regs.words list 0) ≡ read_in v (rows k.regs.board) k f
unfolding read-read.read_done read-read.copied area_in
read_in_lem k verdict.Clear f = refl
read_in_lem k verdict.Blocked f = refl
read_in_lem k (verdict.Refused x) f = refl

outcome_in_lem : (k : Record) (a : Act) → outcome k (op a) ≡ outcome_in (rows k.regs.board) (record_sound k) k a
unfolding pasted alloc_ep_call alloc_ep host.arrival_call host.arrival_refusal host.arrival_refusal_in read-read.read_call read-read.read_in read.tests_in write-write.write_call write-write.write_in write.tests_in write.own_tests_at write.too_long host.collection_call host.collection_refusal host.collection_refusal_in host.setup_end_call host.bus_reset_call set_stalled_call interrupt_call poll_call poll_admitted record_sound area_in area_of need_in need_of endpoints_in endpoints_of short_in
outcome_in_lem k (alloc n) = refl
outcome_in_lem k (ask n) = refl
outcome_in_lem k (fetch n) =
    ap (λ (o : ReadLeft). calls.fetched (read-read.outcome k o))
    (read_in_lem k
    (tests_by (both_in (rows k.regs.board) (record_sound k) k 384) (read.own_tests_at k.regs.words k.control_state 0 8))
    (holding n))
outcome_in_lem k (send n m) = refl
outcome_in_lem k collect = refl
outcome_in_lem k irq = ap (λ (q : Record). calls.answered (record { answer = (interrupt_by (record_sound k) k).answer; «record» = q })) (irq_in_lem k (record_sound k))
outcome_in_lem k poll = ap calls.polled (poll_in_lem k (admission_by false (record_sound k) false))
outcome_in_lem k cut = refl
outcome_in_lem k shake = refl
outcome_in_lem k stall = refl

-- T-12's words, with the display's table and a record that passes
abbrev pub does : Record → Act → Outcome
does = outcome_in display true

abbrev pub next : Record → Act → Record
next q a = (does q a).«record»

abbrev pub last : Record → List Act → Record
last = foldl next

abbrev part_of : Act → Outcome → Part
part_of a x = cond (eqb x.reply 0) (part_by (role (op a)) x) beside

abbrev pub part_in : Record → Act → Part
part_in q a = part_of a (does q a)

abbrev pub total_in : Record → List Act → ℕ
total_in q [] = 0
total_in q (a ∷ h) = sent (part_in q a) + total_in (next q a) h

abbrev pub finished_in : ℕ → ℕ → Record → List Act → Bool
finished_in n t q [] = false
finished_in n t q (a ∷ h) = finishes n t (tx_size q) (part_in q a) || finished_in n (t + sent (part_in q a)) (next q a) h

abbrev pub none_in : (Part → Bool) → Record → List Act → Bool
none_in test q [] = true
none_in test q (a ∷ h) = not (test (part_in q a)) && none_in test (next q a) h

abbrev pub none_anew_in : Bool → Record → List Act → Bool
none_anew_in told q [] = true
none_anew_in told q (a ∷ h) = not (told && is_reading (part_in q a)) && none_anew_in (told || is_reporting (part_in q a)) (next q a) h

-- what is seen of more operations: the reply of each, the control state before each and after the last, and whether DataEnd is among an operation's stores
abbrev pub replies : Record → List Op → List ℕ
replies k [] = []
replies k (o ∷ h) = (outcome k o).reply ∷ replies (step k o) h

abbrev pub replies_in : Record → List Act → List ℕ
replies_in q [] = []
replies_in q (a ∷ h) = (does q a).reply ∷ replies_in (next q a) h

abbrev pub states : Record → List Op → List ControlStateEnum
states k [] = state k ∷ []
states k (o ∷ h) = state k ∷ states (step k o) h

abbrev pub states_in : Record → List Act → List ControlStateEnum
states_in q [] = state q ∷ []
states_in q (a ∷ h) = state q ∷ states_in (next q a) h

abbrev stores_end : List ℕ → ℕ → Bool
stores_end l zero = false
stores_end l (suc i) = (eqb (get_or l (i * 3) 0) CSR0L && bit (get_or l (i * 3 + 2) 0) 3) || stores_end l i

-- that test is the sentence's word
pub no_end : (l : List ℕ) (n : ℕ) → stores_end l n ≡ false → (i : ℕ) → DataEndAt l n i → ⊥
no_end l zero p i d = omega (arith, d.there)
no_end l (suc m) p i d = go (no_end l m) (neither (eqb (get_or l (m * 3) 0) CSR0L && bit (get_or l (m * 3 + 2) 0) 3) (stores_end l m) p) (ℕ_discrete i m)
  where
    go : (stores_end l m ≡ false → (i : ℕ) → DataEndAt l m i → ⊥)
        → ((eqb (get_or l (m * 3) 0) CSR0L && bit (get_or l (m * 3 + 2) 0) 3) ≡ false) × (stores_end l m ≡ false) → Dec (i ≡ m) → ⊥
    go earlier q (no u) = earlier q.1 i (record { there = omega (arith, d.there, u); register = d.register; end = d.end })
    go earlier q (yes e) = clash (sym (both (subst (DataEndAt l (suc m)) e d)) ∙ q.0)
      where
        both : DataEndAt l (suc m) m → (eqb (get_or l (m * 3) 0) CSR0L && bit (get_or l (m * 3 + 2) 0) 3) ≡ true
        both c = rw (eq-eqb (get_or l (m * 3) 0) CSR0L c.register, c.end)

pub some_end : (l : List ℕ) (n : ℕ) → stores_end l n ≡ true → (i : ℕ) × DataEndAt l n i
some_end l zero p = clash (sym p)
some_end l (suc m) p = go (some_end l m) (eqb (get_or l (m * 3) 0) CSR0L) (bit (get_or l (m * 3 + 2) 0) 3) refl refl p
  where
    wider : (i : ℕ) × DataEndAt l m i → (i : ℕ) × DataEndAt l (suc m) i
    wider t = (t.0, record { there = omega (arith, t.1.there); register = t.1.register; end = t.1.end })

    go : (stores_end l m ≡ true → (i : ℕ) × DataEndAt l m i) → (a b : Bool) → eqb (get_or l (m * 3) 0) CSR0L ≡ a → bit (get_or l (m * 3 + 2) 0) 3 ≡ b
        → ((a && b) || stores_end l m) ≡ true → (i : ℕ) × DataEndAt l (suc m) i
    go earlier true true e f q = (m, record { there = omega arith; register = eqb-true (get_or l (m * 3) 0) CSR0L e; end = f })
    go earlier true false e f q = wider (earlier q)
    go earlier false b e f q = wider (earlier q)

abbrev pub ended : Record → List Op → List Bool
ended k [] = []
ended k (o ∷ h) = stores_end (outcome k o).list (outcome k o).stores ∷ ended (step k o) h

abbrev pub ended_in : Record → List Act → List Bool
ended_in q [] = []
ended_in q (a ∷ h) = stores_end (does q a).list (does q a).stores ∷ ended_in (next q a) h

-- all that one has stored
abbrev pub stores : Outcome → List ℕ
stores o = take (o.stores * 3) o.list

-- each is the driver's, in records that are the same
module _ {k q : Record} (x : Both k q) where
  pub outcome_of_lem : (a : Act) → outcome k (op a) ≡ does q a
  outcome_of_lem a = outcome_in_lem k a ∙ (λ i. outcome_in (table x i) (passes x i) (x.same i) a)

  pub part_of_lem : (a : Act) → part k (op a) ≡ part_in q a
  part_of_lem a = ap (part_of a) (outcome_of_lem a)

  pub after_one : (a : Act) → Both (step k (op a)) (next q a)
  after_one a = record { kept = kept_step Display k (op a) x.kept; same = ap (λ (o : Outcome). o.«record») (outcome_of_lem a) }

abbrev pub ops : List Act → List Op
ops = map op

pub after_all : {k q : Record} → Both k q → (h : List Act) → Both (runs k (ops h)) (last q h)
after_all x [] = x
after_all {k} x (a ∷ h) = after_all {k = step k (op a)} (after_one x a) h

pub total_of : {k q : Record} → Both k q → (h : List Act) → total k (ops h) ≡ total_in q h
total_of x [] = refl
total_of {k} x (a ∷ h) = λ i. sent (part_of_lem x a i) + total_of {k = step k (op a)} (after_one x a) h i

pub finished_of : (n : ℕ) {t u : ℕ} → t ≡ u → {k q : Record} → Both k q → (h : List Act) → finished n t k (ops h) ≡ finished_in n u q h
finished_of n p x [] = refl
finished_of n {t} p {k} x (a ∷ h) =
    let r = finished_of n {t = t + sent (part k (op a))} (λ j. p j + sent (part_of_lem x a j)) {k = step k (op a)} (after_one x a) h in
    λ i. finishes n (p i) (tx_size (x.same i)) (part_of_lem x a i) || r i

pub none_of : (test : Part → Bool) {k q : Record} → Both k q → (h : List Act) → none test k (ops h) ≡ none_in test q h
none_of test x [] = refl
none_of test {k} x (a ∷ h) = λ i. not (test (part_of_lem x a i)) && none_of test {k = step k (op a)} (after_one x a) h i

pub none_anew_of : {b c : Bool} → b ≡ c → {k q : Record} → Both k q → (h : List Act) → none_anew b k (ops h) ≡ none_anew_in c q h
none_anew_of p x [] = refl
none_anew_of {b} p {k} x (a ∷ h) =
    let r = none_anew_of {b = b || is_reporting (part k (op a))} (λ j. p j || is_reporting (part_of_lem x a j)) {k = step k (op a)} (after_one x a) h in
    λ i. not (p i && is_reading (part_of_lem x a i)) && r i

pub replies_of : {k q : Record} → Both k q → (h : List Act) → replies k (ops h) ≡ replies_in q h
replies_of x [] = refl
replies_of {k} x (a ∷ h) = λ i. (outcome_of_lem x a i).reply ∷ replies_of {k = step k (op a)} (after_one x a) h i

pub states_of : {k q : Record} → Both k q → (h : List Act) → states k (ops h) ≡ states_in q h
states_of x [] = λ i. state (x.same i) ∷ []
states_of {k} x (a ∷ h) = λ i. state (x.same i) ∷ states_of {k = step k (op a)} (after_one x a) h i

pub ended_of : {k q : Record} → Both k q → (h : List Act) → ended k (ops h) ≡ ended_in q h
ended_of x [] = refl
ended_of {k} x (a ∷ h) = λ i. stores_end (outcome_of_lem x a i).list (outcome_of_lem x a i).stores ∷ ended_of {k = step k (op a)} (after_one x a) h i
