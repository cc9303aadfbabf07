-- Endpoint 0's control state over any operations: which of them change it, and to what.
-- Assumes nothing.
use Rattle.std.specs.Prelude.{ℕ, ◌+◌, ◌≤◌, ◌<◌, ◌≡◌, ◌⊎◌, Bool, true, false, ◌&&◌, cond, List, eqb, length, get_or}
use Rattle.board.specs.declared.Direction.TheVariants.{Out}
use Rattle.register_file.specs.Registers.{side_at, setupend}
use Rattle.control_state.specs.declared.ControlStateEnum.{ControlStateEnum}
use Rattle.control_state.specs.declared.ControlStateEnum.TheVariants.{Idle, Setup, DataIn, DataOut, Accepted, NodataPhase}
use Rattle.record.specs.declared.Record.{Record}
use Rattle.transfer_rules.specs.WriteZero.{tx_size}
use Rattle.transfer_rules.specs.ReadZero.{w_length, way_in, rx_size}
use Rattle.calls.specs.Calls.{Op, alloc_ep, bus_init, enable, reset, set_device_address, write, read, set_stalled, is_stalled, poll, on_interrupt, force_reset, arrival, collection, bus_reset, suspend, resume, setup_end, underrun, overrun, Outcome, outcome, step}

-- the control state, and the length that is left to send
abbrev pub state : Record → ControlStateEnum
state k = k.control_state.state

abbrev pub remaining : Record → ℕ
remaining k = k.control_state.tx_len

-- an operation is answered where its reply is 0
abbrev pub answered : Record → Op → Bool
answered k o = eqb (outcome k o).reply 0

-- a poll reports Setup in the last of its masks: "1 Data with out, in, setup masks"
abbrev pub reports_setup : Outcome → Bool
reports_setup x = eqb (get_or x.values 3 0) 1

-- What an operation may be to a control transfer: a write at an endpoint, of so many bytes; a read at one; the stall call at one, on or off; a poll, the reset call, the
-- host's setup end; or none of these.
pub data Role : Type 0 where
  writes : ℕ → ℕ → Role
  reads : ℕ → Role
  stalls : ℕ → Bool → Role
  polls resets cuts others : Role

abbrev pub role : Op → Role
role (write e b f l) = writes e (length b)
role (read e b f l) = reads e
role (poll l) = polls
role (set_stalled e d s l) = stalls e s
role (reset l) = resets
role setup_end = cuts
role (alloc_ep q w) = others
role (bus_init l) = others
role (enable l) = others
role (set_device_address a l) = others
role (is_stalled e d l) = others
role on_interrupt = others
role force_reset = others
role (arrival e b f) = others
role (collection e f) = others
role bus_reset = others
role suspend = others
role resume = others
role (underrun e) = others
role (overrun e) = others

-- What an answered operation is to the control transfer of endpoint 0: a write there, of so many bytes; a read there; a poll that reports Setup, or any other poll; the
-- stall call there with on, or the reset call, which give the transfer up; setup end, by which the host does; or it has no part in it.
pub data Part : Type 0 where
  sending : ℕ → Part
  reading reporting polling halting cutting beside : Part

abbrev pub part_by : Role → Outcome → Part
part_by (writes e n) x = cond (eqb e 0) (sending n) beside
part_by (reads e) x = cond (eqb e 0) reading beside
part_by (stalls e s) x = cond (eqb e 0 && s) halting beside
part_by polls x = cond (reports_setup x) reporting polling
part_by resets x = halting
part_by cuts x = cutting
part_by others x = beside

-- a refused operation has no part in it
abbrev pub part : Record → Op → Part
part k o = cond (answered k o) (part_by (role o) (outcome k o)) beside

-- The law, of every operation: k is the record before it, q the one after ------------------------------------------------------

abbrev pub SameControl : Record → Record → Type 0
SameControl k q = q.control_state ≡ k.control_state

-- Idle, and nothing remains
pub record Idles (q : Record) : Type 0 where
  pub idle : state q ≡ Idle
  pub none : remaining q ≡ 0

-- the state s, and as much remains as before
pub record Enters (s : ControlStateEnum) (k q : Record) : Type 0 where
  pub to : state q ≡ s
  pub left : remaining q ≡ remaining k

-- n bytes are sent and more will follow
pub record Goes (n : ℕ) (k q : Record) : Type 0 where
  pub still : state q ≡ DataIn
  pub left : remaining q + n ≡ remaining k

-- An answered write of n bytes there. NodataPhase and Idle take an empty one alone, and the other three states none (reply 11).
pub record WritesZero (k : Record) (n : ℕ) (q : Record) : Type 0 where
  pub acknowledged : state k ≡ NodataPhase → (n ≡ 0) × Enters Idle k q
  pub accepted : state k ≡ Idle → (n ≡ 0) × Enters Accepted k q
  -- "It ends at 0, or at a packet shorter than the recorded transmit size."
  pub all : state k ≡ DataIn → remaining k ≤ n → Idles q
  pub short : state k ≡ DataIn → n < tx_size k → Idles q
  pub more : state k ≡ DataIn → n < remaining k → tx_size k ≤ n → Goes n k q
  pub only : (state k ≡ NodataPhase) ⊎ ((state k ≡ Idle) ⊎ (state k ≡ DataIn))

-- An answered read there, whose packet stands at the front of the caller's buffer b. The other four states give none (reply 12).
pub record ReadsZero (k : Record) (b : List ℕ) (q : Record) : Type 0 where
  -- "Setup with wLength 0 goes to NodataPhase with DataEnd, for either direction; otherwise to DataOut, or DataIn with that length remaining"
  pub none : state k ≡ Setup → w_length b ≡ 0 → Enters NodataPhase k q
  pub out : state k ≡ Setup → (w_length b ≡ 0 → ⊥) → way_in b ≡ false → Enters DataOut k q
  pub into : state k ≡ Setup → (w_length b ≡ 0 → ⊥) → way_in b ≡ true → (state q ≡ DataIn) × (remaining q ≡ w_length b)
  -- "DataOut ends at a packet shorter than the recorded receive size."
  pub short : state k ≡ DataOut → (side_at k.regs.words 0 Out).len < rx_size k → Enters Idle k q
  pub more : state k ≡ DataOut → rx_size k ≤ (side_at k.regs.words 0 Out).len → SameControl k q
  pub only : (state k ≡ Setup) ⊎ (state k ≡ DataOut)

-- a poll that reports Setup: a packet was taken in Idle; or in DataIn after setup end, and then nothing remains
pub record Reports (k q : Record) : Type 0 where
  pub setup : state q ≡ Setup
  pub from : ((state k ≡ Idle) × (remaining q ≡ remaining k)) ⊎ ((state k ≡ DataIn) × (setupend k.regs.words ≡ true) × (remaining q ≡ 0))

-- Any other poll: from Accepted, where an empty write waits to be named as sent, to Idle; or in DataIn, where a packet came after setup end that is no Setup packet, to
-- Idle with nothing remaining; or no change. Which of these a poll does is the law of `round_rules`: here is what it may do.
abbrev pub Polls : Record → Record → Type 0
Polls k q =
    ((state k ≡ Accepted) × Enters Idle k q)
    ⊎ (((state k ≡ DataIn) × (setupend k.regs.words ≡ true) × Idles q)
    ⊎ SameControl k q)

abbrev pub Turns : Part → Record → Outcome → Type 0
Turns (sending n) k x = WritesZero k n x.«record»
Turns reading k x = ReadsZero k x.buf x.«record»
Turns reporting k x = Reports k x.«record»
Turns polling k x = Polls k x.«record»
Turns halting k x = Idles x.«record»
Turns cutting k x = SameControl k x.«record»
Turns beside k x = SameControl k x.«record»

-- and of SetupEnd before and after it: setup end alone sets it, and a poll that has reported Setup leaves it clear
abbrev pub SetupEnds : Part → Bool → Bool → Type 0
SetupEnds cutting before after = after ≡ true
SetupEnds reporting before after = after ≡ false
SetupEnds (sending n) before after = after ≡ true → before ≡ true
SetupEnds reading before after = after ≡ true → before ≡ true
SetupEnds polling before after = after ≡ true → before ≡ true
SetupEnds halting before after = after ≡ true → before ≡ true
SetupEnds beside before after = after ≡ true → before ≡ true

-- Which operations change the control state, and to what: answered writes and reads at endpoint 0, polls, the stall call there with on, and the reset call. No other
-- operation does, and no refused one.
pub record Turned (k : Record) (o : Op) : Type 0 where
  pub turns : Turns (part k o) k (outcome k o)
  pub setup_end : SetupEnds (part k o) (setupend k.regs.words) (setupend (step k o).regs.words)
