-- The driver itself as a machine that is polled: demand 3's words, over demand 2's definitions of the calls.
-- Assumes nothing.
use Rattle.std.specs.Prelude.{◌≡◌, Bool, true, false, ◌&&◌, List, ℕ, ◌-◌, ◌≤◌, ◌<◌, eqb, length, get_or, Err, Ok}
use Rattle.laws.specs.Words.{bit}
use Rattle.board.specs.declared.Board.{Board}
use Rattle.board.specs.declared.Direction.TheVariants.{Out, In}
use Rattle.board.specs.Boards.{rows}
use Rattle.register_file.specs.Registers.{side_at, intr_of}
use Rattle.endpoints.specs.Endpoints.{blank}
use Rattle.record.specs.declared.Record.{Record}
use Rattle.record.specs.Record.{fresh_record, record_sound, endpoints_of, area_of, need_of, Reply}
use Rattle.call_rules.specs.Interrupt.{interrupt_call}
use Rattle.round_rules.specs.declared.PollResult.{PollResult}
use Rattle.round_rules.specs.declared.PollResult.TheVariants.{None, Data, Reset, Resume, Suspend}
use Rattle.round_rules.specs.Poll.{poll_call}
use Rattle.host_rules.specs.Host.{arrival_call}
use Rattle.calls.specs.Calls.{Op, alloc_ep, bus_init, enable, reset, set_device_address, write, read, set_stalled, is_stalled, poll, on_interrupt, force_reset, arrival, collection, bus_reset, suspend, resume, setup_end, underrun, overrun, step}
use Rattle.calls.specs.Control.{answered}
use Rattle.rounds.specs.Machine as rounds
use Rattle.rounds.specs.Machine.{Event, Machine, round, interrupt, pause, quiet}
use Rattle.rounds.specs.Sentences.{Calls}

-- What happened is told by the answer of a call, which its caller sees. Answered is reply 0; a refused poll, interrupt or arrival is
-- nothing. The words `still`, `since` and `between` are those of crate rounds.

-- "Call an answered poll that is neither Reset, Resume nor Suspend a round." Named for reading: the bit in Data's out mask. Named as
-- sent: the bit in its in mask. None names nothing.
abbrev pub result_event : PollResult → Event
result_event None = round (λ e. false) (λ e. false)
result_event (Data m) = round (bit m.ep_out) (bit m.ep_in_complete)
result_event Reset = pause
result_event Resume = pause
result_event Suspend = pause

abbrev pub poll_event : Reply PollResult → Event
poll_event (Ok a) = result_event a
poll_event (Err x) = quiet

-- "taken": an answered on_interrupt. The transmit bits that it read are those that the model's register held just before it, never the driver's flags.
-- A packet's receive interrupt is taken by any interrupt after it arrived: its bit stands in the register until it is read.
abbrev pub interrupt_event : Reply Unit → Record → Event
interrupt_event (Ok tt) k = interrupt (bit (intr_of k.regs.words In))
interrupt_event (Err x) k = quiet

-- "the packets that arrived": answered arrivals, over the whole history
abbrev pub arrival_event : Reply Unit → ℕ → Event
arrival_event (Ok tt) e = rounds.arrival e
arrival_event (Err x) e = quiet

abbrev pub event : Record → Op → Event
event k (poll l) = poll_event (poll_call k l).result.answer
event k on_interrupt = interrupt_event (interrupt_call k).answer k
event k (arrival e b f) = arrival_event (arrival_call k e b f).event.answer e
event k (alloc_ep q w) = quiet
event k (bus_init l) = quiet
event k (enable l) = quiet
event k (reset l) = quiet
event k (set_device_address a l) = quiet
event k (write e b f l) = quiet
event k (read e b f l) = quiet
event k (set_stalled e d s l) = quiet
event k (is_stalled e d l) = quiet
event k force_reset = quiet
event k (collection e f) = quiet
event k bus_reset = quiet
event k suspend = quiet
event k resume = quiet
event k setup_end = quiet
event k (underrun e) = quiet
event k (overrun e) = quiet

-- "a packet still waiting", "with nothing waiting": the endpoint's RxPktRdy, which is set for an empty packet too
abbrev pub waiting : Record → ℕ → Bool
waiting k e = (side_at k.regs.words e Out).ready

-- how long the packet is that waits there, and how many bytes an arrival carries
abbrev pub length_at : Record → ℕ → ℕ
length_at k e = (side_at k.regs.words e Out).len

abbrev pub brings : Op → ℕ
brings (arrival e b f) = length b
brings (alloc_ep q w) = 0
brings (bus_init l) = 0
brings (enable l) = 0
brings (reset l) = 0
brings (set_device_address a l) = 0
brings (write e b f l) = 0
brings (read e b f l) = 0
brings (set_stalled e d s l) = 0
brings (is_stalled e d l) = 0
brings (poll l) = 0
brings on_interrupt = 0
brings force_reset = 0
brings (collection e f) = 0
brings bus_reset = 0
brings suspend = 0
brings resume = 0
brings setup_end = 0
brings (underrun e) = 0
brings (overrun e) = 0

-- The operations that take what waits at e, when they are answered: a read at e; stalling or unstalling e out, for "the source's `write`
-- also drops a waiting packet at 1 to 5"; and the reset call where e is used to receive, for it enables e anew, and so writes RXCSRL from
-- zeros too. Nothing else does: no poll, no interrupt, no write, no event of the host.
abbrev pub takes : Record → Op → ℕ → Bool
takes k (read i b f l) e = answered k (read i b f l) && eqb e i
takes k (set_stalled i Out s l) e = answered k (set_stalled i Out s l) && eqb e i
takes k (set_stalled i In s l) e = false
takes k (reset l) e = answered k (reset l) && (get_or k.endpoints e blank).used_rx
takes k (alloc_ep q w) e = false
takes k (bus_init l) e = false
takes k (enable l) e = false
takes k (set_device_address a l) e = false
takes k (write i b f l) e = false
takes k (is_stalled i d l) e = false
takes k (poll l) e = false
takes k on_interrupt e = false
takes k force_reset e = false
takes k (arrival i b f) e = false
takes k (collection i f) e = false
takes k bus_reset e = false
takes k suspend e = false
takes k resume e = false
takes k setup_end e = false
takes k (underrun i) e = false
takes k (overrun i) e = false

-- "For endpoints 1 to 5, over any history from a fresh record": 5 is the board's own highest endpoint. A history is any list of public
-- calls and host events, each lent whatever it is lent.
abbrev pub driver : Board → Machine
driver b = record {
  top = length (rows b) - 1;
  State = Record;
  Op = Op;
  fresh = fresh_record b;
  step = step;
  event = event;
  waiting = waiting;
  length = length_at;
  takes = takes;
  brings = brings;
}

-- That the sentences are not empty: which calls must be answered.

-- a poll that is lent 128 stores
pub record LentPoll (o : Op) : Type 0 where
  pub list : List ℕ
  pub is : o ≡ poll list
  pub lent : 384 ≤ length list

-- an arrival at one of the board's endpoints, of a packet that fits its area, lent the FIFO buffer that the board needs
pub record LentArrival (k : Record) (e : ℕ) (o : Op) : Type 0 where
  pub bytes : List ℕ
  pub fifo : List ℕ
  pub is : o ≡ arrival e bytes fifo
  pub there : e < endpoints_of k
  pub fits : length bytes ≤ (area_of k e Out).size
  pub lent : need_of k ≤ length fifo

-- a read at an endpoint, lent 128 stores, the FIFO buffer that the board needs, and a buffer with room for the packet that waits there (else the
-- read is refused by 18, and the packet waits on)
pub record LentRead (k : Record) (e : ℕ) (o : Op) : Type 0 where
  pub buffer : List ℕ
  pub fifo : List ℕ
  pub list : List ℕ
  pub is : o ≡ read e buffer fifo list
  pub lent : need_of k ≤ length fifo
  pub lent' : 384 ≤ length list
  pub room : length_at k e ≤ length buffer

abbrev pub calls : (b : Board) → Calls (driver b)
calls b = record {
  Good = λ k. record_sound k ≡ true;
  Poll = LentPoll;
  Interrupt = λ o. o ≡ on_interrupt;
  Arrival = LentArrival;
  Read = LentRead;
}
