-- Every public call and host event as one kind of operation: its arguments, what it is lent, and all that it leaves.
-- Assumes nothing.
use Rattle.std.specs.Prelude.{ℕ, Bool, Option, Result}
use Rattle.board.specs.declared.Span.{Span}
use Rattle.record.specs.declared.Answered.{Answered}
use Rattle.call_rules.specs.declared.AllocRefusal.{AllocRefusal}
use mathlib.Core.List.{List, [], foldl}
use Rattle.board.specs.declared.Direction.{Direction}
use Rattle.endpoints.specs.declared.Ask.{Ask}
use Rattle.record.specs.declared.Record.{Record}
use Rattle.call_rules.specs.Calls as impl
use Rattle.call_rules.specs.Alloc as impl-alloc
use Rattle.call_rules.specs.Reset as impl-reset
use Rattle.call_rules.specs.Stall as impl-stall
use Rattle.transfer_rules.specs.Write.{WriteOutcome, write_call}
use Rattle.transfer_rules.specs.WriteZero.{write_number, write_values}
use Rattle.transfer_rules.specs.Read.{ReadOutcome, read_call}
use Rattle.transfer_rules.specs.ReadZero.{read_number, read_values}
use Rattle.round_rules.specs.Poll.{PollOutcome, poll_call, poll_number, poll_values}
use Rattle.record.specs.Record.{reply_number, Reply}
use Rattle.call_rules.specs.Interrupt.{interrupt_call}
use Rattle.host_rules.specs.Host as host

-- The buffers and their contents are part of the operation, so each call may be lent another buffer.
pub data Op : Type 0 where
  alloc_ep : Ask → Option ℕ → Op
  bus_init : List ℕ → Op  -- the lent list
  enable : List ℕ → Op
  reset : List ℕ → Op
  set_device_address : ℕ → List ℕ → Op
  write : ℕ → List ℕ → List ℕ → List ℕ → Op  -- endpoint, bytes, FIFO buffer, list
  read : ℕ → List ℕ → List ℕ → List ℕ → Op  -- endpoint, the caller's buffer, FIFO buffer, list
  set_stalled : ℕ → Direction → Bool → List ℕ → Op
  is_stalled : ℕ → Direction → List ℕ → Op
  poll : List ℕ → Op
  on_interrupt : Op
  force_reset : Op
  arrival : ℕ → List ℕ → List ℕ → Op  -- endpoint, bytes, FIFO buffer
  collection : ℕ → List ℕ → Op  -- endpoint, FIFO buffer
  bus_reset suspend resume setup_end : Op
  underrun overrun : ℕ → Op

-- All that an operation leaves: document 01's reply number and values ("the endpoint, written length, 0 or 1; for reads the count then stored
-- bytes; for collect the bytes; for poll .."), the record, how many stores it says to have listed, and every lent buffer that it may write. A
-- buffer that is not lent, or lent only to be read, is [].
pub record Outcome : Type 0 where
  pub reply : ℕ
  pub values : List ℕ
  pub «record» : Record
  pub stores : ℕ
  pub fifo : List ℕ
  pub list : List ℕ
  pub buf : List ℕ

abbrev pub called : impl.CallOutcome → Outcome
called o = record {
  reply = reply_number o.call.answer;
  values = [];
  «record» = o.call.«record»;
  stores = o.call.stores;
  fifo = [];
  list = o.list;
  buf = [];
}

abbrev pub told : impl-stall.StalledOutcome → Outcome
told t = record {
  reply = impl-stall.stalled_number t.call.answer;
  values = impl-stall.stalled_values t.call.answer;
  «record» = t.call.«record»;
  stores = t.call.stores;
  fifo = [];
  list = t.list;
  buf = [];
}

abbrev pub allocated : Answered (Result ℕ AllocRefusal) → Outcome
allocated o = record {
  reply = impl-alloc.alloc_number o.answer;
  values = impl-alloc.alloc_values o.answer;
  «record» = o.«record»;
  stores = 0;
  fifo = [];
  list = [];
  buf = [];
}

abbrev pub written : WriteOutcome → Outcome
written o = record {
  reply = write_number o.result.answer;
  values = write_values o.result.answer;
  «record» = o.result.«record»;
  stores = o.result.stores;
  fifo = o.fifo;
  list = o.list;
  buf = [];
}

-- the stored bytes are those that the call left in the buffer
abbrev pub fetched : ReadOutcome → Outcome
fetched o = record {
  reply = read_number o.result.answer;
  values = read_values o.result.answer o.buf;
  «record» = o.result.«record»;
  stores = o.result.stores;
  fifo = [];
  list = o.list;
  buf = o.buf;
}

abbrev pub polled : PollOutcome → Outcome
polled p = record {
  reply = poll_number p.result.answer;
  values = poll_values p.result.answer;
  «record» = p.result.«record»;
  stores = p.result.stores;
  fifo = [];
  list = p.list;
  buf = [];
}

abbrev pub answered : Answered (Reply Unit) → Outcome
answered o = record { reply = reply_number o.answer; values = []; «record» = o.«record»; stores = 0; fifo = []; list = []; buf = [] }

abbrev pub arrived : host.Arrival → Outcome
arrived o = record {
  reply = reply_number o.event.answer;
  values = [];
  «record» = o.event.«record»;
  stores = 0;
  fifo = o.fifo;
  list = [];
  buf = [];
}

-- the bytes are those that stand in the lent FIFO buffer
abbrev pub collected : List ℕ → Answered (Reply Span) → Outcome
collected f o = record {
  reply = host.collect_number o.answer;
  values = host.collect_values o.answer f;
  «record» = o.«record»;
  stores = 0;
  fifo = [];
  list = [];
  buf = [];
}

-- Each call's own definition decides; `force_reset` takes no record, so that it leaves any as it was.
abbrev pub outcome : Record → Op → Outcome
outcome k (alloc_ep q w) = allocated (impl-alloc.alloc_ep_call k q w)
outcome k (bus_init l) = called (impl.bus_init_call k l)
outcome k (enable l) = called (impl.enable_call k l)
outcome k (reset l) = called (impl-reset.reset_call k l)
outcome k (set_device_address a l) = called (impl.address_call k a l)
outcome k (write e b f l) = written (write_call k e b f l)
outcome k (read e b f l) = fetched (read_call k e b f l)
outcome k (set_stalled e d s l) = called (impl-stall.set_stalled_call k e d s l)
outcome k (is_stalled e d l) = told (impl-stall.is_stalled_call k e d l)
outcome k (poll l) = polled (poll_call k l)
outcome k on_interrupt = answered (interrupt_call k)
outcome k force_reset = record { reply = reply_number impl.force_reset_call; values = []; «record» = k; stores = 0; fifo = []; list = []; buf = [] }
outcome k (arrival e b f) = arrived (host.arrival_call k e b f)
outcome k (collection e f) = collected f (host.collection_call k e f)
outcome k bus_reset = answered (host.bus_reset_call k)
outcome k suspend = answered (host.suspend_call k)
outcome k resume = answered (host.resume_call k)
outcome k setup_end = answered (host.setup_end_call k)
outcome k (underrun e) = answered (host.underrun_call k e)
outcome k (overrun e) = answered (host.overrun_call k e)

-- the record after an operation
abbrev pub step : Record → Op → Record
step k o = (outcome k o).«record»

-- and after more of them
abbrev pub runs : Record → List Op → Record
runs = foldl step
