-- `trace_act::act` meets its contract.
-- Assumes nothing.
use Rattle.report_rules.proofs.Act.{entry, by_called, by_told, by_polled, by_allocated, by_answered, by_bus, handed_on, packet_short, write_within, arrival_within, read_within}
use Rattle.calls.specs.Calls as calls
use borrow.Author.Rules.{rules}
use native.Mathlib.Omega.{arith}
use Rattle.trace_act.proofs.act.Goals as goal

pub overflow_add-end : goal.overflow_add-end
overflow_add-end c = omega (arith, write_within _ c.in-Write.is c.requires.1)

pub slice_bounds-write-end : goal.slice_bounds-write-end
slice_bounds-write-end c = omega (arith, write_within _ c.in-Write.is c.requires.1)

pub write-requires : goal.write-requires
write-requires c = let h = c.requires.0 in (packet_short _ c.in-Write.p h.short, omega (arith, h.room))

pub read-requires : goal.read-requires
read-requires c = (read_within _ c.in-Read.is c.requires.1, c.requires.0.memory, c.requires.0.room)

pub overflow_add-end-in-Arrival : goal.overflow_add-end-in-Arrival
overflow_add-end-in-Arrival c = omega (arith, arrival_within _ c.in-Arrival.is c.requires.1)

pub slice_bounds-arrival-end : goal.slice_bounds-arrival-end
slice_bounds-arrival-end c = omega (arith, arrival_within _ c.in-Arrival.is c.requires.1)

pub collect-requires : goal.collect-requires
collect-requires c = (c.requires.0.memory, c.requires.0.room)

-- what the call did is found in the contract of the function or closure that was handed on; `.2` and `.6` are the last parts of what `answered` and
-- `called` ensure: the line
pub returns-in-Allocate : goal.returns-in-Allocate
returns-in-Allocate c = entry _ _ _ _ c.in-Allocate.is c.code_of-code.ensures (by_allocated _ _ (search rules) c.answered.ensures.2)

pub returns-in-Init : goal.returns-in-Init
returns-in-Init c = entry _ _ _ _ c.in-Init.is c.code_of-code.ensures (by_called _ (search rules) c.called.ensures.6)

pub returns-in-Reset : goal.returns-in-Reset
returns-in-Reset c = entry _ _ _ _ c.in-Reset.is c.code_of-code.ensures (by_called _ (search rules) c.called-in-Reset.ensures.6)

pub returns-in-Address : goal.returns-in-Address
returns-in-Address c = entry _ _ _ _ c.in-Address.is c.code_of-code.ensures (by_called _ (search rules) c.called-in-Address.ensures.6)

pub returns-in-Read : goal.returns-in-Read
returns-in-Read c = entry _ _ _ _ c.in-Read.is c.code_of-code.ensures c.read.ensures

pub returns-in-Stall : goal.returns-in-Stall
returns-in-Stall c = entry _ _ _ _ c.in-Stall.is c.code_of-code.ensures (by_called _ (search rules) c.called-in-Stall.ensures.6)

pub returns-in-IsStalled : goal.returns-in-IsStalled
returns-in-IsStalled c = entry _ _ _ _ c.in-IsStalled.is c.code_of-code.ensures (by_told _ (search rules) c.called-in-IsStalled.ensures.6)

pub returns-in-Poll : goal.returns-in-Poll
returns-in-Poll c = entry _ _ _ _ c.in-Poll.is c.code_of-code.ensures (by_polled _ (search rules) c.called-in-Poll.ensures.6)

pub returns-in-Interrupt : goal.returns-in-Interrupt
returns-in-Interrupt c = entry _ _ _ _ c.in-Interrupt.is c.code_of-code.ensures (by_answered _ _ (search rules) c.answered-in-Interrupt.ensures.2)

pub returns-in-Enable : goal.returns-in-Enable
returns-in-Enable c = entry _ _ _ _ c.in-Enable.is c.code_of-code.ensures (by_called _ (search rules) c.called-in-Enable.ensures.6)

pub returns-in-Collect : goal.returns-in-Collect
returns-in-Collect c = entry _ _ _ _ c.in-Collect.is c.code_of-code.ensures (c.collect.ensures _)

pub returns-in-Bus : goal.returns-in-Bus
returns-in-Bus c = entry _ _ _ _ c.in-Bus.is c.code_of-code.ensures (by_bus _ _ c.args.k c.answered-in-Bus.ensures.0 c.in-Bus.b (search rules) c.answered-in-Bus.ensures.2)

pub returns-in-SetupEnd : goal.returns-in-SetupEnd
returns-in-SetupEnd c = entry _ _ _ _ c.in-SetupEnd.is c.code_of-code.ensures (by_answered _ _ (search rules) c.answered-in-SetupEnd.ensures.2)

pub returns-in-Underrun : goal.returns-in-Underrun
returns-in-Underrun c = entry _ _ _ _ c.in-Underrun.is c.code_of-code.ensures (by_answered _ _ (search rules) c.answered-in-Underrun.ensures.2)

pub returns-in-Overrun : goal.returns-in-Overrun
returns-in-Overrun c = entry _ _ _ _ c.in-Overrun.is c.code_of-code.ensures (by_answered _ _ (search rules) c.answered-in-Overrun.ensures.2)

pub returns-in-Write : goal.returns-in-Write
returns-in-Write c = let a = c.args in
    let p = c.in-Write.p in
    entry _ _ _ _ c.in-Write.is c.code_of-code.ensures (handed_on a.trace.now p (λ b. calls.write p.endpoint b a.fifo.now a.list.now) a.k a.fifo.now a.list.now c.write.ensures)

pub returns-in-Arrival : goal.returns-in-Arrival
returns-in-Arrival c = let a = c.args in
    let p = c.in-Arrival.p in
    entry _ _ _ _ c.in-Arrival.is c.code_of-code.ensures (handed_on a.trace.now p (λ b. calls.arrival p.endpoint b a.fifo.now) a.k a.fifo.now a.list.now (c.arrival.ensures _))
