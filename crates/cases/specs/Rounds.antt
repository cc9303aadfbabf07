-- Document 01's proved table, 'Cases': P14 to P16, as cases of the one table.
-- Assumes nothing.
use Rattle.std.specs.Prelude.{List, [], ◌∷◌, ℕ, zero, suc, replicate}
use Rattle.board.specs.declared.Board.TheVariants.{Display}
use Rattle.event_rules.specs.Events.{waiting_at, bus_reset, bus_resume}
use Rattle.cases.specs.Allocations.{Case}
use Rattle.record.specs.declared.Record.{Record}
use Rattle.record.specs.Record.{fresh_record, with_regs, with_irq, with_rx}
use Rattle.call_rules.specs.Interrupt.{interrupt_call}
use Rattle.round_rules.specs.Poll.{PollOutcome, poll_call, poll_number, poll_values}

-- the reply and the values of a poll, as the report prints them
abbrev pub says : PollOutcome → List ℕ
says o = poll_number o.result.answer ∷ poll_values o.result.answer

-- what so many polls in turn give, each on the record and the list that the one before left
abbrev pub run : ℕ → Record → List ℕ → List (List ℕ)
run zero k l = []
run (suc n) k l = says (poll_call k l) ∷ run n (poll_call k l).result.«record» (poll_call k l).list

abbrev pub space : List ℕ
space = replicate 384 0

abbrev pub polls : ℕ → Record → List (List ℕ) → Case
polls n k told = record { gives = run n k space; says = told }

-- "Unless told, the record is fresh."
abbrev pub fresh : Record
fresh = fresh_record Display

-- "receive flags 1 and 5"
abbrev pub flagged : Record → Record
flagged k = with_irq k (with_rx k.irq 34)

abbrev pub five_waits : Record
five_waits = with_regs fresh (waiting_at fresh.regs.words 5 1)

-- "reset and resume taken": by an interrupt after both
abbrev pub both_taken : Record
both_taken = (interrupt_call (with_regs fresh (bus_resume (bus_reset fresh.regs.words)))).«record»

abbrev pub rounds : List Case
rounds =
    -- P14: "receive flags 1 and 5, both drained: out mask 2, then None"
    polls 2 (flagged fresh) ((0 ∷ 1 ∷ 2 ∷ 0 ∷ 0 ∷ []) ∷ (0 ∷ 0 ∷ []) ∷ [])
    -- P15: "only 1 drained: 32"
    ∷ polls 1 (flagged five_waits) ((0 ∷ 1 ∷ 32 ∷ 0 ∷ 0 ∷ []) ∷ [])
    -- P16: "reset and resume taken: Reset, Resume, None"
    ∷ polls 3 both_taken ((0 ∷ 2 ∷ []) ∷ (0 ∷ 3 ∷ []) ∷ (0 ∷ 0 ∷ []) ∷ [])
    ∷ []
