-- `poll` whole: the refusals, the overrun check, then Reset, Resume, Suspend, and a round.
-- Assumes nothing.
use Rattle.std.specs.Prelude.{ℕ, Bool, true, false, List, [], ◌∷◌, ltb, length, Err, Ok}
use Rattle.record.specs.declared.Called.{Called}
use Rattle.board.specs.declared.Board.{Board}
use Rattle.register_file.specs.Registers.{File}
use Rattle.store_rules.specs.Stores.{Log, log}
use Rattle.common_rules.specs.Overrun.{check_overrun}
use Rattle.control_state.specs.declared.ControlState.{ControlState}
use Rattle.record.specs.declared.Flags.{Flags}
use Rattle.record.specs.declared.Ran.{Ran}
use Rattle.record.specs.declared.Record.{Record}
use Rattle.record.specs.Record.{endpoints_in, passes, admission_by, list_need, refusal_number, with_reset, with_suspend, with_resume, with_tx, with_rx, Reply}
use Rattle.round_rules.specs.declared.PollResult.{PollResult}
use Rattle.round_rules.specs.declared.PollResult.TheVariants.{None, Data, Reset, Resume, Suspend}
use Rattle.round_rules.specs.Zero.{Round, round, endpoint_zero, accept_step}
use Rattle.round_rules.specs.Walk.{Walk, walked}
use Rattle.round_rules.specs.Round.{told}

pub record PollOutcome : Type 0 where
  pub result : Called (Reply PollResult)
  pub list : List ℕ

abbrev pub outcome : Called (Reply PollResult) → List ℕ → PollOutcome
outcome p l = record { result = p; list = l }

-- the answer, and what a poll changes: the log, the control state and the flags
pub record After : Type 0 where
  pub answer : Reply PollResult
  pub log : Log
  pub control : ControlState
  pub irq : Flags

abbrev pub after : Reply PollResult → Log → ControlState → Flags → After
after a g c f = record { answer = a; log = g; control = c; irq = f }

abbrev pub answered : PollResult → Log → ControlState → Flags → After
answered a g c f = after (Ok a) g c f

-- what a function of the code gives back, with what it leaves of what it was lent
abbrev pub after_of : Ran (Reply PollResult) → File → List ℕ → ControlState → Flags → After
after_of o w l c f = after o.answer (log w l o.n) c f

-- the record k with what a poll changes of it, and its answer
abbrev pub outcome_of : Record → After → PollOutcome
outcome_of k t = record {
  result = record {
    answer = t.answer;
    «record» = record { regs = record { board = k.regs.board; words = t.log.regs }; endpoints = k.endpoints; control_state = t.control; irq = t.irq };
    stores = t.log.count;
  };
  list = t.log.list;
}

-- the end of a round: the transmit flags are put to 0, the receive flags are those that the walk left
unfoldable pub ended : Round → Walk → After
ended o w = answered (told w.out o.irq.ep_tx o.setup) w.log o.control (with_rx (with_tx o.irq 0) w.out)

unfoldable pub walked_on : Round → After
walked_on o = ended o (walked o.irq.ep_rx o.log)

unfoldable pub accepted_on : Round → After
accepted_on o = walked_on (round o.log (accept_step o.control o.irq).control_state (accept_step o.control o.irq).irq o.setup)

-- endpoint 0, the Accepted step, the walk
unfoldable pub round_out : Log → ControlState → Flags → After
round_out g c f = accepted_on (endpoint_zero g c f)

-- "overrun check, then Reset, Resume, Suspend", and of the last: "reporting Suspend puts down the suspend flag and leaves the reset flag"
-- (document 02, T-06; the source's step puts down the reset flag and never its own)
abbrev pub poll_by : Bool → Bool → Bool → Log → ControlState → Flags → After
poll_by true resume suspend g c f = answered Reset g c (with_reset f false)
poll_by false true suspend g c f = answered Resume g c (with_resume f false)
poll_by false false true g c f = answered Suspend g c (with_suspend f false)
poll_by false false false g c f = round_out g c f

unfoldable pub poll_logged : Log → ControlState → Flags → After
poll_logged g c f = poll_by f.reset f.resume f.suspend g c f

unfoldable pub poll_served : Board → Log → ControlState → Flags → After
poll_served b g c f = poll_logged (check_overrun (endpoints_in b) g) c f

-- the whole outcome: refused with 15 or 16, or served
abbrev pub poll_when : Reply Unit → Board → Log → ControlState → Flags → After
poll_when (Err x) b g c f = after (Err x) g c f
poll_when (Ok tt) b g c f = poll_served b g c f

unfoldable pub poll_admitted : Board → File → List ℕ → ControlState → Flags → After
poll_admitted b w l c f = poll_when (admission_by (ltb (length l) list_need) (passes b w f) false) b (log w l 0) c f

unfoldable pub poll_call : Record → List ℕ → PollOutcome
poll_call k l = outcome_of k (poll_admitted k.regs.board k.regs.words l k.control_state k.irq)

-- document 01's reply, and the values that the report prints: "for poll 0 None, 1 Data with out, in, setup masks, 2 Reset, 3 Resume,
-- 4 Suspend"
abbrev pub poll_number : Reply PollResult → ℕ
poll_number (Ok a) = 0
poll_number (Err x) = refusal_number x

abbrev pub result_values : PollResult → List ℕ
result_values None = 0 ∷ []
result_values (Data m) = 1 ∷ m.ep_out ∷ m.ep_in_complete ∷ m.ep_setup ∷ []
result_values Reset = 2 ∷ []
result_values Resume = 3 ∷ []
result_values Suspend = 4 ∷ []

abbrev pub poll_values : Reply PollResult → List ℕ
poll_values (Ok a) = result_values a
poll_values (Err x) = []
