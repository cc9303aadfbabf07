-- What the steps of `poll` leave, beside their definition and apart from it: Reset, Resume, Suspend; a round in Accepted; the walk of a round.
-- Assumes nothing.
use Rattle.std.specs.Prelude.{◌≡◌, Bool, true, Ok}
use Rattle.laws.specs.Words.{bit}
use Rattle.store_rules.specs.Stores.{Log, log}
use Rattle.control_state.specs.declared.ControlState.{ControlState}
use Rattle.control_state.specs.declared.ControlStateEnum.TheVariants.{Idle}
use Rattle.record.specs.declared.Flags.{Flags}
use Rattle.record.specs.declared.Record.{Record}
use Rattle.round_rules.specs.declared.Masks.{Masks}
use Rattle.round_rules.specs.declared.PollResult.{PollResult}
use Rattle.round_rules.specs.declared.PollResult.TheVariants.{Data}
use Rattle.round_rules.specs.Poll.{After, after, PollOutcome}

-- such a step answers a, leaves the reset flag r, the suspend flag s and the resume flag m, and stores nothing and changes nothing else
pub record FlagStep (a : PollResult) (g : Log) (c : ControlState) (f : Flags) (r s m : Bool) (t : After) : Type 0 where
  pub answer : t.answer ≡ Ok a
  pub log : t.log ≡ g
  pub control : t.control ≡ c
  pub reset : t.irq.reset ≡ r
  pub suspend : t.irq.suspend ≡ s
  pub resume : t.irq.resume ≡ m
  pub zero : t.irq.ep0 ≡ f.ep0
  pub tx : t.irq.ep_tx ≡ f.ep_tx
  pub rx : t.irq.ep_rx ≡ f.ep_rx

-- what a poll leaves of a record
abbrev pub left_of : PollOutcome → After
left_of o =
    after o.result.answer (log o.result.«record».regs.words o.list o.result.stores) o.result.«record».control_state o.result.«record».irq

-- whatever it answers, it leaves the board and the endpoints as they were
pub record SameElse (k q : Record) : Type 0 where
  pub board : q.regs.board ≡ k.regs.board
  pub endpoints : q.endpoints ≡ k.endpoints

-- a round in Accepted names endpoint 0 as sent, though no packet was stored, and ends in Idle
pub record AcceptedRound (c : ControlState) (t : After) : Type 0 where
  pub named : (m : Masks) × (t.answer ≡ Ok (Data m)) × (bit m.ep_in_complete 0 ≡ true)
  pub idle : t.control.state ≡ Idle
  pub remaining : t.control.tx_len ≡ c.tx_len
