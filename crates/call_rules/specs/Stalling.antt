-- What `set_stalled` leaves where it is answered, beside its definition and apart from it.
-- Assumes nothing.
use Rattle.std.specs.Prelude.{ℕ, ◌≡◌, Bool, true, List}
use Rattle.board.specs.declared.Direction.{Direction}
use Rattle.control_state.specs.declared.ControlStateEnum.TheVariants.{Idle}
use Rattle.store_rules.specs.Stores.{Log, log}
use Rattle.common_rules.specs.Stalling.{Stalls, StallsZero}
use Rattle.record.specs.declared.Record.{Record}
use Rattle.call_rules.specs.Calls.{CallOutcome, begun}

-- the registers and the list after a call
abbrev pub log_of : CallOutcome → Log
log_of o = log o.call.«record».regs.words o.list o.call.stores

-- the packets, the registers and the list as specs/Stalling.antt of common_rules has them; "if index == 0 { if stalled { .. } }": the transfer of
-- endpoint 0 is over; nothing else of the record changes
pub record SetStalled (k : Record) (e : ℕ) (d : Direction) (stalled : Bool) (l : List ℕ) (o : CallOutcome) : Type 0 where
  pub other : (e ≡ 0 → ⊥) → Stalls d e stalled (begun k l) (log_of o)
  pub zero : e ≡ 0 → StallsZero d stalled (begun k l) (log_of o)
  pub idle : e ≡ 0 → stalled ≡ true → (o.call.«record».control_state.state ≡ Idle) × (o.call.«record».control_state.tx_len ≡ 0)
  pub control : (e ≡ 0 → stalled ≡ true → ⊥) → o.call.«record».control_state ≡ k.control_state
  pub board : o.call.«record».regs.board ≡ k.regs.board
  pub endpoints : o.call.«record».endpoints ≡ k.endpoints
  pub flags : o.call.«record».irq ≡ k.irq
