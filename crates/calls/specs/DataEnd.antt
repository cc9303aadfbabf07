-- Which operations store DataEnd, the bit by which the driver tells the chip that the data of a control transfer are at an end.
-- Assumes nothing.
use Rattle.std.specs.Prelude.{ℕ, suc, ◌+◌, ◌*◌, ◌<◌, ◌≡◌, Bool, true, false, ◌&&◌, List, eqb, get_or}
use Rattle.laws.specs.Words.{bit}
use Rattle.store_list.specs.Stores.{CSR0L}
use Rattle.control_state.specs.declared.ControlStateEnum.{ControlStateEnum}
use Rattle.control_state.specs.declared.ControlStateEnum.TheVariants.{Idle, Setup, DataIn, DataOut, Accepted, NodataPhase}
use Rattle.control_state.specs.Numbers.{state_number}
use Rattle.record.specs.declared.Record.{Record}
use Rattle.calls.specs.Calls.{Op, Outcome, outcome, step}
use Rattle.calls.specs.Control.{state, Role, writes, reads, stalls, polls, resets, cuts, others, role}

-- Of n stores in the list l, the one of place i stores DataEnd: bit 3 of CSR0L.
pub record DataEndAt (l : List ℕ) (n i : ℕ) : Type 0 where
  pub there : i < n
  pub register : get_or l (i * 3) 0 ≡ CSR0L
  pub end : bit (get_or l (i * 3 + 2) 0) 3 ≡ true

-- none of an operation's stores does, or the last of them and no other
abbrev pub NoDataEnd : Outcome → Type 0
NoDataEnd x = (i : ℕ) → DataEndAt x.list x.stores i → ⊥

pub record DataEndLast (l : List ℕ) (n : ℕ) : Type 0 where
  pub last : (i : ℕ) × (suc i ≡ n) × DataEndAt l n i
  pub only : (i : ℕ) → DataEndAt l n i → suc i ≡ n

abbrev pub DataEndOnce : Outcome → Type 0
DataEndOnce x = DataEndLast x.list x.stores

-- whether a state is s: their numbers tell them apart
abbrev pub is_state : ControlStateEnum → ControlStateEnum → Bool
is_state s t = eqb (state_number t) (state_number s)

-- the turns by which the data are at an end: DataIn or DataOut to Idle, and Setup to NodataPhase, which has none
abbrev pub ends : ControlStateEnum → ControlStateEnum → Bool
ends DataIn t = is_state Idle t
ends DataOut t = is_state Idle t
ends Setup t = is_state NodataPhase t
ends Idle t = false
ends Accepted t = false
ends NodataPhase t = false

-- a write or a read that makes one of these turns: a stall, the reset call or a poll gives the data up
abbrev pub transfers : Role → Bool
transfers (writes e n) = true
transfers (reads e) = true
transfers (stalls e s) = false
transfers polls = false
transfers resets = false
transfers cuts = false
transfers others = false

abbrev pub ends_data : Record → Op → Bool
ends_data k o = transfers (role o) && ends (state k) (state (step k o))

-- An operation that ends data stores DataEnd, once and last; any other does not store it.
pub record StoresEnd (k : Record) (o : Op) : Type 0 where
  pub ends : ends_data k o ≡ true → DataEndOnce (outcome k o)
  pub other : ends_data k o ≡ false → NoDataEnd (outcome k o)
