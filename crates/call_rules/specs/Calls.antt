-- What each simple call of the source's usb_device_impl/mod.rs gives back and leaves in the lent list, refused ones too.
-- Assumes nothing.
use Rattle.std.specs.Prelude.{ℕ, Bool, true, false, List, leb, ltb, length, Err, Ok}
use Rattle.record.specs.declared.Called.{Called}
use Rattle.register_file.specs.Registers.{File}
use Rattle.control_state.specs.declared.ControlState.{ControlState}
use Rattle.control_state.specs.declared.ControlStateEnum.TheVariants.{Idle}
use Rattle.control_state.specs.Control.{with_state, with_tx_len}
use Rattle.store_rules.specs.Stores.{Log, log, write_faddr}
use Rattle.common_rules.specs.Common.{bus_init}
use Rattle.record.specs.declared.Record.{Record}
use Rattle.record.specs.declared.Refusal.{Refusal}
use Rattle.record.specs.declared.Refusal.TheVariants.{Unsupported, BadAddress}
use Rattle.record.specs.Record.{record_sound, admission_by, endpoints_of, list_need, with_regs, with_control, Reply}

-- all that a call leaves: what it gives back, and the lent list
pub record CallOutcome : Type 0 where
  pub call : Called (Reply Unit)
  pub list : List ℕ

-- document 01: "A refusal returns its number and changes nothing"
abbrev pub refused : Record → Refusal → Called (Reply Unit)
refused k x = record { answer = Err x; «record» = k; stores = 0 }

-- the control state and the registers are all that these calls change
abbrev pub done : Record → ControlState → File → ℕ → Called (Reply Unit)
done k c r n = record { answer = (Ok tt); «record» = with_regs (with_control k c) r; stores = n }

abbrev pub stored : Record → ControlState → Log → CallOutcome
stored k c g = record { call = done k c g.regs g.count; list = g.list }

-- the tests decide first
abbrev pub unless : Reply Unit → Record → List ℕ → CallOutcome → CallOutcome
unless (Err x) k l o = record { call = refused k x; list = l }
unless (Ok tt) k l o = o

-- reply 15: "list under 384 numbers"
abbrev pub short : List ℕ → Bool
short l = ltb (length l) list_need

-- no store stands in the list yet
abbrev pub begun : Record → List ℕ → Log
begun k l = log k.regs.words l 0

-- `bus_init`
unfoldable pub bus_init_call : Record → List ℕ → CallOutcome
bus_init_call k l = unless (admission_by (short l) (record_sound k) false) k l (stored k k.control_state (bus_init (begun k l)))

-- `enable`: `faddr().write(|w| w.set_func_addr(0))`
unfoldable pub enable_call : Record → List ℕ → CallOutcome
enable_call k l = unless (admission_by (short l) (record_sound k) false) k l (stored k k.control_state (write_faddr 0 (begun k l)))

-- `set_state(ControlStateEnum::Idle)`, `reset_tx_len()`
unfoldable pub idled : ControlState → ControlState
idled c = with_tx_len (with_state c Idle) 0

-- reply 14: "address over 127", after 15 and 16
abbrev pub address_entry : Reply Unit → Bool → Reply Unit
address_entry (Err x) fits = Err x
address_entry (Ok tt) true = Ok tt
address_entry (Ok tt) false = Err BadAddress

-- `set_device_address`: `faddr().write(|w| w.set_func_addr(addr))`
unfoldable pub address_call : Record → ℕ → List ℕ → CallOutcome
address_call k a l =
    unless (address_entry (admission_by (short l) (record_sound k) false) (leb a 127)) k l (stored k k.control_state (write_faddr a (begun k l)))

-- reply 8: "endpoint 6 or more", the board's own last endpoint being the highest
abbrev pub beyond : Record → ℕ → Bool
beyond k e = leb (endpoints_of k) e

-- `force_reset`, the trait's own: "always" reply 7
abbrev pub force_reset_call : Reply Unit
force_reset_call = Err Unsupported
