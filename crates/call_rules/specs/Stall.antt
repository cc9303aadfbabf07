-- What the calls `set_stalled` and `is_stalled` of the source's usb_device_impl/mod.rs give back and leave in the lent list, refused too.
-- Assumes nothing.
use Rattle.std.specs.Prelude.{ℕ, Bool, ◌&&◌, cond, List, [], ◌∷◌, eqb, Err, Ok}
use Rattle.record.specs.declared.Called.{Called}
use Rattle.board.specs.declared.Direction.{Direction}
use Rattle.board.specs.declared.Direction.TheVariants.{Out, In}
use Rattle.register_file.specs.Registers.{File}
use Rattle.control_state.specs.declared.ControlState.{ControlState}
use Rattle.store_rules.specs.Stores.{Log, write_index}
use Rattle.common_rules.specs.Common.{ep_tx_stall, ep_rx_stall, is_stalled}
use Rattle.record.specs.declared.Record.{Record}
use Rattle.record.specs.declared.Refusal.{Refusal}
use Rattle.record.specs.Record.{record_sound, admission_by, refusal_number, with_regs, Reply}
use Rattle.call_rules.specs.Calls.{CallOutcome, stored, unless, short, begun, idled, beyond}

pub record StalledOutcome : Type 0 where
  pub call : Called (Reply Bool)
  pub list : List ℕ

-- `match ep_addr.direction()`
unfoldable pub ep_stall : Direction → ℕ → Bool → Log → Log
ep_stall In e stalled g = ep_tx_stall e stalled g
ep_stall Out e stalled g = ep_rx_stall e stalled g

-- `if index == 0 { if stalled { .. } }`
unfoldable pub after_stall : ℕ → Bool → ControlState → ControlState
after_stall e stalled c = cond (eqb e 0 && stalled) (idled c) c

-- `set_stalled`
unfoldable pub set_stalled_call : Record → ℕ → Direction → Bool → List ℕ → CallOutcome
set_stalled_call k e d stalled l =
    unless (admission_by (short l) (record_sound k) (beyond k e)) k l
    (stored k (after_stall e stalled k.control_state) (ep_stall d e stalled (begun k l)))

-- `is_stalled`: all that it stores is the index
abbrev pub stalled_done : Record → Bool → File → ℕ → Called (Reply Bool)
stalled_done k b r n = record { answer = Ok b; «record» = with_regs k r; stores = n }

abbrev pub stalled_refused : Record → Refusal → Called (Reply Bool)
stalled_refused k x = record { answer = Err x; «record» = k; stores = 0 }

abbrev pub stalled_of : Record → Bool → Log → StalledOutcome
stalled_of k b g = record { call = stalled_done k b g.regs g.count; list = g.list }

abbrev pub unless_stalled : Reply Unit → Record → List ℕ → StalledOutcome → StalledOutcome
unless_stalled (Err x) k l o = record { call = stalled_refused k x; list = l }
unless_stalled (Ok tt) k l o = o

unfoldable pub is_stalled_call : Record → ℕ → Direction → List ℕ → StalledOutcome
is_stalled_call k e d l =
    unless_stalled (admission_by (short l) (record_sound k) (beyond k e)) k l (stalled_of k (is_stalled d e (begun k l)) (write_index e (begun k l)))

abbrev pub stalled_number : Reply Bool → ℕ
stalled_number (Ok b) = 0
stalled_number (Err x) = refusal_number x

-- 1 where it is stalled
abbrev pub stalled_values : Reply Bool → List ℕ
stalled_values (Ok b) = cond b 1 0 ∷ []
stalled_values (Err x) = []
