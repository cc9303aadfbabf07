-- The whole record: fresh, where an endpoint's area lies, and reply 16 in one definition.
-- Assumes nothing.
use Rattle.std.specs.Prelude.{ℕ, ◌^◌, ◌<◌, Bool, true, false, List, ltb, length, replicate, Result, Ok, Err}
use Rattle.laws.specs.Tests.{◌also◌}
use Rattle.board.specs.declared.Board.{Board}
use Rattle.board.specs.declared.Direction.{Direction}
use Rattle.board.specs.declared.Span.{Span}
use Rattle.board.specs.Table as table
use Rattle.board.specs.Table.{area_at, total}
use Rattle.board.specs.Boards.{rows}
use Rattle.register_file.specs.Registers.{File, fresh_regs}
use Rattle.register_file.specs.Sound.{regs_sound, Sound}
use Rattle.endpoints.specs.Endpoints.{fresh}
use Rattle.control_state.specs.Control.{idle}
use Rattle.endpoints.specs.declared.EndpointData.{EndpointData}
use Rattle.control_state.specs.declared.ControlState.{ControlState}
use Rattle.record.specs.declared.Flags.{Flags}
use Rattle.record.specs.declared.Refusal.{Refusal}
use Rattle.record.specs.declared.Refusal.TheVariants.{WouldBlock, Unsupported, NoSuchEndpoint, TooLong, NotWritable, NotReadable, NotSetup, BadAddress, TooLittleLent, BadRecord, OutOfTurn, BufferOverflow}
use Rattle.record.specs.declared.Record.{Record}

-- "A fresh record: registers 0, nothing waiting, endpoints unused, Bulk, sizes 0, Idle, nothing remaining, flags down."
abbrev pub no_flags : Flags
no_flags = record { reset = false; suspend = false; resume = false; ep0 = false; ep_tx = 0; ep_rx = 0 }

unfoldable pub fresh_record : Board → Record
fresh_record b = record { regs = fresh_regs b; endpoints = replicate 6 fresh; control_state = idle; irq = no_flags }

-- where an endpoint's area lies in the FIFO buffer, and how long that must be: of the board's table
unfoldable pub area_in : Board → ℕ → Direction → Span
area_in b e d = area_at (rows b) e d

unfoldable pub area_of : Record → ℕ → Direction → Span
area_of k e d = area_in k.regs.board e d

unfoldable pub need_in : Board → ℕ
need_in b = total (rows b)

unfoldable pub need_of : Record → ℕ
need_of k = need_in k.regs.board

-- "The list must hold 128 stores", three numbers each
abbrev pub list_need : ℕ
list_need = 384

-- how many endpoints the record's board has
unfoldable pub endpoints_in : Board → ℕ
endpoints_in b = length (rows b)

unfoldable pub endpoints_of : Record → ℕ
endpoints_of k = endpoints_in k.regs.board

-- the sizes of the areas, in their order
abbrev pub sizes_of : Record → List ℕ
sizes_of k = table.sizes_of (rows k.regs.board)

-- "flag above bit 5": the board's own last endpoint is the highest
unfoldable pub flags_sound : Board → Flags → Bool
flags_sound b f = ltb f.ep_tx (2 ^ length (rows b)) also ltb f.ep_rx (2 ^ length (rows b))

-- reply 16 is given exactly when a record does not pass: "record with waiting length over its area or non-zero with its ready bit clear,
-- flag above bit 5, selection over 5, address over 127". Only the registers, the flags and the board are looked at.
unfoldable pub passes : Board → File → Flags → Bool
passes b w f = regs_sound (table.sizes_of (rows b)) (length (rows b)) w also flags_sound b f

unfoldable pub record_sound : Record → Bool
record_sound k = passes k.regs.board k.regs.words k.irq

-- what reply 16's test says: proofs/Passing.antt shows that a record passes exactly when it is sound
pub record SoundRecord (k : Record) : Type 0 where
  pub regs : Sound (sizes_of k) (length (rows k.regs.board)) k.regs.words
  pub tx : k.irq.ep_tx < 2 ^ length (rows k.regs.board)
  pub rx : k.irq.ep_rx < 2 ^ length (rows k.regs.board)

-- the answer of a call that gives a value of A: that value, or why it is refused
abbrev pub Reply : Type 0 → Type 0
Reply A = Result A Refusal

-- document 01's reply numbers, and document 02's 18
abbrev pub refusal_number : Refusal → ℕ
refusal_number WouldBlock = 6
refusal_number Unsupported = 7
refusal_number NoSuchEndpoint = 8
refusal_number TooLong = 9
refusal_number NotWritable = 11
refusal_number NotReadable = 12
refusal_number NotSetup = 13
refusal_number BadAddress = 14
refusal_number TooLittleLent = 15
refusal_number BadRecord = 16
refusal_number OutOfTurn = 17
refusal_number BufferOverflow = 18

-- document 01's number of an answer without a value
abbrev pub reply_number : Reply Unit → ℕ
reply_number (Ok tt) = 0
reply_number (Err x) = refusal_number x

-- "Order: 15, 16, 8": lent too little, the record does not pass, endpoint beyond the last
abbrev pub admission_by : Bool → Bool → Bool → Reply Unit
admission_by true passes beyond = Err TooLittleLent
admission_by false false beyond = Err BadRecord
admission_by false true true = Err NoSuchEndpoint
admission_by false true false = Ok tt

-- the record with one part changed
abbrev pub with_regs : Record → File → Record
with_regs k w = record { regs = record { board = k.regs.board; words = w }; endpoints = k.endpoints; control_state = k.control_state; irq = k.irq }

abbrev pub with_endpoints : Record → List EndpointData → Record
with_endpoints k es = record { regs = k.regs; endpoints = es; control_state = k.control_state; irq = k.irq }

abbrev pub with_control : Record → ControlState → Record
with_control k c = record { regs = k.regs; endpoints = k.endpoints; control_state = c; irq = k.irq }

abbrev pub with_irq : Record → Flags → Record
with_irq k f = record { regs = k.regs; endpoints = k.endpoints; control_state = k.control_state; irq = f }

-- the flags with one part changed
abbrev pub with_reset : Flags → Bool → Flags
with_reset f b = record { reset = b; suspend = f.suspend; resume = f.resume; ep0 = f.ep0; ep_tx = f.ep_tx; ep_rx = f.ep_rx }

abbrev pub with_suspend : Flags → Bool → Flags
with_suspend f b = record { reset = f.reset; suspend = b; resume = f.resume; ep0 = f.ep0; ep_tx = f.ep_tx; ep_rx = f.ep_rx }

abbrev pub with_resume : Flags → Bool → Flags
with_resume f b = record { reset = f.reset; suspend = f.suspend; resume = b; ep0 = f.ep0; ep_tx = f.ep_tx; ep_rx = f.ep_rx }

abbrev pub with_ep0 : Flags → Bool → Flags
with_ep0 f b = record { reset = f.reset; suspend = f.suspend; resume = f.resume; ep0 = b; ep_tx = f.ep_tx; ep_rx = f.ep_rx }

abbrev pub with_tx : Flags → ℕ → Flags
with_tx f w = record { reset = f.reset; suspend = f.suspend; resume = f.resume; ep0 = f.ep0; ep_tx = w; ep_rx = f.ep_rx }

abbrev pub with_rx : Flags → ℕ → Flags
with_rx f w = record { reset = f.reset; suspend = f.suspend; resume = f.resume; ep0 = f.ep0; ep_tx = f.ep_tx; ep_rx = w }
