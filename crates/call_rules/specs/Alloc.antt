-- What the call `alloc_ep` of the source's usb_device_impl/mod.rs gives back, refused too. No list is lent.
-- Assumes nothing.
use Rattle.std.specs.Prelude.{ℕ, false, List, [], ◌∷◌, Err, Ok, Option, Result}
use Rattle.endpoints.specs.declared.EndpointAllocError.{EndpointAllocError}
use Rattle.record.specs.declared.Answered.{Answered}
use Rattle.call_rules.specs.declared.AllocRefusal.{AllocRefusal}
use Rattle.call_rules.specs.declared.AllocRefusal.TheVariants.{NotGiven, Refused}
use Rattle.board.specs.Boards.{rows}
use Rattle.endpoints.specs.declared.EndpointData.{EndpointData}
use Rattle.endpoints.specs.declared.Ask.{Ask}
use Rattle.endpoints.specs.Allocate.{Allocated, allocate}
use Rattle.endpoints.specs.Numbers.{error_number}
use Rattle.record.specs.declared.Record.{Record}
use Rattle.record.specs.Record.{record_sound, admission_by, refusal_number, with_endpoints, Reply}

-- `alloc_ep`: what alloc_endpoint answers and the endpoints that it gives back. No list is lent.
abbrev pub allocated : Result ℕ EndpointAllocError → Result ℕ AllocRefusal
allocated (Ok n) = Ok n
allocated (Err x) = Err (NotGiven x)

abbrev pub handed : Record → Allocated → Answered (Result ℕ AllocRefusal)
handed k o = record { answer = allocated o.answer; «record» = with_endpoints k o.endpoints }

unfoldable pub alloc_ep : Record → Ask → Option ℕ → Answered (Result ℕ AllocRefusal)
alloc_ep k q w = handed k (allocate (rows k.regs.board) k.endpoints q w)

abbrev pub unless_allocated : Reply Unit → Record → Answered (Result ℕ AllocRefusal) → Answered (Result ℕ AllocRefusal)
unless_allocated (Err x) k a = record { answer = Err (Refused x); «record» = k }
unless_allocated (Ok tt) k a = a

unfoldable pub alloc_ep_call : Record → Ask → Option ℕ → Answered (Result ℕ AllocRefusal)
alloc_ep_call k q w = unless_allocated (admission_by false (record_sound k) false) k (alloc_ep k q w)

-- the same by the parts of the record that it looks at and changes: the endpoints alone
pub record AllocRan : Type 0 where
  pub answer : Result ℕ AllocRefusal
  pub endpoints : List EndpointData

abbrev pub alloc_left : Result ℕ AllocRefusal → List EndpointData → AllocRan
alloc_left a es = record { answer = a; endpoints = es }

abbrev pub alloc_ran : Allocated → AllocRan
alloc_ran o = alloc_left (allocated o.answer) o.endpoints

abbrev pub alloc_number : Result ℕ AllocRefusal → ℕ
alloc_number (Ok n) = 0
alloc_number (Err (NotGiven x)) = error_number x
alloc_number (Err (Refused x)) = refusal_number x

abbrev pub alloc_values : Result ℕ AllocRefusal → List ℕ
alloc_values (Ok n) = n ∷ []
alloc_values (Err (NotGiven x)) = []
alloc_values (Err (Refused x)) = []
