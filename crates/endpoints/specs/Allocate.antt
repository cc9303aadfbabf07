-- Allocation, over any table of endpoints: the source's `alloc_endpoint`. Nothing here names a board.
-- Assumes nothing.
use Rattle.std.specs.Prelude.{ℕ, zero, suc, ◌-◌, Bool, true, false, cond, List, leb, eqb, length, get_or, Err, None, Ok, Option, Result, Some}
use Rattle.endpoints.specs.declared.EndpointAllocError.{EndpointAllocError}
use Rattle.board.specs.declared.Row.{Row}
use Rattle.board.specs.Table.{row_at}
use Rattle.endpoints.specs.declared.EndpointData.{EndpointData}
use Rattle.endpoints.specs.declared.EndpointAllocError.TheVariants.{EndpointOverflow, InvalidEndpoint}
use Rattle.endpoints.specs.declared.Ask.{Ask}
use Rattle.endpoints.specs.Endpoints.{blank}
use Rattle.endpoints.specs.Check.{checked, passes, given}

-- The tests of document 01's reply table.

-- reply 2: "wanted number 6 or more", the table having six
abbrev pub beyond : List Row → ℕ → Bool
beyond t n = leb (length t) n

-- the check of the endpoint at a number
unfoldable pub check_at : List Row → List EndpointData → Ask → ℕ → Result Unit EndpointAllocError
check_at t es q n = checked (row_at t n) (get_or es n blank) q

abbrev pub passes_at : List Row → List EndpointData → Ask → ℕ → Bool
passes_at t es q n = passes (check_at t es q n)

-- no number wanted: of the k numbers from i on, the lowest that passes the check; reply 1 where none does
abbrev pub first_from : List Row → List EndpointData → Ask → ℕ → ℕ → Result ℕ EndpointAllocError
first_from t es q i zero = Err EndpointOverflow
first_from t es q i (suc k) = cond (passes_at t es q i) (Ok i) (first_from t es q (suc i) k)

-- a number wanted: 2 where it is beyond the table; document 01: "wanted number 0 is never checked"; else as the check says
abbrev pub numbered : Bool → Bool → ℕ → Result Unit EndpointAllocError → Result ℕ EndpointAllocError
numbered true none n c = Err InvalidEndpoint
numbered false true n c = Ok n
numbered false false n (Ok tt) = Ok n
numbered false false n (Err x) = Err x

-- which endpoint is given, or why none is
unfoldable pub answer_to : List Row → List EndpointData → Ask → Option ℕ → Result ℕ EndpointAllocError
answer_to t es q None = first_from t es q 1 (length t - 1)
answer_to t es q (Some n) = numbered (beyond t n) (eqb n 0) n (check_at t es q n)

-- the endpoints after an answer. Document 01: "A refusal returns its number and changes nothing".
abbrev pub after : List EndpointData → Ask → Result ℕ EndpointAllocError → List EndpointData
after es q (Ok n) = given es q n
after es q (Err x) = es

-- all that `alloc_endpoint` leaves
pub record Allocated : Type 0 where
  pub endpoints : List EndpointData
  pub answer : Result ℕ EndpointAllocError

abbrev pub allocated : Result ℕ EndpointAllocError → List EndpointData → Allocated
allocated a es = record { endpoints = es; answer = a }

-- `alloc_endpoint`
unfoldable pub allocate : List Row → List EndpointData → Ask → Option ℕ → Allocated
allocate t es q w = allocated (answer_to t es q w) (after es q (answer_to t es q w))
