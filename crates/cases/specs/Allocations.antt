-- Document 01's proved table, 'Cases': P1 to P10. A case is what a definition gives beside what the document says, so that the cases of
-- other calls can stand in the same list.
-- Assumes nothing.
use Rattle.std.specs.Prelude.{◌≡◌, List, [], ◌∷◌, ◌++◌, map, ℕ, length, replicate, None, Option, Some}
use Rattle.board.specs.declared.Row.{Row}
use Rattle.board.specs.declared.Direction.{Direction}
use Rattle.board.specs.declared.Direction.TheVariants.{Out, In}
use Rattle.endpoints.specs.declared.EndpointType.{EndpointType}
use Rattle.endpoints.specs.declared.EndpointType.TheVariants.{Control, Isochronous, Bulk, Interrupt}
use Rattle.endpoints.specs.declared.EndpointData.{EndpointData}
use Rattle.endpoints.specs.declared.Ask.{Ask}
use Rattle.endpoints.specs.Endpoints.{ask, fresh}
use Rattle.endpoints.specs.Allocate.{allocate}
use Rattle.endpoints.specs.Numbers.{answer_number, answer_values}

-- a list of numbers for each call, as the report prints them: its reply, then its values
pub record Case : Type 0 where
  pub gives : List (List ℕ)
  pub says : List (List ℕ)

-- the one statement over a list of cases: each gives what the document says
abbrev pub Hold : List Case → Type 0
Hold cs = map (λ (c : Case). c.gives) cs ≡ map (λ (c : Case). c.says) cs

-- an allocation as a case writes it
pub record Alloc : Type 0 where
  pub wanted : Option ℕ
  pub asked : Ask

abbrev pub any : EndpointType → Direction → ℕ → Alloc
any k d n = record { wanted = None; asked = ask k d n }

abbrev pub wants : ℕ → EndpointType → Direction → ℕ → Alloc
wants m k d n = record { wanted = Some m; asked = ask k d n }

-- what allocations in turn give, each on the endpoints that the one before left
abbrev pub run : List Row → List EndpointData → List Alloc → List (List ℕ)
run t es [] = []
run t es (a ∷ calls) =
    let r = allocate t es a.asked a.wanted in
    (answer_number r.answer ∷ answer_values r.answer) ∷ run t r.endpoints calls

-- "Unless told, the record is fresh."
abbrev pub case : List Row → List Alloc → List (List ℕ) → Case
case t calls says = record { gives = run t (replicate (length t) fresh) calls; says = says }

abbrev pub done : ℕ → List ℕ
done n = 0 ∷ n ∷ []

abbrev pub reply : ℕ → List ℕ
reply n = n ∷ []

-- where a case does not tell the type or the direction, it stands for each
abbrev pub each_kind : (EndpointType → Case) → List Case
each_kind f = map f (Control ∷ Isochronous ∷ Bulk ∷ Interrupt ∷ [])

abbrev pub each_way : (Direction → Case) → List Case
each_way f = map f (Out ∷ In ∷ [])

abbrev pub each : (EndpointType → Direction → Case) → List Case
each f = each_kind (λ k. f k Out) ++ each_kind (λ k. f k In)

abbrev pub allocations : List Row → List Case
allocations t =
    -- P1 and P2: "no number, bulk out, 64: endpoint 1", "then interrupt in, 64: endpoint 2"
    (case t (any Bulk Out 64 ∷ any Interrupt In 64 ∷ []) (done 1 ∷ done 2 ∷ []) ∷ [])
    -- P3 to P5: "in, 128: 2", "in, 129: 5", "in, 513: reply 1"
    ++ each_kind (λ k. case t (any k In 128 ∷ []) (done 2 ∷ []))
    ++ each_kind (λ k. case t (any k In 129 ∷ []) (done 5 ∷ []))
    ++ each_kind (λ k. case t (any k In 513 ∷ []) (reply 1 ∷ []))
    -- P6 to P8: "wanted 4, in, 65: 5", "same, 64: 3", "wanted 6: 2"
    ++ each_kind (λ k. case t (wants 4 k In 65 ∷ []) (reply 5 ∷ []))
    ++ each_kind (λ k. case t (wants 4 k In 64 ∷ []) (reply 3 ∷ []))
    ++ each (λ k d. case t (wants 6 k d 64 ∷ []) (reply 2 ∷ []))
    -- P9: "wanted 0, size 65,535, twice: 0 each time"
    ++ each (λ k d. case t (wants 0 k d 65535 ∷ wants 0 k d 65535 ∷ []) (done 0 ∷ done 0 ∷ []))
    -- P10: "wanted 2, 64, interrupt in then out: both 2; then bulk: reply 4"
    ++ each_way (λ d. case t (wants 2 Interrupt In 64 ∷ wants 2 Interrupt Out 64 ∷ wants 2 Bulk d 64 ∷ []) (done 2 ∷ done 2 ∷ reply 4 ∷ []))
