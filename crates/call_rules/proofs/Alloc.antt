-- From the promises of a call's steps to its definition, a law for each way through it.
-- Assumes nothing.
use Rattle.std.specs.Prelude.{ℕ, List, Option, Result, Err, Ok}
use Rattle.call_rules.specs.declared.AllocRefusal.{AllocRefusal}
use Rattle.call_rules.specs.declared.AllocRefusal.TheVariants.{Refused}
use mathlib.Core.Path.{◌≡◌, sym, ap, ◌∙◌}
use mathlib.Core.Bool.{false}
use Rattle.board.specs.Boards.{rows}
use Rattle.endpoints.specs.declared.Ask.{Ask}
use Rattle.endpoints.specs.declared.EndpointData.{EndpointData}
use Rattle.endpoints.specs.Allocate.{allocate}
use Rattle.record.specs.declared.Record.{Record}
use Rattle.record.specs.declared.Refusal.{Refusal}
use Rattle.record.specs.Record.{passes, record_sound, admission_by, with_endpoints, Reply}
use Rattle.call_rules.specs.Alloc.{AllocRan, alloc_left, alloc_ran, alloc_ep, alloc_ep_call}

-- the whole call, by what its first test says: refused, or the answer and the endpoints put into the record
module _ (k : Record) (q : Ask) (w : Option ℕ) {t : Reply Unit} (is : t ≡ admission_by false (passes k.regs.board k.regs.words k.irq) false) where
  pub not_allowed : {x : Refusal} → t ≡ Err x → record { answer = Err (Refused x); «record» = k } ≡ alloc_ep_call k q w
  unfolding alloc_ep_call record_sound
  not_allowed e = rw (sym is ∙ e)

  pub allocating : {a : Result ℕ AllocRefusal} {es : List EndpointData} → t ≡ Ok tt
      → alloc_left a es ≡ alloc_ran (allocate (rows k.regs.board) k.endpoints q w) → record { answer = a; «record» = with_endpoints k es } ≡ alloc_ep_call k q w
  unfolding alloc_ep_call alloc_ep record_sound
  allocating e p = rw (sym is ∙ e) (ap (λ (o : AllocRan). record { answer = o.answer; «record» = with_endpoints k o.endpoints }) p)
