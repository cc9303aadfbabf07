-- No second outcome meets the contract of `alloc_endpoint`: the answer and all six endpoints are one.
-- Assumes nothing.
use mathlib.Core.Path.{◌≡◌, sym, ap, ◌∙◌}
use contract.Lifetimes.{Lfts}
use borrow.Fn.Kinds.{Dens, res_t, ended_of}
use denote.Triple.Clauses.{AtExit}
use Rattle.endpoints.specs.Allocate.{Allocated}
use Rattle.alloc_endpoint.proofs.alloc_endpoint.Kinds as kinds
use Rattle.alloc_endpoint.proofs.alloc_endpoint.Reads as reads

pub once : (κs : Lfts 1) (a : Dens κs kinds.ps) (x y : (res_t kinds.r κs).Denot) (e f : AtExit (ended_of 1 kinds.ps kinds.r) κs)
    → reads.Post κs a x e → reads.Post κs a y f → (x ≡ y) × (e.1.0.now ≡ f.1.0.now)
once κs a x y e f p q = (ap (λ (o : Allocated). o.answer) (p ∙ sym q), ap (λ (o : Allocated). o.endpoints) (p ∙ sym q))
