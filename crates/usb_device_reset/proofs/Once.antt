-- No second outcome meets the contract of a call: what it gives back and what the lent list holds are one. Assumes nothing.
use mathlib.Core.Path.{◌≡◌, sym, ap, ◌∙◌}
use contract.Lifetimes.{Lfts}
use borrow.Fn.Kinds.{Dens, res_t, ended_of}
use denote.Triple.Clauses.{AtExit}
use Rattle.call_rules.specs.Calls.{CallOutcome}
use Rattle.usb_device_reset.proofs.reset.Kinds as reset-kinds
use Rattle.usb_device_reset.proofs.reset.Reads as reset-reads

pub reset : (κs : Lfts 1) (a : Dens κs reset-kinds.ps) (x y : (res_t reset-kinds.r κs).Denot) (e f : AtExit (ended_of 1 reset-kinds.ps reset-kinds.r) κs)
    → reset-reads.Post κs a x e → reset-reads.Post κs a y f → (x ≡ y) × (e.1.0.now ≡ f.1.0.now)
reset κs a x y e f p q = (ap (λ (o : CallOutcome). o.call) (p ∙ sym q), ap (λ (o : CallOutcome). o.list) (p ∙ sym q))
