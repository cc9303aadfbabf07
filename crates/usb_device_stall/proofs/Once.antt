-- No second outcome meets the contract of a call: what it gives back and what the lent list holds are one. Assumes nothing.
use mathlib.Core.Path.{◌≡◌, sym, ap, ◌∙◌}
use contract.Lifetimes.{Lfts}
use borrow.Fn.Kinds.{Dens, res_t, ended_of}
use denote.Triple.Clauses.{AtExit}
use Rattle.call_rules.specs.Calls.{CallOutcome}
use Rattle.call_rules.specs.Stall.{StalledOutcome}
use Rattle.usb_device_stall.proofs.set_stalled.Kinds as set-stalled-kinds
use Rattle.usb_device_stall.proofs.set_stalled.Reads as set-stalled-reads
use Rattle.usb_device_stall.proofs.is_stalled.Kinds as is-stalled-kinds
use Rattle.usb_device_stall.proofs.is_stalled.Reads as is-stalled-reads

pub set_stalled_lem : (κs : Lfts 1) (a : Dens κs set-stalled-kinds.ps) (x y : (res_t set-stalled-kinds.r κs).Denot) (e f : AtExit (ended_of 1 set-stalled-kinds.ps set-stalled-kinds.r) κs)
    → set-stalled-reads.Post κs a x e → set-stalled-reads.Post κs a y f → (x ≡ y) × (e.1.1.1.1.0.now ≡ f.1.1.1.1.0.now)
set_stalled_lem κs a x y e f p q = (ap (λ (o : CallOutcome). o.call) (p ∙ sym q), ap (λ (o : CallOutcome). o.list) (p ∙ sym q))

pub is_stalled_lem : (κs : Lfts 1) (a : Dens κs is-stalled-kinds.ps) (x y : (res_t is-stalled-kinds.r κs).Denot) (e f : AtExit (ended_of 1 is-stalled-kinds.ps is-stalled-kinds.r) κs)
    → is-stalled-reads.Post κs a x e → is-stalled-reads.Post κs a y f → (x ≡ y) × (e.1.1.1.0.now ≡ f.1.1.1.0.now)
is_stalled_lem κs a x y e f p q = (ap (λ (o : StalledOutcome). o.call) (p ∙ sym q), ap (λ (o : StalledOutcome). o.list) (p ∙ sym q))
