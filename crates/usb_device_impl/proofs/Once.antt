-- No second outcome meets the contract of a call: what it gives back and what the lent list holds are one. Assumes nothing.
use mathlib.Core.Path.{◌≡◌, sym, ap, ◌∙◌}
use contract.Lifetimes.{Lfts}
use borrow.Fn.Kinds.{Dens, res_t, ended_of}
use denote.Triple.Clauses.{AtExit}
use Rattle.call_rules.specs.Calls.{CallOutcome}
use Rattle.usb_device_impl.proofs.bus_init.Kinds as bus-init-kinds
use Rattle.usb_device_impl.proofs.bus_init.Reads as bus-init-reads
use Rattle.usb_device_impl.proofs.enable.Kinds as enable-kinds
use Rattle.usb_device_impl.proofs.enable.Reads as enable-reads
use Rattle.usb_device_impl.proofs.set_device_address.Kinds as set-device-address-kinds
use Rattle.usb_device_impl.proofs.set_device_address.Reads as set-device-address-reads
use Rattle.usb_device_impl.proofs.force_reset.Kinds as force-reset-kinds
use Rattle.usb_device_impl.proofs.force_reset.Reads as force-reset-reads

pub bus_init_lem : (κs : Lfts 1) (a : Dens κs bus-init-kinds.ps) (x y : (res_t bus-init-kinds.r κs).Denot) (e f : AtExit (ended_of 1 bus-init-kinds.ps bus-init-kinds.r) κs)
    → bus-init-reads.Post κs a x e → bus-init-reads.Post κs a y f → (x ≡ y) × (e.1.0.now ≡ f.1.0.now)
bus_init_lem κs a x y e f p q = (ap (λ (o : CallOutcome). o.call) (p ∙ sym q), ap (λ (o : CallOutcome). o.list) (p ∙ sym q))

pub enable : (κs : Lfts 1) (a : Dens κs enable-kinds.ps) (x y : (res_t enable-kinds.r κs).Denot) (e f : AtExit (ended_of 1 enable-kinds.ps enable-kinds.r) κs)
    → enable-reads.Post κs a x e → enable-reads.Post κs a y f → (x ≡ y) × (e.1.0.now ≡ f.1.0.now)
enable κs a x y e f p q = (ap (λ (o : CallOutcome). o.call) (p ∙ sym q), ap (λ (o : CallOutcome). o.list) (p ∙ sym q))

pub set_device_address_lem : (κs : Lfts 1) (a : Dens κs set-device-address-kinds.ps) (x y : (res_t set-device-address-kinds.r κs).Denot) (e f : AtExit (ended_of 1 set-device-address-kinds.ps set-device-address-kinds.r) κs)
    → set-device-address-reads.Post κs a x e → set-device-address-reads.Post κs a y f → (x ≡ y) × (e.1.1.0.now ≡ f.1.1.0.now)
set_device_address_lem κs a x y e f p q = (ap (λ (o : CallOutcome). o.call) (p ∙ sym q), ap (λ (o : CallOutcome). o.list) (p ∙ sym q))

pub force_reset_lem : (κs : Lfts 0) (a : Dens κs force-reset-kinds.ps) (x y : (res_t force-reset-kinds.r κs).Denot) (e f : AtExit (ended_of 0 force-reset-kinds.ps force-reset-kinds.r) κs)
    → force-reset-reads.Post κs a x e → force-reset-reads.Post κs a y f → x ≡ y
force_reset_lem κs a x y e f p q = p ∙ sym q
