-- No second outcome meets the contract of an event: what it gives back and what the lent FIFO buffer holds are one. Assumes nothing.
use mathlib.Core.Path.{◌≡◌, sym, ap, ◌∙◌}
use contract.Lifetimes.{Lfts}
use borrow.Fn.Kinds.{Dens, res_t, ended_of}
use denote.Triple.Clauses.{AtExit}
use Rattle.host_rules.specs.Host.{Arrival}
use Rattle.host.proofs.arrival.Kinds as arrival-kinds
use Rattle.host.proofs.arrival.Reads as arrival-reads
use Rattle.host.proofs.collection.Kinds as collection-kinds
use Rattle.host.proofs.collection.Reads as collection-reads
use Rattle.host.proofs.bus_reset.Kinds as bus-reset-kinds
use Rattle.host.proofs.bus_reset.Reads as bus-reset-reads
use Rattle.host.proofs.suspend.Kinds as suspend-kinds
use Rattle.host.proofs.suspend.Reads as suspend-reads
use Rattle.host.proofs.resume.Kinds as resume-kinds
use Rattle.host.proofs.resume.Reads as resume-reads
use Rattle.host.proofs.setup_end.Kinds as setup-end-kinds
use Rattle.host.proofs.setup_end.Reads as setup-end-reads
use Rattle.host.proofs.underrun.Kinds as underrun-kinds
use Rattle.host.proofs.underrun.Reads as underrun-reads
use Rattle.host.proofs.overrun.Kinds as overrun-kinds
use Rattle.host.proofs.overrun.Reads as overrun-reads

pub arrival : (κs : Lfts 2) (a : Dens κs arrival-kinds.ps) (x y : (res_t arrival-kinds.r κs).Denot) (e f : AtExit (ended_of 2 arrival-kinds.ps arrival-kinds.r) κs)
    → arrival-reads.Post κs a x e → arrival-reads.Post κs a y f → (x ≡ y) × (e.1.1.1.0.now ≡ f.1.1.1.0.now)
arrival κs a x y e f p q = (ap (λ (o : Arrival). o.event) (p ∙ sym q), ap (λ (o : Arrival). o.fifo) (p ∙ sym q))

pub collection : (κs : Lfts 1) (a : Dens κs collection-kinds.ps) (x y : (res_t collection-kinds.r κs).Denot) (e f : AtExit (ended_of 1 collection-kinds.ps collection-kinds.r) κs)
    → collection-reads.Post κs a x e → collection-reads.Post κs a y f → x ≡ y
collection κs a x y e f p q = p.0 ∙ sym q.0

pub bus_reset_lem : (κs : Lfts 0) (a : Dens κs bus-reset-kinds.ps) (x y : (res_t bus-reset-kinds.r κs).Denot) (e f : AtExit (ended_of 0 bus-reset-kinds.ps bus-reset-kinds.r) κs)
    → bus-reset-reads.Post κs a x e → bus-reset-reads.Post κs a y f → x ≡ y
bus_reset_lem κs a x y e f p q = p ∙ sym q

pub suspend : (κs : Lfts 0) (a : Dens κs suspend-kinds.ps) (x y : (res_t suspend-kinds.r κs).Denot) (e f : AtExit (ended_of 0 suspend-kinds.ps suspend-kinds.r) κs)
    → suspend-reads.Post κs a x e → suspend-reads.Post κs a y f → x ≡ y
suspend κs a x y e f p q = p ∙ sym q

pub resume : (κs : Lfts 0) (a : Dens κs resume-kinds.ps) (x y : (res_t resume-kinds.r κs).Denot) (e f : AtExit (ended_of 0 resume-kinds.ps resume-kinds.r) κs)
    → resume-reads.Post κs a x e → resume-reads.Post κs a y f → x ≡ y
resume κs a x y e f p q = p ∙ sym q

pub setup_end_lem : (κs : Lfts 0) (a : Dens κs setup-end-kinds.ps) (x y : (res_t setup-end-kinds.r κs).Denot) (e f : AtExit (ended_of 0 setup-end-kinds.ps setup-end-kinds.r) κs)
    → setup-end-reads.Post κs a x e → setup-end-reads.Post κs a y f → x ≡ y
setup_end_lem κs a x y e f p q = p ∙ sym q

pub underrun : (κs : Lfts 0) (a : Dens κs underrun-kinds.ps) (x y : (res_t underrun-kinds.r κs).Denot) (e f : AtExit (ended_of 0 underrun-kinds.ps underrun-kinds.r) κs)
    → underrun-reads.Post κs a x e → underrun-reads.Post κs a y f → x ≡ y
underrun κs a x y e f p q = p ∙ sym q

pub overrun : (κs : Lfts 0) (a : Dens κs overrun-kinds.ps) (x y : (res_t overrun-kinds.r κs).Denot) (e f : AtExit (ended_of 0 overrun-kinds.ps overrun-kinds.r) κs)
    → overrun-reads.Post κs a x e → overrun-reads.Post κs a y f → x ≡ y
overrun κs a x y e f p q = p ∙ sym q
