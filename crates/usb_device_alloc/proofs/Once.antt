-- No second outcome meets the contract of `alloc_ep`: the answer and the whole record are one.
-- Assumes nothing.
use mathlib.Core.Path.{◌≡◌, sym, ◌∙◌}
use contract.Lifetimes.{Lfts}
use borrow.Fn.Kinds.{Dens, res_t, ended_of}
use denote.Triple.Clauses.{AtExit}
use Rattle.usb_device_alloc.proofs.alloc_ep.Kinds as alloc-ep-kinds
use Rattle.usb_device_alloc.proofs.alloc_ep.Reads as alloc-ep-reads

pub alloc_ep_lem : (κs : Lfts 0) (a : Dens κs alloc-ep-kinds.ps) (x y : (res_t alloc-ep-kinds.r κs).Denot) (e f : AtExit (ended_of 0 alloc-ep-kinds.ps alloc-ep-kinds.r) κs)
    → alloc-ep-reads.Post κs a x e → alloc-ep-reads.Post κs a y f → x ≡ y
alloc_ep_lem κs a x y e f p q = p ∙ sym q
