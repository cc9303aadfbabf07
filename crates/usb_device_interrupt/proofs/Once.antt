-- No second outcome meets the contract of `on_interrupt`: the answer and the whole record are one. Assumes nothing.
use mathlib.Core.Path.{◌≡◌, sym, ◌∙◌}
use contract.Lifetimes.{Lfts}
use borrow.Fn.Kinds.{Dens, res_t, ended_of}
use denote.Triple.Clauses.{AtExit}
use Rattle.usb_device_interrupt.proofs.on_interrupt.Kinds as kinds
use Rattle.usb_device_interrupt.proofs.on_interrupt.Reads as reads

pub once : (κs : Lfts 0) (a : Dens κs kinds.ps) (x y : (res_t kinds.r κs).Denot) (e f : AtExit (ended_of 0 kinds.ps kinds.r) κs)
    → reads.Post κs a x e → reads.Post κs a y f → x ≡ y
once κs a x y e f p q = p ∙ sym q
