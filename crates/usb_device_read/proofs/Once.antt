-- No second outcome meets the contract of `read`: the answer, the record, the count, the list and the caller's buffer are one.
-- An exit has a place for each argument: the buffer's is the third, the list's the fifth.
-- Assumes nothing.
use mathlib.Core.Path.{◌≡◌, sym, ap, ◌∙◌}
use contract.Lifetimes.{Lfts}
use borrow.Fn.Kinds.{Dens, res_t, ended_of}
use denote.Triple.Clauses.{AtExit}
use Rattle.transfer_rules.specs.Read.{ReadOutcome}
use Rattle.usb_device_read.proofs.read.Kinds as kinds
use Rattle.usb_device_read.proofs.read.Reads as reads

pub once : (κs : Lfts 3) (a : Dens κs kinds.ps) (x y : (res_t kinds.r κs).Denot) (e f : AtExit (ended_of 3 kinds.ps kinds.r) κs)
    → reads.Post κs a x e → reads.Post κs a y f → (x ≡ y) × (e.1.1.1.1.0.now ≡ f.1.1.1.1.0.now) × (e.1.1.0.now ≡ f.1.1.0.now)
once κs a x y e f p q =
    (ap (λ (o : ReadOutcome). o.result) (p ∙ sym q), ap (λ (o : ReadOutcome). o.list) (p ∙ sym q), ap (λ (o : ReadOutcome). o.buf) (p ∙ sym q))
