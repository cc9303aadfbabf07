-- No second outcome meets the contract of `poll`: the answer, the record, the count and the whole list are one. Assumes nothing.
use mathlib.Core.Path.{◌≡◌, sym, ap, ◌∙◌}
use contract.Lifetimes.{Lfts}
use borrow.Fn.Kinds.{Dens, res_t, ended_of}
use denote.Triple.Clauses.{AtExit}
use Rattle.round_rules.specs.Poll.{PollOutcome}
use Rattle.usb_device_poll.proofs.poll.Kinds as kinds
use Rattle.usb_device_poll.proofs.poll.Reads as reads

pub once : (κs : Lfts 1) (a : Dens κs kinds.ps) (x y : (res_t kinds.r κs).Denot) (e f : AtExit (ended_of 1 kinds.ps kinds.r) κs)
    → reads.Post κs a x e → reads.Post κs a y f → (x ≡ y) × (e.1.0.now ≡ f.1.0.now)
once κs a x y e f p q = (ap (λ (o : PollOutcome). o.result) (p ∙ sym q), ap (λ (o : PollOutcome). o.list) (p ∙ sym q))
