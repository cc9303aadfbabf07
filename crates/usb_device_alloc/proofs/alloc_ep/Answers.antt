-- `usb_device_alloc::alloc_ep` meets its contract. Assumes nothing.
use mathlib.Core.Path.{refl, sym, ap, ◌∙◌}
use mathlib.Core.Bool.{Bool, false}
use Rattle.record.specs.Record.{admission_by}
use Rattle.call_rules.proofs.Alloc.{not_allowed, allocating}
use Rattle.usb_device_alloc.proofs.alloc_ep.Goals as goal
use Rattle.usb_device_alloc.proofs.alloc_ep.Goals.{then-sound, else-sound}

-- the record's own test, as the first of the admission
pub returns : goal.returns
returns c = elim c.if-sound.branch [
  | then-sound w ↦ rw w.answer-is (rw w.e-is (allocating c.args.k _ _ refl (ap (λ (b : Bool). admission_by false b false) (sym c.sound.ensures ∙ w.if-sound.true)) w.allocate-answer.ensures))
  | else-sound w ↦ rw w.answer-is (rw w.e-is (not_allowed c.args.k _ _ refl (ap (λ (b : Bool). admission_by false b false) (sym c.sound.ensures ∙ w.if-sound.false))))
]
