-- `usb_device_interrupt::on_interrupt` meets its contract. Assumes nothing.
use mathlib.Core.Path.{refl, sym, ap, ◌∙◌}
use mathlib.Core.Bool.{Bool, false}
use Rattle.record.specs.Record.{admission_by}
use Rattle.call_rules.proofs.Interrupt.{left_alone, served}
use Rattle.usb_device_interrupt.proofs.on_interrupt.Goals as goal

pub returns-then-not-sound : goal.returns-then-not-sound
returns-then-not-sound c =
    left_alone c.args.k refl (ap (λ (b : Bool). admission_by false b false) (sym c.sound.ensures ∙ c.if-not-sound.true))

pub returns : goal.returns
returns c =
    served c.args.k refl (ap (λ (b : Bool). admission_by false b false) (sym c.sound.ensures ∙ c.if-not-sound.false)) c.interrupt-o.ensures.0 c.interrupt-o.ensures.1
