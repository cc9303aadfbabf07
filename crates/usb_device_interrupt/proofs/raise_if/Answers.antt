-- `usb_device_interrupt::raise_if` meets its contract. Assumes nothing.
use mathlib.Core.Path.{sym, ◌∙◌}
use Rattle.call_rules.specs.Interrupt.{raised_if}
use Rattle.usb_device_interrupt.proofs.raise_if.Goals as goal

pub returns-then-has_bit : goal.returns-then-has_bit
unfolding raised_if
returns-then-has_bit c = rw (sym c.has_bit.ensures ∙ c.if-has_bit.true) c.raise.ensures

pub returns : goal.returns
unfolding raised_if
returns c = rw (sym c.has_bit.ensures ∙ c.if-has_bit.false)
