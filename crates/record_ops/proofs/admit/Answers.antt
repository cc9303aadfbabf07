use mathlib.Core.Path.{sym, ◌∙◌}
use Rattle.record_ops.proofs.admit.Goals as goal

pub returns-then-short : goal.returns-then-short
returns-then-short c = rw c.if-short.true

pub returns-then-not-sound : goal.returns-then-not-sound
returns-then-not-sound c = rw (c.if-short.false, sym c.sound.ensures ∙ c.if-not-sound.true)

pub returns-then-beyond : goal.returns-then-beyond
returns-then-beyond c = rw (c.if-short.false, sym c.sound.ensures ∙ c.if-not-sound.false, c.if-beyond.true)

pub returns : goal.returns
returns c = rw (c.if-short.false, sym c.sound.ensures ∙ c.if-not-sound.false, c.if-beyond.false)
