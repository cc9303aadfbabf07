-- `trace_text::put_fields` meets its contract: the numbers so far stand there as fields.
-- Assumes nothing.
use Rattle.std.proofs.Common.{◌≡◌, ◌+◌, ◌*◌, ◌≤◌, length, take}
use Rattle.std.specs.Prelude.{map}
use Rattle.trace_rules.specs.Text.{Wrote, fields}
use Rattle.trace_text.proofs.put_fields.Given as goal

abbrev pub invariant-loop-x : goal.invariant-loop-x
invariant-loop-x g l = let t = g.T.Shown in
    (l.x-index ≤ length l.s) × (Wrote l.initial.out l.out l.at l.m (fields (map t.value (take l.x-index l.s)))) × (l.m ≤ l.at + t.most * l.x-index)
    × (length l.out ≡ length l.initial.out)
