-- `read_full`: the bytes that were read stand at the front.
use Rattle.std.proofs.Common.{length, ◌≡◌, take, ◌≤◌}
use Rattle.std.specs.Io.KnownBytes.{Consumes}
use Rattle.input.proofs.read_full.Given as goal

abbrev pub invariant-loop : goal.invariant-loop
invariant-loop g l = (l.done ≤ length l.into) × (length l.into ≡ length l.initial.into) × Consumes (g.R.Read.remaining l.initial.from) (g.R.Read.remaining l.from) (take l.done l.into)
