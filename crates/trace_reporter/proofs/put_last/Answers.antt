-- `trace_reporter::put_last` meets its contract.
-- Assumes nothing.
use Rattle.std.specs.Io.KnownBytes.{Appends}
use Rattle.std.proofs.lemmas.Result.{on_ok_weaker}
use native.Mathlib.Omega.{arith}
use Prim.Native.Nat.{ℕ}
use mathlib.Core.Path.{subst}
use lib.ListN.{length-take}
use Rattle.trace_rules.proofs.Appended.{front}
use Rattle.trace_reporter.proofs.Reaching.{from_front}
use Rattle.trace_reporter.proofs.put_last.Goals as goal

pub put-requires : goal.put-requires
put-requires g c = (omega (arith, length-take {A = ℕ}), from_front _ _ _ c.last_line-len.ensures.wrote (omega arith) c.requires.2.has)

pub returns-clause-bytes : goal.returns-clause-bytes
returns-clause-bytes g c = on_ok_weaker _ (subst (Appends _ _) (front c.last_line-len.ensures.wrote (omega arith))) c.put.ensures.bytes
