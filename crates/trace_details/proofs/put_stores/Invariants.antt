-- `trace_details::put_stores` meets its contract: after i turns the first i stores stand there.
-- Assumes nothing.
use Rattle.detail_rules.specs.DetailLines.{stores}
use Rattle.trace_rules.specs.Text.{Wrote}
use lib.ListN.{length}
use mathlib.Core.Path.{◌≡◌}
use Prim.Native.Nat.{◌+◌, ◌*◌, ◌≤◌}
use Rattle.trace_details.proofs.put_stores.Given as goal

abbrev pub invariant-loop-i : goal.invariant-loop-i
invariant-loop-i l = Wrote l.initial.out l.out l.at l.m (stores l.list l.i) × (l.m ≤ l.at + 18 * l.i) × (length l.out ≡ length l.initial.out)
