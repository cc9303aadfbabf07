-- `trace_details::put_endpoints` meets its contract: after i turns the numbers of the first i endpoints stand there.
-- Assumes nothing.
use Rattle.detail_rules.specs.DetailNumbers.{of_endpoints}
use Rattle.trace_rules.specs.Text.{Wrote, fields}
use lib.ListN.{length}
use mathlib.Core.Path.{◌≡◌}
use Prim.Native.Nat.{◌+◌, ◌*◌, ◌≤◌}
use Rattle.trace_details.proofs.put_endpoints.Given as goal

abbrev pub invariant-loop-e : goal.invariant-loop-e
invariant-loop-e l =
    Wrote l.initial.out l.out l.at l.m (fields (of_endpoints l.w l.endpoints l.e)) × (l.m ≤ l.at + 143 * l.e) × (length l.out ≡ length l.initial.out)
