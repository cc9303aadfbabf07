-- `trace_details::record_line` meets its contract.
-- Assumes nothing.
use Rattle.detail_rules.proofs.DetailWritten.{on}
use Rattle.detail_rules.specs.DetailNumbers.{record_numbers}
use Rattle.detail_rules.specs.DetailLines.{record_line}
use mathlib.Core.Path.{ap}
use Rattle.trace_rules.specs.Text.{fields}
use Rattle.trace_rules.proofs.Appended.{said, then, as_they_are}
use Rattle.trace_details.proofs.record_line.Goals as goal

pub returns-clause-wrote : goal.returns-clause-wrote
unfolding record_line record_numbers
returns-clause-wrote c = let chip = said (ap fields c.of_chip-chip.ensures) (as_they_are _ c.put_fields-b.ensures.wrote) in
    let flags = said (ap fields c.of_flags-flags.ensures) (as_they_are _ c.put_fields-d.ensures.wrote) in
    let numbers = on _ _ (on _ _ chip c.put_endpoints-c.ensures.wrote) flags in then (then c.put_text-a.ensures numbers) c.put_text.ensures
