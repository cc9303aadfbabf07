-- `trace_given::put_chip` meets its contract.
-- Assumes nothing.
use Rattle.detail_rules.specs.Given.{with_chip}
use lib.ListN.{set}
use Rattle.register_file.specs.Registers.{with_faddr, with_power, with_index, with_enabled, with_intrusbe, with_intrusb, with_intr}
use Rattle.trace_given.proofs.put_chip.Goals as goal

pub returns : goal.returns
unfolding with_chip with_faddr with_power with_index with_enabled with_intrusbe with_intrusb with_intr
returns c = cc
