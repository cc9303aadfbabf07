-- `trace_details::of_chip` meets its contract.
-- Assumes nothing.
use Rattle.register_file.specs.Registers.{index, faddr, power, intrusbe, enabled_of, intrusb, intr_of}
use Rattle.detail_rules.specs.DetailNumbers.{of_chip, csr0l_at}
use Rattle.trace_details.proofs.of_chip.Goals as goal

pub returns : goal.returns
unfolding of_chip csr0l_at index faddr power intrusbe enabled_of intrusb intr_of
returns c = cc
