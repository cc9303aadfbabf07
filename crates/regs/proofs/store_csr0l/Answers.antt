use Rattle.register_file.proofs.Done.{zero_done}
use borrow.Author.Rules.{rules}
use Rattle.regs.proofs.store_csr0l.Goals as goal

pub returns : goal.returns
returns c = search (zero_done, rules)
