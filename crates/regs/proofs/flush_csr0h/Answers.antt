use Rattle.register_file.proofs.Done.{flush_done}
use borrow.Author.Rules.{rules}
use Rattle.regs.proofs.flush_csr0h.Goals as goal

pub returns : goal.returns
returns c = search (flush_done, rules)
