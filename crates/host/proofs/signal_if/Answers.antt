-- `host::signal_if` meets its contract. Assumes nothing.
use Rattle.std.proofs.lemmas.Result.{err_from_is_err_and}
use Rattle.host_rules.proofs.Host.{refusing, leaving, doing, changing}
use borrow.Author.Rules.{rules}
use Rattle.host.proofs.signal_if.Goals as goal

pub returns-in_err-admit : goal.returns-in_err-admit
returns-in_err-admit c =
    let p = err_from_is_err_and c.from_residual.result c.from_residual.ensures.1 in
    rw (p.1, p.2) (search (refusing, rules), search (leaving, rules))

pub returns : goal.returns
returns c = (search (doing, rules), search (changing, rules))
