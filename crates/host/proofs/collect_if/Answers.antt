-- `host::collect_if` meets its contract. Assumes nothing.
use Rattle.std.proofs.lemmas.Result.{err_from_is_err_and}
use Rattle.host_rules.proofs.Host.{collecting_below, not_taking, taking, leaving, changing}
use borrow.Author.Rules.{rules}
use Rattle.host.proofs.collect_if.Goals as goal

pub returns-in_err-collection_refusal : goal.returns-in_err-collection_refusal
returns-in_err-collection_refusal c =
    let p = err_from_is_err_and c.from_residual.result c.from_residual.ensures.1 in
    rw (p.1, p.2) (search (not_taking, rules), search (leaving, rules))

pub returns : goal.returns
returns c = (search (taking, rules), search (changing, rules))

pub collect-requires : goal.collect-requires
collect-requires c = search (collecting_below, rules)
