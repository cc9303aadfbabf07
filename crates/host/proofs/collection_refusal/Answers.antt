-- `host::collection_refusal` meets its contract. Assumes nothing.
use Rattle.std.proofs.lemmas.Result.{err_from_is_err_and}
use Rattle.host_rules.proofs.Host.{collection_first, collection_clear, collection_none}
use borrow.Author.Rules.{rules}
use Rattle.host.proofs.collection_refusal.Goals as goal

pub returns-then-waits : goal.returns-then-waits
returns-then-waits c = search (collection_clear, rules)

pub returns-in_err-admit : goal.returns-in_err-admit
returns-in_err-admit c =
    let p = err_from_is_err_and c.from_residual.result c.from_residual.ensures.1 in
    rw (p.1, p.2) (search (collection_first, rules))

pub returns : goal.returns
returns c = search (collection_none, rules)
