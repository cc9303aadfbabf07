-- `host::arrival_refusal` meets its contract. Assumes nothing.
use Rattle.std.proofs.lemmas.Result.{err_from_is_err_and}
use Rattle.host_rules.proofs.Host.{arrival_first, arrival_long, arrival_early, arrival_clear}
use borrow.Author.Rules.{rules}
use Rattle.host.proofs.arrival_refusal.Goals as goal

pub returns-then-s-bytes : goal.returns-then-s-bytes
returns-then-s-bytes c = search (arrival_long, rules)

pub returns-then-waits : goal.returns-then-waits
returns-then-waits c = search (arrival_early, rules)

pub returns-in_err-admit : goal.returns-in_err-admit
returns-in_err-admit c =
    let p = err_from_is_err_and c.from_residual.result c.from_residual.ensures.1 in
    rw (p.1, p.2) (search (arrival_first, rules))

pub returns : goal.returns
returns c = search (arrival_clear, rules)
