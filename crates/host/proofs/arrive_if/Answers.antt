-- `host::arrive_if` meets its contract. Assumes nothing.
use Rattle.std.proofs.lemmas.Result.{err_from_is_err_and}
use Rattle.host_rules.proofs.Host.{arriving_fits, refusing, leaving, doing, changing, pasting}
use borrow.Author.Rules.{rules}
use Rattle.host.proofs.arrive_if.Goals as goal

pub arrive-requires : goal.arrive-requires
arrive-requires c = let a = c.area-s.ensures in arriving_fits _ _ _ _ _ _ c.arrival_refusal.ensures c.in_ok-arrival_refusal.was a.0 a.1 a.2

pub returns-in_err-arrival_refusal : goal.returns-in_err-arrival_refusal
returns-in_err-arrival_refusal c =
    let p = err_from_is_err_and c.from_residual.result c.from_residual.ensures.1 in
    rw (p.1, p.2) (search (refusing, rules), search (leaving, rules), search (leaving, rules))

pub returns : goal.returns
returns c = (search (doing, rules), search (changing, rules), search (pasting, rules))
