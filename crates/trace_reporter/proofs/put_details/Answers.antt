-- `trace_reporter::put_details` meets its contract.
-- Assumes nothing.
use Rattle.std.specs.Prelude.{min}
use Rattle.std.specs.Io.KnownBytes.{Appends}
use Rattle.std.proofs.KnownBytes.{Appends-trans}
use Rattle.std.proofs.lemmas.Result.{on_ok_weaker}
use native.Mathlib.Omega.{arith}
use mathlib.Core.Path.{◌≡◌, ap, subst, ◌∙◌}
use borrow.Author.Rules.{rules}
use lib.ListN.{take}
use Rattle.trace_rules.proofs.Appended.{front}
use Rattle.detail_rules.specs.DetailLines.{stores_line}
use Rattle.trace_reporter.specs.Under.{its_stores, its_record}
use Rattle.trace_reporter.proofs.put_details.Goals as goal

pub put_under-requires : goal.put_under-requires
put_under-requires g c = (search rules, its_stores (front c.stores_line-a.ensures.wrote (omega arith)))

pub put_under-requires-2 : goal.put_under-requires-2
put_under-requires-2 g c = (search rules, its_record (front c.record_line-b.ensures.wrote (omega arith)))

pub returns-clause-both : goal.returns-clause-both
returns-clause-both g c =
    let fits : c.min-n.result ≡ min c.args.stores 128 = c.min-n.ensures in
    let stores = front c.stores_line-a.ensures.wrote (omega arith) ∙ ap (stores_line c.args.list.now) fits in
    let one = subst (Appends _ _) stores c.in_ok-put_under.ensures in
    let record_is = front c.record_line-b.ensures.wrote (omega arith) in
    λ d. on_ok_weaker c.put_under-2.result
    (λ (h : Appends (g.W.Write.contents c.put_under.new.to) (g.W.Write.contents c.put_under-2.new.to) (take c.record_line-b.result c.record_line-b.new.out)). Appends-trans _ _ _ _ _ one (subst (Appends _ _) record_is h)) c.put_under-2.ensures
