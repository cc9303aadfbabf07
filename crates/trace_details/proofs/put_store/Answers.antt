-- `trace_details::put_store` meets its contract.
-- Assumes nothing.
use native.Mathlib.Omega.{arith}
use Rattle.detail_rules.proofs.DetailWritten.{store_ends}
use Rattle.trace_details.proofs.put_store.Goals as goal

pub returns-clause-wrote : goal.returns-clause-wrote
returns-clause-wrote c = (store_ends _ _ _ (c.from.ensures, omega arith) (c.from-2.ensures, omega arith) (c.from-3.ensures, omega arith)
    c.put_field-a.ensures.wrote c.put_text-b.ensures c.put_decimal-c.ensures.wrote c.put_text-d.ensures c.put_decimal.ensures.wrote).0

pub returns-clause-upper_bound : goal.returns-clause-upper_bound
returns-clause-upper_bound c = (store_ends _ _ _ (c.from.ensures, omega arith) (c.from-2.ensures, omega arith) (c.from-3.ensures, omega arith)
    c.put_field-a.ensures.wrote c.put_text-b.ensures c.put_decimal-c.ensures.wrote c.put_text-d.ensures c.put_decimal.ensures.wrote).1
