use Rattle.store_list.specs.Stores.{listed}
use mathlib.Core.Path.{refl}
use native.Mathlib.Omega.{arith}
use lib.ListN.{length-set}
use Rattle.store_list.proofs.put.Goals as goal

pub bounds-list-at-2 : goal.bounds-list-at-2
bounds-list-at-2 c = simp length-set (omega arith)

pub bounds-list-at-3 : goal.bounds-list-at-3
bounds-list-at-3 c = simp length-set (omega arith)

pub returns : goal.returns
unfolding listed
returns c = (refl, refl)
