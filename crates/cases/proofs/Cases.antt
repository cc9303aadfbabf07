-- The one statement of P1 to P16: what each case gives is what document 01 says. Assumes nothing.
use Prim.Native.Nat.{ℕ}
use mathlib.Core.Path.{ap₂, sym, ◌∙◌}
use mathlib.Core.List.{List, ◌++◌, map-append}
use Rattle.board.specs.declared.Board.TheVariants.{Display}
use Rattle.board.specs.Boards.{rows}
use Rattle.cases.specs.Allocations.{Case, Hold, allocations}
use Rattle.cases.specs.Writes.{writes}
use Rattle.cases.specs.Readings.{readings}
use Rattle.cases.specs.Rounds.{rounds}
use Rattle.cases.proofs.Allocations.{p1_to_p10}
use Rattle.cases.proofs.Writes.{p11_and_p12}
use Rattle.cases.proofs.Readings.{p13}
use Rattle.cases.proofs.Rounds.{p14_to_p16}
use Rattle.cases.specs.Table.{table}

-- two lists of cases that hold, one after the other
both : (xs ys : List Case) → Hold xs → Hold ys → Hold (xs ++ ys)
both xs ys p q = map-append (λ (c : Case). c.gives) xs ys ∙ ap₂ (λ (l m : List (List (List ℕ))). l ++ m) p q ∙ sym (map-append (λ (c : Case). c.says) xs ys)

pub p1_to_p16 : Hold table
p1_to_p16 =
    both (allocations (rows Display)) (writes Display ++ (readings Display ++ rounds)) p1_to_p10
    (both (writes Display) (readings Display ++ rounds) p11_and_p12 (both (readings Display) rounds p13 p14_to_p16))
