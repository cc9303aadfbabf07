-- The customer's demands hold: under each statement of specs/Demands.antt the theorems that make it up. Assumes nothing.
use Prim.Native.Nat.{◌-◌}
use mathlib.Core.Path.{ap}
use mathlib.Core.List.{List}
use lib.ListN.{length}
use Rattle.board.specs.declared.Board.{Board}
use Rattle.board.specs.declared.Row.{Row}
use Rattle.board.specs.Boards.{rows_display}
use Rattle.calls.proofs.Demand as calls
use Rattle.history.specs.Demands.{Demand1, Demand3, SuspendOnce, OneToFive}
use Rattle.history.proofs.Demand.{four_sentences, told_once, not_empty_lem, still_there_lem, still_as_long_lem}

pub demand_1 : Demand1
demand_1 = calls.demand_1

pub demand_3 : (b : Board) → Demand3 b
demand_3 b = record { sentences = four_sentences b; not_empty = not_empty_lem b; still_there = still_there_lem b; still_as_long = still_as_long_lem b }

pub suspend_once : (b : Board) → SuspendOnce b
suspend_once = told_once

pub one_to_five : OneToFive
one_to_five = ap (λ (t : List Row). length t - 1) rows_display
