-- A step that changes nothing of what the laws look at, and that every state of a history is good.
-- Assumes nothing.
use mathlib.Core.Path.{◌≡◌, ap}
use mathlib.Core.Bool.{Bool}
use mathlib.Core.List.{List, [], ◌∷◌}
use Prim.Native.Nat.{ℕ}
use native.Mathlib.Omega.{arith}
use Rattle.rounds.specs.Machine.{Machine, run, after}
use Rattle.rounds.specs.Laws.{Look, Quiet, Lawful}

-- a refused call, and any other step that leaves all of this alone
module _ {M : Machine} (L : Look M) (s t : M.State) where
  pub unchanged : L.flag t ≡ L.flag s → L.due t ≡ L.due s → L.sent t ≡ L.sent s → L.up t ≡ L.up s → Quiet L s t
  unchanged flag due sent up =
      record {
        receive = record { flag = λ j ep. ap (λ (w : ℕ → Bool). w j) flag; due = λ j ep. ap (λ (w : ℕ → Bool). w j) due };
        sent = λ j ep. ap (λ (w : ℕ → Bool). w j) sent;
        bus = omega arith;
      }

module _ {M : Machine} {Good : M.State → Type 0} {L : Look M} (W : Lawful M Good L) where
  pub good_run : (s : M.State) (k : List M.Op) → Good s → Good (run M s k)
  good_run s [] g = g
  good_run s (o ∷ k) g = good_run (M.step s o) k (W.good_step s o g)

  pub good_after : (h : List M.Op) → Good (after M h)
  good_after h = good_run M.fresh h W.good_fresh
