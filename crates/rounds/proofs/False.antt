-- Sentence 2, by potential: a false naming of i uses up a flag above i, and only an arrival above i brings what can become one.
-- Assumes nothing.
use mathlib.Core.Path.{◌≡◌, ap, subst}
use mathlib.Core.Bool.{Bool, true, false, not, ◌&&◌}
use mathlib.Core.List.{List, [], ◌∷◌}
use Prim.Native.Nat.{ℕ, ◌+◌, ◌-◌, ◌≤◌, ◌<◌}
use native.Mathlib.Omega.{arith}
use lib.Dec.{T, eqb}
use Rattle.rounds.specs.Machine.{Event, arrival, interrupt, round, pause, quiet, Machine, names, arrives_above, count, run, false_namings, arrivals_above}
use Rattle.rounds.specs.Sentences.{Endpoint, FewFalse}
use Rattle.rounds.specs.Laws.{Look, SameReceive, PutDown, Does, Lawful}
use Rattle.rounds.proofs.Counts.{count_le, count_less, count_or, sum, sum_zero, sum_le, sum_less, sum_more}

module _ {M : Machine} {Good : M.State → Type 0} {L : Look M} (W : Lawful M Good L) where
  -- what endpoint j's flag and due interrupt can still pay for
  abbrev weight : M.State → ℕ → ℕ
  weight s j = count (L.flag s j) + count (L.due s j)

  module _ (i : ℕ) (high : i ≤ M.top) where
    abbrev potential : M.State → ℕ
    potential s = sum (weight s) i (M.top - i)

    -- one of the endpoints above i
    above : (j : ℕ) → i < j → j ≤ i + (M.top - i) → Endpoint M j
    above j a b = omega arith

    same : (s t : M.State) → SameReceive L s t → potential t ≤ potential s
    same s t d =
        sum_le (weight t) (weight s) i (M.top - i) (λ j a b. omega (arith, ap count (d.flag j (above j a b)), ap count (d.due j (above j a b))))

    spends : (s t : M.State) (v : Event) → Does L s v t
        → count (names i v && not (M.waiting s i)) + potential t ≤ count (arrives_above i v) + potential s
    spends s t (arrival e) d =
        omega (
          arith,
          sum_more (weight t) (weight s) i (M.top - i) e
              (λ j a b. omega (arith, ap count (d.flag j (above j a b)), ap count (d.due j (above j a b)), count_or (eqb j e) (L.due s j))),
        )
    spends s t (interrupt reads) d =
        omega (
          arith,
          sum_le (weight t) (weight s) i (M.top - i)
              (λ j a b. omega (arith, ap count (d.flag j (above j a b)), ap count (d.due j (above j a b)), count_or (L.flag s j) (L.due s j))),
        )
    spends s t (round out complete) d = go (out i) (not (M.waiting s i)) (λ x. d.mistaken i high (subst T (d.named i high) x))
      where
        less : (j : ℕ) → i < j → j ≤ i + (M.top - i) → weight t j ≤ weight s j
        less j a b = omega (arith, count_le (L.flag t j) (L.flag s j) (d.none_new j (above j a b)), ap count (d.due j (above j a b)))

        go : (x y : Bool) → (T x → T y → PutDown L i s t) → count (x && y) + potential t ≤ 0 + potential s
        go true true f =
            let p = f tt tt in
            let b : p.at ≤ i + (M.top - i) = omega (arith, p.high) in
            let c = count_less (L.flag t p.at) (L.flag s p.at) p.down p.was in
            omega (arith, sum_less (weight t) (weight s) i (M.top - i) p.at p.above b (omega (arith, c, ap count (d.due p.at (above p.at p.above b)))) less)
        go true false f = omega (arith, sum_le (weight t) (weight s) i (M.top - i) less)
        go false y f = omega (arith, sum_le (weight t) (weight s) i (M.top - i) less)
    spends s t pause d = omega (arith, same s t d.receive)
    spends s t quiet d = omega (arith, same s t d.receive)

    spent : (s : M.State) (k : List M.Op) → Good s → false_namings M i s k + potential (run M s k) ≤ arrivals_above M i s k + potential s
    spent s [] g = omega arith
    spent s (o ∷ k) g = omega (arith, spends s (M.step s o) (M.event s o) (W.does s o g), spent (M.step s o) k (W.good_step s o g))

    none_at_first : potential M.fresh ≡ 0
    none_at_first =
        sum_zero (weight M.fresh) i (M.top - i)
        (λ j a b. omega (arith, ap count (W.flag_fresh j (above j a b)), ap count (W.due_fresh j (above j a b))))

  pub few_false_lem : FewFalse M
  few_false_lem i high h = omega (arith, spent i high M.fresh h W.good_fresh, none_at_first i high)
