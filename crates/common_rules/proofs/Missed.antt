-- Where no endpoint of 1 to 5 has missed anything, the overrun check is its index stores. Assumes nothing.
use Prim.Native.Nat.{ℕ, zero, suc, ◌+◌, ◌-◌, ◌≤◌}
use mathlib.Core.Path.{◌≡◌, refl, sym, ap, ◌∙◌}
use mathlib.Core.Bool.{Bool, false, ◌||◌}
use mathlib.Core.List.{foldl}
use native.Mathlib.Omega.{arith}
use native.Mathlib.Decide.{ℕ_discrete}
use Rattle.laws.proofs.Tests.{neither}
use Rattle.laws.specs.Lists.{numbers}
use Rattle.board.specs.declared.Direction.{Direction}
use Rattle.board.specs.declared.Direction.TheVariants.{Out, In}
use Rattle.csr.specs.declared.Side.{Side}
use Rattle.register_file.specs.Registers.{File, side_at, chosen}
use Rattle.register_file.proofs.Readings.{tx_missed, rx_missed, chosen_selected}
use Rattle.store_rules.specs.Stores.{Log, write_index}
use Rattle.store_rules.proofs.Promises.{index_selects}
use Rattle.common_rules.specs.Overrun.{over_run_cleared, repaired, repaired_below, check_overrun, missed_at, missed_to, selected_only, selected_below}
use Rattle.common_rules.proofs.Overrun.{no_under_run, no_over_run}
use Rattle.common_rules.proofs.Stands.{at_start}

-- a turn of the loop that looks
pub missed_none : (w : File) → missed_to 0 w ≡ false
unfolding missed_to
missed_none w = refl

pub missed_next : (n : ℕ) (w : File) → missed_to (n + 1) w ≡ (missed_to n w || missed_at w (n + 1))
unfolding missed_to
missed_next n w = let e : n + 1 ≡ suc n = omega arith in rw e

-- nothing is missed at any endpoint of 1 to n
abbrev Nothing : ℕ → File → Type 0
Nothing n w = (e : ℕ) → 1 ≤ e → e ≤ n → missed_at w e ≡ false

nothing : (n : ℕ) (w : File) → missed_to n w ≡ false → Nothing n w
unfolding missed_to
nothing zero w p e h l = absurd (omega arith)
nothing (suc n) w p e h l = go (nothing n w (neither _ _ p).0 e h) (ℕ_discrete e (suc n))
  where
    go : (e ≤ n → missed_at w e ≡ false) → Dec (e ≡ suc n) → missed_at w e ≡ false
    go below (yes q) = rw q (neither (missed_to n w) _ p).1
    go below (no q) = below (omega arith)

-- an index store: the endpoint is selected, and every side is as it was
module _ (g : Log) (e : ℕ) where
  select_missed : (f : ℕ) → missed_at (write_index e g).regs f ≡ missed_at g.regs f
  unfolding missed_at
  select_missed f = λ i. (at_start g e f In i).missed || (at_start g e f Out i).missed

  chosen_side : (d : Direction) → chosen (write_index e g).regs d ≡ side_at g.regs e d
  chosen_side d = ap (λ (r : File). chosen r d) (index_selects e g) ∙ chosen_selected g.regs e d

  -- where the endpoint has missed nothing, its turn is the index store
  only : missed_at g.regs e ≡ false → selected_only g e ≡ repaired g e
  unfolding repaired missed_at selected_only
  only m =
      let both = neither (side_at g.regs e In).missed (side_at g.regs e Out).missed m in
      let a = write_index e g in
      let tx = no_under_run a refl (tx_missed a.regs ∙ ap (λ (s : Side). s.missed) (chosen_side In) ∙ both.0) in
      let rx = no_over_run a refl (rx_missed a.regs ∙ ap (λ (s : Side). s.missed) (chosen_side Out) ∙ both.1) in
      rx ∙ ap over_run_cleared tx

  -- and then nothing is missed still
  only_nothing : Nothing 5 g.regs → Nothing 5 (selected_only g e).regs
  unfolding selected_only
  only_nothing n f h l = select_missed f ∙ n f h l

-- so is the whole loop
each : (m i : ℕ) (g : Log) → 1 ≤ i → i + m ≤ 6 → Nothing 5 g.regs → foldl selected_only g (numbers i m) ≡ foldl repaired g (numbers i m)
unfolding numbers
each zero i g h l n = refl
each (suc m) i g h l n =
    each m (suc i) (selected_only g i) (omega arith) (omega arith) (only_nothing g i n)
    ∙ ap (λ (x : Log). foldl repaired x (numbers (suc i) m)) (only g i (n i h (omega arith)))

-- the two ways through the overrun check
module _ (count : ℕ) (g : Log) {b : Bool} {o : Log} (looked : b ≡ missed_to 5 g.regs) where
  pub none_missed : count ≤ 6 → b ≡ false → o ≡ selected_below count g → o ≡ check_overrun count g
  unfolding check_overrun repaired_below selected_below
  none_missed c p q = q ∙ each (count - 1) 1 g (omega arith) (omega arith) (nothing 5 g.regs (sym looked ∙ p))

  pub something_missed : o ≡ repaired_below count g → o ≡ check_overrun count g
  unfolding check_overrun
  something_missed q = q
