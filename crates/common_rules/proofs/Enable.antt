-- From the promises of a function's steps to its definition, a law for each way through it.
-- Assumes nothing.
use Prim.Native.Nat.{ℕ}
use mathlib.Core.Path.{◌≡◌, refl, sym, ap, ◌∙◌}
use mathlib.Core.Bool.{Bool, true, false}
use Rattle.laws.proofs.Tests.{when_true, when_false}
use Rattle.board.specs.declared.Direction.{Direction}
use Rattle.board.specs.declared.Direction.TheVariants.{In}
use Rattle.csr.specs.declared.Csr0lSet.TheVariants.{ServicedBoth}
use Rattle.store_rules.specs.Stores.{Log, modify_intre, modify_csr0l}
use Rattle.common_rules.specs.Common.{write_csrl}
use Rattle.common_rules.specs.Enable.{flushed_zero, enabled_zero, enabled_other, settled, sized, iso_written, waits, flush, flushed}

pub enabled_zero_lem : (g : Log) {a b o : Log} → a ≡ modify_intre In 0 g → b ≡ modify_csr0l ServicedBoth a → o ≡ flushed_zero b → o ≡ enabled_zero g
unfolding enabled_zero
enabled_zero_lem g p q s = s ∙ ap flushed_zero (q ∙ ap (modify_csr0l ServicedBoth) p)

module _ (d : Direction) (e : ℕ) (size : ℕ) (g : Log) where
  pub settled_one : {a b o : Log} → a ≡ modify_intre d e g → b ≡ sized d size a → o ≡ write_csrl d false true b → o ≡ settled d e size g
  unfolding settled
  settled_one p q s = s ∙ ap (write_csrl d false true) (q ∙ ap (sized d size) p)

  pub enabled_other_lem : (iso : Bool) {a b o : Log} → a ≡ settled d e size g → b ≡ iso_written d iso a → o ≡ flushed d b → o ≡ enabled_other d e iso size g
  unfolding enabled_other
  enabled_other_lem iso p q s = s ∙ ap (flushed d) (q ∙ ap (iso_written d iso) p)

-- a test of what was read, passed and failed
module _ (g : Log) where
  pub flushed_twice : (d : Direction) {w : Bool} {a o : Log} → w ≡ waits d g.regs → w ≡ true → a ≡ flush d g → o ≡ flush d a → o ≡ flushed d g
  unfolding flushed
  flushed_twice d r t p q = when_true _ _ (sym r ∙ t) (q ∙ ap (flush d) p)

  pub flushed_never : (d : Direction) {w : Bool} → w ≡ waits d g.regs → w ≡ false → g ≡ flushed d g
  unfolding flushed
  flushed_never d r t = when_false _ _ (sym r ∙ t) refl
