-- From the promises of a function's steps to its definition, a law for each way through it.
-- Assumes nothing.
use Prim.Native.Nat.{ℕ}
use mathlib.Core.Path.{◌≡◌, ap, ◌∙◌}
use mathlib.Core.Bool.{Bool}
use borrow.Author.Tests.{eq-eqb, ne_eqb}
use Rattle.laws.proofs.Tests.{when_true, when_false}
use Rattle.board.specs.declared.Direction.{Direction}
use Rattle.board.specs.declared.Direction.TheVariants.{Out, In}
use Rattle.register_file.specs.Control.{csr0l_read}
use Rattle.csr.specs.declared.Csr0l.{Csr0l}
use Rattle.store_rules.specs.Stores.{Log, write_index, write_intrusbe, write_intre}
use Rattle.common_rules.specs.Common.{bus_init, selected, has_send_stall, is_stalled}

-- one step after another
pub initialised : (g : Log) {a b o : Log} → a ≡ write_intrusbe g → b ≡ write_intre Out 254 a → o ≡ write_intre In 255 b → o ≡ bus_init g
unfolding bus_init
initialised g p q s = s ∙ ap (write_intre In 255) (q ∙ ap (write_intre Out 254) p)

-- endpoint 0, and the others
module _ (g : Log) (e : ℕ) where
  pub selected_zero : (atZero atOther : Log → Log) {a o : Log} → e ≡ 0 → a ≡ write_index e g → o ≡ atZero a → o ≡ selected e atZero atOther g
  unfolding selected
  selected_zero atZero atOther z p q = when_true _ _ (eq-eqb e 0 z) (q ∙ ap atZero p)

  pub selected_other : (atZero atOther : Log → Log) {a o : Log} → (e ≡ 0 → ⊥) → a ≡ write_index e g → o ≡ atOther a → o ≡ selected e atZero atOther g
  unfolding selected
  selected_other atZero atOther z p q = when_false _ _ (ne_eqb e 0 z) (q ∙ ap atOther p)

  pub stalled_zero : (d : Direction) {a : Log} {w : Csr0l} → e ≡ 0 → a ≡ write_index e g → w ≡ csr0l_read a.regs → w.send_stall ≡ is_stalled d e g
  unfolding is_stalled
  stalled_zero d z p q = when_true _ _ (eq-eqb e 0 z) (ap (λ (w : Csr0l). w.send_stall) (q ∙ ap (λ (a : Log). csr0l_read a.regs) p))

  pub stalled_other : (d : Direction) {a : Log} {b : Bool} → (e ≡ 0 → ⊥) → a ≡ write_index e g → b ≡ has_send_stall d a.regs → b ≡ is_stalled d e g
  unfolding is_stalled
  stalled_other d z p q = when_false _ _ (ne_eqb e 0 z) (q ∙ ap (λ (a : Log). has_send_stall d a.regs) p)
