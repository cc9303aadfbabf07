-- The walk over the registers: of the flags that are drained as the registers stand before it, the highest goes, and no other.
-- Assumes nothing.
use Prim.Native.Nat.{ℕ, ◌<◌}
use mathlib.Core.Path.{◌≡◌, refl, sym, ap, subst, ◌∙◌}
use Rattle.board.specs.declared.Direction.TheVariants.{Out}
use Rattle.csr.specs.declared.Side.{Side}
use Rattle.register_file.specs.Registers.{File}
use Rattle.register_file.proofs.Readings.{reselected}
use Rattle.store_rules.specs.Stores.{Log, write_index}
use Rattle.store_rules.proofs.Promises.{index_selects}
use Rattle.round_rules.specs.Walk.{ready_at, walked}
use Rattle.round_rules.specs.Cleared.{ready_in, ClearsHighest}
use Rattle.round_rules.proofs.Walk.{ready_selected}
use Rattle.round_rules.proofs.Drained.{left_by, walked_left, clears_highest}

module _ (g : Log) where
  abbrev Known : Log → Type 0
  Known h = (e : ℕ) → ready_in h.regs e ≡ ready_in g.regs e

  keeps : (e : ℕ) (h : Log) → Known h → Known (write_index e h)
  keeps e h k f = ap (λ (r : File). ready_in r f) (index_selects e h) ∙ ap (λ (s : Side). s.ready) (reselected h.regs e f Out) ∙ k f

  reads : (e : ℕ) (h : Log) → Known h → ready_at e (write_index e h).regs ≡ ready_in g.regs e
  reads e h k =
      ap (ready_at e) (index_selects e h) ∙ sym (ready_selected h.regs e) ∙ ap (λ (s : Side). s.ready) (reselected h.regs e e Out) ∙ k e

  module _ (flags : ℕ) (small : flags < 64) where
    left : (walked flags g).out ≡ left_by flags (ready_in g.regs)
    left = walked_left flags (ready_in g.regs) Known keeps reads g (λ e. refl)

    pub walk_clears : ClearsHighest flags (ready_in g.regs) (walked flags g).out
    walk_clears = subst (ClearsHighest flags (ready_in g.regs)) (sym left) (clears_highest flags (ready_in g.regs) small)
