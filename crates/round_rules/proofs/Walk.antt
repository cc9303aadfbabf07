-- One endpoint of the walk, from what is promised of its steps. Assumes nothing.
use Prim.Native.Nat.{ℕ}
use mathlib.Core.Path.{◌≡◌, sym, ap, subst, ◌∙◌}
use mathlib.Core.Bool.{Bool, cond}
use borrow.Author.Tests.{eq-eqb, ne_eqb}
use native.Mathlib.Decide.{ℕ_discrete}
use lib.Dec.{eqb}
use Rattle.laws.proofs.Tests.{when_true, when_false}
use Rattle.board.specs.declared.Direction.TheVariants.{Out}
use Rattle.csr.specs.declared.Side.{Side}
use Rattle.register_file.specs.Registers.{File, with_index, side_at}
use Rattle.register_file.proofs.Readings.{zero_rx_ready, rx_ready, chosen_selected, reselected}
use Rattle.register_file.specs.Control.{csr0l_read, rxcsrl_read}
use Rattle.store_rules.specs.Stores.{Log, write_index}
use Rattle.store_rules.proofs.Promises.{index_selects}
use Rattle.laws.specs.Words.{clear}
use Rattle.round_rules.specs.Walk.{Walk, walk, ready_at, drained, visit}

-- after the index store the endpoint's own RxPktRdy is the one that is read
pub ready_selected : (w : File) (e : ℕ) → (side_at (with_index w e) e Out).ready ≡ ready_at e (with_index w e)
unfolding ready_at
ready_selected w e = go (ℕ_discrete e 0)
  where
    go : Dec (e ≡ 0) → (side_at (with_index w e) e Out).ready ≡ cond (eqb e 0) (csr0l_read (with_index w e)).rx_pkt_rdy (rxcsrl_read (with_index w e)).rx_pkt_rdy
    go (yes z) = when_true _ _ (eq-eqb e 0 z) (ap (λ (f : ℕ). (side_at (with_index w e) f Out).ready) z ∙ sym (zero_rx_ready (with_index w e)))
    go (no n) = when_false _ _ (ne_eqb e 0 n) (ap (λ (s : Side). s.ready) (reselected w e e Out ∙ sym (chosen_selected w e Out)) ∙ sym (rx_ready (with_index w e)))

-- so the flags after an endpoint's turn, with the log g that its index store left
pub drained_selected : (flags out e : ℕ) (h : Log) {g : Log} {b : Bool} {w : ℕ} → g ≡ write_index e h → b ≡ (side_at g.regs e Out).ready → w ≡ cond b out (clear flags e)
    → w ≡ drained flags out e g.regs
unfolding drained
drained_selected flags out e h {g} p t q =
    q ∙ ap (λ (b : Bool). cond b out (clear flags e)) (t ∙ subst (λ (r : File). (side_at r e Out).ready ≡ ready_at e r) (sym (ap (λ (x : Log). x.regs) p ∙ index_selects e h)) (ready_selected h.regs e))

-- one endpoint of the walk
pub visited : (flags e : ℕ) (o : Walk) {g : Log} {w : ℕ} → g ≡ write_index e o.log → w ≡ drained flags o.out e g.regs → walk g w ≡ visit flags o e
unfolding visit
visited flags e o {g} {w} p q = ap (walk g) q ∙ ap (λ (x : Log). walk x (drained flags o.out e x.regs)) p
