-- From the promises of a function's steps to its definition, a law for each way through it.
-- Assumes nothing.
use mathlib.Core.Path.{◌≡◌, refl, sym, ap, ◌∙◌}
use mathlib.Core.Bool.{true, false}
use Rattle.laws.proofs.Tests.{when_true, when_false}
use Rattle.register_file.specs.Control.{txcsrl_read, rxcsrl_read}
use Rattle.csr.specs.declared.Txcsrl.{Txcsrl}
use Rattle.csr.specs.declared.Rxcsrl.{Rxcsrl}
use Rattle.csr.specs.declared.TxcsrlSet.TheVariants.{NoUnderRun}
use Rattle.csr.specs.declared.RxcsrlSet.TheVariants.{NoOverRun}
use Rattle.store_rules.specs.Stores.{Log, modify_txcsrl, modify_rxcsrl}
use Rattle.common_rules.specs.Overrun.{under_run_cleared, over_run_cleared}

-- a test of what was read, passed and failed
module _ (g : Log) where
  pub under_run_lem : {w : Txcsrl} {o : Log} → w ≡ txcsrl_read g.regs → w.under_run ≡ true → o ≡ modify_txcsrl NoUnderRun g → o ≡ under_run_cleared g
  unfolding under_run_cleared
  under_run_lem r t p = when_true _ _ (ap (λ (w : Txcsrl). w.under_run) (sym r) ∙ t) p

  pub no_under_run : {w : Txcsrl} → w ≡ txcsrl_read g.regs → w.under_run ≡ false → g ≡ under_run_cleared g
  unfolding under_run_cleared
  no_under_run r t = when_false _ _ (ap (λ (w : Txcsrl). w.under_run) (sym r) ∙ t) refl

  pub over_run_lem : {w : Rxcsrl} {o : Log} → w ≡ rxcsrl_read g.regs → w.over_run ≡ true → o ≡ modify_rxcsrl NoOverRun g → o ≡ over_run_cleared g
  unfolding over_run_cleared
  over_run_lem r t p = when_true _ _ (ap (λ (w : Rxcsrl). w.over_run) (sym r) ∙ t) p

  pub no_over_run : {w : Rxcsrl} → w ≡ rxcsrl_read g.regs → w.over_run ≡ false → g ≡ over_run_cleared g
  unfolding over_run_cleared
  no_over_run r t = when_false _ _ (ap (λ (w : Rxcsrl). w.over_run) (sym r) ∙ t) refl
