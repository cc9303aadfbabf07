-- From the promises of a call's steps to its definition, a law for each way through it.
-- Assumes nothing.
use Prim.Native.Nat.{ℕ}
use mathlib.Core.Path.{◌≡◌, ap, ◌∙◌}
use mathlib.Core.Bool.{true, false}
use Rattle.endpoints.specs.declared.EndpointData.{EndpointData}
use Rattle.store_rules.specs.Stores.{Log, write_power}
use Rattle.common_rules.specs.Enable.{ep_tx_enable, ep_rx_enable}
use Rattle.record.specs.declared.Record.{Record}
use Rattle.record.specs.Record.{endpoints_in, endpoints_of}
use Rattle.call_rules.specs.Reset.{tx_enabled, rx_enabled, used_enabled, enabled_below, reset_stores}

module _ (e : ℕ) (g : Log) where
  -- enabling, where a direction is used and where it is not
  module _ (ep : EndpointData) where
    pub tx_used : {o : Log} → ep.used_tx ≡ true → o ≡ ep_tx_enable e ep.ep_conf g → o ≡ tx_enabled e ep g
    unfolding tx_enabled
    tx_used q p = rw q p

    pub tx_unused : ep.used_tx ≡ false → g ≡ tx_enabled e ep g
    unfolding tx_enabled
    tx_unused q = rw q

    pub rx_used : {o : Log} → ep.used_rx ≡ true → o ≡ ep_rx_enable e ep.ep_conf g → o ≡ rx_enabled e ep g
    unfolding rx_enabled
    rx_used q p = rw q p

    pub rx_unused : ep.used_rx ≡ false → g ≡ rx_enabled e ep g
    unfolding rx_enabled
    rx_unused q = rw q

    pub both : {a o : Log} → a ≡ tx_enabled e ep g → o ≡ rx_enabled e ep a → o ≡ used_enabled e ep g
    unfolding used_enabled
    both p q = q ∙ ap (rx_enabled e ep) p

-- the power store, and then every endpoint that the board has
pub resets : (k : Record) (g : Log) {a o : Log} {m : ℕ} → a ≡ write_power g → m ≡ endpoints_in k.regs.board → o ≡ enabled_below k.endpoints m a
    → o ≡ reset_stores k g
unfolding reset_stores endpoints_of
resets k g p q s = s ∙ ap (enabled_below k.endpoints _) p ∙ ap (λ (n : ℕ). enabled_below k.endpoints n (write_power g)) q
