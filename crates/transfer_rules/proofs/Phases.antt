-- A write at endpoint 0 leaves what specs/Phases.antt says. Assumes nothing.
use Prim.Native.Nat.{ℕ, ◌-◌, ◌≤◌, ◌<◌}
use mathlib.Core.Path.{◌≡◌, refl, ap, ◌∙◌}
use mathlib.Core.Bool.{Bool, ◌||◌}
use native.Mathlib.Omega.{arith}
use native.Mathlib.Decide.{ℕ_discrete}
use borrow.Author.Tests.{eq-eqb, ne_eqb, lt-ltb, le-ltb}
use lib.Dec.{lit<}
use Rattle.laws.specs.Words.{bit}
use Rattle.laws.proofs.Words.{bit_raised}
use Rattle.store_rules.specs.Stores.{Log}
use Rattle.control_state.specs.declared.ControlState.{ControlState}
use Rattle.control_state.specs.Control.{decreased}
use Rattle.record.specs.declared.Flags.{Flags}
use Rattle.transfer_rules.specs.Peek.{ended}
use Rattle.transfer_rules.specs.WriteZero.{nodata_phase, ends_by, data_in}
use Rattle.transfer_rules.specs.Phases.{Acknowledges, Ended, GoesOn, Sends}
use Rattle.transfer_rules.proofs.Setup.{data_end}

module _ (c : ControlState) (f : Flags) (g : Log) where
  pub acknowledges : Acknowledges f g (nodata_phase c f g)
  unfolding nodata_phase
  acknowledges = record {
    idle = refl;
    sent = bit_raised f.ep_tx 0 0 (lit< tt) (lit< tt);
    others = λ j h n. bit_raised f.ep_tx 0 j (lit< tt) h ∙ ap (λ (b : Bool). b || bit f.ep_tx j) (ne_eqb j 0 n);
    log = refl;
  }

  module _ (n t : ℕ) where
    all : c.tx_len ≤ n → Ended g (data_in n t c f g)
    unfolding data_in ended
    all h = let z : c.tx_len - n ≡ 0 = omega arith in rw (eq-eqb (c.tx_len - n) 0 z) (record { idle = refl; none = z; told = data_end g })

    short : n < t → Ended g (data_in n t c f g)
    unfolding data_in ended
    short h = go (ℕ_discrete (c.tx_len - n) 0)
      where
        go : Dec (c.tx_len - n ≡ 0) → Ended g (ends_by n t (decreased c n) f g)
        go (yes z) = rw (eq-eqb (c.tx_len - n) 0 z) (record { idle = refl; none = z; told = data_end g })
        go (no m) = rw (ne_eqb (c.tx_len - n) 0 m, lt-ltb n t h) (record { idle = refl; none = refl; told = data_end g })

    more : n < c.tx_len → t ≤ n → GoesOn n c g (data_in n t c f g)
    unfolding data_in ended
    more h l = rw (ne_eqb (c.tx_len - n) 0 (λ z. omega arith), le-ltb n t l) (record { still = refl; left = omega arith; untold = refl })

    pub sends : Sends n t c g (data_in n t c f g)
    sends = record { all = all; short = short; more = more }
