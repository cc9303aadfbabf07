-- Flags that differ at endpoint 0 alone. Every call but on_interrupt and poll leaves such flags, and so do poll's steps before its walk.
-- Assumes nothing.
use mathlib.Core.Path.{◌≡◌, refl, ap, ◌∙◌}
use mathlib.Core.Bool.{Bool, true, false, not, cond, ◌||◌, ◌&&◌, and-true}
use Prim.Native.Nat.{ℕ, ◌≤◌, ◌<◌}
use native.Mathlib.Omega.{arith}
use lib.Dec.{eqb, lit<}
use borrow.Author.Tests.{ne_eqb}
use Rattle.laws.specs.Words.{bit, raised, clear}
use Rattle.laws.proofs.Words.{bit_raised, bit_clear, raised_lt6, clear_lt}
use Rattle.register_file.specs.Control.{csr0l_read, count0}
use Rattle.store_rules.specs.Stores.{Log, write_index}
use Rattle.control_state.specs.declared.ControlState.{ControlState}
use Rattle.control_state.specs.declared.ControlStateEnum.{ControlStateEnum}
use Rattle.control_state.specs.declared.ControlStateEnum.TheVariants.{Idle, Setup, DataIn, DataOut, Accepted, NodataPhase}
use Rattle.record.specs.declared.Flags.{Flags}
use Rattle.record.specs.Record.{with_ep0, with_tx, with_rx}
use Rattle.round_rules.specs.Zero.{Round, sent_by, setup_taken, restarted, cut_short, received_by, zero_by, zero_served, endpoint_zero, put_back, accepted_by, accept_step}

pub record Alike (f g : Flags) : Type 0 where
  pub rx : (j : ℕ) → 1 ≤ j → j < 6 → bit g.ep_rx j ≡ bit f.ep_rx j
  pub tx : (j : ℕ) → 1 ≤ j → j < 6 → bit g.ep_tx j ≡ bit f.ep_tx j
  pub small : g.ep_rx < 64
  pub reset : g.reset ≡ f.reset
  pub resume : g.resume ≡ f.resume
  pub suspend : g.suspend ≡ f.suspend

-- endpoint 0's bit of a word, raised or cleared, seen at another
not_zero : (j : ℕ) → 1 ≤ j → eqb j 0 ≡ false
not_zero j h = ne_eqb j 0 (λ e. omega arith)

pub raised_other : (w j : ℕ) → 1 ≤ j → j < 6 → bit (raised w 0) j ≡ bit w j
raised_other w j h low = bit_raised w 0 j (lit< tt) low ∙ ap (λ (b : Bool). b || bit w j) (not_zero j h)

cleared_other : (w j : ℕ) → w < 64 → 1 ≤ j → j < 6 → bit (clear w 0) j ≡ bit w j
cleared_other w j small h low =
    bit_clear w 0 j small (lit< tt) low ∙ ap (λ (b : Bool). bit w j && not b) (not_zero j h) ∙ and-true (bit w j)

module _ (f : Flags) (small : f.ep_rx < 64) where
  pub same : Alike f f
  same = record { rx = λ j h low. refl; tx = λ j h low. refl; small = small; reset = refl; resume = refl; suspend = refl }

  pub ep0_put : (b : Bool) → Alike f (with_ep0 f b)
  ep0_put b = record { rx = λ j h low. refl; tx = λ j h low. refl; small = small; reset = refl; resume = refl; suspend = refl }

  pub tx_raised : Alike f (with_tx f (raised f.ep_tx 0))
  tx_raised =
      record { rx = λ j h low. refl; tx = raised_other f.ep_tx; small = small; reset = refl; resume = refl; suspend = refl }

  pub rx_raised : Alike f (with_rx f (raised f.ep_rx 0))
  rx_raised =
      record {
        rx = raised_other f.ep_rx;
        tx = λ j h low. refl;
        small = raised_lt6 f.ep_rx 0 small (lit< tt);
        reset = refl;
        resume = refl;
        suspend = refl;
      }

  pub rx_cleared : Alike f (with_rx f (clear f.ep_rx 0))
  rx_cleared =
      record {
        rx = λ j. cleared_other f.ep_rx j small;
        tx = λ j h low. refl;
        small = clear_lt f.ep_rx 0 small (lit< tt);
        reset = refl;
        resume = refl;
        suspend = refl;
      }

pub then : {f g h : Flags} → Alike f g → Alike g h → Alike f h
then a b =
    record {
      rx = λ j h low. b.rx j h low ∙ a.rx j h low;
      tx = λ j h low. b.tx j h low ∙ a.tx j h low;
      small = b.small;
      reset = b.reset ∙ a.reset;
      resume = b.resume ∙ a.resume;
      suspend = b.suspend ∙ a.suspend;
    }

-- either of two
pub by_test : {f g h : Flags} (b : Bool) → Alike f g → Alike f h → Alike f (cond b g h)
by_test true x y = x
by_test false x y = y

either : {f : Flags} (b : Bool) (x y : Round) → Alike f x.irq → Alike f y.irq → Alike f (cond b x y).irq
either true x y p q = p
either false x y p q = q

-- endpoint 0's step
module _ (g : Log) (c : ControlState) where
  module _ (f : Flags) (small : f.ep_rx < 64) where
    sent : (s : ControlStateEnum) → Alike f (sent_by s f)
    unfolding sent_by
    sent DataIn = tx_raised f small
    sent Idle = same f small
    sent Setup = same f small
    sent DataOut = same f small
    sent Accepted = same f small
    sent NodataPhase = same f small

    received : (s : ControlStateEnum) → Alike f (received_by s g c f).irq
    unfolding received_by setup_taken cut_short restarted
    received Idle = either (eqb (count0 g.regs) 8) _ _ (same f small) (same f small)
    received DataOut = rx_raised f small
    received DataIn = either (csr0l_read g.regs).setup_end _ _ (either (eqb (count0 g.regs) 8) _ _ (same f small) (same f small)) (same f small)
    received Setup = same f small
    received Accepted = same f small
    received NodataPhase = same f small

    by_ready : (rx tx : Bool) → Alike f (zero_by rx tx g c f).irq
    by_ready true tx = received c.state
    by_ready false false = sent c.state
    by_ready false true = same f small

  served : (f : Flags) → f.ep_rx < 64 → Alike f (zero_served g c f).irq
  unfolding zero_served
  served f small =
      then (ep0_put f small false)
      (by_ready (with_ep0 f false) small (csr0l_read g.regs).rx_pkt_rdy (csr0l_read g.regs).tx_pkt_rdy)

pub zero_step : (g : Log) (c : ControlState) (f : Flags) → f.ep_rx < 64 → Alike f (endpoint_zero g c f).irq
unfolding endpoint_zero
zero_step g c f small = either f.ep0 _ _ (served (write_index 0 g) c f small) (same f small)

-- the Accepted step
put_back_lem : (f : Flags) → f.ep_rx < 64 → Alike f (put_back f)
unfolding put_back
put_back_lem f small = by_test (bit f.ep_rx 0) (then (ep0_put f small true) (rx_cleared (with_ep0 f true) small)) (same f small)

accepted : (s : ControlStateEnum) (c : ControlState) (f : Flags) → f.ep_rx < 64 → Alike f (accepted_by s c f).irq
unfolding accepted_by
accepted Accepted c f small = let p = put_back_lem f small in then p (tx_raised (put_back f) p.small)
accepted Idle c f small = same f small
accepted Setup c f small = same f small
accepted DataIn c f small = same f small
accepted DataOut c f small = same f small
accepted NodataPhase c f small = same f small

pub accept_step_lem : (c : ControlState) (f : Flags) → f.ep_rx < 64 → Alike f (accept_step c f).irq
unfolding accept_step
accept_step_lem c f small = accepted c.state c f small
