-- The Accepted step leaves what specs/Accepted.antt says, and in any other state nothing happens. Assumes nothing.
use Prim.Native.Nat.{ℕ, ◌<◌}
use mathlib.Core.Path.{◌≡◌, refl, sym, ap, subst, ◌∙◌}
use mathlib.Core.Bool.{Bool, true, false, not, ◌&&◌, ◌||◌, cond, and-false, and-true, or-false, or-true}
use borrow.Author.Tests.{ne_eqb}
use lib.Dec.{lit<}
use Rattle.laws.specs.Words.{bit, raised, clear}
use Rattle.laws.proofs.Words.{bit_raised, bit_clear, raised_lt6, clear_lt}
use Rattle.control_state.specs.declared.ControlState.{ControlState}
use Rattle.control_state.specs.declared.ControlStateEnum.{ControlStateEnum}
use Rattle.control_state.specs.declared.ControlStateEnum.TheVariants.{Idle, Setup, DataIn, DataOut, Accepted, NodataPhase}
use Rattle.control_state.specs.Control.{with_state}
use Rattle.record.specs.declared.Flags.{Flags}
use Rattle.record.specs.Record.{with_ep0, with_tx, with_rx}
use Rattle.round_rules.specs.Zero.{put_back, accepted_by, accept_step}
use Rattle.round_rules.specs.Accepted.{Accepts}

module _ (c : ControlState) (f : Flags) where
  -- bit 0 is set, and no other changes
  set : bit (raised f.ep_tx 0) 0 ≡ true
  set = bit_raised f.ep_tx 0 0 (lit< tt) (lit< tt)

  others : (j : ℕ) → j < 6 → (j ≡ 0 → ⊥) → bit (raised f.ep_tx 0) j ≡ bit f.ep_tx j
  others j h n = bit_raised f.ep_tx 0 j (lit< tt) h ∙ ap (λ (b : Bool). b || bit f.ep_tx j) (ne_eqb j 0 n)

  module _ (tx : f.ep_tx < 64) (rx : f.ep_rx < 64) where
    gone : bit (clear f.ep_rx 0) 0 ≡ false
    gone = bit_clear f.ep_rx 0 0 rx (lit< tt) (lit< tt) ∙ and-false (bit f.ep_rx 0)

    stay : (j : ℕ) → j < 6 → (j ≡ 0 → ⊥) → bit (clear f.ep_rx 0) j ≡ bit f.ep_rx j
    stay j h n =
        bit_clear f.ep_rx 0 j rx (lit< tt) h ∙ ap (λ (b : Bool). bit f.ep_rx j && not b) (ne_eqb j 0 n) ∙ and-true (bit f.ep_rx j)

    by : (b : Bool) → bit f.ep_rx 0 ≡ b
        → Accepts c f (record { control_state = with_state c Idle; irq = with_tx (cond b (with_rx (with_ep0 f true) (clear f.ep_rx 0)) f) (raised (cond b (with_rx (with_ep0 f true) (clear f.ep_rx 0)) f).ep_tx 0) })
    by true p = record {
      idle = refl;
      remaining = refl;
      sent = set;
      other_sent = others;
      unread = gone;
      other_unread = stay;
      postponed = sym (ap (λ (b : Bool). f.ep0 || b) p ∙ or-true f.ep0);
      reset = refl;
      suspend = refl;
      resume = refl;
      low = (raised_lt6 f.ep_tx 0 tx (lit< tt), clear_lt f.ep_rx 0 rx (lit< tt));
    }
    by false p = record {
      idle = refl;
      remaining = refl;
      sent = set;
      other_sent = others;
      unread = p;
      other_unread = λ j h n. refl;
      postponed = sym (ap (λ (b : Bool). f.ep0 || b) p ∙ or-false f.ep0);
      reset = refl;
      suspend = refl;
      resume = refl;
      low = (raised_lt6 f.ep_tx 0 tx (lit< tt), rx);
    }

    pub accepts : c.state ≡ Accepted → Accepts c f (accept_step c f)
    unfolding accept_step accepted_by put_back
    accepts s = subst (λ (x : ControlStateEnum). Accepts c f (accepted_by x c f)) (sym s) (by (bit f.ep_rx 0) refl)

  pub other_states : (c.state ≡ Accepted → ⊥) → accept_step c f ≡ record { control_state = c; irq = f }
  unfolding accept_step accepted_by
  other_states n = go c.state refl
    where
      go : (s : ControlStateEnum) → c.state ≡ s → accepted_by s c f ≡ record { control_state = c; irq = f }
      go Idle p = refl
      go Setup p = refl
      go DataIn p = refl
      go DataOut p = refl
      go Accepted p = absurd (n p)
      go NodataPhase p = refl
