-- The steps of `poll` leave what specs/Steps.antt says. Assumes nothing.
use Rattle.std.specs.Prelude.{Ok}
use Prim.Native.Nat.{ℕ, ◌<◌, ◌≤◌}
use mathlib.Core.Path.{◌≡◌, refl, sym, ap, subst, ◌∙◌}
use mathlib.Core.Bool.{Bool, true, false, cond}
use mathlib.Core.List.{List}
use native.Mathlib.Omega.{arith}
use borrow.Author.Tests.{ne_eqb}
use lib.ListN.{length}
use Rattle.laws.specs.Words.{bit}
use Rattle.laws.proofs.Words.{bit_zero}
use Rattle.laws.proofs.Tests.{clash}
use Rattle.register_file.specs.Control.{csr0l_read}
use Rattle.store_rules.specs.Stores.{Log, log, write_index}
use Rattle.common_rules.specs.Overrun.{check_overrun}
use Rattle.control_state.specs.declared.ControlState.{ControlState}
use Rattle.control_state.specs.declared.ControlStateEnum.{ControlStateEnum}
use Rattle.control_state.specs.declared.ControlStateEnum.TheVariants.{Accepted}
use Rattle.record.specs.declared.Flags.{Flags}
use Rattle.record.specs.declared.Record.{Record}
use Rattle.record.specs.Record.{record_sound, endpoints_in, with_reset, with_suspend, with_ep0}
use Rattle.round_rules.specs.Cleared.{ready_in, ClearsHighest}
use Rattle.round_rules.proofs.Cleared.{walk_clears}
use Rattle.round_rules.specs.Zero.{Round, round, sent_by, received_by, zero_by, zero_served, endpoint_zero, accept_step}
use Rattle.round_rules.specs.Accepted.{Accepts}
use Rattle.round_rules.proofs.Accepted.{accepts}
use Rattle.round_rules.specs.declared.PollResult.TheVariants.{Data, Reset, Resume, Suspend}
use Rattle.round_rules.specs.Round.{masks, told}
use Rattle.round_rules.specs.Poll.{After, ended, walked_on, accepted_on, round_out, poll_by, poll_logged, poll_served, poll_call}
use Rattle.round_rules.specs.Steps.{FlagStep, left_of, SameElse, AcceptedRound}
use Rattle.round_rules.proofs.PollReplies.{served}

-- `if IRQ_RESET.load(..) { IRQ_RESET.store(false, ..); return PollResult::Reset; }`, the same for Resume, and so mended for Suspend
module _ (g : Log) (c : ControlState) (f : Flags) where
  by_flags : {x y z : Bool} → f.reset ≡ x → f.resume ≡ y → f.suspend ≡ z → poll_by x y z g c f ≡ poll_logged g c f
  unfolding poll_logged
  by_flags p q s = λ i. poll_by (sym p i) (sym q i) (sym s i) g c f

  pub reset_step : f.reset ≡ true → FlagStep Reset g c f false f.suspend f.resume (poll_logged g c f)
  reset_step p =
      subst (FlagStep Reset g c f false f.suspend f.resume) (by_flags p refl refl)
      (record { answer = refl; log = refl; control = refl; reset = refl; suspend = refl; resume = refl; zero = refl; tx = refl; rx = refl })

  pub resume_step : f.reset ≡ false → f.resume ≡ true → FlagStep Resume g c f f.reset f.suspend false (poll_logged g c f)
  resume_step p q =
      subst (FlagStep Resume g c f f.reset f.suspend false) (by_flags p q refl)
      (record { answer = refl; log = refl; control = refl; reset = refl; suspend = refl; resume = refl; zero = refl; tx = refl; rx = refl })

  -- "reporting Suspend puts down the suspend flag and leaves the reset flag" (T-06)
  pub suspend_step : f.reset ≡ false → f.resume ≡ false → f.suspend ≡ true → FlagStep Suspend g c f f.reset false f.resume (poll_logged g c f)
  suspend_step p q s =
      subst (FlagStep Suspend g c f f.reset false f.resume) (by_flags p q s)
      (record { answer = refl; log = refl; control = refl; reset = refl; suspend = refl; resume = refl; zero = refl; tx = refl; rx = refl })

-- so Suspend is said once: the next poll goes on with a round, where no interrupt was taken between
pub then_round : (g h : Log) (c d : ControlState) (f : Flags) → f.reset ≡ false → f.resume ≡ false → f.suspend ≡ true
    → poll_logged h d (poll_logged g c f).irq ≡ round_out h d (with_suspend f false)
then_round g h c d f p q s =
    ap (λ (t : After). poll_logged h d t.irq) (sym (by_flags g c f p q s)) ∙ sym (by_flags h d (with_suspend f false) p q refl)

-- nothing could tell whether it puts down the reset flag too: it is down by then, or the same poll had said Reset
pub reset_unseen : (f : Flags) → f.reset ≡ false → with_reset (with_suspend f false) false ≡ with_suspend f false
reset_unseen f p = ap (with_reset (with_suspend f false)) (sym p)

-- a round in Accepted: whatever endpoint 0's registers read, its own step leaves the control state and the two words of flags
module _ (g : Log) (c : ControlState) (f : Flags) (s : c.state ≡ Accepted) where
  record Passed (o : Round) : Type 0 where
    control : o.control ≡ c
    tx : o.irq.ep_tx ≡ f.ep_tx
    rx : o.irq.ep_rx ≡ f.ep_rx

  passed_by : (x y : Bool) (h : Log) → Passed (zero_by x y h c (with_ep0 f false))
  unfolding received_by sent_by
  passed_by true y h = subst (λ (x : ControlStateEnum). Passed (received_by x h c (with_ep0 f false))) (sym s) (record { control = refl; tx = refl; rx = refl })
  passed_by false true h = record { control = refl; tx = refl; rx = refl }
  passed_by false false h = subst (λ (x : ControlStateEnum). Passed (round h c (sent_by x (with_ep0 f false)) false)) (sym s) (record { control = refl; tx = refl; rx = refl })

  passed : Passed (endpoint_zero g c f)
  unfolding endpoint_zero zero_served
  passed = go f.ep0
    where
      go : (b : Bool) → Passed (cond b (zero_by (csr0l_read (write_index 0 g).regs).rx_pkt_rdy (csr0l_read (write_index 0 g).regs).tx_pkt_rdy (write_index 0 g) c (with_ep0 f false)) (round g c f false))
      go true = passed_by (csr0l_read (write_index 0 g).regs).rx_pkt_rdy (csr0l_read (write_index 0 g).regs).tx_pkt_rdy (write_index 0 g)
      go false = record { control = refl; tx = refl; rx = refl }

  -- a mask with bit 0 set is not empty
  names : (out sent : ℕ) (setup : Bool) → bit sent 0 ≡ true → told out sent setup ≡ Data (masks out sent setup)
  unfolding told
  names out sent setup p = rw (ne_eqb sent 0 (λ z. clash (sym p ∙ ap (λ (w : ℕ). bit w 0) z ∙ bit_zero 0)))

  pub accepted_round : f.ep_tx < 64 → f.ep_rx < 64 → AcceptedRound c (round_out g c f)
  unfolding round_out accepted_on walked_on ended
  accepted_round tx rx =
      let o = endpoint_zero g c f in
      let a : Accepts o.control o.irq (accept_step o.control o.irq) =
      accepts o.control o.irq (omega (arith, passed.tx)) (omega (arith, passed.rx)) (ap (λ (x : ControlState). x.state) passed.control ∙ s) in
      record {
        named = (_, ap Ok (names _ _ _ a.sent), a.sent);
        idle = a.idle;
        remaining = a.remaining ∙ ap (λ (x : ControlState). x.tx_len) passed.control;
      }

-- "one round clears only the highest drained one": the flags as first read are those that endpoint 0 and the Accepted step leave
module _ (g : Log) (c : ControlState) (f : Flags) where
  abbrev zeroed : Round
  zeroed = endpoint_zero g c f

  abbrev first_read : ℕ
  first_read = (accept_step zeroed.control zeroed.irq).irq.ep_rx

  pub round_clears : first_read < 64 → ClearsHighest first_read (ready_in zeroed.log.regs) (round_out g c f).irq.ep_rx
  unfolding round_out accepted_on walked_on ended
  round_clears low = walk_clears zeroed.log first_read low

-- of the whole call, where it is answered: the overrun check comes first
module _ (k : Record) (l : List ℕ) (long : 384 ≤ length l) (sound : record_sound k ≡ true) where
  abbrev checked : Log
  checked = check_overrun (endpoints_in k.regs.board) (log k.regs.words l 0)

  is_served : left_of (poll_call k l) ≡ poll_logged checked k.control_state k.irq
  unfolding poll_served
  is_served = ap left_of (served k l long sound)

  pub poll_suspends : k.irq.reset ≡ false → k.irq.resume ≡ false → k.irq.suspend ≡ true
      → FlagStep Suspend checked k.control_state k.irq k.irq.reset false k.irq.resume (left_of (poll_call k l))
  poll_suspends p q s =
      subst (FlagStep Suspend checked k.control_state k.irq k.irq.reset false k.irq.resume) (sym is_served)
      (suspend_step checked k.control_state k.irq p q s)

-- of every poll, refused too
pub same_else : (k : Record) (l : List ℕ) → SameElse k (poll_call k l).result.«record»
unfolding poll_call
same_else k l = record { board = refl; endpoints = refl }
