-- A poll by what its tests say, and what the tests that come first say of what is lent. Assumes nothing.
use Rattle.std.specs.Prelude.{Ok}
use Prim.Native.Nat.{ℕ, ◌≤◌, ◌<◌}
use native.Mathlib.Nat.{lt_of_lt_of_le}
use mathlib.Core.Path.{◌≡◌, refl, sym, ap, ◌∙◌}
use mathlib.Core.Bool.{Bool, true, false}
use mathlib.Core.List.{List}
use borrow.Author.Tests.{ltb-true, ltb-false}
use lib.Dec.{ltb}
use lib.ListN.{length}
use lib.Pow.{pow_mono}
use Rattle.laws.proofs.Tests.{also_right}
use Rattle.board.specs.declared.Board.{Board}
use Rattle.board.specs.Boards.{at_most_six}
use Rattle.register_file.specs.Registers.{File}
use Rattle.store_rules.specs.Stores.{Log, log}
use Rattle.control_state.specs.declared.ControlState.{ControlState}
use Rattle.record.specs.declared.Flags.{Flags}
use Rattle.record.specs.Record.{flags_sound, passes, admission_by, with_reset, with_suspend, with_tx, with_rx, Reply}
use Rattle.record.proofs.Rows.{none_refused}
use Rattle.round_rules.specs.Zero.{Round, round, AfterAccept, accept_step}
use Rattle.round_rules.specs.Walk.{Walk, walked}
use Rattle.round_rules.specs.Round.{told}
use Rattle.round_rules.specs.Poll.{After, answered, ended, walked_on, accepted_on, poll_by, poll_logged, poll_served, poll_admitted}
use Rattle.round_rules.specs.declared.PollResult.{PollResult}
use Rattle.round_rules.specs.declared.PollResult.TheVariants.{Reset, Suspend}

-- the end of a round, and the Accepted step before the walk
module _ (o : Round) where
  pub walked_on_lem : {w : Walk} {a : PollResult} → w ≡ walked o.irq.ep_rx o.log → a ≡ told w.out o.irq.ep_tx o.setup
      → answered a w.log o.control (with_rx (with_tx o.irq 0) w.out) ≡ walked_on o
  unfolding walked_on ended
  walked_on_lem p q = rw (q, p)

  pub accepted_on_lem : {s : AfterAccept} {q : After} → s ≡ accept_step o.control o.irq → q ≡ walked_on (round o.log s.control_state s.irq o.setup)
      → q ≡ accepted_on o
  unfolding accepted_on
  accepted_on_lem p q = q ∙ ap (λ (s : AfterAccept). walked_on (round o.log s.control_state s.irq o.setup)) p

-- Reset, Resume, Suspend, or a round
module _ (g : Log) (c : ControlState) (f : Flags) where
  by_flags : {a b d : Bool} {q : After} → f.reset ≡ a → f.resume ≡ b → f.suspend ≡ d → q ≡ poll_by a b d g c f → q ≡ poll_logged g c f
  unfolding poll_logged
  by_flags p q s e = e ∙ (λ i. poll_by (sym p i) (sym q i) (sym s i) g c f)

  pub resets : f.reset ≡ true → answered Reset g c (with_reset f false) ≡ poll_logged g c f
  resets e = by_flags e refl refl refl

  pub suspends : f.reset ≡ false → f.resume ≡ false → f.suspend ≡ true → answered Suspend g c (with_suspend f false) ≡ poll_logged g c f
  suspends e r s = by_flags e r s refl

-- what the tests that come first say: the receive flags of a record that passes are below 64, and the list is long enough
pub flags_low : (b : Board) (w : File) (f : Flags) → passes b w f ≡ true → f.ep_rx < 64
unfolding passes flags_sound
flags_low b w f p = lt_of_lt_of_le (ltb-true _ _ (also_right _ _ (also_right _ _ p))) (pow_mono (at_most_six b))

module _ (b : Board) (w : File) (l : List ℕ) (f : Flags) {e : Reply Unit} (asked : e ≡ admission_by (ltb (length l) 384) (passes b w f) false) where
  pub admitted : e ≡ (Ok tt) → (f.ep_rx < 64) × (384 ≤ length l)
  admitted p = let t = none_refused _ _ _ (sym asked ∙ p) in (flags_low b w f t.1, ltb-false (length l) 384 t.0)

  pub poll_served_lem : (c : ControlState) {q : After} → e ≡ (Ok tt) → q ≡ poll_served b (log w l 0) c f → q ≡ poll_admitted b w l c f
  unfolding poll_admitted
  poll_served_lem c p q = rw (sym asked ∙ p) q
