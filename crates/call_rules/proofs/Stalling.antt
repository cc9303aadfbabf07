-- `set_stalled`, where it is answered, leaves what specs/Stalling.antt says. Assumes nothing.
use Rattle.std.specs.Prelude.{Err, Ok}
use Prim.Native.Nat.{ℕ, ◌<◌}
use mathlib.Core.Path.{◌≡◌, refl, subst, sym}
use mathlib.Core.Bool.{Bool, true, false, ◌&&◌, cond}
use mathlib.Core.List.{List}
use borrow.Author.Tests.{eq-eqb, eqb-true}
use lib.Dec.{eqb}
use Rattle.board.specs.declared.Direction.{Direction}
use Rattle.board.specs.declared.Direction.TheVariants.{Out, In}
use Rattle.register_file.specs.Registers.{Whole}
use Rattle.control_state.specs.declared.ControlState.{ControlState}
use Rattle.control_state.specs.declared.ControlStateEnum.TheVariants.{Idle}
use Rattle.store_rules.specs.Stores.{Log}
use Rattle.common_rules.specs.Stalling.{Stalls, StallsZero}
use Rattle.common_rules.proofs.Stalling.{tx_stalls, rx_stalls, tx_stalls_zero, rx_stalls_zero}
use Rattle.record.specs.declared.Record.{Record}
use Rattle.record.specs.Record.{record_sound, admission_by, endpoints_of, Reply}
use Rattle.record.proofs.Rows.{none_refused}
use Rattle.call_rules.specs.Calls.{stored, unless, short, begun, idled, beyond}
use Rattle.call_rules.specs.Stall.{ep_stall, after_stall, set_stalled_call}
use Rattle.call_rules.specs.Stalling.{SetStalled}
use Rattle.call_rules.proofs.Replies.{not_refused}
use Rattle.record.proofs.Areas.{below_six}

-- by direction
module _ (e : ℕ) (b : Bool) (g : Log) (six : Whole g.regs) where
  other : (d : Direction) → e < 6 → (e ≡ 0 → ⊥) → Stalls d e b g (ep_stall d e b g)
  unfolding ep_stall
  other Out low n = rx_stalls e b g six low n
  other In low n = tx_stalls e b g six low n

  zero_at : (d : Direction) → StallsZero d b g (ep_stall d 0 b g)
  unfolding ep_stall
  zero_at Out = rx_stalls_zero b g six
  zero_at In = tx_stalls_zero b g six

  zero : (d : Direction) → e ≡ 0 → StallsZero d b g (ep_stall d e b g)
  zero d p = subst (λ (f : ℕ). StallsZero d b g (ep_stall d f b g)) (sym p) (zero_at d)

-- the control state
module _ (e : ℕ) (c : ControlState) where
  idle : (b : Bool) → e ≡ 0 → b ≡ true → ((after_stall e b c).state ≡ Idle) × ((after_stall e b c).tx_len ≡ 0)
  unfolding after_stall idled
  idle b p q = (rw (eq-eqb e 0 p, q), rw (eq-eqb e 0 p, q))

  control : (b : Bool) → (e ≡ 0 → b ≡ true → ⊥) → after_stall e b c ≡ c
  unfolding after_stall
  control b n = go (eqb e 0) b refl refl
    where
      go : (x y : Bool) → eqb e 0 ≡ x → b ≡ y → cond (x && y) (idled c) c ≡ c
      go true true p q = absurd (n (eqb-true e 0 p) q)
      go true false p q = refl
      go false y p q = refl

pub set_stalled_lem : (k : Record) (e : ℕ) (d : Direction) (b : Bool) (l : List ℕ) → Whole k.regs.words
    → (set_stalled_call k e d b l).call.answer ≡ (Ok tt) → SetStalled k e d b l (set_stalled_call k e d b l)
unfolding set_stalled_call endpoints_of
set_stalled_lem k e d b l six a = go (admission_by (short l) (record_sound k) (beyond k e)) refl a
  where
    go : (t : Reply Unit) → admission_by (short l) (record_sound k) (beyond k e) ≡ t
        → (unless t k l (stored k (after_stall e b k.control_state) (ep_stall d e b (begun k l)))).call.answer ≡ (Ok tt)
        → SetStalled k e d b l (unless t k l (stored k (after_stall e b k.control_state) (ep_stall d e b (begun k l))))
    go (Err x) p q = not_refused q
    go (Ok tt) p q = record {
      other = other e b (begun k l) six d (below_six k.regs.board e (none_refused (short l) (record_sound k) _ p).2);
      zero = zero e b (begun k l) six d;
      idle = idle e k.control_state b;
      control = control e k.control_state b;
      board = refl;
      endpoints = refl;
      flags = refl;
    }
