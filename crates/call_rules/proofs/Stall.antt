-- From the promises of a call's steps to its definition, a law for each way through it.
-- Assumes nothing.
use Rattle.std.specs.Prelude.{Err, Ok}
use Rattle.record.specs.declared.Called.{Called}
use Prim.Native.Nat.{ℕ}
use mathlib.Core.Path.{◌≡◌, sym, ap, ◌∙◌}
use mathlib.Core.Bool.{Bool}
use mathlib.Core.List.{List}
use Rattle.board.specs.declared.Direction.{Direction}
use Rattle.board.specs.declared.Direction.TheVariants.{Out, In}
use Rattle.register_file.specs.Registers.{File}
use Rattle.store_rules.specs.Stores.{Log, log}
use Rattle.common_rules.specs.Common.{ep_tx_stall, ep_rx_stall, is_stalled}
use Rattle.record.specs.declared.Record.{Record}
use Rattle.record.specs.declared.Refusal.{Refusal}
use Rattle.record.specs.Record.{Reply}
use Rattle.call_rules.specs.Stall.{StalledOutcome, stalled_done, stalled_refused, stalled_of, unless_stalled, ep_stall}

-- `is_stalled`, refused and let through
module _ (k : Record) (l : List ℕ) {t u : Reply Unit} (is : t ≡ u) where
  pub not_telling : {x : Refusal} {a : Called (Reply Bool)} (o : StalledOutcome) → t ≡ Err x → a ≡ stalled_refused k x
      → record { call = a; list = l } ≡ unless_stalled u k l o
  not_telling o e q = rw (sym is ∙ e) (ap (λ (c : Called (Reply Bool)). record { call = c; list = l }) q)

  pub telling : {a : Called (Reply Bool)} {w : File} {m : List ℕ} {n : ℕ} {b : Bool} (g : Log) → t ≡ Ok tt → log w m n ≡ g → a ≡ stalled_done k b w n
      → record { call = a; list = m } ≡ unless_stalled u k l (stalled_of k b g)
  telling {m = m} {b = b} g e s q = rw (sym is ∙ e) (ap (λ (x : Called (Reply Bool)). record { call = x; list = m }) q ∙ ap (stalled_of k b) s)

-- stalling, by direction
module _ (e : ℕ) (g : Log) where
  pub stalled_in : {d : Direction} {o : Log} (s : Bool) → d ≡ In → o ≡ ep_tx_stall e s g → o ≡ ep_stall d e s g
  unfolding ep_stall
  stalled_in s q p = rw q p

  pub stalled_out : {d : Direction} {o : Log} (s : Bool) → d ≡ Out → o ≡ ep_rx_stall e s g → o ≡ ep_stall d e s g
  unfolding ep_stall
  stalled_out s q p = rw q p

  pub told_at : {d c : Direction} {b : Bool} → d ≡ c → b ≡ is_stalled c e g → b ≡ is_stalled d e g
  told_at q p = rw q p
