-- From the promises of a call's steps to its definition, a law for each way through it.
-- Assumes nothing.
use Rattle.std.specs.Prelude.{Err, Ok}
use Rattle.record.specs.declared.Called.{Called}
use Prim.Native.Nat.{ℕ, ◌≤◌, ◌<◌}
use mathlib.Core.Path.{◌≡◌, sym, ap, ◌∙◌}
use mathlib.Core.Bool.{Bool}
use mathlib.Core.List.{List}
use borrow.Author.Tests.{ltb-false, le-leb, lt-leb}
use lib.Dec.{ltb, leb}
use Rattle.register_file.specs.Registers.{File}
use Rattle.control_state.specs.declared.ControlState.{ControlState}
use Rattle.store_rules.specs.Stores.{Log, log}
use Rattle.record.specs.declared.Record.{Record}
use Rattle.record.specs.declared.Refusal.{Refusal}
use Rattle.record.specs.declared.Refusal.TheVariants.{BadAddress}
use Rattle.record.specs.Record.{admission_by, list_need, Reply}
use Rattle.record.proofs.Rows.{none_refused}
use Rattle.call_rules.specs.Calls.{CallOutcome, refused, done, stored, unless, address_entry}

-- where the first tests refuse nothing, the list is long enough
pub room : (n : ℕ) (p b : Bool) {t : Reply Unit} → t ≡ admission_by (ltb n list_need) p b → t ≡ (Ok tt) → list_need ≤ n
room n p b is e = ltb-false n list_need (none_refused (ltb n list_need) p b (sym is ∙ e)).0

-- a call that its tests refuse, and one that they let through: c is the control state that it leaves, h what its steps make of the list
module _ (k : Record) (l : List ℕ) {t u : Reply Unit} (is : t ≡ u) where
  pub refusing : {x : Refusal} {a : Called (Reply Unit)} (o : CallOutcome) → t ≡ Err x → a ≡ refused k x → record { call = a; list = l } ≡ unless u k l o
  refusing o e q = rw (sym is ∙ e) (ap (λ (c : Called (Reply Unit)). record { call = c; list = l }) q)

  pub doing : {a : Called (Reply Unit)} {w : File} {m : List ℕ} {n : ℕ} (c : ControlState) (h : Log) → t ≡ Ok tt → log w m n ≡ h → a ≡ done k c w n
      → record { call = a; list = m } ≡ unless u k l (stored k c h)
  doing {m = m} c h e s q = rw (sym is ∙ e) (ap (λ (x : Called (Reply Unit)). record { call = x; list = m }) q ∙ ap (stored k c) s)

  -- with another control state
  pub doing_after : {a : Called (Reply Unit)} {w : File} {m : List ℕ} {n : ℕ} {d : ControlState} (c : ControlState) (h : Log) → t ≡ Ok tt → log w m n ≡ h
      → d ≡ c → a ≡ done k d w n → record { call = a; list = m } ≡ unless u k l (stored k c h)
  doing_after {w = w} {n = n} c h e s p q = doing c h e s (q ∙ ap (λ (d : ControlState). done k d w n) p)

-- the tests of an address, after the first ones
pub address_refused : {t u : Reply Unit} {x : Refusal} (b : Bool) → t ≡ u → t ≡ Err x → Err x ≡ address_entry u b
address_refused b is e = rw (sym is ∙ e)

pub address_fits : {t u : Reply Unit} (a : ℕ) → t ≡ u → t ≡ (Ok tt) → a ≤ 127 → (Ok tt) ≡ address_entry u (leb a 127)
address_fits a is e h = rw (sym is ∙ e, le-leb a 127 h)

pub address_over : {t u : Reply Unit} (a : ℕ) → t ≡ u → t ≡ (Ok tt) → 127 < a → Err BadAddress ≡ address_entry u (leb a 127)
address_over a is e h = rw (sym is ∙ e, lt-leb a 127 h)
