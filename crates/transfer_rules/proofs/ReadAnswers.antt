-- What a read answers and leaves: each reply is given exactly when its row of document 01's table says so, and a refused read leaves all as
-- it was, but for reply 6.
-- Assumes nothing.
use Rattle.std.specs.Prelude.{Err, Ok}
use Prim.Native.Nat.{ℕ}
use mathlib.Core.Path.{◌≡◌, refl, sym, subst, ap, ◌∙◌}
use mathlib.Core.Logic.{◌↔◌}
use mathlib.Core.List.{List}
use native.Mathlib.Omega.{arith}
use lib.ListN.{length}
use Rattle.store_rules.specs.Stores.{log}
use Rattle.record.specs.declared.Record.{Record}
use Rattle.record.specs.declared.Refusal.{Refusal}
use Rattle.record.specs.declared.Refusal.TheVariants.{WouldBlock}
use Rattle.transfer_rules.specs.declared.Verdict.{Verdict}
use Rattle.transfer_rules.specs.declared.Verdict.TheVariants as verdict
use Rattle.transfer_rules.specs.Peek.{blocked, verdict_number}
use Rattle.transfer_rules.specs.ReadZero.{read_number, rx_size}
use Rattle.transfer_rules.specs.ReadTests.{waiting, tests}
use Rattle.transfer_rules.specs.Read.{ReadOutcome, outcome, read_done, refused, read_by, read_in, read_call}
use Rattle.transfer_rules.proofs.ReadCases.{ReadCase}
use Rattle.transfer_rules.proofs.ReadVerdicts.{meets, decides, is_blocked}

module _ (k : Record) (ep : ℕ) (b f l : List ℕ) where
  -- the call, if its tests came to v
  abbrev pub tested : Verdict → ReadOutcome
  tested v = outcome k (read_by v k.regs.board k.control_state k.irq (rx_size k) ep b f (log k.regs.words l 0))

  pub by_tests : read_call k ep b f l ≡ tested (tests k ep (length b) (length f) (length l))
  unfolding read_call read_in tests
  by_tests = refl

  answered : (v : Verdict) → read_number (tested v).result.answer ≡ verdict_number v
  unfolding read_done
  answered verdict.Clear = refl
  answered verdict.Blocked = refl
  answered (verdict.Refused x) = refl

  replied : read_number (read_call k ep b f l).result.answer ≡ verdict_number (tests k ep (length b) (length f) (length l))
  replied = ap (λ (o : ReadOutcome). read_number o.result.answer) by_tests ∙ answered (tests k ep (length b) (length f) (length l))

  -- document 01, 'Reply numbers': "Given exactly when"
  pub exactly : (m : ℕ) → read_number (read_call k ep b f l).result.answer ≡ m ↔ ReadCase k ep (length b) (length f) (length l) m
  exactly m = (
    λ e. subst (λ (x : ℕ). ReadCase k ep (length b) (length f) (length l) x) (sym replied ∙ e) (meets k ep (length b) (length f) (length l)),
    λ g. replied ∙ decides k ep (length b) (length f) (length l) g,
  )

  -- "0: done, with its value": the packet's length
  pub value : (n : ℕ) → (read_call k ep b f l).result.answer ≡ Ok n → n ≡ waiting k ep
  unfolding waiting read_done
  value n e = go (tests k ep (length b) (length f) (length l)) (sym (ap (λ (o : ReadOutcome). o.result.answer) by_tests) ∙ e)
    where
      go : (v : Verdict) → (tested v).result.answer ≡ Ok n → n ≡ waiting k ep
      go verdict.Clear e = cc
      go verdict.Blocked e = let z : ◌≡◌ {A = ℕ} 0 1 = cc in absurd (omega arith)
      go (verdict.Refused x) e = let z : ◌≡◌ {A = ℕ} 0 1 = cc in absurd (omega arith)

  -- "A refusal returns its number and changes nothing: record, FIFOs, list, caller's buffer."
  pub unchanged : (x : Refusal) → (read_call k ep b f l).result.answer ≡ Err x → (x ≡ WouldBlock → ⊥)
      → read_call k ep b f l ≡ record { result = record { answer = Err x; «record» = k; stores = 0 }; list = l; buf = b }
  unfolding read_done
  unchanged x e n = by_tests ∙ go (tests k ep (length b) (length f) (length l)) (sym (ap (λ (o : ReadOutcome). o.result.answer) by_tests) ∙ e)
    where
      left : Refusal → ReadOutcome
      left y = record { result = record { answer = Err y; «record» = k; stores = 0 }; list = l; buf = b }

      go : (v : Verdict) → (tested v).result.answer ≡ Err x → tested v ≡ left x
      go verdict.Clear e = let z : ◌≡◌ {A = ℕ} 0 1 = cc in absurd (omega arith)
      go verdict.Blocked e = absurd (n (cc))
      go (verdict.Refused y) e = let same : y ≡ x = cc in ap left same

  -- "The one exception is 6, which has selected the endpoint and listed that store."
  pub selects : read_number (read_call k ep b f l).result.answer ≡ 6
      → read_call k ep b f l ≡ outcome k (refused WouldBlock b (blocked ep k.control_state k.irq (log k.regs.words l 0)))
  selects e = by_tests ∙ ap tested (is_blocked k ep (length b) (length f) (length l) ((exactly 6).0 e) refl)
