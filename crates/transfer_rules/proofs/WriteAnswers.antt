-- What a write answers and leaves: each reply is given exactly when its row of document 01's table says so, and a refused write leaves all
-- as it was, but for reply 6.
-- Assumes nothing.
use Rattle.std.specs.Prelude.{Err, Ok}
use Prim.Native.Nat.{ℕ}
use mathlib.Core.Path.{◌≡◌, refl, sym, subst, ap, ◌∙◌}
use mathlib.Core.Logic.{◌↔◌}
use mathlib.Core.List.{List}
use native.Mathlib.Omega.{arith}
use lib.ListN.{length}
use Rattle.board.specs.declared.Board.{Board}
use Rattle.store_rules.specs.Stores.{Log, log}
use Rattle.control_state.specs.declared.ControlState.{ControlState}
use Rattle.record.specs.declared.Flags.{Flags}
use Rattle.record.specs.declared.Record.{Record}
use Rattle.record.specs.declared.Refusal.{Refusal}
use Rattle.record.specs.declared.Refusal.TheVariants.{WouldBlock}
use Rattle.transfer_rules.specs.declared.Verdict.{Verdict}
use Rattle.transfer_rules.specs.declared.Verdict.TheVariants as verdict
use Rattle.transfer_rules.specs.Peek.{verdict_number}
use Rattle.transfer_rules.specs.WriteTests.{tests}
use Rattle.transfer_rules.specs.WriteZero.{write_number, tx_size}
use Rattle.transfer_rules.specs.Write.{WriteLeft, WriteOutcome, outcome, refused, blocked_call, write_done, write_by, write_in, write_call}
use Rattle.transfer_rules.proofs.WriteCases.{WriteCase}
use Rattle.transfer_rules.proofs.WriteVerdicts.{meets, decides, is_blocked}

-- a write that is done answers its length, at whatever endpoint and in whatever state
pub write_done_lem : (b : Board) (c : ControlState) (f : Flags) (t ep : ℕ) (bytes x : List ℕ) (g : Log) → (write_done b c f t ep bytes x g).answer ≡ Ok (length bytes)
unfolding write_done
write_done_lem b c f t ep bytes x g = refl

module _ (k : Record) (ep : ℕ) (b f l : List ℕ) where
  abbrev verdict_of : Verdict
  verdict_of = tests k ep (length b) (length f) (length l)

  abbrev pub ran_by : Verdict → WriteLeft
  ran_by v = write_by v k.regs.board k.control_state k.irq (tx_size k) ep b f (log k.regs.words l 0)

  -- the call, by what the tests come to
  pub call_is : write_call k ep b f l ≡ outcome k (ran_by verdict_of)
  unfolding write_call write_in tests
  call_is = refl

  answered : (v : Verdict) → write_number (ran_by v).answer ≡ verdict_number v
  answered verdict.Clear = ap write_number (write_done_lem k.regs.board k.control_state k.irq (tx_size k) ep b f (log k.regs.words l 0))
  answered verdict.Blocked = refl
  answered (verdict.Refused x) = refl

  number : write_number (write_call k ep b f l).result.answer ≡ verdict_number verdict_of
  number = ap (λ (o : WriteOutcome). write_number o.result.answer) call_is ∙ answered verdict_of

  -- document 01, 'Reply numbers': "Given exactly when"
  pub exactly : (m : ℕ) → write_number (write_call k ep b f l).result.answer ≡ m ↔ WriteCase k ep (length b) (length f) (length l) m
  exactly m = (
    λ e. subst (λ (x : ℕ). WriteCase k ep (length b) (length f) (length l) x) (sym number ∙ e) (meets k ep (length b) (length f) (length l)),
    λ g. number ∙ decides k ep (length b) (length f) (length l) g,
  )

  -- "0: done, with its value": the written length
  pub value : (n : ℕ) → (write_call k ep b f l).result.answer ≡ Ok n → n ≡ length b
  value n e = go verdict_of (sym (ap (λ (o : WriteOutcome). o.result.answer) call_is) ∙ e)
    where
      go : (v : Verdict) → (ran_by v).answer ≡ Ok n → n ≡ length b
      go verdict.Clear e = let d = write_done_lem k.regs.board k.control_state k.irq (tx_size k) ep b f (log k.regs.words l 0) in cc
      go verdict.Blocked e = let z : ◌≡◌ {A = ℕ} 0 1 = cc in absurd (omega arith)
      go (verdict.Refused x) e = let z : ◌≡◌ {A = ℕ} 0 1 = cc in absurd (omega arith)

  -- "A refusal returns its number and changes nothing: record, FIFOs, list"
  pub unchanged : (x : Refusal) → (write_call k ep b f l).result.answer ≡ Err x → (x ≡ WouldBlock → ⊥) → write_call k ep b f l ≡ refused x k f l
  unchanged x e n = call_is ∙ go verdict_of (sym (ap (λ (o : WriteOutcome). o.result.answer) call_is) ∙ e)
    where
      go : (v : Verdict) → (ran_by v).answer ≡ Err x → outcome k (ran_by v) ≡ refused x k f l
      go verdict.Clear e =
          let d = write_done_lem k.regs.board k.control_state k.irq (tx_size k) ep b f (log k.regs.words l 0) in
          let z : ◌≡◌ {A = ℕ} 0 1 = cc in absurd (omega arith)
      go verdict.Blocked e = absurd (n (cc))
      go (verdict.Refused y) e = let same : y ≡ x = cc in ap (λ (z : Refusal). refused z k f l) same

  -- "The one exception is 6, which has selected the endpoint and listed that store."
  pub selects : write_number (write_call k ep b f l).result.answer ≡ 6 → write_call k ep b f l ≡ blocked_call k ep f l
  selects e =
      call_is ∙ ap (λ (v : Verdict). outcome k (ran_by v)) (is_blocked k ep (length b) (length f) (length l) ((exactly 6).0 e) refl)
