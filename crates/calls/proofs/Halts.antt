-- Only stalling and the reset call change SendStall of endpoints 1 to 5. Assumes nothing.
use Prim.Native.Nat.{ℕ}
use mathlib.Core.Path.{◌≡◌, refl, ap, ◌∙◌}
use mathlib.Core.Bool.{Bool}
use mathlib.Core.Logic.{◌⊎◌, inl, inr}
use mathlib.Core.List.{List}
use Rattle.csr.specs.declared.Side.{Side}
use Rattle.register_file.specs.Registers.{File, Whole, side_at}
use Rattle.store_rules.specs.Promise.{SameHalts}
use Rattle.event_rules.specs.Promise.{Event}
use Rattle.event_rules.proofs.Halts as events
use Rattle.record.specs.declared.Record.{Record}
use Rattle.record.proofs.Passing.{record_is_sound}
use Rattle.call_rules.specs.Interrupt.{interrupted}
use Rattle.calls.specs.Calls.{Op}
use Rattle.calls.specs.Kept.{SparesHalts}
use Rattle.calls.proofs.Steps.{Gentle, same_halts}
use Rattle.calls.proofs.Accounts.{Account, Passes}
use Rattle.calls.proofs.Happening.{Happens, refused, happened, cleared_side}
use Rattle.calls.proofs.Kept.{to_holds, Interrupts, refused as not_taken, taken, Accounted, gentle, stalling, event, interrupt, account}

module _ (k : Record) where
  -- the SendStall bits of registers that are given by an equation
  through : {q r : File} → q ≡ r → SameHalts k.regs.words r → SameHalts k.regs.words q
  through p h e d n = ap (λ (x : File). (side_at x e d).stall) p ∙ h e d n

  unchanged : {q : File} → q ≡ k.regs.words → SameHalts k.regs.words q
  unchanged p = through p (λ e d n. refl)

  call_halts : {x : Bool} {l m : List ℕ} {q : Record} {n : ℕ} → Whole k.regs.words → Account (Gentle k.regs.board) x k l q m n
      → SameHalts k.regs.words q.regs.words
  call_halts {l = l} {q = q} {n = n} six a = go a.served
    where
      go : ((q.regs.words ≡ k.regs.words) × (n ≡ 0)) ⊎ Passes k l → SameHalts k.regs.words q.regs.words
      go (inl p) = unchanged p.0
      go (inr s) = same_halts a.path (to_holds k (record_is_sound k s.0) six)

  event_halts : {o : Event} {q : Record} → Whole k.regs.words → Happens o k q → SameHalts k.regs.words q.regs.words
  event_halts six (refused p) = unchanged (ap (λ (x : Record). x.regs.words) p)
  event_halts {o} six (happened i f c p s) = through p (events.halts o k.regs.words six i)

  interrupt_halts : {q : Record} → Interrupts k q → SameHalts k.regs.words q.regs.words
  unfolding interrupted
  interrupt_halts (not_taken p) = unchanged (ap (λ (x : Record). x.regs.words) p)
  interrupt_halts (taken s p) =
      through (ap (λ (x : Record). x.regs.words) p) (λ e d n. ap (λ (x : Side). x.stall) (cleared_side k.regs.words e d))

  halts_of : {o : Op} → Whole k.regs.words → Accounted k o → SparesHalts k o
  halts_of six (gentle a) n = call_halts six a
  halts_of six (stalling w a) n = absurd (n w)
  halts_of six (event c h) n = event_halts six h
  halts_of six (interrupt c i) n = interrupt_halts i

-- of any record with a whole register file: one that does not pass reply 16 is left as it was
pub spares_halts : (k : Record) (o : Op) → Whole k.regs.words → SparesHalts k o
spares_halts k o six = halts_of k six (account k o six)
