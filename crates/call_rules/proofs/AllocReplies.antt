-- Which reply `alloc_ep` gives: the number of the first of its rows that holds; and that a refused one changes nothing.
-- Assumes nothing.
use Rattle.std.specs.Prelude.{ℕ, Err, Ok, Option, Result}
use mathlib.Core.Path.{◌≡◌, refl, sym, ap, ◌∙◌}
use mathlib.Core.Logic.{inl, inr}
use mathlib.Core.Bool.{Bool, true, false}
use native.Mathlib.Omega.{arith}
use Rattle.laws.proofs.Tests.{clash}
use Rattle.board.specs.Boards.{rows}
use Rattle.endpoints.specs.declared.Ask.{Ask}
use Rattle.endpoints.specs.Numbers.{error_number, answer_number}
use Rattle.endpoints.specs.declared.EndpointAllocError.{EndpointAllocError}
use Rattle.endpoints.specs.declared.EndpointAllocError.TheVariants.{EndpointOverflow, InvalidEndpoint, EpDirNotSupported, EpUsed, MaxPacketSizeBiggerThanEpFifoSize}
use Rattle.endpoints.specs.Allocate.{allocate}
use Rattle.endpoints.specs.Replies as allocation
use Rattle.endpoints.specs.Allocate.{Allocated}
use Rattle.endpoints.proofs.Answers as alloc
use Rattle.endpoints.proofs.Changes.{refused_keeps}
use Rattle.record.specs.declared.Record.{Record}
use Rattle.record.specs.Record.{record_sound, SoundRecord, admission_by, with_endpoints}
use Rattle.record.specs.Rows.{Given}
use Rattle.record.proofs.Passing.{record_is_sound, sound_record_passes}
use Rattle.record.proofs.Rows.{exactly}
use Rattle.call_rules.specs.Alloc.{allocated, handed, unless_allocated, alloc_ep, alloc_ep_call, alloc_number}
use Rattle.call_rules.specs.AllocReplies.{alloc_rows, Allocates}

fails : (b : Bool) → (b ≡ true → ⊥) → b ≡ false
fails true n = absurd (n refl)
fails false n = refl

module _ (k : Record) (q : Ask) (w : Option ℕ) where
  abbrev given : Allocated
  given = allocate (rows k.regs.board) k.endpoints q w

  abbrev Row : EndpointAllocError → Type 0
  Row x = allocation.Given (rows k.regs.board) k.endpoints q x w

  -- alloc_endpoint's own laws
  says : (x : EndpointAllocError) → given.answer ≡ Err x → Row x
  says x e = (alloc.exactly (rows k.regs.board) k.endpoints q w x).0 (ap answer_number e)

  unsaid : (x : EndpointAllocError) {a : Result ℕ EndpointAllocError} → given.answer ≡ a → (answer_number a ≡ error_number x → ⊥) → Row x → ⊥
  unsaid x e n g = n (ap answer_number (sym e) ∙ (alloc.exactly (rows k.regs.board) k.endpoints q w x).1 g)

  abbrev five : Bool
  five = allocation.row5 (rows k.regs.board) k.endpoints q w

  abbrev three : Bool
  three = allocation.row3 (rows k.regs.board) k.endpoints q w

  abbrev four : Bool
  four = allocation.row4 (rows k.regs.board) k.endpoints q w

  -- of a record that passes, the rows behind 16
  meets : SoundRecord k → (a : Result ℕ EndpointAllocError) → given.answer ≡ a → Given (answer_number a) (alloc_rows k q w)
  unfolding Given
  meets s (Ok n) e =
      let no2 = unsaid InvalidEndpoint e (λ z. omega arith) in
      let no5 : five ≡ true → ⊥ = λ p. unsaid MaxPacketSizeBiggerThanEpFifoSize e (λ z. omega arith) (fails _ no2, p) in
      let no3 : three ≡ true → ⊥ = λ p. unsaid EpDirNotSupported e (λ z. omega arith) (fails _ no2, fails _ no5, p) in
      let no4 : four ≡ true → ⊥ = λ p. unsaid EpUsed e (λ z. omega arith) (fails _ no2, fails _ no5, fails _ no3, p) in
      inr (λ b. b s, inr (unsaid EndpointOverflow e (λ z. omega arith), inr (no2, inr (no5, inr (no3, inr (no4, refl))))))
  meets s (Err EndpointOverflow) e = inr (λ b. b s, inl (says EndpointOverflow e, refl))
  meets s (Err InvalidEndpoint) e =
      inr (λ b. b s, inr (unsaid EndpointOverflow e (λ z. omega arith), inl (says InvalidEndpoint e, refl)))
  meets s (Err MaxPacketSizeBiggerThanEpFifoSize) e =
      let g = says MaxPacketSizeBiggerThanEpFifoSize e in
      inr (λ b. b s, inr (unsaid EndpointOverflow e (λ z. omega arith), inr (λ p. clash (sym p ∙ g.0), inl (g.1, refl))))
  meets s (Err EpDirNotSupported) e =
      let g = says EpDirNotSupported e in
      inr (λ b. b s, inr (unsaid EndpointOverflow e (λ z. omega arith), inr (λ p. clash (sym p ∙ g.0), inr (λ p. clash (sym p ∙ g.1), inl (g.2, refl)))))
  meets s (Err EpUsed) e =
      let g = says EpUsed e in
      inr (
        λ b. b s,
        inr (
          unsaid EndpointOverflow e (λ z. omega arith),
          inr (λ p. clash (sym p ∙ g.0), inr (λ p. clash (sym p ∙ g.1), inr (λ p. clash (sym p ∙ g.2), inl (g.3, refl)))),
        ),
      )

  same_number : (a : Result ℕ EndpointAllocError) → alloc_number (allocated a) ≡ answer_number a
  same_number (Ok n) = refl
  same_number (Err x) = refl

  kept : (a : Result ℕ EndpointAllocError) → given.answer ≡ a → (alloc_number (allocated a) ≡ 0 → ⊥) → with_endpoints k given.endpoints ≡ k
  kept (Ok n) e some = absurd (some refl)
  kept (Err x) e some = ap (with_endpoints k) (refused_keeps (rows k.regs.board) k.endpoints q w x e)

  allocates : (b : Bool) → record_sound k ≡ b → Allocates (unless_allocated (admission_by false b false) k (handed k given)) k given (alloc_rows k q w)
  unfolding Given
  allocates false e = record {
    replies = exactly (alloc_rows k q w) (inl (λ s. clash (sym (sound_record_passes k s) ∙ e), refl));
    asked = λ z. absurd (omega arith);
    unchanged = λ some. refl;
  }
  allocates true e = record {
    replies = exactly (alloc_rows k q w) (rw (same_number given.answer) (meets (record_is_sound k e) given.answer refl));
    asked = λ z. refl;
    unchanged = λ some. kept given.answer refl some;
  }

  pub alloc_ep_lem : Allocates (alloc_ep_call k q w) k (allocate (rows k.regs.board) k.endpoints q w) (alloc_rows k q w)
  unfolding alloc_ep_call alloc_ep
  alloc_ep_lem = allocates (record_sound k) refl
