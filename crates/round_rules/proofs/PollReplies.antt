-- What `poll` answers: 15 exactly for a list that is too short, 16 exactly for a record that does not pass with a list long enough, both
-- with everything as it was; 0 else. Assumes nothing.
use mathlib.Core.Path.{◌≡◌, refl, sym, subst, ap, ◌∙◌}
use mathlib.Core.Bool.{Bool, true, false, not, cond}
use mathlib.Core.List.{List}
use Prim.Native.Nat.{ℕ, ◌≤◌}
use lib.Dec.{ltb}
use lib.ListN.{length}
use borrow.Author.Tests.{le-ltb}
use Rattle.store_rules.specs.Stores.{log}
use Rattle.common_rules.specs.Overrun.{check_overrun}
use Rattle.record.specs.declared.Record.{Record}
use Rattle.record.specs.Record.{record_sound, endpoints_in, admission_by}
use Rattle.record.proofs.Rows.{exactly, none_left, tested, tells_under, tells_bad}
use Rattle.round_rules.specs.PollReplies.{poll_rows, Answers}
use Rattle.round_rules.specs.Poll.{PollOutcome, outcome_of, ended, walked_on, accepted_on, round_out, poll_by, poll_logged, poll_served, poll_when, poll_admitted, poll_call, poll_number}

abbrev pub reply_to : Record → List ℕ → ℕ
reply_to k l = poll_number (poll_call k l).result.answer

-- the outcome by what its first tests say, and the outcome of a poll that is served
abbrev when_of : Bool → Bool → Record → List ℕ → PollOutcome
when_of short passes k l = outcome_of k (poll_when (admission_by short passes false) k.regs.board (log k.regs.words l 0) k.control_state k.irq)

abbrev pub served_of : Record → List ℕ → PollOutcome
served_of k l = outcome_of k (poll_served k.regs.board (log k.regs.words l 0) k.control_state k.irq)

module _ (k : Record) (l : List ℕ) where
  by_tests : {short passes : Bool} → ltb (length l) 384 ≡ short → record_sound k ≡ passes → poll_call k l ≡ when_of short passes k l
  unfolding poll_call poll_admitted record_sound
  by_tests p q = λ i. when_of (p i) (q i) k l

  pub served : 384 ≤ length l → record_sound k ≡ true → poll_call k l ≡ served_of k l
  served h p = by_tests (le-ltb _ _ h) p

  reply_by : (short passes : Bool) → ltb (length l) 384 ≡ short → record_sound k ≡ passes
      → reply_to k l ≡ poll_number (when_of short passes k l).result.answer
  reply_by short passes p q = ap (λ (o : PollOutcome). poll_number o.result.answer) (by_tests p q)

  reply_served : poll_number (served_of k l).result.answer ≡ 0
  unfolding poll_served poll_logged round_out accepted_on walked_on ended
  reply_served = go k.irq.reset k.irq.resume k.irq.suspend
    where
      go : (a b c : Bool) → poll_number (poll_by a b c (check_overrun (endpoints_in k.regs.board) (log k.regs.words l 0)) k.control_state k.irq).answer ≡ 0
      go true b c = refl
      go false true c = refl
      go false false true = refl
      go false false false = refl

  pub zero_reply : 384 ≤ length l → record_sound k ≡ true → reply_to k l ≡ 0
  zero_reply h p = reply_by false true (le-ltb _ _ h) p ∙ reply_served

  numbered : (short passes : Bool) → ltb (length l) 384 ≡ short → record_sound k ≡ passes → reply_to k l ≡ cond short 15 (cond (not passes) 16 0)
  numbered true passes p q = reply_by true passes p q
  numbered false false p q = reply_by false false p q
  numbered false true p q = reply_by false true p q ∙ reply_served

  -- a refused poll leaves the record and the list as they were and lists no store
  abbrev Unchanged : PollOutcome → Type 0
  Unchanged o =
      (poll_number o.result.answer ≡ 0 → ⊥) → o ≡ record { result = record { answer = o.result.answer; «record» = k; stores = 0 }; list = l }

  kept : (short passes : Bool) → Unchanged (when_of short passes k l)
  kept true passes n = refl
  kept false false n = refl
  kept false true n = absurd (n reply_served)

  pub answers : Answers k l
  answers = record {
    replies = exactly (poll_rows k l) (rw (numbered (ltb (length l) 384) (record_sound k) refl refl) (tested 15 _ _ _ (tells_under (length l) 384) (tested 16 _ _ _ (tells_bad k) none_left)));
    unchanged = subst Unchanged (sym (by_tests refl refl)) (kept (ltb (length l) 384) (record_sound k));
  }
