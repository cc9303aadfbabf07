-- Which reply a write gives: the number of the first of its rows that holds. Assumes nothing.
use Prim.Native.Nat.{ℕ, ◌<◌}
use mathlib.Core.Path.{◌≡◌, refl, sym, ap, ◌∙◌}
use mathlib.Core.Logic.{◌↔◌, inl, inr}
use mathlib.Core.Bool.{true, not, cond}
use mathlib.Core.List.{List}
use native.Mathlib.Omega.{arith}
use borrow.Author.Tests.{eqb-false, ne_eqb, not-true}
use lib.Dec.{leb, eqb}
use lib.ListN.{length}
use Rattle.laws.proofs.Tests.{clash}
use Rattle.board.specs.declared.Direction.TheVariants.{In}
use Rattle.register_file.specs.Registers.{side_at}
use Rattle.control_state.specs.declared.ControlStateEnum.{ControlStateEnum}
use Rattle.control_state.specs.declared.ControlStateEnum.TheVariants.{Idle, Setup, DataIn, DataOut, Accepted, NodataPhase}
use Rattle.transfer_rules.specs.Peek.{short}
use Rattle.record.specs.declared.Record.{Record}
use Rattle.record.specs.Record.{area_of, endpoints_of, record_sound}
use Rattle.record.specs.Rows as rows
use Rattle.record.specs.Rows.{Replies}
use Rattle.record.proofs.Rows.{exactly, none_left, tested, tells_under, tells_from, tells_is, tells_set, tells_bad, tells_both}
use Rattle.transfer_rules.specs.WriteTests as write
use Rattle.transfer_rules.specs.WriteTests.{untaken_in}
use Rattle.transfer_rules.specs.WriteZero.{write_number}
use Rattle.transfer_rules.specs.Write.{write_call}
use Rattle.transfer_rules.specs.WriteReplies.{Untaken, write_rows}
use Rattle.transfer_rules.proofs.WriteCases.{uncollected, too_long, not_writable, WriteCase, done, blocks, beyond, long, untaken, little, unsound}
use Rattle.transfer_rules.proofs.WriteAnswers as answers
use Rattle.transfer_rules.proofs.Lent.{says_short}

-- the row of 11, state by state
some : (n : ℕ) → not (eqb n 0) ≡ true ↔ 0 < n
some n = (λ e. let z : n ≡ 0 → ⊥ = eqb-false n 0 (not-true _ e) in omega arith, λ h. rw (ne_eqb n 0 (λ z. omega arith)))

untaken_says : (s : ControlStateEnum) (n : ℕ) → untaken_in s n ≡ true ↔ Untaken s n
untaken_says s n = (to s, from)
  where
    to : (s : ControlStateEnum) → untaken_in s n ≡ true → Untaken s n
    to Idle e = inl ((some n).0 e, inr refl)
    to Setup e = inr (inl refl)
    to DataIn e = clash (sym e)
    to DataOut e = inr (inr (inl refl))
    to Accepted e = inr (inr (inr refl))
    to NodataPhase e = inl ((some n).0 e, inl refl)

    from : Untaken s n → untaken_in s n ≡ true
    from (inl (h, inl e)) = ap (λ (t : ControlStateEnum). untaken_in t n) e ∙ (some n).1 h
    from (inl (h, inr e)) = ap (λ (t : ControlStateEnum). untaken_in t n) e ∙ (some n).1 h
    from (inr (inl e)) = ap (λ (t : ControlStateEnum). untaken_in t n) e
    from (inr (inr (inl e))) = ap (λ (t : ControlStateEnum). untaken_in t n) e
    from (inr (inr (inr e))) = ap (λ (t : ControlStateEnum). untaken_in t n) e

module _ (k : Record) (ep n f l : ℕ) where
  -- what each test tells
  says_ready : uncollected k ep ≡ true ↔ (side_at k.regs.words ep In).ready ≡ true
  says_ready = tells_set (side_at k.regs.words ep In).ready

  says_long : too_long k ep n ≡ true ↔ (area_of k ep In).size < n
  unfolding write.too_long area_of
  says_long = tells_under (area_of k ep In).size n

  says_untaken : not_writable k ep n ≡ true ↔ (ep ≡ 0) × Untaken k.control_state.state n
  unfolding write.not_writable
  says_untaken = tells_both (eqb ep 0) (untaken_in k.control_state.state n) (tells_is ep 0) (untaken_says k.control_state.state n)

  -- the first test that holds decides the number
  abbrev decided : ℕ
  decided = cond (short k f l) 15 (cond (not (record_sound k)) 16 (cond (leb (endpoints_of k) ep) 8 (cond (uncollected k ep) 6 (cond (too_long k ep n) 9 (cond (not_writable k ep n) 11 0)))))

  by_rows : rows.Given decided (write_rows k ep n f l)
  by_rows =
      tested 15 _ _ _ (says_short k f l)
      (tested 16 _ _ _ (tells_bad k) (tested 8 _ _ _ (tells_from (endpoints_of k) ep) (tested 6 _ _ _ says_ready (tested 9 _ _ _ says_long (tested 11 _ _ _ says_untaken none_left)))))

  by_cases : {m : ℕ} → WriteCase k ep n f l m → m ≡ decided
  by_cases (done a s t u) = rw (a.lent, a.passes, a.there, s, t, u)
  by_cases (blocks a s) = rw (a.lent, a.passes, a.there, s)
  by_cases (beyond p q r) = rw (p, q, r)
  by_cases (long a s t) = rw (a.lent, a.passes, a.there, s, t)
  by_cases (untaken a s t u) = rw (a.lent, a.passes, a.there, s, t, u)
  by_cases (little p) = rw p
  by_cases (unsound p q) = rw (p, q)

-- document 01, 'Reply numbers': "Given exactly when"
pub replies : (k : Record) (ep : ℕ) (b f l : List ℕ)
    → Replies (write_number (write_call k ep b f l).result.answer) (write_rows k ep (length b) (length f) (length l))
replies k ep b f l =
    exactly (write_rows k ep (length b) (length f) (length l))
    (rw (by_cases k ep (length b) (length f) (length l) ((answers.exactly k ep b f l _).0 refl)) (by_rows k ep (length b) (length f) (length l)))
