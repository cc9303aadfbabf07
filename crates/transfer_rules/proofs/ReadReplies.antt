-- Which reply a read gives: the number of the first of its rows that holds. Assumes nothing.
use Prim.Native.Nat.{ℕ, ◌<◌}
use mathlib.Core.Path.{◌≡◌, refl, sym, ap, ◌∙◌}
use mathlib.Core.Logic.{◌↔◌, ◌⊎◌}
use mathlib.Core.Bool.{true, false, not, cond, ◌||◌}
use mathlib.Core.List.{List}
use native.Mathlib.Omega.{arith}
use lib.Dec.{leb, ltb, eqb}
use lib.ListN.{length}
use Rattle.laws.proofs.Tests.{clash}
use Rattle.board.specs.declared.Direction.TheVariants.{Out}
use Rattle.register_file.specs.Registers.{side_at}
use Rattle.control_state.specs.Numbers.{state_number}
use Rattle.control_state.specs.declared.ControlStateEnum.{ControlStateEnum}
use Rattle.control_state.specs.declared.ControlStateEnum.TheVariants.{Idle, Setup, DataIn, DataOut, Accepted, NodataPhase}
use Rattle.transfer_rules.specs.Peek.{short}
use Rattle.record.specs.declared.Record.{Record}
use Rattle.record.specs.Record.{endpoints_of, record_sound}
use Rattle.record.specs.Rows as rows
use Rattle.record.specs.Rows.{Replies}
use Rattle.record.proofs.Rows.{exactly, none_left, tested, tells_not, tells_under, tells_from, tells_is, tells_clear, tells_bad, tells_either, tells_both}
use Rattle.transfer_rules.specs.ReadTests as read
use Rattle.transfer_rules.specs.ReadTests.{unreadable_in, not_setup_in}
use Rattle.transfer_rules.specs.ReadZero.{read_number}
use Rattle.transfer_rules.specs.Read.{read_call}
use Rattle.transfer_rules.specs.ReadReplies.{Unreadable, Unset, read_rows}
use Rattle.transfer_rules.proofs.ReadCases.{nothing_waits, not_readable, not_setup, overflows, ReadCase, done, blocks, beyond, unreadable, unset, cut, little, unsound}
use Rattle.transfer_rules.proofs.ReadAnswers as answers
use Rattle.transfer_rules.proofs.Lent.{says_short}

-- the rows of 12 and 13, state by state
other : {s t : ControlStateEnum} → (state_number s ≡ state_number t → ⊥) → s ≡ t → ⊥
other n e = n (ap state_number e)

unreadable_says : (s : ControlStateEnum) → unreadable_in s ≡ true ↔ Unreadable s
unreadable_says Idle = (λ e. (other (λ z. omega arith), other (λ z. omega arith)), λ u. refl)
unreadable_says Setup = (λ e. clash (sym e), λ u. absurd (u.0 refl))
unreadable_says DataIn = (λ e. (other (λ z. omega arith), other (λ z. omega arith)), λ u. refl)
unreadable_says DataOut = (λ e. clash (sym e), λ u. absurd (u.1 refl))
unreadable_says Accepted = (λ e. (other (λ z. omega arith), other (λ z. omega arith)), λ u. refl)
unreadable_says NodataPhase = (λ e. (other (λ z. omega arith), other (λ z. omega arith)), λ u. refl)

eight : (len room : ℕ) → (not (eqb len 8) || ltb room 8) ≡ true ↔ ((len ≡ 8 → ⊥) ⊎ (room < 8))
eight len room = tells_either (not (eqb len 8)) (ltb room 8) (tells_not (tells_is len 8)) (tells_under room 8)

unset_says : (s : ControlStateEnum) (len room : ℕ) → not_setup_in s len room ≡ true ↔ Unset s len room
unset_says s len room = (to s, from)
  where
    to : (s : ControlStateEnum) → not_setup_in s len room ≡ true → Unset s len room
    to Idle e = clash (sym e)
    to Setup e = (refl, (eight len room).0 e)
    to DataIn e = clash (sym e)
    to DataOut e = clash (sym e)
    to Accepted e = clash (sym e)
    to NodataPhase e = clash (sym e)

    from : Unset s len room → not_setup_in s len room ≡ true
    from (e, u) = ap (λ (t : ControlStateEnum). not_setup_in t len room) e ∙ (eight len room).1 u

module _ (k : Record) (ep n f l : ℕ) where
  -- what each test tells
  says_ready : nothing_waits k ep ≡ true ↔ (side_at k.regs.words ep Out).ready ≡ false
  says_ready = tells_clear (side_at k.regs.words ep Out).ready

  says_unreadable : not_readable k ep ≡ true ↔ (ep ≡ 0) × Unreadable k.control_state.state
  unfolding read.not_readable
  says_unreadable = tells_both (eqb ep 0) (unreadable_in k.control_state.state) (tells_is ep 0) (unreadable_says k.control_state.state)

  says_unset : not_setup k ep n ≡ true ↔ (ep ≡ 0) × Unset k.control_state.state (side_at k.regs.words ep Out).len n
  unfolding read.not_setup
  says_unset =
      tells_both (eqb ep 0) (not_setup_in k.control_state.state (side_at k.regs.words ep Out).len n) (tells_is ep 0)
      (unset_says k.control_state.state (side_at k.regs.words ep Out).len n)

  says_cut : overflows k ep n ≡ true ↔ n < (side_at k.regs.words ep Out).len
  unfolding read.overflows
  says_cut = tells_under n (side_at k.regs.words ep Out).len

  -- the first test that holds decides the number
  abbrev decided : ℕ
  decided = cond (short k f l) 15 (cond (not (record_sound k)) 16 (cond (leb (endpoints_of k) ep) 8 (cond (nothing_waits k ep) 6 (cond (not_readable k ep) 12 (cond (not_setup k ep n) 13 (cond (overflows k ep n) 18 0))))))

  by_rows : rows.Given decided (read_rows k ep n f l)
  by_rows =
      tested 15 _ _ _ (says_short k f l)
      (tested 16 _ _ _ (tells_bad k) (tested 8 _ _ _ (tells_from (endpoints_of k) ep) (tested 6 _ _ _ says_ready (tested 12 _ _ _ says_unreadable (tested 13 _ _ _ says_unset (tested 18 _ _ _ says_cut none_left))))))

  by_cases : {m : ℕ} → ReadCase k ep n f l m → m ≡ decided
  by_cases (done a s t u v) = rw (a.lent, a.passes, a.there, s, t, u, v)
  by_cases (blocks a s) = rw (a.lent, a.passes, a.there, s)
  by_cases (beyond p q r) = rw (p, q, r)
  by_cases (unreadable a s t) = rw (a.lent, a.passes, a.there, s, t)
  by_cases (unset a s t u) = rw (a.lent, a.passes, a.there, s, t, u)
  by_cases (cut a s t u v) = rw (a.lent, a.passes, a.there, s, t, u, v)
  by_cases (little p) = rw p
  by_cases (unsound p q) = rw (p, q)

-- document 01, 'Reply numbers': "Given exactly when"
pub replies : (k : Record) (ep : ℕ) (b f l : List ℕ)
    → Replies (read_number (read_call k ep b f l).result.answer) (read_rows k ep (length b) (length f) (length l))
replies k ep b f l =
    exactly (read_rows k ep (length b) (length f) (length l))
    (rw (by_cases k ep (length b) (length f) (length l) ((answers.exactly k ep b f l _).0 refl)) (by_rows k ep (length b) (length f) (length l)))
