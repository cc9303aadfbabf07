-- What the tests of a read come to: each verdict has its row's number, and one that is clear comes of a record that passes and of enough lent.
-- Assumes nothing.
use Prim.Native.Nat.{ℕ, ◌≤◌}
use mathlib.Core.Path.{◌≡◌, refl, sym, ap, ◌∙◌}
use mathlib.Core.Bool.{Bool, true, false}
use native.Mathlib.Omega.{arith}
use borrow.Author.Tests.{ltb-false}
use lib.Dec.{leb}
use Rattle.board.specs.declared.Board.{Board}
use Rattle.register_file.specs.Registers.{File}
use Rattle.control_state.specs.declared.ControlState.{ControlState}
use Rattle.transfer_rules.specs.declared.Verdict.{Verdict}
use Rattle.transfer_rules.specs.declared.Verdict.TheVariants.{Clear, Blocked}
use Rattle.transfer_rules.specs.Peek.{short, rx_count, tests_by, verdict_number}
use Rattle.transfer_rules.proofs.Lent.{lent_enough}
use Rattle.record.specs.declared.Flags.{Flags}
use Rattle.record.specs.declared.Record.{Record}
use Rattle.record.specs.Record.{need_in, need_of, endpoints_of, passes, record_sound, admission_by}
use Rattle.transfer_rules.specs.ReadTests as read
use Rattle.transfer_rules.specs.ReadTests.{own_tests, own_tests_at, tests_in, tests}
use Rattle.transfer_rules.proofs.ReadCases.{nothing_waits, not_readable, not_setup, overflows, ReadCase, done, blocks, beyond, unreadable, unset, cut, little, unsound}
use Rattle.transfer_rules.proofs.Read.{whole}

module _ (k : Record) (ep n f l : ℕ) where
  -- the seven tests, as the rows of the table name them
  pub told : tests k ep n f l
      ≡ tests_by (admission_by (short k f l) (record_sound k) (leb (endpoints_of k) ep)) (own_tests (nothing_waits k ep) (not_readable k ep) (not_setup k ep n) (overflows k ep n))
  unfolding tests tests_in own_tests_at short record_sound endpoints_of
  told = refl

  -- by the seven tests, whatever they say
  by : (a b c d e g o : Bool) → short k f l ≡ a → record_sound k ≡ b → leb (endpoints_of k) ep ≡ c → nothing_waits k ep ≡ d → not_readable k ep ≡ e → not_setup k ep n ≡ g → overflows k ep n ≡ o
      → ReadCase k ep n f l (verdict_number (tests_by (admission_by a b c) (own_tests d e g o)))
  by true b c d e g o p q r s t u v = little p
  by false false c d e g o p q r s t u v = unsound p q
  by false true true d e g o p q r s t u v = beyond p q r
  by false true false true e g o p q r s t u v = blocks (record { lent = p; passes = q; there = r }) s
  by false true false false true g o p q r s t u v = unreadable (record { lent = p; passes = q; there = r }) s t
  by false true false false false true o p q r s t u v = unset (record { lent = p; passes = q; there = r }) s t u
  by false true false false false false true p q r s t u v = cut (record { lent = p; passes = q; there = r }) s t u v
  by false true false false false false false p q r s t u v = done (record { lent = p; passes = q; there = r }) s t u v

  -- each verdict meets its row
  pub meets : ReadCase k ep n f l (verdict_number (tests k ep n f l))
  meets = rw told (by _ _ _ _ _ _ _ refl refl refl refl refl refl refl)

  -- and a row that is met decides the verdict
  pub decides : {m : ℕ} → ReadCase k ep n f l m → verdict_number (tests k ep n f l) ≡ m
  decides (done a s t u v) = ap verdict_number told ∙ rw (a.lent, a.passes, a.there, s, t, u, v)
  decides (blocks a s) = ap verdict_number told ∙ rw (a.lent, a.passes, a.there, s)
  decides (beyond p q r) = ap verdict_number told ∙ rw (p, q, r)
  decides (unreadable a s t) = ap verdict_number told ∙ rw (a.lent, a.passes, a.there, s, t)
  decides (unset a s t u) = ap verdict_number told ∙ rw (a.lent, a.passes, a.there, s, t, u)
  decides (cut a s t u v) = ap verdict_number told ∙ rw (a.lent, a.passes, a.there, s, t, u, v)
  decides (little p) = ap verdict_number told ∙ rw p
  decides (unsound p q) = ap verdict_number told ∙ rw (p, q)

  -- enough is lent, the buffer among it
  room : {m : ℕ} → ReadCase k ep n f l m → m ≡ 0 → (record_sound k ≡ true) × (need_of k ≤ f) × (384 ≤ l) × (rx_count ep k.regs.words ≤ n)
  unfolding read.overflows
  room (done a s t u v) e = let q = lent_enough k f l a.lent in (a.passes, q.0, q.1, ltb-false _ _ v)
  room (blocks a s) e = absurd (omega arith)
  room (beyond p q r) e = absurd (omega arith)
  room (unreadable a s t) e = absurd (omega arith)
  room (unset a s t u) e = absurd (omega arith)
  room (cut a s t u v) e = absurd (omega arith)
  room (little p) e = absurd (omega arith)
  room (unsound p q) e = absurd (omega arith)

  listed : {m : ℕ} → ReadCase k ep n f l m → m ≡ 6 → 384 ≤ l
  listed (blocks a s) e = (lent_enough k f l a.lent).1
  listed (done a s t u v) e = absurd (omega arith)
  listed (beyond p q r) e = absurd (omega arith)
  listed (unreadable a s t) e = absurd (omega arith)
  listed (unset a s t u) e = absurd (omega arith)
  listed (cut a s t u v) e = absurd (omega arith)
  listed (little p) e = absurd (omega arith)
  listed (unsound p q) e = absurd (omega arith)

  pub is_blocked : {m : ℕ} → ReadCase k ep n f l m → m ≡ 6 → tests k ep n f l ≡ Blocked
  is_blocked (blocks a s) e = told ∙ rw (a.lent, a.passes, a.there, s)
  is_blocked (done a s t u v) e = absurd (omega arith)
  is_blocked (beyond p q r) e = absurd (omega arith)
  is_blocked (unreadable a s t) e = absurd (omega arith)
  is_blocked (unset a s t u) e = absurd (omega arith)
  is_blocked (cut a s t u v) e = absurd (omega arith)
  is_blocked (little p) e = absurd (omega arith)
  is_blocked (unsound p q) e = absurd (omega arith)

module _ (b : Board) (w : File) (c : ControlState) (f : Flags) (ep n fifo list : ℕ) {v : Verdict} (is : v ≡ tests_in b w c f ep n fifo list) where
  number : (u : Verdict) → v ≡ u → verdict_number (tests (whole b w c f) ep n fifo list) ≡ verdict_number u
  unfolding tests
  number u e = ap verdict_number (sym is ∙ e)

  pub clear_fits : v ≡ Clear → (passes b w f ≡ true) × (need_in b ≤ fifo) × (384 ≤ list) × (rx_count ep w ≤ n)
  unfolding record_sound need_of
  clear_fits e = room (whole b w c f) ep n fifo list (meets (whole b w c f) ep n fifo list) (number Clear e)

  pub blocked_fits : v ≡ Blocked → 384 ≤ list
  blocked_fits e = listed (whole b w c f) ep n fifo list (meets (whole b w c f) ep n fifo list) (number Blocked e)
