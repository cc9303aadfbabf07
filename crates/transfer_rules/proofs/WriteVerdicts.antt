-- What the tests of a write come to: each verdict has its row's number, and one that is clear is at one of the six endpoints
-- and leaves room for the packet and its stores.
-- Assumes nothing.
use Prim.Native.Nat.{ℕ, ◌≤◌, ◌<◌}
use mathlib.Core.Path.{◌≡◌, refl, sym, ap, ◌∙◌}
use mathlib.Core.Bool.{Bool, true, false}
use native.Mathlib.Omega.{arith}
use borrow.Author.Tests.{ltb-false}
use lib.Dec.{leb}
use Rattle.board.specs.declared.Board.{Board}
use Rattle.board.specs.declared.Direction.TheVariants.{In}
use Rattle.register_file.specs.Registers.{File}
use Rattle.transfer_rules.specs.Peek.{short_in, short, has_tx_pkt_rdy, tests_by, verdict_number}
use Rattle.transfer_rules.specs.declared.Verdict.{Verdict}
use Rattle.transfer_rules.specs.declared.Verdict.TheVariants.{Clear, Blocked}
use Rattle.transfer_rules.proofs.Lent.{enough}
use Rattle.control_state.specs.declared.ControlState.{ControlState}
use Rattle.record.specs.declared.Flags.{Flags}
use Rattle.record.specs.declared.Record.{Record}
use Rattle.record.specs.Record as of
use Rattle.record.specs.Record.{area_in, need_in, endpoints_in, endpoints_of, record_sound, admission_by}
use Rattle.transfer_rules.specs.WriteTests as write
use Rattle.transfer_rules.specs.WriteTests.{own_tests, own_tests_at, tests_in, tests}
use Rattle.transfer_rules.proofs.WriteCases.{uncollected, too_long, not_writable, WriteCase, done, blocks, beyond, long, untaken, little, unsound}
use Rattle.record.proofs.Areas.{below_six}

module _ (k : Record) (ep n f l : ℕ) where
  -- the tests, one beside the other, as the rows name them
  pub tests_are : tests k ep n f l ≡ tests_by (admission_by (short k f l) (record_sound k) (leb (endpoints_of k) ep)) (own_tests (uncollected k ep) (too_long k ep n) (not_writable k ep n))
  unfolding tests tests_in own_tests_at short record_sound endpoints_of
  tests_are = refl

  -- by the six tests, whatever they say
  by : (a b c d e g : Bool) → short k f l ≡ a → record_sound k ≡ b → leb (endpoints_of k) ep ≡ c → uncollected k ep ≡ d → too_long k ep n ≡ e → not_writable k ep n ≡ g
      → WriteCase k ep n f l (verdict_number (tests_by (admission_by a b c) (own_tests d e g)))
  by true b c d e g p q r s t u = little p
  by false false c d e g p q r s t u = unsound p q
  by false true true d e g p q r s t u = beyond p q r
  by false true false true e g p q r s t u = blocks (record { lent = p; passes = q; there = r }) s
  by false true false false true g p q r s t u = long (record { lent = p; passes = q; there = r }) s t
  by false true false false false true p q r s t u = untaken (record { lent = p; passes = q; there = r }) s t u
  by false true false false false false p q r s t u = done (record { lent = p; passes = q; there = r }) s t u

  -- each verdict meets its row
  pub meets : WriteCase k ep n f l (verdict_number (tests k ep n f l))
  meets = rw tests_are (by _ _ _ _ _ _ refl refl refl refl refl refl)

  -- and a row that is met decides the verdict
  pub decides : {m : ℕ} → WriteCase k ep n f l m → verdict_number (tests k ep n f l) ≡ m
  decides (done a s t u) = rw (tests_are, a.lent, a.passes, a.there, s, t, u)
  decides (blocks a s) = rw (tests_are, a.lent, a.passes, a.there, s)
  decides (beyond p q r) = rw (tests_are, p, q, r)
  decides (long a s t) = rw (tests_are, a.lent, a.passes, a.there, s, t)
  decides (untaken a s t u) = rw (tests_are, a.lent, a.passes, a.there, s, t, u)
  decides (little p) = rw (tests_are, p)
  decides (unsound p q) = rw (tests_are, p, q)

  pub is_blocked : {m : ℕ} → WriteCase k ep n f l m → m ≡ 6 → tests k ep n f l ≡ Blocked
  is_blocked (blocks a s) e = rw (tests_are, a.lent, a.passes, a.there, s)
  is_blocked (done a s t u) e = absurd (omega arith)
  is_blocked (beyond p q r) e = absurd (omega arith)
  is_blocked (long a s t) e = absurd (omega arith)
  is_blocked (untaken a s t u) e = absurd (omega arith)
  is_blocked (little p) e = absurd (omega arith)
  is_blocked (unsound p q) e = absurd (omega arith)

-- what a verdict says of the tests before it
none : {A : Type 0} {v w : Verdict} → v ≡ w → (verdict_number v ≡ verdict_number w → ⊥) → A
none p n = absurd (n (ap verdict_number p))

clear_by : (a b c d e g : Bool) → tests_by (admission_by a b c) (own_tests d e g) ≡ Clear → (a ≡ false) × (c ≡ false) × (e ≡ false)
clear_by true b c d e g p = none p (λ z. omega arith)
clear_by false false c d e g p = none p (λ z. omega arith)
clear_by false true true d e g p = none p (λ z. omega arith)
clear_by false true false true e g p = none p (λ z. omega arith)
clear_by false true false false true g p = none p (λ z. omega arith)
clear_by false true false false false true p = none p (λ z. omega arith)
clear_by false true false false false false p = (refl, refl, refl)

blocked_by : (a b c d e g : Bool) → tests_by (admission_by a b c) (own_tests d e g) ≡ Blocked → a ≡ false
blocked_by true b c d e g p = none p (λ z. omega arith)
blocked_by false b c d e g p = refl

module _ (b : Board) (w : File) (c : ControlState) (flags : Flags) (ep n f l : ℕ) where
  -- room for the packet in its area and in the buffer
  not_long : write.too_long b ep n ≡ false → n ≤ (area_in b ep In).size
  unfolding write.too_long
  not_long p = ltb-false _ _ p

  cleared : tests_in b w c flags ep n f l ≡ Clear → (short_in b f l ≡ false) × (leb (endpoints_in b) ep ≡ false) × (write.too_long b ep n ≡ false)
  unfolding tests_in own_tests_at
  cleared p =
      clear_by (short_in b f l) (of.passes b w flags) (leb (endpoints_in b) ep) (has_tx_pkt_rdy ep w) (write.too_long b ep n) (write.not_writable c ep n) p

  lent_to : tests_in b w c flags ep n f l ≡ Blocked → short_in b f l ≡ false
  unfolding tests_in own_tests_at
  lent_to p =
      blocked_by (short_in b f l) (of.passes b w flags) (leb (endpoints_in b) ep) (has_tx_pkt_rdy ep w) (write.too_long b ep n) (write.not_writable c ep n) p

  pub clear_fits : {v : Verdict} → v ≡ tests_in b w c flags ep n f l → v ≡ Clear → (ep < 6) × (n ≤ (area_in b ep In).size) × (need_in b ≤ f) × (384 ≤ l)
  clear_fits is e =
      let p = cleared (sym is ∙ e) in
      let q = enough b f l p.0 in
      (below_six b ep p.1, not_long p.2, q.0, q.1)

  pub blocked_fits : {v : Verdict} → v ≡ tests_in b w c flags ep n f l → v ≡ Blocked → 384 ≤ l
  blocked_fits is e = (enough b f l (lent_to (sym is ∙ e))).1
