-- A read of one of 1 to 5 where a packet waits is answered, if it is lent enough, a buffer with room for the packet among it. Assumes nothing.
use mathlib.Core.Path.{◌≡◌, refl, sym, subst}
use mathlib.Core.Bool.{Bool, true, false, not, ◌&&◌}
use mathlib.Core.List.{List}
use Prim.Native.Nat.{ℕ, ◌≤◌, ◌<◌}
use lib.Dec.{T, eqb, eqb_refl}
use lib.ListN.{length}
use borrow.Author.Tests.{ne_eqb, lt-ltb, le-ltb, lt-leb}
use Rattle.record.specs.declared.Record.{Record}
use Rattle.record.specs.Record.{record_sound, endpoints_of, need_in, need_of}
use Rattle.transfer_rules.specs.Peek.{short_in, short}
use Rattle.transfer_rules.specs.ReadTests as tests
use Rattle.transfer_rules.proofs.Lent.{Admitted}
use Rattle.transfer_rules.proofs.ReadCases.{nothing_waits, not_readable, not_setup, overflows, done}
use Rattle.transfer_rules.proofs.ReadAnswers.{exactly}
use Rattle.calls.specs.Calls.{read}
use Rattle.history.specs.Driver.{waiting, length_at, takes}

module _ (k : Record) (e : ℕ) (b f l : List ℕ) where
  pub enough : need_of k ≤ length f → 384 ≤ length l → short k (length f) (length l) ≡ false
  unfolding short short_in need_in need_of
  enough p q = rw (le-ltb (length f) (need_of k) p, le-ltb (length l) 384 q)

  pub there_is : T (waiting k e) → nothing_waits k e ≡ false
  there_is w = go (waiting k e) w
    where
      go : (r : Bool) → T r → not r ≡ false
      go true t = refl
      go false t = absurd t

  pub readable : (e ≡ 0 → ⊥) → not_readable k e ≡ false
  unfolding tests.not_readable
  readable high = rw (ne_eqb e 0 high)

  pub no_setup : (e ≡ 0 → ⊥) → not_setup k e (length b) ≡ false
  unfolding tests.not_setup
  no_setup high = rw (ne_eqb e 0 high)

  pub roomy : length_at k e ≤ length b → overflows k e (length b) ≡ false
  unfolding tests.overflows
  roomy h = le-ltb (length b) (length_at k e) h

  pub cramped : length b < length_at k e → overflows k e (length b) ≡ true
  unfolding tests.overflows
  cramped h = lt-ltb (length b) (length_at k e) h

  pub read_answered : (e ≡ 0 → ⊥) → record_sound k ≡ true → e < endpoints_of k → need_of k ≤ length f → 384 ≤ length l → length_at k e ≤ length b → T (waiting k e) → T (takes k (read e b f l) e)
  read_answered high passes low p q room w =
      let first : Admitted k e (length f) (length l) = record { lent = enough p q; passes = passes; there = lt-leb (endpoints_of k) e low } in
      let zero = (exactly k e b f l 0).1 (done first (there_is w) (readable high) (no_setup high) (roomy room)) in
      subst (λ (m : ℕ). T (eqb m 0 && eqb e e)) (sym zero) (eqb_refl e)
