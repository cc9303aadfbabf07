-- What each operation leaves of the packets that wait to be read at endpoints 1 to 5. Assumes nothing.
use Prim.Native.Nat.{ℕ, ◌<◌}
use mathlib.Core.Path.{◌≡◌, refl, sym, ap, subst, ◌∙◌}
use mathlib.Core.Bool.{Bool, true, false, not, cond, ◌&&◌, and-false, and-true, or-false}
use mathlib.Core.List.{List}
use mathlib.Core.Logic.{◌⊎◌, inl, inr}
use native.Mathlib.Nat.{le_trans}
use borrow.Author.Tests.{eqb-true, ne_eqb}
use lib.Dec.{eqb, lit≤}
use lib.ListN.{length, get_or}
use Rattle.board.specs.Boards.{rows, at_most_six}
use Rattle.board.specs.declared.Direction.TheVariants.{Out, In}
use Rattle.csr.specs.declared.Side.{Side}
use Rattle.register_file.specs.Registers as file
use Rattle.register_file.specs.Registers.{File, Whole, side_at}
use Rattle.store_rules.specs.Stores.{Log, write_index}
use Rattle.store_rules.specs.Promise.{index, power}
use Rattle.event_rules.specs.Promise as events
use Rattle.event_rules.specs.Promise.{Event}
use Rattle.event_rules.proofs.Promises as promised
use Rattle.control_state.specs.declared.ControlState.{ControlState}
use Rattle.endpoints.specs.Endpoints.{blank}
use Rattle.record.specs.declared.Record.{Record}
use Rattle.record.specs.Record.{record_sound, admission_by, endpoints_in, endpoints_of, reply_number}
use Rattle.record.proofs.Passing.{record_is_sound}
use Rattle.call_rules.specs.Calls.{stored, unless, short, begun, idled, beyond}
use Rattle.call_rules.specs.Reset.{reset_stores, reset_call}
use Rattle.call_rules.specs.Stall.{ep_stall, after_stall, set_stalled_call}
use Rattle.transfer_rules.specs.Peek.{leaving, blocked}
use Rattle.transfer_rules.specs.ReadZero.{read_number, rx_size, read_zero}
use Rattle.transfer_rules.specs.Read.{ReadOutcome, read_other, got, read_done, read_call}
use Rattle.transfer_rules.proofs.ReadCases.{ReadCase, done as granted, blocks, beyond as too-high, unreadable, unset, cut, little, unsound}
use Rattle.transfer_rules.proofs.ReadVerdicts.{told}
use Rattle.transfer_rules.proofs.ReadAnswers.{tested, by_tests, exactly}
use Rattle.call_rules.specs.Interrupt.{interrupted, interrupt_call}
use Rattle.calls.specs.Calls.{reset, read, set_stalled, outcome, step}
use Rattle.calls.specs.Kept.{Remain}
use Rattle.calls.proofs.Packets.{Left, apart, told_by}
use Rattle.calls.proofs.Dropping.{stall_leaves, read_leaves, gone_below, all_leave, below}
use Rattle.calls.proofs.Steps.{Careful, within as reaches, within_six, same_ready}
use Rattle.calls.proofs.Accounts.{Account, Passes, lent_passes, stores, there}
use Rattle.calls.proofs.Reading.{tests, selects, gets_zero}
use Rattle.calls.proofs.Happening.{Happens, refused, happened, cleared_side}
use Rattle.calls.proofs.Kept.{to_holds, Interrupts, refused as not_taken, taken as was-taken, on_interrupt_lem}

abbrev none : ℕ → Bool
none e = false

module _ (k : Record) where
  unmoved : {q : Record} → q.regs.words ≡ k.regs.words → Remain none k q
  unmoved p = record { ready = λ e n. ap (λ (r : File). (side_at r e Out).ready) p ∙ sym (and-true (side_at k.regs.words e Out).ready) }

  -- by another test
  by : {gone gone' : ℕ → Bool} {q : Record} → ((e : ℕ) → (e ≡ 0 → ⊥) → gone e ≡ gone' e) → Remain gone k q → Remain gone' k q
  by same r = record { ready = λ e n. r.ready e n ∙ ap (λ (b : Bool). (side_at k.regs.words e Out).ready && not b) (same e n) }

  -- an interrupt reads its registers, and leaves every side
  interrupt_side : (e : ℕ) {q : Record} → q ≡ interrupted k → (side_at q.regs.words e Out).ready ≡ (side_at k.regs.words e Out).ready
  unfolding interrupted
  interrupt_side e p =
      ap (λ (x : Record). (side_at x.regs.words e Out).ready) p ∙ ap (λ (s : Side). s.ready) (cleared_side k.regs.words e Out)

  pub interrupt_remain : Remain none k (interrupt_call k).«record»
  interrupt_remain = go (on_interrupt_lem k)
    where
      go : {q : Record} → Interrupts k q → Remain none k q
      go (not_taken p) = unmoved (ap (λ (x : Record). x.regs.words) p)
      go (was-taken s p) = record { ready = λ e n. interrupt_side e p ∙ sym (and-true (side_at k.regs.words e Out).ready) }

  module _ (six : Whole k.regs.words) where
    -- a call that stores to RXCSRL at most to repair an overrun
    pub careful_remain : {x : Bool} {l m : List ℕ} {q : Record} {n : ℕ} → Account (Careful k.regs.board) x k l q m n → Remain none k q
    careful_remain {l = l} {q = q} {n = n} a = go a.served
      where
        go : ((q.regs.words ≡ k.regs.words) × (n ≡ 0)) ⊎ Passes k l → Remain none k q
        go (inl p) = unmoved p.0
        go (inr s) = record {
          ready = λ e n.
              same_ready a.path (to_holds k (record_is_sound k s.0) six) e n
              ∙ sym (and-true (side_at k.regs.words e Out).ready);
        }

    -- an event of the host that leaves RxPktRdy
    pub event_remain : {o : Event} {q : Record} → ((e : ℕ) (s : Side) → (events.leaves o e Out s).ready ≡ s.ready) → Happens o k q → Remain none k q
    event_remain same (refused p) = unmoved (ap (λ (x : Record). x.regs.words) p)
    event_remain {o} same (happened i f c p s) = record {
      ready = λ e n.
          ap (λ (r : File). (side_at r e Out).ready) p
          ∙ ap (λ (x : Side). x.ready) (promised.sides o k.regs.words e Out six i)
          ∙ same e (side_at k.regs.words e Out)
          ∙ sym (and-true (side_at k.regs.words e Out).ready);
    }

    -- the registers before the first store of a call
    start : (l : List ℕ) → record_sound k ≡ true → Left k.regs.words none (begun k l)
    start l s =
        let t = (to_holds k (record_is_sound k s) six).standing in
        (file.index k.regs.words, record { six = six; at = refl; low = within_six t; ready = λ e n. sym (and-true (side_at k.regs.words e Out).ready) })

    -- a call that is refused leaves all, and one that is answered what its stores leave
    called_remain : (gone : ℕ → Bool) (c : ControlState) (g : Log) (l : List ℕ) (s p x : Bool) → (p ≡ true → x ≡ false → Left k.regs.words gone g)
        → Remain (λ e. eqb (reply_number (unless (admission_by s p x) k l (stored k c g)).call.answer) 0 && gone e) k
        (unless (admission_by s p x) k l (stored k c g)).call.«record»
    called_remain gone c g l true p x f = unmoved refl
    called_remain gone c g l false false x f = unmoved refl
    called_remain gone c g l false true true f = unmoved refl
    called_remain gone c g l false true false f = record { ready = (f refl refl).1.ready }

    within : (e : ℕ) → beyond k e ≡ false → e < 6
    within e p = le_trans (there k e p) (at_most_six k.regs.board)

    -- stalling or unstalling endpoint i out drops what waits there, and in nothing
    pub stall_remain : (i : ℕ) (s : Bool) (l : List ℕ)
        → Remain (λ e. eqb (outcome k (set_stalled i Out s l)).reply 0 && eqb e i) k (step k (set_stalled i Out s l))
    unfolding set_stalled_call
    stall_remain i s l =
        called_remain (λ e. eqb e i) (after_stall i s k.control_state) (ep_stall Out i s (begun k l)) l (short l) (record_sound k) (beyond k i)
        (λ p x. (i, told_by (λ e n. or-false (eqb e i)) (stall_leaves Out i s (begun k l) (within i x) (start l p))))

    pub stall_in_remain : (i : ℕ) (s : Bool) (l : List ℕ) → Remain none k (step k (set_stalled i In s l))
    unfolding set_stalled_call
    stall_in_remain i s l =
        by (λ e n. and-false (eqb (outcome k (set_stalled i In s l)).reply 0))
        (called_remain none (after_stall i s k.control_state) (ep_stall In i s (begun k l)) l (short l) (record_sound k) (beyond k i)
        (λ p x. (i, stall_leaves In i s (begun k l) (within i x) (start l p))))

    -- the reset call drops what waits at an endpoint that is used to receive
    reset_below : (l : List ℕ)
        → Remain (λ e. eqb (outcome k (reset l)).reply 0 && gone_below k.endpoints (endpoints_of k) e) k (step k (reset l))
    unfolding reset_call reset_stores endpoints_in endpoints_of
    reset_below l =
        called_remain (gone_below k.endpoints (endpoints_of k)) (idled k.control_state) (reset_stores k (begun k l)) l (short l) (record_sound k) false
        (λ p x.
        let q = start l p in
        all_leave k.endpoints (endpoints_of k) _ (at_most_six k.regs.board) (q.0, apart power (begun k l) tt q.1.low q.1))

    pub reset_remain : (l : List ℕ) (e : ℕ) → (e ≡ 0 → ⊥) → e < endpoints_of k
        → (side_at (step k (reset l)).regs.words e Out).ready
        ≡ ((side_at k.regs.words e Out).ready && not (eqb (outcome k (reset l)).reply 0 && (get_or k.endpoints e blank).used_rx))
    reset_remain l e n h =
        (reset_below l).ready e n
        ∙ ap (λ (b : Bool). (side_at k.regs.words e Out).ready && not (eqb (outcome k (reset l)).reply 0 && b)) (below k.endpoints (endpoints_of k) e h)

    -- a read drops the packet that it reads
    module _ (i : ℕ) (b f l : List ℕ) where
      gets_remain : (n : ℕ) (x : List ℕ) (size : ℕ) → Passes k l → i < length (rows k.regs.board)
          → Remain (λ e. eqb e i) k (leaving k (got i x n size k.control_state k.irq (write_index i (begun k l))))
      unfolding got read_other
      gets_remain n x size s h = go (eqb i 0) refl
        where
          go : (z : Bool) → eqb i 0 ≡ z
              → Remain (λ e. eqb e i) k
              (leaving k
              (cond z (read_zero x n size k.control_state k.irq (write_index i (begun k l))) (read_other k.control_state k.irq (write_index i (begun k l)))))
          go true p =
              let z = eqb-true i 0 p in
              by (λ e m. sym (ne_eqb e i (λ q. m (q ∙ z)))) (careful_remain (gets_zero k i n l s h x size))
          go false p =
              let q = apart (index i) (begun k l) tt (le_trans h (at_most_six k.regs.board)) (start l s.0).1 in
              record { ready = (told_by (λ e m. or-false (eqb e i)) (read_leaves i (write_index i (begun k l)) q)).ready }

      by_row : {m : ℕ} → ReadCase k i (length b) (length f) (length l) m → Remain (λ e. eqb m 0 && eqb e i) k (tested k i b f l (tests k i b f l)).result.«record»
      unfolding read_done blocked
      by_row (granted a s t u v) = rw (a.lent, a.passes, a.there, s, t, u, v) (gets_remain _ _ (rx_size k) (lent_passes k f l a.passes a.lent) (there k i a.there))
      by_row (blocks a s) =
          let p = lent_passes k f l a.passes a.lent in
          rw (a.lent, a.passes, a.there, s)
          (careful_remain (stores l _ p (reaches (selects k i 0 l p (there k i a.there)) 128 (lit≤ tt)) refl refl refl))
      by_row (too-high p q r) = rw (p, q, r) (unmoved refl)
      by_row (unreadable a s t) = rw (a.lent, a.passes, a.there, s, t) (unmoved refl)
      by_row (unset a s t u) = rw (a.lent, a.passes, a.there, s, t, u) (unmoved refl)
      by_row (cut a s t u v) = rw (a.lent, a.passes, a.there, s, t, u, v) (unmoved refl)
      by_row (little p) = rw p (unmoved refl)
      by_row (unsound p q) = rw (p, q) (unmoved refl)

      pub read_remain : Remain (λ e. eqb (outcome k (read i b f l)).reply 0 && eqb e i) k (step k (read i b f l))
      read_remain =
          subst (λ (o : ReadOutcome). Remain (λ e. eqb (read_number (read_call k i b f l).result.answer) 0 && eqb e i) k o.result.«record»)
          (sym (by_tests k i b f l ∙ ap (tested k i b f l) (told k i (length b) (length f) (length l)))) (by_row ((exactly k i b f l _).0 refl))
