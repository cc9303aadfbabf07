-- The account of `read`: the index, the store that drops the packet, and DataEnd where the data end. Assumes nothing.
use Prim.Native.Nat.{ℕ, ◌<◌}
use mathlib.Core.Path.{◌≡◌, refl, sym, ap, subst, ◌∙◌}
use mathlib.Core.Bool.{Bool, true, false}
use mathlib.Core.List.{List}
use mathlib.Core.Logic.{inl}
use lib.Dec.{eqb, ltb, leb, lit≤}
use lib.ListN.{length}
use Rattle.board.specs.declared.Board.{Board}
use Rattle.board.specs.Boards.{rows}
use Rattle.csr.specs.declared.Csr0lSet.TheVariants as csr0l
use Rattle.csr.specs.declared.RxcsrlSet.TheVariants as rxcsrl
use Rattle.store_rules.specs.Stores.{Log, log, write_index}
use Rattle.store_rules.specs.Promise.{index}
use Rattle.control_state.specs.declared.ControlState.{ControlState}
use Rattle.control_state.specs.declared.ControlStateEnum.{ControlStateEnum}
use Rattle.control_state.specs.declared.ControlStateEnum.TheVariants.{Idle, Setup, DataIn, DataOut, Accepted, NodataPhase}
use Rattle.record.specs.declared.Record.{Record}
use Rattle.record.specs.Record.{record_sound, endpoints_of, admission_by}
use Rattle.transfer_rules.specs.declared.Verdict.{Verdict}
use Rattle.transfer_rules.specs.Peek.{short, tests_by, After, after, leaving, blocked, ended}
use Rattle.transfer_rules.specs.ReadZero.{w_length, way_in, after_setup, set_up, rx_size, data_out, zero_by, read_zero}
use Rattle.transfer_rules.specs.ReadTests.{own_tests}
use Rattle.transfer_rules.specs.Read.{ReadOutcome, read_other, got, read_done, read_call}
use Rattle.transfer_rules.proofs.ReadCases.{nothing_waits, not_readable, not_setup, overflows, ReadCase, done as granted, blocks, beyond, unreadable, unset, cut, little, unsound}
use Rattle.transfer_rules.proofs.ReadVerdicts.{told}
use Rattle.transfer_rules.proofs.ReadAnswers.{tested, by_tests, exactly}
use Rattle.calls.specs.DataEnd.{ends}
use Rattle.calls.proofs.Steps.{Reached, none, then, within, one, Gentle, Careful, careful_gentle}
use Rattle.calls.proofs.Accounts.{Account, Passes, lent_passes, left, stores, gentle, by_test, rx_modifies, zero_modifies, no_end, there}

module _ (k : Record) (ep n : ℕ) (l : List ℕ) (s : Passes k l) (i : ep < length (rows k.regs.board)) where
  abbrev b : Board
  b = k.regs.board

  abbrev begun : Log
  begun = log k.regs.words l 0

  abbrev Path : ℕ → Log → Type 0
  Path c h = Reached (Careful b) begun false c h

  abbrev Fine : Bool → After → Type 0
  Fine e o = Account (Careful b) e k l (leaving k o) o.log.list o.log.count

  -- DataEnd is stored where the data that the state t has are at an end
  abbrev Closes : ControlStateEnum → After → Type 0
  Closes t o = Fine (ends t o.control.state) o

  pub selects : Path 1 (write_index ep begun)
  selects = then none (one (index ep)) ((i, tt), inl tt)

  finish : {e : Bool} (c : ControlState) (g : Log) → Reached (Careful b) begun e 3 g → Fine e (after c k.irq g)
  finish c g r = stores l g s (within r 128 (lit≤ tt)) refl refl refl

  closed : (c : ControlState) (g : Log) → Path 2 g → Fine true (ended c k.irq g)
  unfolding ended
  closed c g r = finish c _ (zero_modifies r csr0l.DataEnd)

  kept : (c : ControlState) (g : Log) → Path 2 g → Fine false (after c k.irq g)
  kept c g r = finish c g (within r 3 (lit≤ tt))

  as_it_is : {t : ControlStateEnum} (c : ControlState) (g : Log) → c.state ≡ t → Path 2 g → Closes t (after c k.irq g)
  as_it_is {t} c g e r = subst (λ (s : ControlStateEnum). Fine (ends t s) (after c k.irq g)) (sym e) (subst (λ (x : Bool). Fine x (after c k.irq g)) (sym (no_end t)) (kept c g r))

  set_up_lem : (x : List ℕ) (c : ControlState) (g : Log) → Path 2 g → Closes Setup (set_up x c k.irq g)
  unfolding set_up ended
  set_up_lem x c g r = by_test (Closes Setup) (eqb (w_length x) 0) (closed _ g r) (by_way (way_in x))
    where
      by_way : (v : Bool) → Closes Setup (after (after_setup c v (w_length x)) k.irq g)
      by_way true = kept _ g r
      by_way false = kept _ g r

  out_data : (size : ℕ) (c : ControlState) (g : Log) → c.state ≡ DataOut → Path 2 g → Closes DataOut (data_out n size c k.irq g)
  unfolding data_out ended
  out_data size c g e r = by_test (Closes DataOut) (ltb n size) (closed _ g r) (as_it_is c g e r)

  at_zero : (t : ControlStateEnum) (x : List ℕ) (size : ℕ) (c : ControlState) (g : Log) → c.state ≡ t → Path 2 g → Closes t (zero_by t x n size c k.irq g)
  at_zero Setup x size c g e r = set_up_lem x c g r
  at_zero DataOut x size c g e r = out_data size c g e r
  at_zero Idle x size c g e r = as_it_is c g e r
  at_zero DataIn x size c g e r = as_it_is c g e r
  at_zero Accepted x size c g e r = as_it_is c g e r
  at_zero NodataPhase x size c g e r = as_it_is c g e r

  -- endpoint 0's packet is not one of 1 to 5
  pub gets_zero : (x : List ℕ) (size : ℕ) → Closes k.control_state.state (read_zero x n size k.control_state k.irq (write_index ep begun))
  unfolding read_zero
  gets_zero x size = at_zero k.control_state.state x size k.control_state _ refl (zero_modifies selects csr0l.ServicedRxPktRdy)

  abbrev Gained : After → Type 0
  Gained o = Account (Gentle b) (ends k.control_state.state o.control.state) k l (leaving k o) o.log.list o.log.count

  gets : (x : List ℕ) (size : ℕ) → Gained (got ep x n size k.control_state k.irq (write_index ep begun))
  unfolding got read_other
  gets x size =
      by_test Gained (eqb ep 0) (gentle (gets_zero x size))
      (rw (no_end k.control_state.state) (stores l _ s (within (rx_modifies selects rxcsrl.NoRxPktRdy) 128 (lit≤ tt)) refl refl refl))

module _ (k : Record) (ep : ℕ) (b f l : List ℕ) where
  -- the tests, one beside the other
  abbrev pub tests : Verdict
  tests =
      tests_by (admission_by (short k (length f) (length l)) (record_sound k) (leb (endpoints_of k) ep))
      (own_tests (nothing_waits k ep) (not_readable k ep) (not_setup k ep (length b)) (overflows k ep (length b)))

  abbrev Accounted : ReadOutcome → Type 0
  Accounted o =
      Account (Gentle k.regs.board) (ends k.control_state.state o.result.«record».control_state.state) k l o.result.«record» o.list o.result.stores

  abbrev same : ends k.control_state.state k.control_state.state ≡ false
  same = no_end k.control_state.state

  -- by the row of the reply that is given
  by_row : {m : ℕ} → ReadCase k ep (length b) (length f) (length l) m → Accounted (tested k ep b f l tests)
  unfolding read_done blocked
  by_row (granted a s t u v) = rw (a.lent, a.passes, a.there, s, t, u, v) (gets k ep _ l (lent_passes k f l a.passes a.lent) (there k ep a.there) _ (rx_size k))
  by_row (blocks a s) =
      let p = lent_passes k f l a.passes a.lent in
      rw (a.lent, a.passes, a.there, s, same)
      (stores l _ p (within (careful_gentle (selects k ep 0 l p (there k ep a.there))) 128 (lit≤ tt)) refl refl refl)
  by_row (beyond p q r) = rw (p, q, r, same) (left refl refl)
  by_row (unreadable a s t) = rw (a.lent, a.passes, a.there, s, t, same) (left refl refl)
  by_row (unset a s t u) = rw (a.lent, a.passes, a.there, s, t, u, same) (left refl refl)
  by_row (cut a s t u v) = rw (a.lent, a.passes, a.there, s, t, u, v, same) (left refl refl)
  by_row (little p) = rw (p, same) (left refl refl)
  by_row (unsound p q) = rw (p, q, same) (left refl refl)

  pub read : Accounted (read_call k ep b f l)
  read =
      subst Accounted
      (sym (by_tests k ep b f l ∙ ap (tested k ep b f l) (told k ep (length b) (length f) (length l)))) (by_row ((exactly k ep b f l _).0 refl))
