-- The account of `write`: the index, then a packet with its ready bit, and DataEnd where the data end. Assumes nothing.
use Prim.Native.Nat.{ℕ, ◌≤◌, ◌<◌}
use mathlib.Core.Path.{◌≡◌, refl, sym, ap, subst, ◌∙◌}
use mathlib.Core.Bool.{Bool, true, false, ◌&&◌, cond}
use mathlib.Core.List.{List}
use mathlib.Core.Logic.{inl, inr}
use borrow.Author.Tests.{eq-eqb, eqb-true, ltb-false}
use lib.Dec.{eqb, ltb, leb, lit≤}
use lib.ListN.{length}
use Rattle.laws.proofs.Words.{raised_lt}
use Rattle.board.specs.declared.Board.{Board}
use Rattle.board.specs.declared.Direction.TheVariants.{In}
use Rattle.board.specs.Table.{area_at}
use Rattle.board.specs.Boards.{rows, at_least_one}
use Rattle.csr.specs.declared.Side.{Side}
use Rattle.csr.specs.declared.Csr0lSet.TheVariants as csr0l
use Rattle.csr.specs.declared.TxcsrlSet.TheVariants as txcsrl
use Rattle.register_file.specs.Registers as file
use Rattle.register_file.specs.Registers.{Whole, side_at, chosen}
use Rattle.csr.proofs.Modified.{tx_readied}
use Rattle.register_file.proofs.Modified.{zero_readied, sets_data_end}
use Rattle.store_rules.specs.Stores.{Log, log, write_index, modify_csr0l, modify_txcsrl}
use Rattle.store_rules.specs.Promise.{index, packet, does, leaves}
use Rattle.store_rules.proofs.Promises.{rest, modify_csr0l_lem, modify_txcsrl_lem}
use Rattle.store_rules.proofs.Halts.{tx_modified}
use Rattle.control_state.specs.Control.{decreased}
use Rattle.control_state.specs.declared.ControlState.{ControlState}
use Rattle.control_state.specs.declared.ControlStateEnum.{ControlStateEnum}
use Rattle.control_state.specs.declared.ControlStateEnum.TheVariants.{Idle, Setup, DataIn, DataOut, Accepted, NodataPhase}
use Rattle.record.specs.declared.Record.{Record}
use Rattle.record.specs.declared.Flags.{Flags}
use Rattle.record.specs.Record.{record_sound, area_in, endpoints_of, admission_by}
use Rattle.transfer_rules.specs.declared.Verdict.{Verdict}
use Rattle.transfer_rules.specs.Peek.{short, tests_by, After, after, leaving, blocked, ended}
use Rattle.transfer_rules.specs.WriteZero.{nodata_phase, accepted, tx_size, data_in, sent_data_in, sent_zero}
use Rattle.transfer_rules.specs.WriteTests as tests
use Rattle.transfer_rules.specs.WriteTests.{untaken_in, own_tests}
use Rattle.transfer_rules.specs.Write.{WriteOutcome, outcome, loaded, sent_other, sent, write_done, write_by, write_call}
use Rattle.transfer_rules.proofs.WriteCases.{uncollected, too_long, not_writable, WriteCase, done as granted, blocks, beyond, long, untaken, little, unsound}
use Rattle.transfer_rules.proofs.WriteVerdicts.{tests_are}
use Rattle.transfer_rules.proofs.WriteAnswers.{call_is, exactly}
use Rattle.laws.proofs.Tests.{clash}
use Rattle.calls.specs.DataEnd.{ends}
use Rattle.calls.proofs.Steps as steps
use Rattle.calls.proofs.Steps.{Reached, none, then, within, one, Careful, Readies}
use Rattle.calls.proofs.Accounts.{Low, Account, Passes, lent_passes, left, stores, by_test, tx_modify, zero_modify, zero_modifies, is_empty, no_end, there}

-- TxPktRdy is set
tx_readies : (h : Log) → eqb (file.index h.regs) 0 ≡ false → Readies (tx_modify txcsrl.TxPktRdy h) h.regs
tx_readies h n = rw (n, eq-eqb (file.index h.regs) (file.index h.regs) refl) (ap (λ (s : Side). s.ready) (tx_readied (chosen h.regs In)))

zero_readies : (h : Log) → file.index h.regs ≡ 0 → Readies (zero_modify csr0l.TxPktRdy h) h.regs
zero_readies h p = at (file.index h.regs) p
  where
    at : (i : ℕ) → i ≡ 0 → (leaves (zero_modify csr0l.TxPktRdy h) i i In (side_at h.regs i In)).ready ≡ true
    at i z = rw z (ap (λ (s : Side). s.ready) (zero_readied h.regs))

module _ (k : Record) (ep n : ℕ) (l : List ℕ) (s : Passes k l) (i : ep < length (rows k.regs.board)) (six : Whole k.regs.words) where
  abbrev b : Board
  b = k.regs.board

  abbrev begun : Log
  begun = log k.regs.words l 0

  abbrev chose : Log
  chose = write_index ep begun

  abbrev Path : ℕ → Log → Type 0
  Path c h = Reached (Careful b) begun false c h

  abbrev Fine : Bool → After → Type 0
  Fine e o = Account (Careful b) e k l (leaving k o) o.log.list o.log.count

  -- DataEnd is stored where the data that the state s has are at an end
  abbrev Closes : ControlStateEnum → After → Type 0
  Closes s o = Fine (ends s o.control.state) o

  selects : Path 1 chose
  selects = then none (one (index ep)) ((i, tt), inl tt)

  -- the endpoint is selected, also once the packet stands in its area
  chosen_at : file.index chose.regs ≡ ep
  chosen_at = (rest (index ep) begun six).selected

  chosen_is : file.index (does (packet n) chose).regs ≡ ep
  chosen_is = (rest (packet n) chose ((rest (index ep) begun six).whole ∙ six)).selected ∙ chosen_at

  module _ (fits : n ≤ (area_in b ep In).size) where
    room : n ≤ (area_at (rows b) (file.index chose.regs) In).size
    unfolding area_in
    room = rw chosen_at fits

    other_path : eqb ep 0 ≡ false → Path 3 (modify_txcsrl txcsrl.TxPktRdy (loaded ep n begun))
    unfolding loaded
    other_path z =
        rw (modify_txcsrl_lem txcsrl.TxPktRdy (does (packet n) chose))
        (then selects (steps.sent n (tx_modify txcsrl.TxPktRdy (does (packet n) chose)))
        ((record { fits = room; proper = tt; readies = tx_readies (does (packet n) chose) (rw chosen_is z) }, tx_modified txcsrl.TxPktRdy (does (packet n) chose).regs), tt))

    zero_path : ep ≡ 0 → Path 3 (modify_csr0l csr0l.TxPktRdy (loaded ep n begun))
    unfolding loaded
    zero_path z =
        let mid = does (packet n) chose in
        rw (modify_csr0l_lem csr0l.TxPktRdy mid)
        (subst (λ (x : Bool). Reached (Careful b) begun x 3 (does (zero_modify csr0l.TxPktRdy mid) mid)) (sets_data_end csr0l.TxPktRdy mid.regs)
        (then selects (steps.sent n (zero_modify csr0l.TxPktRdy mid)) ((record { fits = room; proper = tt; readies = zero_readies mid (chosen_is ∙ z) }, tt), tt)))

  empty_path : n ≡ 0 → Path 3 (loaded ep n begun)
  unfolding loaded
  empty_path z = within (then selects (one (packet n)) ((z, tt), inl tt)) 3 (lit≤ tt)

  finish : {e : Bool} (c : ControlState) (f : Flags) (g : Log) {m : ℕ} → m ≤ 128 → Reached (Careful b) begun e m g → (Low b k.irq → Low b f) → Fine e (after c f g)
  finish c f g i r low = record { path = within r 128 i; board = refl; served = inr s; flags = low }

  closed : (c : ControlState) (g : Log) → Path 3 g → Fine true (ended c k.irq g)
  unfolding ended
  closed c g r = finish c k.irq _ {m = 4} (lit≤ tt) (zero_modifies r csr0l.DataEnd) (λ f. f)

  in_data : (t : ℕ) (g : Log) → k.control_state.state ≡ DataIn → Path 3 g → Closes DataIn (data_in n t k.control_state k.irq g)
  unfolding data_in ended
  in_data t g e r =
      let c = decreased k.control_state n in
      by_test (Closes DataIn) (eqb c.tx_len 0) (closed _ g r)
      (by_test (Closes DataIn) (ltb n t) (closed _ g r) (subst (λ (s : ControlStateEnum). Fine (ends DataIn s) (after c k.irq g)) (sym e) (finish c k.irq g {m = 3} (lit≤ tt) r (λ f. f))))

  -- endpoint 0: reply 11 came before wherever a packet would stay without its ready bit
  at_zero : (t : ℕ) (s : ControlStateEnum) → k.control_state.state ≡ s → ep ≡ 0 → n ≤ (area_in b ep In).size → untaken_in s n ≡ false
      → Closes s (sent_zero s n t k.control_state k.irq (loaded ep n begun))
  unfolding sent_data_in nodata_phase accepted
  at_zero t NodataPhase e z h w = finish _ _ _ {m = 3} (lit≤ tt) (empty_path (is_empty n w)) (λ f. (raised_lt _ _ 0 f.0 (at_least_one b), f.1))
  at_zero t DataIn e z h w = in_data t _ e (zero_path h z)
  at_zero t Idle e z h w = finish _ k.irq _ {m = 3} (lit≤ tt) (empty_path (is_empty n w)) (λ f. f)
  at_zero t Setup e z h w = clash w
  at_zero t DataOut e z h w = clash w
  at_zero t Accepted e z h w = clash w

  sends : (t : ℕ) → n ≤ (area_in b ep In).size → not_writable k ep n ≡ false → Closes k.control_state.state (sent ep n t k.control_state k.irq (loaded ep n begun))
  unfolding sent sent_other tests.not_writable
  sends t h w = go (eqb ep 0) refl w
    where
      go : (z : Bool) → eqb ep 0 ≡ z → (z && untaken_in k.control_state.state n) ≡ false
          → Closes k.control_state.state (cond z (sent_zero k.control_state.state n t k.control_state k.irq (loaded ep n begun))
          (sent_other k.control_state k.irq (loaded ep n begun)))
      go true p u = at_zero t k.control_state.state refl (eqb-true ep 0 p) h u
      go false p u = rw (no_end k.control_state.state) (finish k.control_state k.irq _ {m = 3} (lit≤ tt) (other_path h p) (λ f. f))

module _ (k : Record) (ep : ℕ) (b f l : List ℕ) (six : Whole k.regs.words) where
  not_long : too_long k ep (length b) ≡ false → length b ≤ (area_in k.regs.board ep In).size
  unfolding tests.too_long
  not_long p = ltb-false _ _ p

  -- the call by its tests, one beside the other
  abbrev by : Verdict → WriteOutcome
  by v = outcome k (write_by v k.regs.board k.control_state k.irq (tx_size k) ep b f (log k.regs.words l 0))

  abbrev tested : Verdict
  tested =
      tests_by (admission_by (short k (length f) (length l)) (record_sound k) (leb (endpoints_of k) ep))
      (own_tests (uncollected k ep) (too_long k ep (length b)) (not_writable k ep (length b)))

  abbrev Accounted : WriteOutcome → Type 0
  Accounted o =
      Account (Careful k.regs.board) (ends k.control_state.state o.result.«record».control_state.state) k l o.result.«record» o.list o.result.stores

  abbrev same : ends k.control_state.state k.control_state.state ≡ false
  same = no_end k.control_state.state

  by_row : {m : ℕ} → WriteCase k ep (length b) (length f) (length l) m → Accounted (by tested)
  unfolding write_done blocked
  by_row (granted a s t u) =
      rw (a.lent, a.passes, a.there, s, t, u) (sends k ep (length b) l (lent_passes k f l a.passes a.lent) (there k ep a.there) six (tx_size k) (not_long t) u)
  by_row (blocks a s) =
      let p = lent_passes k f l a.passes a.lent in
      rw (a.lent, a.passes, a.there, s, same) (stores l _ p (within (selects k ep (length b) l p (there k ep a.there) six) 128 (lit≤ tt)) refl refl refl)
  by_row (beyond p q r) = rw (p, q, r, same) (left refl refl)
  by_row (long a s t) = rw (a.lent, a.passes, a.there, s, t, same) (left refl refl)
  by_row (untaken a s t u) = rw (a.lent, a.passes, a.there, s, t, u, same) (left refl refl)
  by_row (little p) = rw (p, same) (left refl refl)
  by_row (unsound p q) = rw (p, q, same) (left refl refl)

  pub write : Accounted (write_call k ep b f l)
  write =
      subst Accounted
      (sym (call_is k ep b f l ∙ ap by (tests_are k ep (length b) (length f) (length l)))) (by_row ((exactly k ep b f l _).0 refl))
