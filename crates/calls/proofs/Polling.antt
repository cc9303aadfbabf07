-- The account of `poll`: the overrun check, endpoint 0, and the index stores of the walk; and its flags. Assumes nothing.
use Rattle.std.specs.Prelude.{Err, Ok}
use Prim.Native.Nat.{ℕ, zero, suc, ◌+◌, ◌-◌, ◌*◌, ◌^◌, ◌≤◌, ◌<◌}
use mathlib.Core.Path.{◌≡◌, refl, sym, ◌∙◌}
use mathlib.Core.Bool.{Bool, true, false, cond}
use mathlib.Core.List.{List, [], ◌∷◌, foldl}
use mathlib.Core.Logic.{inl, inr}
use native.Mathlib.Omega.{arith}
use native.Mathlib.Nat.{div-eq_of_lt, pow-le-pow_right, le_trans, lt_of_not-le, zero-lt-suc}
use native.Mathlib.Decide.{dec_le}
use borrow.Author.Tests.{ltb-false}
use lib.Dec.{eqb, ltb}
use lib.ListN.{length}
use lib.Pow.{pow_pos}
use Rattle.laws.specs.Words.{bit, raised, clear, bits_below, set_bits}
use Rattle.laws.proofs.Words.{raised_lt, six_bits}
use Rattle.board.specs.declared.Board.{Board}
use Rattle.board.specs.Boards.{rows, at_least_one, at_most_six}
use Rattle.csr.specs.declared.Csr0lSet.TheVariants.{ServicedSetupEnd}
use Rattle.csr.specs.declared.TxcsrlSet.TheVariants.{NoUnderRun}
use Rattle.register_file.specs.Control.{csr0l_read, txcsrl_read, rxcsrl_read, count0}
use Rattle.store_rules.specs.Stores.{Log, log, write_index}
use Rattle.store_rules.specs.Promise.{index}
use Rattle.common_rules.specs.Overrun.{under_run_cleared, over_run_cleared, repaired, repaired_below, check_overrun}
use Rattle.laws.specs.Lists.{numbers}
use Rattle.control_state.specs.declared.ControlState.{ControlState}
use Rattle.control_state.specs.declared.ControlStateEnum.{ControlStateEnum}
use Rattle.control_state.specs.declared.ControlStateEnum.TheVariants.{Idle, Setup, DataIn, DataOut, Accepted, NodataPhase}
use Rattle.record.specs.declared.Flags.{Flags}
use Rattle.record.specs.declared.Record.{Record}
use Rattle.record.specs.Record.{record_sound, admission_by, endpoints_in, with_ep0, Reply}
use Rattle.record.proofs.Passing.{record_is_sound}
use Rattle.record.proofs.Rows.{none_refused}
use Rattle.round_rules.specs.Zero.{Round, round, sent_by, setup_taken, restarted, cut_short, received_by, zero_by, zero_served, endpoint_zero, put_back, accepted_by, accept_step}
use Rattle.round_rules.specs.Walk.{Walk, walk, ready_at, drained, visit, walked}
use Rattle.round_rules.specs.Poll.{PollOutcome, After, outcome_of, ended, walked_on, accepted_on, round_out, poll_by, poll_logged, poll_served, poll_when, poll_admitted, poll_call}
use Rattle.laws.proofs.Tests.{clash}
use Rattle.calls.proofs.Steps.{Reached, none, then, within, one, Careful}
use Rattle.calls.proofs.Accounts.{Low, Account, left, by_test, at_most, tx_modifies, rx_repairs, zero_modifies}

-- words below 2 ^ n: their set bits are below n, and a bit cleared makes none above
cleared_low : (m w e : ℕ) → w < m → clear w e < m
unfolding clear
cleared_low m w e h = go (bit w e)
  where
    go : (b : Bool) → cond b (w - 2 ^ e) w < m
    go true = omega arith
    go false = h

high_bit : (n w e : ℕ) → w < 2 ^ n → n ≤ e → bit w e ≡ false
unfolding bit
high_bit n w e h i = rw (div-eq_of_lt {n = w} {m = 2 ^ e} (le_trans h (pow-le-pow_right (zero-lt-suc 1) i)))

abbrev AllBelow : ℕ → List ℕ → Type 0
AllBelow n [] = Unit
AllBelow n (e ∷ es) = (e < n) × AllBelow n es

bits_below_lem : (n w m : ℕ) (l : List ℕ) → w < 2 ^ n → AllBelow n l → AllBelow n (bits_below w m l)
unfolding bits_below
bits_below_lem n w zero l h a = a
bits_below_lem n w (suc m) l h a = bits_below_lem n w m (cond (bit w m) (m ∷ l) l) h (go (bit w m) refl)
  where
    go : (b : Bool) → bit w m ≡ b → AllBelow n (cond b (m ∷ l) l)
    go false p = a
    go true p = (low (dec_le n m), a)
      where
        low : Dec (n ≤ m) → m < n
        low (yes i) = clash (sym p ∙ high_bit n w m h i)
        low (no i) = lt_of_not-le i

set_below : (n w : ℕ) → w < 2 ^ n → AllBelow n (set_bits w)
unfolding set_bits
set_below n w h = bits_below_lem n w 6 [] h tt

module _ (b : Board) (g : Log) where
  abbrev Path : ℕ → Log → Type 0
  Path c h = Reached (Careful b) g false c h

  -- the overrun check
  repair : {c : ℕ} (h : Log) (e : ℕ) → e < length (rows b) → Path c h → Path (c + 3) (repaired h e)
  unfolding repaired under_run_cleared over_run_cleared
  repair {c} h e i r =
      let p = then r (one (index e)) ((i, tt), inl tt) in
      let q = at_most (c + 2) (txcsrl_read (write_index e h).regs).under_run (tx_modifies p NoUnderRun) p (omega arith) (omega arith) in
      at_most (c + 3) (rxcsrl_read (under_run_cleared (write_index e h)).regs).over_run (rx_repairs q) q (omega arith) (omega arith)

  pub repair_all : (m i : ℕ) {c : ℕ} (h : Log) → i + m ≤ length (rows b) → Path c h → Path (c + m * 3) (foldl repaired h (numbers i m))
  unfolding numbers
  repair_all zero i {c} h k r = within r (c + 0 * 3) (omega arith)
  repair_all (suc m) i {c} h k r = within (repair_all m (suc i) (repaired h i) (omega arith) (repair h i (omega arith) r)) (c + suc m * 3) (omega arith)

  -- what a step of the round leaves
  abbrev Fine : ℕ → Round → Type 0
  Fine c o = Path c o.log × Low b o.irq

  raise : (w : ℕ) → w < 2 ^ length (rows b) → raised w 0 < 2 ^ length (rows b)
  raise w h = raised_lt (length (rows b)) w 0 h (at_least_one b)

  module _ {m : ℕ} (h : Log) (c : ControlState) (f : Flags) (r : Path m h) (low : Low b f) where
    stays : Path (m + 1) h
    stays = within r (m + 1) (omega arith)

    taken_fine : Fine (m + 1) (setup_taken h c f)
    unfolding setup_taken
    taken_fine = by_test (Fine (m + 1)) (eqb (count0 h.regs) 8) (zero_modifies r ServicedSetupEnd, low) (stays, low)

    restart_fine : Fine (m + 1) (restarted h c f)
    unfolding restarted
    restart_fine = by_test (Fine (m + 1)) (eqb (count0 h.regs) 8) (zero_modifies r ServicedSetupEnd, low) (zero_modifies r ServicedSetupEnd, low)

    cut_fine : Fine (m + 1) (cut_short h c f)
    unfolding cut_short
    cut_fine = by_test (Fine (m + 1)) (csr0l_read h.regs).setup_end restart_fine (stays, low)

    received_fine : (s : ControlStateEnum) → Fine (m + 1) (received_by s h c f)
    unfolding received_by
    received_fine Idle = taken_fine
    received_fine DataOut = (stays, (low.0, raise _ low.1))
    received_fine DataIn = cut_fine
    received_fine Setup = (stays, low)
    received_fine Accepted = (stays, low)
    received_fine NodataPhase = (stays, low)

    sent_low : (s : ControlStateEnum) → Low b (sent_by s f)
    unfolding sent_by
    sent_low DataIn = (raise _ low.0, low.1)
    sent_low Idle = low
    sent_low Setup = low
    sent_low DataOut = low
    sent_low Accepted = low
    sent_low NodataPhase = low

    by_bits : (rx tx : Bool) → Fine (m + 1) (zero_by rx tx h c f)
    by_bits true tx = received_fine c.state
    by_bits false false = (stays, sent_low c.state)
    by_bits false true = (stays, low)

  served_fine : {m : ℕ} (h : Log) (c : ControlState) (f : Flags) → Path m h → Low b f → Fine (m + 1) (zero_served h c f)
  unfolding zero_served
  served_fine h c f r low = by_bits h c (with_ep0 f false) r low (csr0l_read h.regs).rx_pkt_rdy (csr0l_read h.regs).tx_pkt_rdy

  zero_fine : {m : ℕ} (h : Log) (c : ControlState) (f : Flags) → Path m h → Low b f → Fine (m + 2) (endpoint_zero h c f)
  unfolding endpoint_zero
  zero_fine {m} h c f r low =
      by_test (Fine (m + 2)) f.ep0 {x = zero_served (write_index 0 h) c f} {y = round h c f false}
      (let z = served_fine (write_index 0 h) c f (then r (one (index 0)) ((at_least_one b, tt), inl tt)) low in (within z.0 (m + 2) (omega arith), z.1))
      (within r (m + 2) (omega arith), low)

  back_low : (f : Flags) → Low b f → Low b (put_back f)
  unfolding put_back
  back_low f low = by_test (Low b) (bit f.ep_rx 0) (low.0, cleared_low _ f.ep_rx 0 low.1) low

  accept_low : (s : ControlStateEnum) (c : ControlState) (f : Flags) → Low b f → Low b (accepted_by s c f).irq
  unfolding accepted_by
  accept_low Accepted c f low = let k = back_low f low in (raise _ k.0, k.1)
  accept_low Idle c f low = low
  accept_low Setup c f low = low
  accept_low DataIn c f low = low
  accept_low DataOut c f low = low
  accept_low NodataPhase c f low = low

  -- the walk: an index store at each set flag
  visits : (flags : ℕ) (es : List ℕ) {m : ℕ} (o : Walk) → flags < 2 ^ length (rows b) → AllBelow (length (rows b)) es → Path m o.log
      → o.out < 2 ^ length (rows b) → Path (m + length es) (foldl (visit flags) o es).log × ((foldl (visit flags) o es).out < 2 ^ length (rows b))
  unfolding visit drained
  visits flags [] {m} o h a r k = (within r (m + 0) (omega arith), k)
  visits flags (e ∷ es) {m} o h a r k =
      let v =
      visits flags es (visit flags o e) h a.1 (then r (one (index e)) ((a.0, tt), inl tt))
      (by_test (λ (w : ℕ). w < 2 ^ length (rows b)) (ready_at e (write_index e o.log).regs) k (cleared_low _ flags e h)) in
      (within v.0 (m + suc (length es)) (omega arith), v.1)

  abbrev Ends : ℕ → After → Type 0
  Ends m o = Path m o.log × Low b o.irq

  round_ends : {m : ℕ} (h : Log) (c : ControlState) (f : Flags) → Path m h → Low b f → Ends (m + 8) (round_out h c f)
  unfolding round_out accepted_on walked_on ended walked accept_step
  round_ends {m} h c f r low =
      let z = zero_fine h c f r low in
      let o = endpoint_zero h c f in
      let a = accept_low o.control.state o.control o.irq z.1 in
      let flags = (accepted_by o.control.state o.control o.irq).irq.ep_rx in
      let w = visits flags (set_bits flags) (walk o.log flags) a.1 (set_below _ flags a.1) z.0 a.1 in
      (within w.0 (m + 8) (omega (arith, six_bits flags)), (pow_pos _, w.1))

  by_flags : {m : ℕ} (x y z : Bool) (h : Log) (c : ControlState) (f : Flags) → Path m h → Low b f → Ends (m + 8) (poll_by x y z h c f)
  by_flags {m} true y z h c f r low = (within r (m + 8) (omega arith), low)
  by_flags {m} false true z h c f r low = (within r (m + 8) (omega arith), low)
  by_flags {m} false false true h c f r low = (within r (m + 8) (omega arith), low)
  by_flags false false false h c f r low = round_ends h c f r low

module _ (k : Record) (l : List ℕ) where
  abbrev board : Board
  board = k.regs.board

  abbrev start : Log
  start = log k.regs.words l 0

  low : record_sound k ≡ true → Low board k.irq
  low s = let t = record_is_sound k s in (t.tx, t.rx)

  abbrev when_served : After
  when_served = poll_served board start k.control_state k.irq

  ends : Low board k.irq → Ends board start 128 when_served
  unfolding poll_served poll_logged check_overrun repaired_below endpoints_in
  ends f =
      let p =
      by_flags board start k.irq.reset k.irq.resume k.irq.suspend _ k.control_state k.irq
      (repair_all board start (length (rows board) - 1) 1 start (omega (arith, at_least_one board)) none) f in
      (within p.0 128 (omega (arith, at_most_six board)), p.1)

  abbrev Accounted : PollOutcome → Type 0
  Accounted o = Account (Careful board) false k l o.result.«record» o.list o.result.stores

  pub poll : Accounted (poll_call k l)
  unfolding poll_call poll_admitted record_sound
  poll = go (admission_by (ltb (length l) 384) (record_sound k) false) refl
    where
      go : (t : Reply Unit) → admission_by (ltb (length l) 384) (record_sound k) false ≡ t
          → Accounted (outcome_of k (poll_when t board start k.control_state k.irq))
      go (Err x) e = left refl refl
      go (Ok tt) e =
          let t = none_refused (ltb (length l) 384) (record_sound k) false e in
          let p = ends (low t.1) in
          record { path = p.0; board = refl; served = inr (t.1, ltb-false _ _ t.0); flags = λ _. p.1 }
