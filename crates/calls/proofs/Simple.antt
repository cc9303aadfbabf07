-- The accounts of the simple calls: which stores each makes. Assumes nothing.
use Rattle.std.specs.Prelude.{Err, Ok, Option}
use Prim.Native.Nat.{ℕ, zero, suc, ◌+◌, ◌*◌, ◌<◌, ◌≤◌}
use mathlib.Core.Path.{◌≡◌, refl, subst}
use mathlib.Core.Bool.{Bool, true, false, not}
use mathlib.Core.List.{List, []}
use mathlib.Core.Logic.{inl}
use native.Mathlib.Omega.{arith}
use borrow.Author.Tests.{leb-true, ltb-false}
use lib.Dec.{eqb, leb, lit≤}
use lib.ListN.{length, get_or}
use Rattle.laws.specs.Words.{raised}
use Rattle.board.specs.declared.Board.{Board}
use Rattle.board.specs.declared.Direction.{Direction}
use Rattle.board.specs.declared.Direction.TheVariants.{Out, In}
use Rattle.board.specs.Boards.{rows, at_most_six}
use Rattle.csr.specs.declared.Csr0lSet.TheVariants.{ServicedBoth}
use Rattle.csr.specs.declared.TxcsrlSet.TheVariants as tx-set
use Rattle.csr.specs.declared.RxcsrlSet.TheVariants as rx-set
use Rattle.register_file.specs.Registers.{enabled_of}
use Rattle.register_file.proofs.Modified.{sets_data_end}
use Rattle.csr.specs.Control.{csr0l_bits, txcsrl_bits, rxcsrl_bits}
use Rattle.control_state.specs.declared.ControlState.{ControlState}
use Rattle.endpoints.specs.declared.EndpointData.{EndpointData}
use Rattle.endpoints.specs.declared.Ask.{Ask}
use Rattle.endpoints.specs.Endpoints.{blank}
use Rattle.store_rules.specs.Stores.{Log, modify_csr0l, modify_intre}
use Rattle.store_rules.specs.Promise.{does, faddr, power, index, csr0l, csr0h, txcsrl, rxcsrl, iso, maxp, intrusbe, intre}
use Rattle.store_rules.proofs.Promises.{modify_csr0l_lem, modify_txcsrl_lem, modify_rxcsrl_lem, modify_intre_lem}
use Rattle.common_rules.specs.Common.{bus_init, selected, stall_csr0l, write_csrl, ep_tx_stall, ep_rx_stall, is_stalled}
use Rattle.common_rules.specs.Enable.{flushed_zero, enabled_zero, sized, settled, iso_written, waits, flush, flushed, enabled_other, enabled, ep_tx_enable, ep_rx_enable}
use Rattle.record.specs.declared.Record.{Record}
use Rattle.record.specs.Record.{record_sound, endpoints_in, endpoints_of, admission_by, Reply}
use Rattle.record.proofs.Rows.{none_refused, unlike}
use Rattle.call_rules.specs.Calls.{CallOutcome, stored, unless, short, begun, beyond, bus_init_call, enable_call, idled, address_entry, address_call}
use Rattle.call_rules.specs.Reset.{tx_enabled, rx_enabled, used_enabled, enabled_below, reset_stores, reset_call}
use Rattle.call_rules.specs.Stall.{StalledOutcome, ep_stall, after_stall, set_stalled_call, stalled_of, unless_stalled, is_stalled_call}
use Rattle.call_rules.specs.Alloc.{unless_allocated, alloc_ep, alloc_ep_call}
use Rattle.calls.proofs.Steps.{Step, one, Reached, none, then, within, Sane, Careful}
use Rattle.calls.proofs.Accounts.{Account, Passes, left, stores, at_most, tx_modify, rx_modify, zero_modify, below}

-- the tests of a call, and of one at an endpoint
abbrev lent : Record → List ℕ → Reply Unit
lent k l = admission_by (short l) (record_sound k) false

abbrev lent_at : Record → ℕ → List ℕ → Reply Unit
lent_at k e l = admission_by (short l) (record_sound k) (beyond k e)

passes : (k : Record) (l : List ℕ) (x : Bool) → admission_by (short l) (record_sound k) x ≡ (Ok tt) → Passes k l
passes k l x c = let t = none_refused (short l) (record_sound k) x c in (t.1, ltb-false _ _ t.0)

-- the account of all that a call leaves
abbrev Called : (Step → Log → Type 0) → Record → List ℕ → CallOutcome → Type 0
Called May k l o = Account May false k l o.call.«record» o.list o.call.stores

abbrev Told : (Step → Log → Type 0) → Record → List ℕ → StalledOutcome → Type 0
Told May k l o = Account May false k l o.call.«record» o.list o.call.stores

-- a call that is refused stores nothing
module _ {May : Step → Log → Type 0} (k : Record) (l : List ℕ) where
  unless_refused : (c : ControlState) (g : Log) {m : ℕ} (t : Reply Unit) → (t ≡ (Ok tt) → Passes k l) → m ≤ 128 → (t ≡ (Ok tt) → Reached May (begun k l) false m g)
      → Called May k l (unless t k l (stored k c g))
  unless_refused c g (Err x) s i f = left refl refl
  unless_refused c g (Ok tt) s i f = stores l g (s refl) (within (f refl) 128 i) refl refl refl

  told_unless : (b : Bool) (g : Log) {m : ℕ} (t : Reply Unit) → (t ≡ (Ok tt) → Passes k l) → m ≤ 128 → (t ≡ (Ok tt) → Reached May (begun k l) false m g)
      → Told May k l (unless_stalled t k l (stalled_of k b g))
  told_unless b g (Err x) s i f = left refl refl
  told_unless b g (Ok tt) s i f = stores l g (s refl) (within (f refl) 128 i) refl refl refl

-- the calls that leave SendStall and what waits alone
module _ (k : Record) where
  abbrev b : Board
  b = k.regs.board

  pub alloc_ep_lem : (q : Ask) (w : Option ℕ) → Account (Careful b) false k [] (alloc_ep_call k q w).«record» [] 0
  unfolding alloc_ep_call alloc_ep
  alloc_ep_lem q w = go (admission_by false (record_sound k) false)
    where
      go : (t : Reply Unit) → Account (Careful b) false k [] (unless_allocated t k (alloc_ep k q w)).«record» [] 0
      go (Err x) = left refl refl
      go (Ok tt) = left refl refl

  pub bus_init_lem : (l : List ℕ) → Called (Careful b) k l (bus_init_call k l)
  unfolding bus_init_call bus_init
  bus_init_lem l =
      unless_refused k l k.control_state _ {m = 3} (lent k l) (passes k l false) (lit≤ tt)
      (λ c. then (then (then none (one intrusbe) ((tt, tt), inl tt)) (one (intre Out 254)) ((tt, tt), inl tt)) (one (intre In 255)) ((tt, tt), inl tt))

  pub enable : (l : List ℕ) → Called (Careful b) k l (enable_call k l)
  unfolding enable_call
  enable l = unless_refused k l k.control_state _ {m = 1} (lent k l) (passes k l false) (lit≤ tt) (λ c. then none (one (faddr 0)) ((lit≤ tt, tt), inl tt))

  pub set_device_address_lem : (a : ℕ) (l : List ℕ) → Called (Careful b) k l (address_call k a l)
  unfolding address_call
  set_device_address_lem a l =
      unless_refused k l k.control_state _ {m = 1} (address_entry (lent k l) (leb a 127))
      (λ c. passes k l false (passed (lent k l) (leb a 127) c).0) (lit≤ tt)
      (λ c. then none (one (faddr a)) ((leb-true a 127 (passed (lent k l) (leb a 127) c).1, tt), inl tt))
    where
      passed : (t : Reply Unit) (fits : Bool) → address_entry t fits ≡ (Ok tt) → (t ≡ (Ok tt)) × (fits ≡ true)
      passed (Err x) fits c = (c, unlike c)
      passed (Ok tt) true c = (refl, refl)
      passed (Ok tt) false c = unlike c

  pub is_stalled_lem : (e : ℕ) (d : Direction) (l : List ℕ) → Told (Careful b) k l (is_stalled_call k e d l)
  unfolding is_stalled_call
  is_stalled_lem e d l =
      told_unless k l (is_stalled d e (begun k l)) _ {m = 1} (lent_at k e l) (passes k l (beyond k e)) (lit≤ tt)
      (λ c. then none (one (index e)) ((below k e (short l) (record_sound k) c, tt), inl tt))

-- stalling and the reset call, which write SendStall
module _ (b : Board) (g : Log) where
  abbrev Made : ℕ → Log → Type 0
  Made c h = Reached (Sane b) g false c h

  csrl_made : (d : Direction) (s t : Bool) {c : ℕ} (h : Log) → Made c h → Made (c + 1) (write_csrl d s t h)
  unfolding write_csrl
  csrl_made Out s t h r = then r (one (rxcsrl (rxcsrl_bits false false false false false s false t))) tt
  csrl_made In s t h r = then r (one (txcsrl (txcsrl_bits false false false false s false t))) tt

  zero_made : (s t : Bool) {c : ℕ} (h : Log) → Made c h → Made (c + 1) (stall_csr0l s t h)
  unfolding stall_csr0l
  zero_made s t h r = then r (one (csr0l (csr0l_bits false false false false false s t false))) tt

  stall_made : (d : Direction) (e : ℕ) (s : Bool) {c : ℕ} (h : Log) → e < length (rows b) → Made c h → Made (c + 2) (ep_stall d e s h)
  unfolding ep_stall ep_tx_stall ep_rx_stall selected
  stall_made In e s {c} h i r =
      let q = then r (one (index e)) i in
      at_most (c + 2) (eqb e 0) (zero_made s false _ q) (csrl_made In s (not s) _ q) (omega arith) (omega arith)
  stall_made Out e s {c} h i r =
      let q = then r (one (index e)) i in
      at_most (c + 2) (eqb e 0) (zero_made s s _ q) (csrl_made Out s (not s) _ q) (omega arith) (omega arith)

  intre_made : (d : Direction) (e : ℕ) {c : ℕ} (h : Log) → Made c h → Made (c + 1) (modify_intre d e h)
  intre_made d e h r = rw (modify_intre_lem d e h) (then r (one (intre d (raised (enabled_of d h.regs) e))) tt)

  serviced_made : {c : ℕ} (h : Log) → Made c h → Made (c + 1) (modify_csr0l ServicedBoth h)
  serviced_made {c} h r =
      rw (modify_csr0l_lem ServicedBoth h)
      (subst (λ (x : Bool). Reached (Sane b) g x (c + 1) (does (zero_modify ServicedBoth h) h)) (sets_data_end ServicedBoth h.regs) (then r (one (zero_modify ServicedBoth h)) tt))

  enabled_zero_lem : {c : ℕ} (h : Log) → Made c h → Made (c + 3) (enabled_zero h)
  unfolding enabled_zero flushed_zero
  enabled_zero_lem {c} h r = within (then (serviced_made _ (intre_made In 0 h r)) (one csr0h) tt) (c + 3) (omega arith)

  flush_made : (d : Direction) {c : ℕ} (h : Log) → Made c h → Made (c + 1) (flush d h)
  unfolding flush
  flush_made Out h r = rw (modify_rxcsrl_lem rx-set.FlushFifo h) (then r (one (rx_modify rx-set.FlushFifo h)) tt)
  flush_made In h r = rw (modify_txcsrl_lem tx-set.FlushFifo h) (then r (one (tx_modify tx-set.FlushFifo h)) tt)

  enabled_other_lem : (d : Direction) (e : ℕ) (t : Bool) (size : ℕ) {c : ℕ} (h : Log) → Made c h → Made (c + 6) (enabled_other d e t size h)
  unfolding enabled_other settled sized iso_written flushed
  enabled_other_lem d e t size {c} h r =
      let q = csrl_made d false true _ (then (intre_made d e h r) (one (maxp d size)) tt) in
      let p = at_most (c + 4) t (then q (one (iso d)) tt) q (omega arith) (omega arith) in
      at_most (c + 6) (waits d _) (flush_made d _ (flush_made d _ p)) p (omega arith) (omega arith)

  enabled_made : (d : Direction) (e : ℕ) (t : Bool) (size : ℕ) {c : ℕ} (h : Log) → e < length (rows b) → Made c h → Made (c + 7) (enabled d e t size h)
  unfolding enabled selected
  enabled_made d e t size {c} h i r =
      let q = then r (one (index e)) i in
      at_most (c + 7) (eqb e 0) (enabled_zero_lem _ q) (enabled_other_lem d e t size _ q) (omega arith) (omega arith)

  used_made : (e : ℕ) (p : EndpointData) {c : ℕ} (h : Log) → e < length (rows b) → Made c h → Made (c + 14) (used_enabled e p h)
  unfolding used_enabled tx_enabled rx_enabled ep_tx_enable ep_rx_enable
  used_made e p {c} h i r =
      let q = at_most (c + 7) p.used_tx (enabled_made In e _ _ h i r) r (omega arith) (omega arith) in
      at_most (c + 14) p.used_rx (enabled_made Out e _ _ _ i q) q (omega arith) (omega arith)

  all_made : (es : List EndpointData) (n : ℕ) {c : ℕ} (h : Log) → n ≤ length (rows b) → Made c h → Made (c + n * 14) (enabled_below es n h)
  unfolding enabled_below
  all_made es zero {c} h i r = within r (c + 0 * 14) (omega arith)
  all_made es (suc n) {c} h i r = within (used_made n (get_or es n blank) _ i (all_made es n h (omega arith) r)) (c + suc n * 14) (omega arith)

-- each endpoint that is enabled or stalled is one of the board's
module _ (k : Record) where
  pub set_stalled_lem : (e : ℕ) (d : Direction) (s : Bool) (l : List ℕ) → Called (Sane k.regs.board) k l (set_stalled_call k e d s l)
  unfolding set_stalled_call
  set_stalled_lem e d s l =
      unless_refused k l (after_stall e s k.control_state) _ {m = 2} (lent_at k e l) (passes k l (beyond k e)) (lit≤ tt)
      (λ c. stall_made k.regs.board (begun k l) d e s (begun k l) (below k e (short l) (record_sound k) c) none)

  pub reset : (l : List ℕ) → Called (Sane k.regs.board) k l (reset_call k l)
  unfolding reset_call reset_stores endpoints_in endpoints_of
  reset l =
      unless_refused k l (idled k.control_state) _ {m = 1 + length (rows k.regs.board) * 14} (lent k l) (passes k l false)
      (omega (arith, at_most_six k.regs.board))
      (λ c. all_made k.regs.board (begun k l) k.endpoints (length (rows k.regs.board)) _ (omega arith) (then none (one power) tt))
