-- What stalling, the reset call and a read leave of the packets that wait at endpoints 1 to 5. Assumes nothing.
use Prim.Native.Nat.{ℕ, zero, suc, ◌≤◌, ◌<◌}
use mathlib.Core.Path.{◌≡◌, refl, sym, ap, ◌∙◌}
use mathlib.Core.Bool.{Bool, true, false, not, cond, ◌&&◌, ◌||◌, and-false, and-true, or-false}
use mathlib.Core.List.{List}
use native.Mathlib.Omega.{arith}
use native.Mathlib.Decide.{ℕ_discrete}
use borrow.Author.Tests.{eqb-true, eq-eqb, ne_eqb}
use lib.Dec.{eqb}
use lib.ListN.{get_or}
use Rattle.laws.specs.Words.{raised}
use Rattle.board.specs.declared.Direction.{Direction}
use Rattle.board.specs.declared.Direction.TheVariants.{Out, In}
use Rattle.csr.specs.declared.Side.{Side}
use Rattle.csr.specs.declared.Csr0lSet.TheVariants.{ServicedBoth}
use Rattle.csr.specs.declared.TxcsrlSet.TheVariants as tx-set
use Rattle.csr.specs.declared.RxcsrlSet.TheVariants as rx-set
use Rattle.csr.specs.Control.{csr0l_bits, txcsrl_bits, rxcsrl_bits}
use Rattle.csr.proofs.AsWritten as written
use Rattle.csr.proofs.Modified.{rx_read, rx_flush}
use Rattle.register_file.specs.Registers.{File, enabled_of, chosen}
use Rattle.store_rules.specs.Stores.{Log, write_index, modify_csr0l, modify_rxcsrl, modify_intre}
use Rattle.store_rules.specs.Promise.{index, csr0l, csr0h, txcsrl, iso, maxp, intre}
use Rattle.store_rules.proofs.Promises.{modify_csr0l_lem, modify_txcsrl_lem, modify_rxcsrl_lem, modify_intre_lem}
use Rattle.endpoints.specs.declared.EndpointData.{EndpointData}
use Rattle.endpoints.specs.Endpoints.{blank}
use Rattle.common_rules.specs.Common.{selected, stall_csr0l, write_csrl, ep_tx_stall, ep_rx_stall}
use Rattle.common_rules.specs.Enable.{flushed_zero, enabled_zero, sized, settled, iso_written, waits, flush, flushed, enabled_other, enabled, ep_tx_enable, ep_rx_enable}
use Rattle.call_rules.specs.Reset.{tx_enabled, rx_enabled, used_enabled, enabled_below}
use Rattle.call_rules.specs.Stall.{ep_stall}
use Rattle.calls.proofs.Packets.{At, Left, apart, drops, told_by}
use Rattle.calls.proofs.Accounts.{by_test, tx_modify, zero_modify}

abbrev out : Direction → Bool
out Out = true
out In = false

-- those that pass the test, and that of endpoint i where the direction is out
abbrev pub and : Direction → ℕ → (ℕ → Bool) → ℕ → Bool
and d i gone e = (out d && eqb e i) || gone e

twice : (a b : Bool) → (a || (a || b)) ≡ (a || b)
twice true b = refl
twice false b = refl

-- every endpoint below n: those are gone that are used to receive
abbrev pub gone_below : List EndpointData → ℕ → ℕ → Bool
gone_below es zero e = false
gone_below es (suc n) e = ((get_or es n blank).used_rx && eqb e n) || gone_below es n e

module _ {r : File} where
  module _ {gone : ℕ → Bool} where
    -- the source's `write` of TXCSRL or RXCSRL, from zeros: the second "also drops a waiting packet at 1 to 5"
    csrl_leaves : (d : Direction) (s t : Bool) {i : ℕ} (h : Log) → At r i gone h → At r i (and d i gone) (write_csrl d s t h)
    unfolding write_csrl
    csrl_leaves Out s t h l = drops (rxcsrl_bits false false false false false s false t) h (written.rx_cleared _ (chosen h.regs Out) refl).0 l
    csrl_leaves In s t h l = apart (txcsrl (txcsrl_bits false false false false s false t)) h tt l.low l

    intre_leaves : (d : Direction) (e : ℕ) {i : ℕ} (h : Log) → At r i gone h → At r i gone (modify_intre d e h)
    intre_leaves Out e h l = rw (modify_intre_lem Out e h) (apart (intre Out (raised (enabled_of Out h.regs) e)) h tt l.low l)
    intre_leaves In e h l = rw (modify_intre_lem In e h) (apart (intre In (raised (enabled_of In h.regs) e)) h tt l.low l)

    serviced_leaves : {i : ℕ} (h : Log) → At r i gone h → At r i gone (modify_csr0l ServicedBoth h)
    serviced_leaves h l = rw (modify_csr0l_lem ServicedBoth h) (apart (zero_modify ServicedBoth h) h tt l.low l)

    zero_leaves : {i : ℕ} (h : Log) → At r i gone h → At r i gone (enabled_zero h)
    unfolding enabled_zero flushed_zero
    zero_leaves h l =
        apart csr0h (modify_csr0l ServicedBoth (modify_intre In 0 h)) tt l.low (serviced_leaves (modify_intre In 0 h) (intre_leaves In 0 h l))

  -- a flush of a side whose packet is gone already
  flush_leaves : (d : Direction) {i : ℕ} (gone : ℕ → Bool) (h : Log) → At r i (and d i gone) h → At r i (and d i gone) (flush d h)
  unfolding flush
  flush_leaves Out {i} gone h l =
      rw (modify_rxcsrl_lem rx-set.FlushFifo h)
      (told_by (λ e n. twice (eqb e i) (gone e))
      (drops _ h (ap (λ (s : Side). s.ready) (rx_flush (chosen h.regs Out)) ∙ (written.drops (chosen h.regs Out)).0) l))
  flush_leaves In gone h l = rw (modify_txcsrl_lem tx-set.FlushFifo h) (apart (tx_modify tx-set.FlushFifo h) h tt l.low l)

  module _ {gone : ℕ → Bool} where
    other_leaves : (d : Direction) (e : ℕ) (t : Bool) (size : ℕ) {i : ℕ} (h : Log) → At r i gone h → At r i (and d i gone) (enabled_other d e t size h)
    unfolding enabled_other settled sized iso_written flushed
    other_leaves d e t size {i} h l =
        let q = intre_leaves d e h l in
        let p = csrl_leaves d false true _ (apart (maxp d size) (modify_intre d e h) tt q.low q) in
        let o = by_test (At r i (and d i gone)) t (apart (iso d) _ tt p.low p) p in
        by_test (At r i (and d i gone)) (waits d _) (flush_leaves d gone _ (flush_leaves d gone _ o)) o

    -- an endpoint's two ways: 0, and the others
    ways : (d : Direction) (i : ℕ) (x y : Log) → (i ≡ 0 → At r i gone x) → At r i (and d i gone) y → At r i (and d i gone) (cond (eqb i 0) x y)
    ways d i x y at_zero other = go (eqb i 0) refl
      where
        go : (b : Bool) → eqb i 0 ≡ b → At r i (and d i gone) (cond b x y)
        go true p =
            let z = eqb-true i 0 p in
            told_by (λ e n. sym (rw (ne_eqb e i (λ q. n (q ∙ z))) (ap (λ (b : Bool). b || gone e) (and-false (out d))))) (at_zero z)
        go false p = other

    enabled_leaves : (d : Direction) (i : ℕ) (t : Bool) (size : ℕ) (h : Log) → i < 6 → Left r gone h → At r i (and d i gone) (enabled d i t size h)
    unfolding enabled selected
    enabled_leaves d i t size h low l =
        let q = apart (index i) h tt low l.1 in
        ways d i _ _ (λ z. zero_leaves _ q) (other_leaves d i t size _ q)

    pub stall_leaves : (d : Direction) (i : ℕ) (s : Bool) (h : Log) → i < 6 → Left r gone h → At r i (and d i gone) (ep_stall d i s h)
    unfolding ep_stall ep_tx_stall ep_rx_stall selected stall_csr0l
    stall_leaves Out i s h low l =
        let q = apart (index i) h tt low l.1 in
        ways Out i _ _ (λ z. apart (csr0l (csr0l_bits false false false false false s s false)) (write_index i h) tt low q) (csrl_leaves Out s (not s) _ q)
    stall_leaves In i s h low l =
        let q = apart (index i) h tt low l.1 in
        ways In i _ _ (λ z. apart (csr0l (csr0l_bits false false false false false s false false)) (write_index i h) tt low q) (csrl_leaves In s (not s) _ q)

    -- "drops the packet": the read of one of 1 to 5
    pub read_leaves : (i : ℕ) (h : Log) → At r i gone h → At r i (λ e. eqb e i || gone e) (modify_rxcsrl rx-set.NoRxPktRdy h)
    read_leaves i h l =
        rw (modify_rxcsrl_lem rx-set.NoRxPktRdy h)
        (drops _ h (ap (λ (s : Side). s.ready) (rx_read (chosen h.regs Out)) ∙ (written.drops (chosen h.regs Out)).0) l)

    tx_leaves : (i : ℕ) (p : EndpointData) (h : Log) → i < 6 → Left r gone h → Left r gone (tx_enabled i p h)
    unfolding tx_enabled ep_tx_enable
    tx_leaves i p h low l = by_test (Left r gone) p.used_tx (i, enabled_leaves In i _ _ h low l) l

    rx_leaves : (i : ℕ) (p : EndpointData) (h : Log) → i < 6 → Left r gone h → Left r (λ e. (p.used_rx && eqb e i) || gone e) (rx_enabled i p h)
    unfolding rx_enabled ep_rx_enable
    rx_leaves i p h low l = go p.used_rx
      where
        go : (u : Bool) → Left r (λ e. (u && eqb e i) || gone e) (cond u (ep_rx_enable i p.ep_conf h) h)
        go true = (i, enabled_leaves Out i _ _ h low l)
        go false = l

  pub all_leave : (es : List EndpointData) (n : ℕ) (h : Log) → n ≤ 6 → Left r (λ e. false) h → Left r (gone_below es n) (enabled_below es n h)
  unfolding enabled_below used_enabled
  all_leave es zero h low l = l
  all_leave es (suc n) h low l =
      let q = all_leave es n h (omega arith) l in
      rx_leaves n (get_or es n blank) _ low (tx_leaves n (get_or es n blank) _ low q)

none_above : (es : List EndpointData) (n e : ℕ) → n ≤ e → gone_below es n e ≡ false
none_above es zero e h = refl
none_above es (suc n) e h =
    rw (ne_eqb e n (λ p. omega arith))
    (ap (λ (b : Bool). b || gone_below es n e) (and-false (get_or es n blank).used_rx) ∙ none_above es n e (omega arith))

pub below : (es : List EndpointData) (n e : ℕ) → e < n → gone_below es n e ≡ (get_or es e blank).used_rx
below es zero e h = absurd (omega arith)
below es (suc n) e h = go (ℕ_discrete e n) (below es n e)
  where
    go : Dec (e ≡ n) → (e < n → gone_below es n e ≡ (get_or es e blank).used_rx) → gone_below es (suc n) e ≡ (get_or es e blank).used_rx
    go (yes p) later =
        rw (eq-eqb e n p, none_above es n e (omega arith))
        (or-false ((get_or es n blank).used_rx && true) ∙ and-true (get_or es n blank).used_rx ∙ ap (λ (j : ℕ). (get_or es j blank).used_rx) (sym p))
    go (no m) later = rw (ne_eqb e n m) (ap (λ (b : Bool). b || gone_below es n e) (and-false (get_or es n blank).used_rx) ∙ later (omega arith))
