-- The walk of a poll reads the RxPktRdy that stood before the poll: the overrun check, endpoint 0's step and the walk's own stores keep
-- every packet that waits. Assumes nothing.
use mathlib.Core.Path.{◌≡◌, refl, sym, ap, ◌∙◌}
use mathlib.Core.Bool.{Bool, true, false, cond}
use mathlib.Core.List.{foldl}
use Prim.Native.Nat.{ℕ, zero, suc, ◌+◌, ◌-◌, ◌≤◌, ◌<◌}
use native.Mathlib.Nat.{le_refl}
use native.Mathlib.Omega.{arith}
use native.Mathlib.Decide.{ℕ_discrete}
use lib.Dec.{eqb, lit<}
use borrow.Author.Tests.{eq-eqb, ne_eqb}
use Rattle.board.specs.declared.Direction.TheVariants.{Out}
use Rattle.csr.specs.declared.Side.{Side}
use Rattle.csr.specs.declared.Csr0l.{Csr0l}
use Rattle.csr.specs.declared.Csr0lSet.TheVariants.{ServicedSetupEnd}
use Rattle.csr.specs.declared.TxcsrlSet.TheVariants.{NoUnderRun}
use Rattle.csr.specs.declared.RxcsrlSet.TheVariants.{NoOverRun}
use Rattle.register_file.specs.Registers as file
use Rattle.register_file.specs.Registers.{File, Whole, side_at, chosen}
use Rattle.register_file.specs.Control.{csr0l_read, count0, txcsrl_read, rxcsrl_read}
use Rattle.csr.specs.Control.{csr0l_set, txcsrl_set, rxcsrl_of, rxcsrl_set, rx_stored}
use Rattle.csr.specs.Sound.{SideOk}
use Rattle.register_file.proofs.Readings.{reselected}
use Rattle.csr.proofs.Modified.{rx_repaired}
use Rattle.register_file.proofs.Modified.{zero_still_waits}
use Rattle.store_rules.specs.Stores.{Log, write_index, modify_csr0l, modify_txcsrl, modify_rxcsrl}
use Rattle.store_rules.specs.Promise.{Store, index, csr0l, txcsrl, rxcsrl, does, leaves, selects}
use Rattle.store_rules.proofs.Promises.{sides, rest, index_selects, modify_csr0l_lem, modify_txcsrl_lem, modify_rxcsrl_lem}
use Rattle.common_rules.specs.Overrun.{under_run_cleared, over_run_cleared, repaired, repaired_below, check_overrun}
use Rattle.laws.specs.Lists.{numbers}
use Rattle.control_state.specs.declared.ControlState.{ControlState}
use Rattle.control_state.specs.declared.ControlStateEnum.{ControlStateEnum}
use Rattle.control_state.specs.declared.ControlStateEnum.TheVariants.{Idle, Setup, DataIn, DataOut, Accepted, NodataPhase}
use Rattle.record.specs.declared.Flags.{Flags}
use Rattle.record.specs.Record.{with_ep0}
use Rattle.transfer_rules.proofs.Readings.{rx_ready}
use Rattle.round_rules.specs.Zero.{Round, round, setup_taken, restarted, cut_short, received_by, zero_by, zero_served, endpoint_zero}
use Rattle.round_rules.specs.Walk.{ready_at, walked}
use Rattle.round_rules.proofs.Drained.{left_by, walked_left}
use Rattle.csr.specs.Kept.{SamePacket}

-- what endpoint 0's step stores to CSR0L
abbrev setup_end_serviced : File → Csr0l
setup_end_serviced r = csr0l_set ServicedSetupEnd (csr0l_read r)

same : (s : Side) → SamePacket s s
same s = record { ready = refl; length = refl }

equal : {s t : Side} → t ≡ s → SamePacket s t
equal p = record { ready = ap (λ (x : Side). x.ready) p; length = ap (λ (x : Side). x.len) p }

-- r: the registers before the poll; of each receive side, what reply 16 asks of a side with nothing waiting
module _ (r : File) (none : (e : ℕ) → (side_at r e Out).ready ≡ false → (side_at r e Out).len ≡ 0) where
  -- every endpoint has the packet that waited in r
  pub record Waits (h : Log) : Type 0 where
    pub six : Whole h.regs
    pub low : file.index h.regs < 6
    pub packet : (e : ℕ) → SamePacket (side_at r e Out) (side_at h.regs e Out)

  -- a store that leaves the receive sides' packets
  keeps : (o : Store) (h : Log) → Waits h → selects o (file.index h.regs) < 6
      → ((e : ℕ) → SamePacket (side_at h.regs e Out) (leaves o (file.index h.regs) e Out (side_at h.regs e Out))) → Waits (does o h)
  keeps o h w low side =
      let k = rest o h w.six in
      record {
        six = k.whole ∙ w.six;
        low = omega (arith, k.selected, low);
        packet = λ e.
            let p = sides o h e Out w.six w.low in
            record {
              ready = ap (λ (x : Side). x.ready) p ∙ (side e).ready ∙ (w.packet e).ready;
              length = ap (λ (x : Side). x.len) p ∙ (side e).length ∙ (w.packet e).length;
            };
      }

  indexed : (e : ℕ) (h : Log) → e < 6 → Waits h → Waits (write_index e h)
  indexed e h low w = keeps (index e) h w low (λ i. same (side_at h.regs i Out))

  -- the transmit side's register leaves the receive side alone
  under : (h : Log) → Waits h → Waits (under_run_cleared h)
  unfolding under_run_cleared
  under h w = go (txcsrl_read h.regs).under_run
    where
      either : (s : Side) (a b : Bool) → SamePacket s (cond a s (cond b s s))
      either s true b = same s
      either s false true = same s
      either s false false = same s

      go : (b : Bool) → Waits (cond b (modify_txcsrl NoUnderRun h) h)
      go true =
          rw (modify_txcsrl_lem NoUnderRun h)
          (keeps (txcsrl (txcsrl_set NoUnderRun (txcsrl_read h.regs))) h w w.low (λ e. either (side_at h.regs e Out) (eqb (file.index h.regs) 0) (eqb e (file.index h.regs))))
      go false = w

  -- a repaired overrun keeps the packet, for one that waits is written as it was read
  over : (h : Log) → Waits h → Waits (over_run_cleared h)
  unfolding over_run_cleared
  over h w = go (rxcsrl_read h.regs).over_run
    where
      ok : (e : ℕ) → SideOk (side_at h.regs e Out).len (side_at h.regs e Out)
      ok e = record { fits = le_refl _; none = λ p. (w.packet e).length ∙ none e (sym (w.packet e).ready ∙ p) }

      repairs : (s t : Side) → SideOk s.len s → t ≡ s → SamePacket s (rx_stored (rxcsrl_set NoOverRun (rxcsrl_of t)) s)
      repairs s t k p = rw p (let q = rx_repaired s.len s k in record { ready = ap (λ (x : Side). x.ready) q; length = ap (λ (x : Side). x.len) q })

      spared : (a : Bool) (s t : Side) → SamePacket s t → SamePacket s (cond a s t)
      spared true s t p = same s
      spared false s t p = p

      side : (e : ℕ) → Dec (e ≡ file.index h.regs)
          → SamePacket (side_at h.regs e Out) (cond (eqb e (file.index h.regs)) (rx_stored (rxcsrl_set NoOverRun (rxcsrl_read h.regs)) (side_at h.regs e Out)) (side_at h.regs e Out))
      side e (yes p) = rw (eq-eqb e (file.index h.regs) p) (repairs (side_at h.regs e Out) (chosen h.regs Out) (ok e) (ap (λ (i : ℕ). side_at h.regs i Out) (sym p)))
      side e (no n) = rw (ne_eqb e (file.index h.regs) n) (same (side_at h.regs e Out))

      go : (b : Bool) → Waits (cond b (modify_rxcsrl NoOverRun h) h)
      go true =
          rw (modify_rxcsrl_lem NoOverRun h)
          (keeps (rxcsrl (rxcsrl_set NoOverRun (rxcsrl_read h.regs))) h w w.low (λ e. spared (eqb (file.index h.regs) 0) _ _ (side e (ℕ_discrete e (file.index h.regs)))))
      go false = w

  all_repaired : (m i : ℕ) (h : Log) → i + m ≤ 6 → Waits h → Waits (foldl repaired h (numbers i m))
  unfolding numbers repaired
  all_repaired zero i h low w = w
  all_repaired (suc m) i h low w = all_repaired m (suc i) (repaired h i) (omega arith) (over _ (under _ (indexed i h (omega arith) w)))

  pub overrun_checked : (n : ℕ) (h : Log) → n ≤ 6 → Waits h → Waits (check_overrun n h)
  unfolding check_overrun repaired_below
  overrun_checked n h low w = all_repaired (n - 1) 1 h (omega arith) w

  -- endpoint 0's step: its only store besides the selection services a setup end
  serviced : (h : Log) → Waits h → Waits (modify_csr0l ServicedSetupEnd h)
  serviced h w =
      rw (modify_csr0l_lem ServicedSetupEnd h) (keeps (csr0l (setup_end_serviced h.regs)) h w w.low (λ e. side e (ℕ_discrete e 0)))
    where
      side : (e : ℕ) → Dec (e ≡ 0)
          → SamePacket (side_at h.regs e Out) (leaves (csr0l (setup_end_serviced h.regs)) (file.index h.regs) e Out (side_at h.regs e Out))
      side e (yes p) = rw (eq-eqb e 0 p) (rw p (equal (zero_still_waits h.regs)))
      side e (no n) = rw (ne_eqb e 0 n) (same (side_at h.regs e Out))

  either : (b : Bool) (x y : Round) → Waits x.log → Waits y.log → Waits (cond b x y).log
  either true x y p q = p
  either false x y p q = q

  module _ (c : ControlState) (f : Flags) where
    received : (s : ControlStateEnum) (h : Log) → Waits h → Waits (received_by s h c f).log
    unfolding received_by setup_taken cut_short restarted
    received Idle h w = either (eqb (count0 h.regs) 8) _ _ (serviced h w) w
    received DataIn h w = either (csr0l_read h.regs).setup_end _ _ (either (eqb (count0 h.regs) 8) _ _ (serviced h w) (serviced h w)) w
    received DataOut h w = w
    received Setup h w = w
    received Accepted h w = w
    received NodataPhase h w = w

    by_ready : (rx tx : Bool) (h : Log) → Waits h → Waits (zero_by rx tx h c f).log
    by_ready true tx h w = received c.state h w
    by_ready false false h w = w
    by_ready false true h w = w

  served : (c : ControlState) (f : Flags) (h : Log) → Waits h → Waits (zero_served h c f).log
  unfolding zero_served
  served c f h w = by_ready c (with_ep0 f false) (csr0l_read h.regs).rx_pkt_rdy (csr0l_read h.regs).tx_pkt_rdy h w

  pub zero_served_lem : (c : ControlState) (f : Flags) (h : Log) → Waits h → Waits (endpoint_zero h c f).log
  unfolding endpoint_zero
  zero_served_lem c f h w = either f.ep0 (zero_served (write_index 0 h) c f) (round h c f false) (served c f (write_index 0 h) (indexed 0 h (lit< tt) w)) w

  -- the walk
  abbrev Known : Log → Type 0
  Known h = (e : ℕ) → (side_at h.regs e Out).ready ≡ (side_at r e Out).ready

  known : (e : ℕ) (h : Log) → Known h → Known (write_index e h)
  known e h k i = ap (λ (q : File). (side_at q i Out).ready) (index_selects e h) ∙ ap (λ (s : Side). s.ready) (reselected h.regs e i Out) ∙ k i

  reads : (e : ℕ) (h : Log) → Known h → ready_at e (write_index e h).regs ≡ (side_at r e Out).ready
  unfolding ready_at
  reads e h k = ap (ready_at e) (index_selects e h) ∙ rx_ready h.regs e ∙ k e

  pub walk_leaves : (flags : ℕ) (h : Log) → Waits h → (walked flags h).out ≡ left_by flags (λ e. (side_at r e Out).ready)
  walk_leaves flags h w = walked_left flags (λ e. (side_at r e Out).ready) Known known reads h (λ e. (w.packet e).ready)
