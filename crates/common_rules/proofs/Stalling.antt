-- Stalling and unstalling leave what specs/Stalling.antt says. Assumes nothing.
use Prim.Native.Nat.{ℕ, ◌+◌, ◌<◌}
use mathlib.Core.Path.{◌≡◌, refl, sym, ap, subst, ◌∙◌}
use mathlib.Core.Bool.{Bool, true, false, not, cond, and-true}
use native.Mathlib.Omega.{arith}
use borrow.Author.Tests.{ne_eqb}
use lib.Dec.{lit<}
use Rattle.board.specs.declared.Direction.{Direction}
use Rattle.board.specs.declared.Direction.TheVariants.{Out, In}
use Rattle.csr.specs.declared.Side.{Side}
use Rattle.csr.specs.declared.Csr0l.{Csr0l}
use Rattle.csr.specs.declared.Txcsrl.{Txcsrl}
use Rattle.csr.specs.declared.Rxcsrl.{Rxcsrl}
use Rattle.csr.specs.Control.{csr0l_bits, txcsrl_bits, rxcsrl_bits, tx_stored, rx_stored, zero_tx_stored, dropped}
use Rattle.csr.proofs.AsWritten.{tx_stall, rx_stall, zero_stall, sent_cleared, underrun_cleared, ready_kept, packet_kept, rx_sent_cleared, overrun_cleared, rx_cleared, drops, tx_rest, rx_rest, zero_ready_kept, zero_sent_cleared}
use Rattle.csr.proofs.Stored.{not_dropped, zero_packet_kept, tx_stall_number, rx_stall_number, zero_stall_number}
use Rattle.register_file.specs.Registers as file
use Rattle.register_file.specs.Registers.{Whole, side_at}
use Rattle.store_list.specs.Stores.{listed, INDEX, CSR0L}
use Rattle.store_rules.specs.Stores.{Log, write_index}
use Rattle.store_rules.specs.Promise.{Store, csr0l, txcsrl, rxcsrl, does, register, value}
use Rattle.store_rules.proofs.Promises.{sides, rest}
use Rattle.store_rules.proofs.Others.{others}
use Rattle.store_rules.proofs.Named.{named_enabled}
use Rattle.common_rules.specs.Common.{selected, stall_csr0l, write_csrl, ep_tx_stall, ep_rx_stall}
use Rattle.common_rules.specs.Kept.{SameRest}
use Rattle.common_rules.specs.Stalling.{Packet, csrl, stall_value, Stalls, Received, zero_value, StallsZero}
use Rattle.common_rules.proofs.Stands.{Stands, at_start, begin, Concerns, of_txcsrl, of_rxcsrl, next, rest_kept}

-- what a store from zeros makes of a side
pub record Halted (d : Direction) (stalled : Bool) (s t : Side) : Type 0 where
  pub packet : Packet d s t
  pub halt : t.stall ≡ stalled
  pub sent : t.stalled ≡ false
  pub missed : t.missed ≡ false
  pub iso : t.iso ≡ s.iso
  pub size : t.maxp ≡ s.maxp

abbrev pub tx_bits : Bool → Txcsrl
tx_bits b = txcsrl_bits false false false false b false (not b)

abbrev pub rx_bits : Bool → Rxcsrl
rx_bits b = rxcsrl_bits false false false false false b false (not b)

pub tx_halted : (b : Bool) (s : Side) → Halted In b s (tx_stored (tx_bits b) s)
tx_halted b s = record {
  packet = record { ready = ready_kept (tx_bits b) s refl refl; length = packet_kept (tx_bits b) s refl };
  halt = tx_stall (tx_bits b) s;
  sent = sent_cleared (tx_bits b) s refl;
  missed = underrun_cleared (tx_bits b) s refl;
  iso = (tx_rest (tx_bits b) s).0;
  size = (tx_rest (tx_bits b) s).1;
}

pub rx_halted : (b : Bool) (s : Side) → Halted Out b s (rx_stored (rx_bits b) s)
rx_halted b s = record {
  packet = record { ready = (rx_cleared (rx_bits b) s refl).0; length = (rx_cleared (rx_bits b) s refl).1 };
  halt = rx_stall (rx_bits b) s;
  sent = rx_sent_cleared (rx_bits b) s refl;
  missed = overrun_cleared (rx_bits b) s refl;
  iso = (rx_rest (rx_bits b) s).0;
  size = (rx_rest (rx_bits b) s).1;
}

-- endpoints 1 to 5: the index, and a store to the side
module _ (e : ℕ) (b : Bool) (g : Log) (six : Whole g.regs) (low : e < 6) (up : e ≡ 0 → ⊥) where
  stalled_by : (d : Direction) (o : Store) (f : Side → Side) → Concerns o d f → register o ≡ csrl d → value o ≡ stall_value d b
      → Halted d b (side_at g.regs e d) (f (side_at g.regs e d)) → Stalls d e b g (does o (write_index e g))
  stalled_by d o f t p q y =
      let k = next low (begin g e d six) up o f t in
      record {
        packet = subst (Packet d (side_at g.regs e d)) (sym k.here) y.packet;
        halt = ap (λ (s : Side). s.stall) k.here ∙ y.halt;
        sent = ap (λ (s : Side). s.stalled) k.here ∙ y.sent;
        missed = ap (λ (s : Side). s.missed) k.here ∙ y.missed;
        iso = ap (λ (s : Side). s.iso) k.here ∙ y.iso;
        size = ap (λ (s : Side). s.maxp) k.here ∙ y.size;
        others = k.elsewhere;
        ended = k.ended;
        enabled = k.enabled;
        rest = k.same;
        selected = k.selected;
        lists = record {
          list = k.list ∙ (λ i. listed (listed g.list g.count INDEX e e) (g.count + 1) (p i) e (q i));
          count = omega (arith, k.count);
        };
      }

  pub tx_stalls : Stalls In e b g (ep_tx_stall e b g)
  unfolding ep_tx_stall selected write_csrl
  tx_stalls = rw (ne_eqb e 0 up) (stalled_by In (txcsrl (tx_bits b)) _ (of_txcsrl (tx_bits b)) refl (tx_stall_number b) (tx_halted b _))

  pub rx_stalls : Stalls Out e b g (ep_rx_stall e b g)
  unfolding ep_rx_stall selected write_csrl
  rx_stalls = rw (ne_eqb e 0 up) (stalled_by Out (rxcsrl (rx_bits b)) _ (of_rxcsrl (rx_bits b)) refl (rx_stall_number b) (rx_halted b _))

-- endpoint 0: the index, and a store to CSR0L with SendStall b and ServicedRxPktRdy t
module _ (b : Bool) (g : Log) (six : Whole g.regs) where
  abbrev zero_bits : Bool → Csr0l
  zero_bits t = csr0l_bits false false false false false b t false

  abbrev before : Log
  before = write_index 0 g

  abbrev after : Bool → Log
  after t = does (csr0l (zero_bits t)) before

  start : Stands g 0 In before (λ (c : Direction). file.enabled_of c g.regs) (side_at g.regs 0 In) (listed g.list g.count INDEX 0 0) (g.count + 1)
  start = begin g 0 In six

  first : file.index before.regs < 6
  first = rw start.selected (lit< tt)

  module _ (t : Bool) where
    in_side_lem : side_at (after t).regs 0 In ≡ zero_tx_stored (zero_bits t) (side_at g.regs 0 In)
    in_side_lem = sides (csr0l (zero_bits t)) before 0 In start.six first ∙ ap (zero_tx_stored (zero_bits t)) (at_start g 0 0 In)

    out_side_lem : side_at (after t).regs 0 Out ≡ dropped t (side_at g.regs 0 Out)
    out_side_lem = sides (csr0l (zero_bits t)) before 0 Out start.six first ∙ ap (dropped t) (at_start g 0 0 Out)

    elsewhere : (f : ℕ) (c : Direction) → (f ≡ 0 → ⊥) → side_at (after t).regs f c ≡ side_at g.regs f c
    elsewhere f Out n = sides (csr0l (zero_bits t)) before f Out start.six first ∙ rw (ne_eqb f 0 n) (at_start g 0 f Out)
    elsewhere f In n = sides (csr0l (zero_bits t)) before f In start.six first ∙ rw (ne_eqb f 0 n) (at_start g 0 f In)

    enabled : (c : Direction) → file.enabled_of c (after t).regs ≡ file.enabled_of c g.regs
    enabled c = named_enabled (csr0l (zero_bits t)) before start.six c ∙ start.enabled c

    the_rest : SameRest g.regs (after t).regs
    the_rest = rest_kept (csr0l (zero_bits t)) before start.six (λ x. refl) (λ x. refl) (λ x. refl) start.same

    zero_by_lem : (d : Direction) → Received d b (side_at g.regs 0 Out) (side_at (after t).regs 0 Out) → value (csr0l (zero_bits t)) ≡ zero_value d b
        → StallsZero d b g (after t)
    zero_by_lem d y v =
        let k = others (csr0l (zero_bits t)) before start.six in
        let at = (rest (csr0l (zero_bits t)) before start.six).selected ∙ start.selected in
        record {
          sending = record {
            ready = ap (λ (s : Side). s.ready) in_side_lem ∙ zero_ready_kept (zero_bits t) _ refl;
            length = ap (λ (s : Side). s.len) in_side_lem ∙ zero_packet_kept (zero_bits t) _;
          };
          received = y;
          halt = ap (λ (s : Side). s.stall) in_side_lem ∙ zero_stall (zero_bits t) _;
          sent = ap (λ (s : Side). s.stalled) in_side_lem ∙ zero_sent_cleared (zero_bits t) _ refl;
          others = elsewhere;
          ended = k.ended ∙ and-true _ ∙ start.ended;
          enabled = enabled;
          rest = the_rest;
          selected = at;
          lists = record {
            list = k.list ∙ (λ i. listed (start.list i) (start.count i) CSR0L (at i) (v i));
            count = omega (arith, k.count, start.count);
          };
        }

  -- stalling in leaves the packet that was received; stalling out answers it
  kept_by : (s : Bool) (x : Side) {y : Side} → y ≡ dropped s x → Received Out s x y
  kept_by true x p = record { ready = ap (λ (s : Side). s.ready) p ∙ (drops _).0; length = ap (λ (s : Side). s.len) p ∙ (drops _).1 }
  kept_by false x p = p ∙ not_dropped _

  in_value : (s : Bool) → ◌≡◌ {A = ℕ} (cond s 32 0 + cond false 64 0) (cond s 32 0)
  in_value true = refl
  in_value false = refl

  out_value : (s : Bool) → ◌≡◌ {A = ℕ} (cond s 32 0 + cond s 64 0) (cond s 96 0)
  out_value true = refl
  out_value false = refl

  pub tx_stalls_zero : StallsZero In b g (ep_tx_stall 0 b g)
  unfolding ep_tx_stall selected stall_csr0l
  tx_stalls_zero = zero_by_lem false In (out_side_lem false ∙ not_dropped _) (zero_stall_number b false ∙ in_value b)

  pub rx_stalls_zero : StallsZero Out b g (ep_rx_stall 0 b g)
  unfolding ep_rx_stall selected stall_csr0l
  rx_stalls_zero = zero_by_lem b Out (kept_by b _ (out_side_lem b)) (zero_stall_number b b ∙ out_value b)
