-- Enabling an endpoint leaves what specs/Enabling.antt says. Assumes nothing.
use Prim.Native.Nat.{ℕ, ◌+◌, ◌^◌, ◌<◌}
use mathlib.Core.Path.{◌≡◌, refl, sym, ap, subst, ◌∙◌}
use mathlib.Core.Logic.{◌↔◌}
use mathlib.Core.Bool.{Bool, true, false, ◌||◌, cond, and-false, or-false, or-true}
use mathlib.Core.List.{List}
use native.Mathlib.Omega.{arith}
use borrow.Author.Tests.{eq-eqb, ne_eqb}
use lib.Dec.{eqb, lit<}
use lib.ListN.{length}
use Rattle.laws.specs.Words.{bit, raised}
use Rattle.laws.proofs.Words.{bit_or_lem}
use Rattle.laws.proofs.Range.{same, same→eq, grid_at}
use Rattle.board.specs.declared.Direction.{Direction}
use Rattle.board.specs.declared.Direction.TheVariants.{Out, In}
use Rattle.csr.specs.declared.Side.{Side}
use Rattle.csr.specs.declared.Csr0l.{Csr0l}
use Rattle.csr.specs.declared.Txcsrl.{Txcsrl}
use Rattle.csr.specs.declared.Csr0lSet.TheVariants as csr0l-set
use Rattle.csr.specs.declared.TxcsrlSet.TheVariants as txcsrl-set
use Rattle.csr.specs.Registers.{with_iso, with_maxp}
use Rattle.csr.specs.Control.{dropped, tx_stored, rx_stored, txcsrl_of, txcsrl_set, csr0l_set, txcsrl_number, csr0l_number}
use Rattle.csr.proofs.Sides.{out_in}
use Rattle.csr.proofs.AsWritten.{drops, not_empty_lem}
use Rattle.csr.proofs.Modified.{tx_flushed}
use Rattle.csr.proofs.Stored.{dropped_rest, tx_stall_number, rx_stall_number, tx_flush_number, both_serviced, both_number, dropped_twice}
use Rattle.register_file.specs.Registers as file
use Rattle.register_file.specs.Registers.{Whole, side_at, chosen, setupend, enabled_of}
use Rattle.register_file.specs.Control.{csr0l_read, txcsrl_read}
use Rattle.register_file.proofs.Readings.{tx_ready, rx_ready, same_csr0l}
use Rattle.register_file.proofs.Modified.{zero_kept}
use Rattle.register_file.proofs.AsWritten.{zero_read_zero}
use Rattle.endpoints.specs.declared.EndpointConfig.{EndpointConfig}
use Rattle.endpoints.specs.declared.EndpointType.{EndpointType}
use Rattle.endpoints.specs.declared.EndpointType.TheVariants.{Control, Isochronous, Bulk, Interrupt}
use Rattle.store_list.specs.Stores as Stores
use Rattle.store_list.specs.Stores.{listed, INDEX, CSR0L, CSR0H, TXCSRL, RXCSRL, INTRTXE}
use Rattle.store_rules.specs.Stores.{Log, write_index}
use Rattle.store_rules.specs.Promise.{csr0l, csr0h, txcsrl, rxcsrl, iso, maxp, intre, does}
use Rattle.store_rules.proofs.Promises.{sides, rest, modify_intre_lem, modify_csr0l_lem, modify_txcsrl_lem}
use Rattle.store_rules.proofs.Others.{others}
use Rattle.store_rules.proofs.Named.{named_enabled}
use Rattle.common_rules.specs.Common.{selected, write_csrl}
use Rattle.common_rules.specs.Kept.{SameRest, Stored, entered}
use Rattle.common_rules.proofs.Stands.{Stands, begin, words_with, enables, of_txcsrl, of_rxcsrl, of_iso, of_maxp, next, rest_kept, as_named}
use Rattle.common_rules.proofs.Stalling.{Halted, tx_bits, rx_bits, tx_halted, rx_halted}
use Rattle.common_rules.specs.Enable.{flushed_zero, enabled_zero, sized, settled, iso_written, waits, flush, flushed, enabled_other, enabled, isochronous, ep_tx_enable, ep_rx_enable}
use Rattle.common_rules.specs.Enabling.{Raised, enable_stores, Ready, Enables, EnablesZero}
use Rattle.csr.specs.Kept.{NoPacket, SameBits}

-- a word with one bit raised
power_bit : ℕ → ℕ → Bool
unfolding bit
power_bit e j = same (bit (2 ^ e) j) (eqb j e)

power_bit_lem : (e j : ℕ) → e < 6 → j < 16 → bit (2 ^ e) j ≡ eqb j e
unfolding power_bit
power_bit_lem e j h l = same→eq _ _ (grid_at power_bit 6 16 tt e j h l)

raises : (w e : ℕ) → e < 6 → Raised e w (raised w e)
unfolding raised
raises w e h = record {
  set = bit_or_lem w (2 ^ e) e ∙ ap (λ (b : Bool). bit w e || b) (power_bit_lem e e h (omega arith) ∙ eq-eqb e e refl) ∙ or-true (bit w e);
  others = λ j l n. bit_or_lem w (2 ^ e) j ∙ ap (λ (b : Bool). bit w j || b) (power_bit_lem e j h l ∙ ne_eqb j e n) ∙ or-false (bit w j);
}

-- ISO is asked for exactly where the type is isochronous
pub isochronous_exactly : (t : EndpointType) → isochronous t ≡ true ↔ t ≡ Isochronous
unfolding isochronous
isochronous_exactly Control = (λ p. let z : ◌≡◌ {A = ℕ} 0 1 = cc in absurd (omega arith), λ p. let z : ◌≡◌ {A = ℕ} 0 1 = cc in absurd (omega arith))
isochronous_exactly Isochronous = (λ p. refl, λ p. refl)
isochronous_exactly Bulk = (λ p. let z : ◌≡◌ {A = ℕ} 0 1 = cc in absurd (omega arith), λ p. let z : ◌≡◌ {A = ℕ} 0 1 = cc in absurd (omega arith))
isochronous_exactly Interrupt = (λ p. let z : ◌≡◌ {A = ℕ} 0 1 = cc in absurd (omega arith), λ p. let z : ◌≡◌ {A = ℕ} 0 1 = cc in absurd (omega arith))

-- the flush, where a packet waits and where none does
flush_runs : (d : Direction) (x : Log) → waits d x.regs ≡ true → flushed d x ≡ flush d (flush d x)
unfolding flushed
flush_runs d x p = rw p

flush_rests : (d : Direction) (x : Log) → waits d x.regs ≡ false → flushed d x ≡ x
unfolding flushed
flush_rests d x p = rw p

-- the words by direction
here_word : (d : Direction) (v : ℕ) (w : Direction → ℕ) → words_with d v w d ≡ v
here_word Out v w = refl
here_word In v w = refl

other_word_lem : (d : Direction) (v : ℕ) (w : Direction → ℕ) (c : Direction) → (c ≡ d → ⊥) → words_with d v w c ≡ w c
other_word_lem Out v w Out n = absurd (n refl)
other_word_lem Out v w In n = refl
other_word_lem In v w Out n = refl
other_word_lem In v w In n = absurd (n refl)

-- what the stores before the flush make of a side
record Facts (iso : Bool) (size : ℕ) (s t : Side) : Type 0 where
  maxp : t.maxp ≡ size
  isochronous : t.iso ≡ (iso || s.iso)
  halt : t.stall ≡ false
  sent : t.stalled ≡ false
  missed : t.missed ≡ false

facts : {d : Direction} {size : ℕ} {s t : Side} → Halted d false (with_maxp size s) t → Facts false size s t
facts y = record { maxp = y.size; isochronous = y.iso; halt = y.halt; sent = y.sent; missed = y.missed }

iso_facts : {d : Direction} {size : ℕ} {s t : Side} → Halted d false (with_maxp size s) t → Facts true size s (with_iso t)
iso_facts y = record { maxp = y.size; isochronous = refl; halt = y.halt; sent = y.sent; missed = y.missed }

ready_empty : {iso : Bool} {size : ℕ} {s t : Side} → Facts iso size s t → ((s.ready ≡ false → s.len ≡ 0) → NoPacket t) → Ready iso size s t
ready_empty f y = record { maxp = f.maxp; isochronous = f.isochronous; empty = y; halt = f.halt; sent = f.sent; missed = f.missed }

ready_flushed : {iso : Bool} {size : ℕ} {s t : Side} → Facts iso size s t → Ready iso size s (dropped true (dropped true t))
ready_flushed {t = t} f =
    let a = dropped_twice true true t in
    record {
      maxp = a.maxp ∙ f.maxp;
      isochronous = a.iso ∙ f.isochronous;
      empty = λ _. record { ready = (drops (dropped true t)).0; length = (drops (dropped true t)).1 };
      halt = a.stall ∙ f.halt;
      sent = a.stalled ∙ f.sent;
      missed = a.missed ∙ f.missed;
    }

module _ (e size : ℕ) (g : Log) (six : Whole g.regs) (low : e < 6) (up : e ≡ 0 → ⊥) where
  abbrev first : Log
  first = write_index e g

  abbrev words : Direction → ℕ
  words c = enabled_of c g.regs

  abbrev bit_of : Direction → ℕ
  bit_of d = raised (enabled_of d first.regs) e

  abbrev known : Direction → Direction → ℕ
  known d = words_with d (bit_of d) words

  -- what is promised, once the last store is known
  enables_by : (d : Direction) (b r : Bool) {x : Log} {t : Side} {l : List ℕ} {n : ℕ} → (side_at g.regs e d).ready ≡ r → Stands g e d x (known d) t l n
      → Ready b size (side_at g.regs e d) t → l ≡ entered g.list g.count e (enable_stores d e (bit_of d) size b r)
      → n ≡ g.count + length (enable_stores d e (bit_of d) size b r) → Enables d e b size g x
  enables_by d b r {x} p k y q m =
      let v : bit_of d ≡ enabled_of d x.regs = sym (k.enabled d ∙ here_word d (bit_of d) words) in
      let z : enable_stores d e (bit_of d) size b r ≡ enable_stores d e (enabled_of d x.regs) size b (side_at g.regs e d).ready =
      (λ i. enable_stores d e (v i) size b (sym p i)) in
      record {
        interrupt = subst (Raised e (enabled_of d g.regs)) (ap (λ (w : ℕ). raised w e) (sym ((begin g e d six).enabled d)) ∙ v) (raises (enabled_of d g.regs) e low);
        other_word = λ c n. k.enabled c ∙ other_word_lem d (bit_of d) words c n;
        side = subst (Ready b size (side_at g.regs e d)) (sym k.here) y;
        others = k.elsewhere;
        ended = k.ended;
        rest = k.same;
        selected = k.selected;
        lists = record {
          list = k.list ∙ q ∙ ap (entered g.list g.count e) z;
          count = k.count ∙ m ∙ ap (λ (xs : List Stored). g.count + length xs) z;
        };
      }

  -- index, interrupt, size
  abbrev second : Direction → Log
  second d = does (maxp d size) (does (intre d (bit_of d)) first)

  abbrev three : Direction → List ℕ
  three d = listed (listed (listed g.list g.count INDEX e e) (g.count + 1) (Stores.intre d) e (bit_of d)) (g.count + 1 + 1) (Stores.maxp d) e size

  sized_side : (d : Direction) → Stands g e d (second d) (known d) (with_maxp size (side_at g.regs e d)) (three d) (g.count + 1 + 1 + 1)
  sized_side d = next low (enables low (begin g e d six) d (bit_of d)) up (maxp d size) (with_maxp size) (of_maxp d size)

  -- out: the store of ClrDataTog from zeros drops the packet, so that nothing is left to flush
  abbrev out_side : Side
  out_side = with_maxp size (side_at g.regs e Out)

  abbrev third_out : Log
  third_out = does (rxcsrl (rx_bits false)) (second Out)

  out_third : Stands g e Out third_out (known Out) (rx_stored (rx_bits false) out_side) (listed (three Out) (g.count + 1 + 1 + 1) RXCSRL e 128) (g.count + 1 + 1 + 1 + 1)
  out_third =
      as_named refl (ap (λ (v : ℕ). listed (three Out) (g.count + 1 + 1 + 1) RXCSRL e v) (rx_stall_number false))
      (next low (sized_side Out) up (rxcsrl (rx_bits false)) (rx_stored (rx_bits false)) (of_rxcsrl (rx_bits false)))

  out_halted : Halted Out false out_side (rx_stored (rx_bits false) out_side)
  out_halted = rx_halted false out_side

  waits_out : {x : Log} {w : Direction → ℕ} {t : Side} {l : List ℕ} {n : ℕ} → Stands g e Out x w t l n → waits Out x.regs ≡ t.ready
  unfolding waits
  waits_out {x} k = rx_ready x.regs ∙ ap (λ (i : ℕ). (side_at x.regs i Out).ready) k.selected ∙ ap (λ (s : Side). s.ready) k.here

  out_enables : (b r : Bool) → (side_at g.regs e Out).ready ≡ r → Enables Out e b size g (flushed Out (iso_written Out b third_out))
  unfolding iso_written
  out_enables false r p =
      subst (Enables Out e false size g) (sym (flush_rests Out third_out (waits_out out_third ∙ out_halted.packet.ready)))
      (enables_by Out false r p out_third (ready_empty (facts out_halted) (λ _. out_halted.packet)) refl (omega arith))
  out_enables true r p =
      let k = next low out_third up (iso Out) with_iso (of_iso Out) in
      subst (Enables Out e true size g) (sym (flush_rests Out (does (iso Out) third_out) (waits_out k ∙ out_halted.packet.ready)))
      (enables_by Out true r p k
      (ready_empty (iso_facts out_halted) (λ _. record { ready = out_halted.packet.ready; length = out_halted.packet.length })) refl (omega arith))

  -- in: the packet is still there
  abbrev in_side : Side
  in_side = with_maxp size (side_at g.regs e In)

  abbrev third_in : Log
  third_in = does (txcsrl (tx_bits false)) (second In)

  in_third : Stands g e In third_in (known In) (tx_stored (tx_bits false) in_side) (listed (three In) (g.count + 1 + 1 + 1) TXCSRL e 64) (g.count + 1 + 1 + 1 + 1)
  in_third =
      as_named refl (ap (λ (v : ℕ). listed (three In) (g.count + 1 + 1 + 1) TXCSRL e v) (tx_stall_number false))
      (next low (sized_side In) up (txcsrl (tx_bits false)) (tx_stored (tx_bits false)) (of_txcsrl (tx_bits false)))

  in_halted : Halted In false in_side (tx_stored (tx_bits false) in_side)
  in_halted = tx_halted false in_side

  waits_in : {x : Log} {w : Direction → ℕ} {t : Side} {l : List ℕ} {n : ℕ} → Stands g e In x w t l n → waits In x.regs ≡ t.ready
  unfolding waits
  waits_in {x} k =
      not_empty_lem (chosen x.regs In) ∙ tx_ready x.regs ∙ ap (λ (i : ℕ). (side_at x.regs i In).ready) k.selected
      ∙ ap (λ (s : Side). s.ready) k.here

  flush_next : {x : Log} {w : Direction → ℕ} {t : Side} {l : List ℕ} {n : ℕ} → Stands g e In x w t l n → t.missed ≡ false → t.stall ≡ false
      → t.stalled ≡ false → (r : Bool) → t.ready ≡ r → Stands g e In (flush In x) w (dropped true t) (listed l n TXCSRL e (cond r 11 8)) (n + 1)
  unfolding flush
  flush_next {x} {w} {t} {l} {n} k a b c r p =
      let at : chosen x.regs In ≡ t = ap (λ (i : ℕ). side_at x.regs i In) k.selected ∙ k.here in
      let bits : Txcsrl = txcsrl_set txcsrl-set.FlushFifo (txcsrl_read x.regs) in
      rw (modify_txcsrl_lem txcsrl-set.FlushFifo x)
      (as_named
      (ap (λ (s : Side). tx_stored (txcsrl_set txcsrl-set.FlushFifo (txcsrl_of s)) t) at ∙ tx_flushed t)
      (ap (λ (v : ℕ). listed l n TXCSRL e v)
      (ap (λ (s : Side). txcsrl_number (txcsrl_set txcsrl-set.FlushFifo (txcsrl_of s))) at ∙ tx_flush_number t a b c ∙ ap (λ (z : Bool). cond z 11 8) p))
      (next low k up (txcsrl bits) (tx_stored bits) (of_txcsrl bits)))

  flush_twice : {x : Log} {w : Direction → ℕ} {b : Bool} {s t : Side} {l : List ℕ} {n : ℕ} → Stands g e In x w t l n → Facts b size s t → t.ready ≡ true
      → Stands g e In (flush In (flush In x)) w (dropped true (dropped true t)) (listed (listed l n TXCSRL e 11) (n + 1) TXCSRL e 8) (n + 1 + 1)
  flush_twice {t = t} k f p =
      let y = dropped_rest true t in
      flush_next (flush_next k f.missed f.halt f.sent true p) (y.missed ∙ f.missed) (y.stall ∙ f.halt) (y.stalled ∙ f.sent) false (drops t).0

  in_enables : (b r : Bool) → (side_at g.regs e In).ready ≡ r → Enables In e b size g (flushed In (iso_written In b third_in))
  unfolding iso_written
  in_enables false false p =
      subst (Enables In e false size g) (sym (flush_rests In third_in (waits_in in_third ∙ in_halted.packet.ready ∙ p)))
      (enables_by In false false p in_third
      (ready_empty (facts in_halted) (λ y. record { ready = in_halted.packet.ready ∙ p; length = in_halted.packet.length ∙ y p })) refl (omega arith))
  in_enables true false p =
      let k = next low in_third up (iso In) with_iso (of_iso In) in
      subst (Enables In e true size g) (sym (flush_rests In (does (iso In) third_in) (waits_in k ∙ in_halted.packet.ready ∙ p)))
      (enables_by In true false p k
      (ready_empty (iso_facts in_halted) (λ y. record { ready = in_halted.packet.ready ∙ p; length = in_halted.packet.length ∙ y p })) refl (omega arith))
  in_enables false true p =
      subst (Enables In e false size g) (sym (flush_runs In third_in (waits_in in_third ∙ in_halted.packet.ready ∙ p)))
      (enables_by In false true p (flush_twice in_third (facts {s = side_at g.regs e In} in_halted) (in_halted.packet.ready ∙ p)) (ready_flushed (facts in_halted)) refl (omega arith))
  in_enables true true p =
      let k = next low in_third up (iso In) with_iso (of_iso In) in
      subst (Enables In e true size g) (sym (flush_runs In (does (iso In) third_in) (waits_in k ∙ in_halted.packet.ready ∙ p)))
      (enables_by In true true p (flush_twice k (iso_facts {s = side_at g.regs e In} in_halted) (in_halted.packet.ready ∙ p)) (ready_flushed (iso_facts in_halted)) refl (omega arith))

-- the calls of the source
module _ (e : ℕ) (config : EndpointConfig) (g : Log) (six : Whole g.regs) where
  pub tx_enables : (e ≡ 0 → ⊥) → e < 6 → Enables In e (isochronous config.ep_type) config.tx_max_packet_size g (ep_tx_enable e config g)
  unfolding ep_tx_enable enabled selected enabled_other settled sized write_csrl
  tx_enables n low = rw (ne_eqb e 0 n) (rw (modify_intre_lem In e (write_index e g)) (in_enables e config.tx_max_packet_size g six low n (isochronous config.ep_type) _ refl))

  pub rx_enables : (e ≡ 0 → ⊥) → e < 6 → Enables Out e (isochronous config.ep_type) config.rx_max_packet_size g (ep_rx_enable e config g)
  unfolding ep_rx_enable enabled selected enabled_other settled sized write_csrl
  rx_enables n low = rw (ne_eqb e 0 n) (rw (modify_intre_lem Out e (write_index e g)) (out_enables e config.rx_max_packet_size g six low n (isochronous config.ep_type) _ refl))

-- endpoint 0
serviced_sends : csr0l-set.ServicedBoth ≡ csr0l-set.TxPktRdy → ⊥
serviced_sends p = let z : ◌≡◌ {A = ℕ} 0 1 = cc in omega arith

module _ (g : Log) (six : Whole g.regs) where
  abbrev zero_word : ℕ
  zero_word = raised (enabled_of In (write_index 0 g).regs) 0

  abbrev h1 : Log
  h1 = does (intre In zero_word) (write_index 0 g)

  abbrev bits : Csr0l
  bits = csr0l_set csr0l-set.ServicedBoth (csr0l_read h1.regs)

  abbrev h2 : Log
  h2 = does (csr0l bits) h1

  abbrev h3 : Log
  h3 = does csr0h h2

  k1 : Stands g 0 In h1 (words_with In zero_word (λ c. enabled_of c g.regs)) (side_at g.regs 0 In)
      (listed (listed g.list g.count INDEX 0 0) (g.count + 1) INTRTXE 0 zero_word) (g.count + 1 + 1)
  k1 = enables (lit< tt) (begin g 0 In six) In zero_word

  six2 : Whole h2.regs
  six2 = (rest (csr0l bits) h1 k1.six).whole ∙ k1.six

  at2 : file.index h2.regs ≡ 0
  at2 = (rest (csr0l bits) h1 k1.six).selected ∙ k1.selected

  at3 : file.index h3.regs ≡ 0
  at3 = (rest csr0h h2 six2).selected ∙ at2

  out1 : side_at h1.regs 0 Out ≡ side_at g.regs 0 Out
  out1 = k1.elsewhere 0 Out (λ _ p. out_in p)

  in2 : side_at h2.regs 0 In ≡ side_at g.regs 0 In
  in2 = sides (csr0l bits) h1 0 In k1.six (rw k1.selected (lit< tt)) ∙ zero_kept h1.regs csr0l-set.ServicedBoth serviced_sends ∙ k1.here

  out2 : side_at h2.regs 0 Out ≡ dropped bits.serviced_rx_pkt_rdy (side_at g.regs 0 Out)
  out2 = sides (csr0l bits) h1 0 Out k1.six (rw k1.selected (lit< tt)) ∙ ap (dropped bits.serviced_rx_pkt_rdy) out1

  side3 : (d : Direction) → side_at h3.regs 0 d ≡ dropped true (side_at h2.regs 0 d)
  side3 d = sides csr0h h2 0 d six2 (rw at2 (lit< tt))

  empty : (d : Direction) → NoPacket (side_at h3.regs 0 d)
  empty d = record {
    ready = ap (λ (s : Side). s.ready) (side3 d) ∙ (drops (side_at h2.regs 0 d)).0;
    length = ap (λ (s : Side). s.len) (side3 d) ∙ (drops (side_at h2.regs 0 d)).1;
  }

  same_in : SameBits (side_at g.regs 0 In) (side_at h3.regs 0 In)
  same_in = subst (SameBits _) (sym (side3 In ∙ ap (dropped true) in2)) (dropped_rest true (side_at g.regs 0 In))

  same_out : SameBits (side_at g.regs 0 Out) (side_at h3.regs 0 Out)
  same_out = subst (SameBits _) (sym (side3 Out ∙ ap (dropped true) out2)) (dropped_twice bits.serviced_rx_pkt_rdy true (side_at g.regs 0 Out))

  same_bits : (d : Direction) → SameBits (side_at g.regs 0 d) (side_at h3.regs 0 d)
  same_bits Out = same_out
  same_bits In = same_in

  elsewhere : (f : ℕ) (c : Direction) → (f ≡ 0 → ⊥) → side_at h3.regs f c ≡ side_at g.regs f c
  elsewhere f c n = sides csr0h h2 f c six2 (rw at2 (lit< tt)) ∙ rw (ne_eqb f 0 n) (before c) ∙ k1.elsewhere f c (λ p _. n p)
    where
      before : (c : Direction) → side_at h2.regs f c ≡ side_at h1.regs f c
      before Out = sides (csr0l bits) h1 f Out k1.six (rw k1.selected (lit< tt)) ∙ rw (ne_eqb f 0 n)
      before In = sides (csr0l bits) h1 f In k1.six (rw k1.selected (lit< tt)) ∙ rw (ne_eqb f 0 n)

  words3 : (c : Direction) → enabled_of c h3.regs ≡ enabled_of c h1.regs
  words3 c = named_enabled csr0h h2 six2 c ∙ named_enabled (csr0l bits) h1 k1.six c

  rest3 : SameRest g.regs h3.regs
  rest3 =
      rest_kept csr0h h2 six2 (λ x. refl) (λ x. refl) (λ x. refl)
      (rest_kept (csr0l bits) h1 k1.six (λ x. refl) (λ x. refl) (λ x. refl) k1.same)

  value2 : csr0l_number bits ≡ csr0l_number (csr0l_read g.regs) + 192
  value2 =
      let z = zero_read_zero h1.regs in
      both_number (csr0l_read h1.regs) z.1 z.2 ∙ ap (λ (w : Csr0l). csr0l_number w + 192) (same_csr0l g.regs h1.regs k1.here out1 k1.ended)

  zero_enables : EnablesZero g h3
  zero_enables =
      let o2 = others (csr0l bits) h1 k1.six in
      let o3 = others csr0h h2 six2 in
      let v : zero_word ≡ enabled_of In h3.regs = sym (words3 In ∙ k1.enabled In) in
      record {
        interrupt = subst (Raised 0 (enabled_of In g.regs)) (ap (λ (w : ℕ). raised w 0) (sym ((begin g 0 In six).enabled In)) ∙ v) (raises (enabled_of In g.regs) 0 (lit< tt));
        other_word = words3 Out ∙ k1.enabled Out;
        empty = empty;
        bits = same_bits;
        ended = o3.ended ∙ o2.ended ∙ rw (both_serviced (csr0l_read h1.regs)) (and-false (setupend h1.regs));
        others = elsewhere;
        rest = rest3;
        selected = at3;
        lists = record {
          list = o3.list ∙ (λ i. listed (list2 i) (count2 i) CSR0H (at3 i) 1) ∙ ap (λ (x : ℕ). listed (listed (listed (listed g.list g.count INDEX 0 0) (g.count + 1) INTRTXE 0 x) (g.count + 1 + 1) CSR0L 0 (csr0l_number (csr0l_read g.regs) + 192)) (g.count + 1 + 1 + 1) CSR0H 0 1) v;
          count = omega (arith, o3.count, count2);
        };
      }
    where
      count2 : h2.count ≡ g.count + 1 + 1 + 1
      count2 = (others (csr0l bits) h1 k1.six).count ∙ ap (λ (m : ℕ). m + 1) k1.count

      list2 : h2.list ≡ listed (listed (listed g.list g.count INDEX 0 0) (g.count + 1) INTRTXE 0 zero_word) (g.count + 1 + 1) CSR0L 0 (csr0l_number (csr0l_read g.regs) + 192)
      list2 = (others (csr0l bits) h1 k1.six).list ∙ (λ i. listed (k1.list i) (k1.count i) CSR0L (at2 i) (value2 i))

  pub tx_enables_zero : (config : EndpointConfig) → EnablesZero g (ep_tx_enable 0 config g)
  unfolding ep_tx_enable enabled selected enabled_zero flushed_zero
  tx_enables_zero config = rw (modify_intre_lem In 0 (write_index 0 g)) (rw (modify_csr0l_lem csr0l-set.ServicedBoth h1) zero_enables)

  pub rx_enables_zero : (config : EndpointConfig) → EnablesZero g (ep_rx_enable 0 config g)
  unfolding ep_rx_enable enabled selected enabled_zero flushed_zero
  rx_enables_zero config = rw (modify_intre_lem In 0 (write_index 0 g)) (rw (modify_csr0l_lem csr0l-set.ServicedBoth h1) zero_enables)
