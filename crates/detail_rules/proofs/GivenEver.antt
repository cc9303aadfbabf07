-- Every record's numbers are numbers that the record can be made of again. Assumes nothing.
use Prim.Native.Nat.{ℕ, suc, ◌+◌, ◌<◌}
use native.Mathlib.Decide.{ℕ_discrete}
use native.Mathlib.Nat.{not-suc-le-zero}
use native.Mathlib.Omega.{arith}
use mathlib.Core.Path.{◌≡◌, refl, sym, subst, ◌∙◌}
use mathlib.Core.Logic.{inl, inr}
use mathlib.Core.Bool.{Bool, true, false, cond}
use lib.Dec.{ltb}
use lib.ListN.{get_or}
use Rattle.board.specs.Table.{place}
use Rattle.board.specs.declared.Direction.{Direction}
use Rattle.board.specs.declared.Direction.TheVariants.{Out, In}
use Rattle.csr.specs.declared.Side.{Side}
use Rattle.csr.specs.Registers.{no_side}
use Rattle.csr.specs.Control.{txcsrl_of, rxcsrl_of, csr0l_number, txcsrl_number, rxcsrl_number}
use Rattle.csr.proofs.AsWritten.{csr0l_places, txcsrl_places, rxcsrl_places}
use Rattle.register_file.specs.Registers.{File, setupend, side_of, side_in, side_at, index, faddr, power, intrusbe, enabled_of, intrusb, intr_of}
use Rattle.register_file.specs.Control.{csr0l_read}
use Rattle.endpoints.specs.declared.EndpointType.{EndpointType}
use Rattle.endpoints.specs.declared.EndpointType.TheVariants.{Control, Isochronous, Bulk, Interrupt}
use Rattle.endpoints.specs.Endpoints.{type_number, blank}
use Rattle.control_state.specs.declared.ControlStateEnum.{ControlStateEnum}
use Rattle.control_state.specs.declared.ControlStateEnum.TheVariants.{Idle, Setup, DataIn, DataOut, Accepted, NodataPhase}
use Rattle.control_state.specs.Numbers.{state_number}
use Rattle.record.specs.declared.Record.{Record}
use Rattle.detail_rules.specs.DetailNumbers.{csr0l_at, of_chip, txcsrl_at, rxcsrl_at, registers_at, shown_at, lengths_at, of_data, of_endpoint, of_endpoints, of_flags, record_numbers}
use Rattle.detail_rules.proofs.DetailCounted.{ninety_six}
use Rattle.detail_rules.specs.Given.{long_at, base_of}
use Rattle.detail_rules.specs.GivenPrinted.{Csr0lReads, TxcsrlReads, RxcsrlReads, IsoReads, RegistersRead, RestReads, Printed, Held, Ever, Again}
use Rattle.detail_rules.proofs.GivenBack.{back}
use Rattle.csr.proofs.Bits.{bit_from}
use Rattle.register_file.proofs.Words.{at_most}

-- at every number below n
module _ (P : ℕ → Type 0) where
  no_more : (i : ℕ) → i < 0 → P i
  no_more i h = absurd (not-suc-le-zero h)

  and_at : (n : ℕ) → P n → ((i : ℕ) → i < n → P i) → (i : ℕ) → i < suc n → P i
  and_at n p f i h = go (ℕ_discrete i n)
    where
      go : Dec (i ≡ n) → P i
      go (yes e) = subst P (sym e) p
      go (no e) = f i (omega arith)

-- what the registers read
csr0l_reads : (w : File) → Csr0lReads (csr0l_at w)
unfolding csr0l_at csr0l_number csr0l_read
csr0l_reads w =
    record {
      below = omega (
        arith,
        at_most (side_at w 0 Out).ready 1,
        at_most (side_at w 0 In).ready 2,
        at_most (side_at w 0 In).stalled 4,
        at_most (setupend w) 16,
        at_most (side_at w 0 In).stall 32,
      );
      data_end = bit_from _ (csr0l_places (csr0l_read w)) 3;
    }

tx_reads : (s : Side) → TxcsrlReads (txcsrl_number (txcsrl_of s))
unfolding txcsrl_number txcsrl_of
tx_reads s =
    let at = bit_from _ (txcsrl_places (txcsrl_of s)) in
    record {
      below = omega (arith, at_most s.ready 1, at_most s.ready 2, at_most s.missed 4, at_most s.stall 16, at_most s.stalled 32);
      not_empty_lem = at 1 ∙ sym (at 0);
      flush = at 3;
    }

rx_reads : (s : Side) → RxcsrlReads (rxcsrl_number (rxcsrl_of s))
unfolding rxcsrl_number rxcsrl_of
rx_reads s =
    let at = bit_from _ (rxcsrl_places (rxcsrl_of s)) in
    record {
      below = omega (arith, at_most s.ready 1, at_most s.missed 4, at_most s.stall 32, at_most s.stalled 64);
      full = at 1;
      data_error = at 3;
      flush = at 4;
    }

iso_reads : (b : Bool) → IsoReads (cond b 64 0)
iso_reads true = inr refl
iso_reads false = inl refl

mark_lt : (b : Bool) → cond b 1 0 < 2
mark_lt true = omega arith
mark_lt false = omega arith

type_lt : (t : EndpointType) → type_number t < 4
type_lt Control = omega arith
type_lt Isochronous = omega arith
type_lt Bulk = omega arith
type_lt Interrupt = omega arith

state_lt : (s : ControlStateEnum) → state_number s < 6
state_lt Idle = omega arith
state_lt Setup = omega arith
state_lt DataIn = omega arith
state_lt DataOut = omega arith
state_lt Accepted = omega arith
state_lt NodataPhase = omega arith

side_lt : (w : File) → ((i : ℕ) → get_or w i 0 < 65536) → (e : ℕ) (d : Direction) → ((side_at w e d).maxp < 65536) × ((side_at w e d).len < 65536)
unfolding side_at side_in side_of
side_lt w h e d = either (ltb e 6)
  where
    either : (b : Bool) → ((cond b (side_in w (place e d)) no_side).maxp < 65536) × ((cond b (side_in w (place e d)) no_side).len < 65536)
    either true = (h (34 + place e d), h (22 + place e d))
    either false = (omega arith, omega arith)

module _ (k : Record) (held : Held k) where
  abbrev file : File
  file = k.regs.words

  chip_reads : (i : ℕ) → i < 9 → long_at (record_numbers k) i < 65536
  unfolding record_numbers of_chip index faddr power intrusbe enabled_of intrusb intr_of
  chip_reads =
      let P : ℕ → Type 0 = λ i. long_at (record_numbers k) i < 65536 in
      let h = held.words in
      and_at P 8 (h 8) (and_at P 7 (h 7) (and_at P 6 (h 6) (and_at P 5 (h 3) (and_at P 4 (h 5) (and_at P 3 (h 4) (and_at P 2 (h 0) (and_at P 1 (h 2) (and_at P 0 (h 1) (no_more P)))))))))

  none_reads : (i : ℕ) → i < 6 → long_at (record_numbers k) (10 + i) ≡ 0
  unfolding record_numbers of_chip of_endpoints of_endpoint shown_at
  none_reads =
      let P : ℕ → Type 0 = λ i. long_at (record_numbers k) (10 + i) ≡ 0 in
      and_at P 5 refl (and_at P 4 refl (and_at P 3 refl (and_at P 2 refl (and_at P 1 refl (and_at P 0 refl (no_more P))))))

  -- six numbers that are an endpoint's registers, seven that are the rest of it
  registers_are : (e i : ℕ) → long_at (record_numbers k) i ≡ txcsrl_at file e → long_at (record_numbers k) (i + 1) ≡ rxcsrl_at file e
      → long_at (record_numbers k) (i + 2) ≡ cond (side_at file e In).iso 64 0 → long_at (record_numbers k) (i + 3) ≡ cond (side_at file e Out).iso 64 0
      → long_at (record_numbers k) (i + 4) ≡ (side_at file e In).maxp → long_at (record_numbers k) (i + 5) ≡ (side_at file e Out).maxp
      → RegistersRead (record_numbers k) i
  unfolding txcsrl_at rxcsrl_at
  registers_are e i a b c d f g =
      record {
        txcsrl = subst TxcsrlReads (sym a) (tx_reads (side_at file e In));
        rxcsrl = subst RxcsrlReads (sym b) (rx_reads (side_at file e Out));
        txcsrh = subst IsoReads (sym c) (iso_reads (side_at file e In).iso);
        rxcsrh = subst IsoReads (sym d) (iso_reads (side_at file e Out).iso);
        txmaxp = omega (arith, (side_lt file held.words e In).0);
        rxmaxp = omega (arith, (side_lt file held.words e Out).0);
      }

  rest_are : (e i : ℕ) → long_at (record_numbers k) (i + 6) ≡ (side_at file e In).len → long_at (record_numbers k) (i + 7) ≡ (side_at file e Out).len
      → long_at (record_numbers k) (i + 8) ≡ type_number (get_or k.endpoints e blank).ep_conf.ep_type
      → long_at (record_numbers k) (i + 9) ≡ (get_or k.endpoints e blank).ep_conf.tx_max_packet_size
      → long_at (record_numbers k) (i + 10) ≡ (get_or k.endpoints e blank).ep_conf.rx_max_packet_size
      → long_at (record_numbers k) (i + 11) ≡ cond (get_or k.endpoints e blank).used_tx 1 0
      → long_at (record_numbers k) (i + 12) ≡ cond (get_or k.endpoints e blank).used_rx 1 0 → RestReads (record_numbers k) i
  rest_are e i a b c d f g h =
      record {
        waiting_tx = omega (arith, (side_lt file held.words e In).1);
        waiting_rx = omega (arith, (side_lt file held.words e Out).1);
        type = omega (arith, type_lt (get_or k.endpoints e blank).ep_conf.ep_type);
        size_tx = omega (arith, held.tx_size_lem e);
        size_rx = omega (arith, held.rx_size_lem e);
        used_tx_lem = omega (arith, mark_lt (get_or k.endpoints e blank).used_tx);
        used_rx_lem = omega (arith, mark_lt (get_or k.endpoints e blank).used_rx);
      }

  registers_read : (e : ℕ) → e < 6 → 0 < e → RegistersRead (record_numbers k) (base_of e)
  unfolding record_numbers of_chip of_endpoints of_endpoint shown_at registers_at lengths_at of_data
  registers_read =
      let P : ℕ → Type 0 = λ e. 0 < e → RegistersRead (record_numbers k) (base_of e) in
      and_at P 5 (λ l. registers_are 5 75 refl refl refl refl refl refl)
      (and_at P 4 (λ l. registers_are 4 62 refl refl refl refl refl refl)
      (and_at P 3 (λ l. registers_are 3 49 refl refl refl refl refl refl)
      (and_at P 2 (λ l. registers_are 2 36 refl refl refl refl refl refl)
      (and_at P 1 (λ l. registers_are 1 23 refl refl refl refl refl refl)
      (and_at P 0 (λ l. absurd (not-suc-le-zero l)) (no_more P))))))

  rest_reads : (e : ℕ) → e < 6 → RestReads (record_numbers k) (base_of e)
  unfolding record_numbers of_chip of_endpoints of_endpoint shown_at registers_at lengths_at of_data
  rest_reads =
      let P : ℕ → Type 0 = λ e. RestReads (record_numbers k) (base_of e) in
      and_at P 5 (rest_are 5 75 refl refl refl refl refl refl refl)
      (and_at P 4 (rest_are 4 62 refl refl refl refl refl refl refl)
      (and_at P 3 (rest_are 3 49 refl refl refl refl refl refl refl)
      (and_at P 2 (rest_are 2 36 refl refl refl refl refl refl refl)
      (and_at P 1 (rest_are 1 23 refl refl refl refl refl refl refl)
      (and_at P 0 (rest_are 0 10 refl refl refl refl refl refl refl) (no_more P))))))

  ends : Printed (record_numbers k)
  unfolding record_numbers of_chip of_endpoints of_endpoint shown_at registers_at lengths_at of_data of_flags
  ends =
      let P : ℕ → Type 0 = λ i. long_at (record_numbers k) (90 + i) < 2 in
      let Q : ℕ → Type 0 = λ i. long_at (record_numbers k) (94 + i) < 65536 in
      record {
        count = ninety_six k;
        chip = chip_reads;
        csr0l = csr0l_reads file;
        none = none_reads;
        registers = λ e l h. registers_read e h l;
        rest = rest_reads;
        state = state_lt k.control_state.state;
        flags = and_at P 3 (mark_lt k.irq.ep0) (and_at P 2 (mark_lt k.irq.resume) (and_at P 1 (mark_lt k.irq.suspend) (and_at P 0 (mark_lt k.irq.reset) (no_more P))));
        words = and_at Q 1 held.rx_flags (and_at Q 0 held.tx_flags (no_more Q));
      }

pub ever : Ever
ever k held = ends k held

-- so what a report prints of any record, a report prints of the record that is made of it
pub again : Again
again k held = back (record_numbers k) (ever k held)
