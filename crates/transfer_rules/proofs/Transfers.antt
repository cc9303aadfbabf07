-- An answered write and an answered read leave what specs/Transfers.antt says. Assumes nothing.
use Rattle.std.specs.Prelude.{Ok}
use Prim.Native.Nat.{ℕ, ◌+◌, ◌≤◌, ◌<◌}
use mathlib.Core.Path.{◌≡◌, refl, sym, ap, subst, ◌∙◌}
use mathlib.Core.Bool.{true, false}
use mathlib.Core.List.{List}
use native.Mathlib.Omega.{arith}
use native.Mathlib.Nat.{zero-add}
use native.Mathlib.Decide.{ℕ_discrete}
use borrow.Author.Tests.{eq-eqb, ne_eqb, ltb-false}
use lib.ListN.{length, get_or, take, drop, length-drop}
use lib.Seq.{length-take-le, get_or-take, get_or-drop}
use Rattle.laws.specs.Lists.{pasted}
use Rattle.laws.proofs.Lists.{byte_after, byte_inside, length_pasted}
use Rattle.board.specs.declared.Direction.{Direction}
use Rattle.board.specs.declared.Direction.TheVariants.{Out, In}
use Rattle.csr.specs.declared.Side.{Side}
use Rattle.csr.specs.declared.Txcsrl.{Txcsrl}
use Rattle.csr.specs.declared.Rxcsrl.{Rxcsrl}
use Rattle.csr.specs.declared.TxcsrlSet.TheVariants.{TxPktRdy}
use Rattle.csr.specs.declared.RxcsrlSet.TheVariants.{NoRxPktRdy}
use Rattle.csr.specs.Registers.{with_len}
use Rattle.csr.specs.Control.{dropped, txcsrl_of, txcsrl_set, tx_stored, txcsrl_number, rxcsrl_of, rxcsrl_set, rx_stored, rxcsrl_number}
use Rattle.csr.proofs.AsWritten.{drops}
use Rattle.csr.proofs.Modified.{readied, tx_readied, rx_read}
use Rattle.csr.proofs.Stored.{dropped_rest}
use Rattle.register_file.specs.Registers.{Whole, side_at, chosen, enabled_of}
use Rattle.register_file.specs.Control.{txcsrl_read, rxcsrl_read}
use Rattle.store_list.specs.Stores.{listed, INDEX, TXCSRL, RXCSRL}
use Rattle.store_rules.specs.Stores.{Log, log, write_index, write_packet, modify_txcsrl, modify_rxcsrl}
use Rattle.store_rules.specs.Promise.{txcsrl, rxcsrl, packet}
use Rattle.store_rules.proofs.Promises.{modify_txcsrl_lem, modify_rxcsrl_lem, packet_none}
use Rattle.common_rules.proofs.Stands.{Stands, begin, of_txcsrl, of_rxcsrl, of_packet, next, as_named}
use Rattle.record.specs.declared.Record.{Record}
use Rattle.record.specs.Record.{area_in, area_of, endpoints_of}
use Rattle.record.specs.Bytes.{Fills}
use Rattle.record.proofs.Areas.{area_within, below_six}
use Rattle.record.proofs.Bytes.{pasted_fills}
use Rattle.record.proofs.Passing.{record_is_sound, waiting_fits}
use Rattle.transfer_rules.specs.declared.Verdict.{Verdict}
use Rattle.transfer_rules.specs.declared.Verdict.TheVariants.{Clear}
use Rattle.transfer_rules.specs.Peek.{rx_count, after}
use Rattle.transfer_rules.specs.WriteTests as write_tests_lem
use Rattle.transfer_rules.specs.WriteZero.{write_number}
use Rattle.transfer_rules.specs.Write as write
use Rattle.transfer_rules.specs.Write.{WriteOutcome, loaded, sent_other, sent, write_call}
use Rattle.transfer_rules.proofs.WriteCases as write-cases
use Rattle.transfer_rules.specs.ReadTests as read_tests_lem
use Rattle.transfer_rules.specs.ReadZero.{read_number}
use Rattle.transfer_rules.specs.Read as read
use Rattle.transfer_rules.specs.Read.{ReadOutcome, copied, read_other, got, read_call}
use Rattle.transfer_rules.proofs.ReadCases as read-cases
use Rattle.transfer_rules.specs.Transfers.{send_value, take_value, write_list, write_count, Writes, Takes, Copies}
use Rattle.transfer_rules.proofs.Lent.{lent_enough, Admitted}
use Rattle.transfer_rules.proofs.WriteVerdicts as write-verdicts
use Rattle.transfer_rules.proofs.WriteAnswers as write-answers
use Rattle.transfer_rules.proofs.ReadVerdicts as read-verdicts
use Rattle.transfer_rules.proofs.ReadAnswers as read-answers
use Rattle.csr.specs.Kept.{SameBits}

-- the two values
ready_number : (s : Side) → s.ready ≡ false → txcsrl_number (txcsrl_set TxPktRdy (txcsrl_of s)) ≡ send_value s
unfolding txcsrl_number txcsrl_set txcsrl_of
ready_number s p = rw p (omega arith)

taken_number : (s : Side) → rxcsrl_number (rxcsrl_set NoRxPktRdy (rxcsrl_of s)) ≡ take_value s
unfolding rxcsrl_number rxcsrl_set rxcsrl_of
taken_number s = omega arith

-- the stores
module _ {g : Log} {e : ℕ} {w : Direction → ℕ} (low : e < 6) (up : e ≡ 0 → ⊥) where
  readied_next : {x : Log} {t : Side} {l : List ℕ} {n : ℕ} → Stands g e In x w t l n → t.ready ≡ false
      → Stands g e In (modify_txcsrl TxPktRdy x) w (readied t) (listed l n TXCSRL e (send_value t)) (n + 1)
  readied_next {x} {t} {l} {n} k p =
      let at : chosen x.regs In ≡ t = ap (λ (i : ℕ). side_at x.regs i In) k.selected ∙ k.here in
      let bits : Txcsrl = txcsrl_set TxPktRdy (txcsrl_read x.regs) in
      rw (modify_txcsrl_lem TxPktRdy x)
      (as_named
      (ap (λ (s : Side). tx_stored (txcsrl_set TxPktRdy (txcsrl_of s)) t) at ∙ tx_readied t)
      (ap (λ (v : ℕ). listed l n TXCSRL e v) (ap (λ (s : Side). txcsrl_number (txcsrl_set TxPktRdy (txcsrl_of s))) at ∙ ready_number t p))
      (next low k up (txcsrl bits) (tx_stored bits) (of_txcsrl bits)))

  taken_next : {x : Log} {t : Side} {l : List ℕ} {n : ℕ} → Stands g e Out x w t l n
      → Stands g e Out (modify_rxcsrl NoRxPktRdy x) w (dropped true t) (listed l n RXCSRL e (take_value t)) (n + 1)
  taken_next {x} {t} {l} {n} k =
      let at : chosen x.regs Out ≡ t = ap (λ (i : ℕ). side_at x.regs i Out) k.selected ∙ k.here in
      let bits : Rxcsrl = rxcsrl_set NoRxPktRdy (rxcsrl_read x.regs) in
      rw (modify_rxcsrl_lem NoRxPktRdy x)
      (as_named
      (ap (λ (s : Side). rx_stored (rxcsrl_set NoRxPktRdy (rxcsrl_of s)) t) at ∙ rx_read t)
      (ap (λ (v : ℕ). listed l n RXCSRL e v) (ap (λ (s : Side). rxcsrl_number (rxcsrl_set NoRxPktRdy (rxcsrl_of s))) at ∙ taken_number t))
      (next low k up (rxcsrl bits) (rx_stored bits) (of_rxcsrl bits)))

-- what an answered write has passed
module _ (k : Record) (e : ℕ) (bytes x l : List ℕ) where
  abbrev whose : WriteOutcome
  whose = write_call k e bytes x l

  abbrev n : ℕ
  n = length bytes

  pub record Passed : Type 0 where
    pub admitted : Admitted k e (length x) (length l)
    pub uncollected : write-cases.uncollected k e ≡ false
    pub fits : write-cases.too_long k e n ≡ false
    pub taken : write-cases.not_writable k e n ≡ false
    pub clear : write_tests_lem.tests k e n (length x) (length l) ≡ Clear

  passed_by : {m : ℕ} → write-cases.WriteCase k e n (length x) (length l) m → m ≡ 0 → Passed
  passed_by (write-cases.done a s t u) z = record {
    admitted = a;
    uncollected = s;
    fits = t;
    taken = u;
    clear = write-verdicts.tests_are k e n (length x) (length l) ∙ rw (a.lent, a.passes, a.there, s, t, u);
  }
  passed_by (write-cases.blocks a s) z = absurd (omega arith)
  passed_by (write-cases.beyond p q r) z = absurd (omega arith)
  passed_by (write-cases.long a s t) z = absurd (omega arith)
  passed_by (write-cases.untaken a s t u) z = absurd (omega arith)
  passed_by (write-cases.little p) z = absurd (omega arith)
  passed_by (write-cases.unsound p q) z = absurd (omega arith)

  module _ (done : write_number whose.result.answer ≡ 0) where
    pub passed : Passed
    passed = passed_by ((write-answers.exactly k e bytes x l 0).0 done) refl

    pub call_done : whose ≡ write.outcome k (write-answers.ran_by k e bytes x l Clear)
    call_done = write-answers.call_is k e bytes x l ∙ ap (λ (v : Verdict). write.outcome k (write-answers.ran_by k e bytes x l v)) passed.clear

    short_enough : n ≤ (area_of k e In).size
    unfolding write_tests_lem.too_long area_of
    short_enough = ltb-false _ _ passed.fits

    room : (area_of k e In).start + (area_of k e In).size ≤ length x
    room = omega (arith, area_within k e In, (lent_enough k (length x) (length l) passed.admitted.lent).0)

    pub pasted_there : whose.fifo ≡ pasted x (area_of k e In).start bytes
    unfolding write.write_done area_of
    pasted_there = ap (λ (o : WriteOutcome). o.fifo) call_done

    -- at any endpoint
    pub fills : Fills (area_of k e In) bytes x whose.fifo
    fills = subst (Fills (area_of k e In) bytes x) (sym pasted_there) (pasted_fills (area_of k e In) bytes x short_enough room)

    -- at 1 to 5
    module _ (up : e ≡ 0 → ⊥) (six : Whole k.regs.words) where
      abbrev g : Log
      g = log k.regs.words l 0

      abbrev before : Side
      before = side_at k.regs.words e In

      abbrev leaves : Log → WriteOutcome
      leaves h = write.outcome k (write.write_left (Ok n) (pasted x (area_in k.regs.board e In).start bytes) (after k.control_state k.irq h))

      call_other : whose ≡ leaves (modify_txcsrl TxPktRdy (write_packet n (write_index e g)))
      unfolding write.write_done sent sent_other loaded
      call_other = call_done ∙ rw (ne_eqb e 0 up)

      low : e < 6
      unfolding endpoints_of
      low = below_six k.regs.board e passed.admitted.there

      not_ready : before.ready ≡ false
      not_ready = passed.uncollected

      empty : before.len ≡ 0
      empty = ((record_is_sound k passed.admitted.passes).regs.side e In).none not_ready

      -- the side t after the stores
      record Loaded (t : Side) : Type 0 where
        ready : t.ready ≡ true
        length : t.len ≡ n
        bits : SameBits before t

      from_log : {h : Log} {t : Side} {m : List ℕ} {c : ℕ} → Stands g e In h (λ (d : Direction). enabled_of d k.regs.words) t m c → Loaded t → m ≡ write_list l e n (send_value before) → c ≡ write_count n
          → Writes k e n l (leaves h)
      from_log s y p q = record {
        ready = ap (λ (t : Side). t.ready) s.here ∙ y.ready;
        length = ap (λ (t : Side). t.len) s.here ∙ y.length;
        bits = subst (SameBits before) (sym s.here) y.bits;
        others = s.elsewhere;
        selected = s.selected;
        enabled = s.enabled;
        ended = s.ended;
        rest = s.same;
        parts = record { board = refl; endpoints = refl; control = refl; irq = refl };
        list = s.list ∙ p;
        count = s.count ∙ q;
      }

      by_length : Dec (n ≡ 0) → Writes k e n l (leaves (modify_txcsrl TxPktRdy (write_packet n (write_index e g))))
      by_length (yes z) =
          subst (λ (h : Log). Writes k e n l (leaves (modify_txcsrl TxPktRdy h))) (packet_none n (write_index e g) z)
          (from_log (readied_next low up (begin g e In six) not_ready)
          (record { ready = refl; length = empty ∙ sym z; bits = record { missed = refl; stall = refl; stalled = refl; iso = refl; maxp = refl } })
          (rw (eq-eqb n 0 z)) (rw (eq-eqb n 0 z)))
      by_length (no z) =
          from_log (readied_next low up (next low (begin g e In six) up (packet n) (with_len n) (of_packet n z)) not_ready)
          (record { ready = refl; length = refl; bits = record { missed = refl; stall = refl; stalled = refl; iso = refl; maxp = refl } })
          (rw (ne_eqb n 0 z)) (rw (ne_eqb n 0 z))

      pub writes : Writes k e n l whose
      writes = subst (Writes k e n l) (sym call_other) (by_length (ℕ_discrete n 0))

-- and what an answered read has passed
module _ (k : Record) (e : ℕ) (buf x l : List ℕ) where
  abbrev reading : ReadOutcome
  reading = read_call k e buf x l

  abbrev len : ℕ
  len = (side_at k.regs.words e Out).len

  pub record Readable : Type 0 where
    pub admitted : Admitted k e (length x) (length l)
    pub told : read-cases.not_readable k e ≡ false
    pub roomy : read-cases.overflows k e (length buf) ≡ false
    pub clear : read_tests_lem.tests k e (length buf) (length x) (length l) ≡ Clear

  readable_by : {m : ℕ} → read-cases.ReadCase k e (length buf) (length x) (length l) m → m ≡ 0 → Readable
  readable_by (read-cases.done a s t u v) z = record {
    admitted = a;
    told = t;
    roomy = v;
    clear = read-verdicts.told k e (length buf) (length x) (length l) ∙ rw (a.lent, a.passes, a.there, s, t, u, v);
  }
  readable_by (read-cases.blocks a s) z = absurd (omega arith)
  readable_by (read-cases.beyond p q r) z = absurd (omega arith)
  readable_by (read-cases.unreadable a s t) z = absurd (omega arith)
  readable_by (read-cases.unset a s t u) z = absurd (omega arith)
  readable_by (read-cases.cut a s t u v) z = absurd (omega arith)
  readable_by (read-cases.little p) z = absurd (omega arith)
  readable_by (read-cases.unsound p q) z = absurd (omega arith)

  module _ (done : read_number reading.result.answer ≡ 0) where
    pub readable : Readable
    readable = readable_by ((read-answers.exactly k e buf x l 0).0 done) refl

    pub read_done_lem : reading ≡ read-answers.tested k e buf x l Clear
    read_done_lem = read-answers.by_tests k e buf x l ∙ ap (read-answers.tested k e buf x l) readable.clear

    len_fits : len ≤ (area_of k e Out).size
    len_fits = waiting_fits k (record_is_sound k readable.admitted.passes) e Out

    len_room : (area_of k e Out).start + len ≤ length x
    len_room = omega (arith, len_fits, area_within k e Out, (lent_enough k (length x) (length l) readable.admitted.lent).0)

    buf_room : len ≤ length buf
    unfolding read_tests_lem.overflows
    buf_room = ltb-false _ _ readable.roomy

    -- what is copied: the packet
    abbrev pub part : List ℕ
    part = take len (drop (area_of k e Out).start x)

    pub part_length : length part ≡ len
    part_length = length-take-le len (drop (area_of k e Out).start x) (simp length-drop (omega (arith, len_room)))

    part_within : 0 + length part ≤ length buf
    part_within = omega (arith, part_length, buf_room)

    said_len : reading.result.answer ≡ Ok len
    unfolding read.read_done
    said_len = ap (λ (o : ReadOutcome). o.result.answer) read_done_lem

    pub copied_there : reading.buf ≡ pasted buf 0 part
    unfolding read.read_done copied area_of
    copied_there = ap (λ (o : ReadOutcome). o.buf) read_done_lem

    copied_inside : (i : ℕ) → i < len → get_or reading.buf i 0 ≡ get_or x ((area_of k e Out).start + i) 0
    copied_inside i h =
        ap (λ (y : List ℕ). get_or y i 0) copied_there ∙ ap (λ (m : ℕ). get_or (pasted buf 0 part) m 0) (sym (zero-add i))
        ∙ byte_inside buf 0 part (omega arith) i 0 (rw part_length h) ∙ get_or-take len (drop (area_of k e Out).start x) i 0 h
        ∙ get_or-drop (area_of k e Out).start x i 0

    copied_outside : (i : ℕ) → len ≤ i → get_or reading.buf i 0 ≡ get_or buf i 0
    copied_outside i h =
        let past : 0 + length part ≤ i = omega (arith, part_length, h) in
        ap (λ (y : List ℕ). get_or y i 0) copied_there ∙ byte_after buf 0 part (omega arith) i 0 past

    copied_whole : length reading.buf ≡ length buf
    copied_whole = ap (λ (y : List ℕ). length y) copied_there ∙ length_pasted buf 0 part part_within

    -- at any endpoint
    pub copies : Copies k e buf x reading
    copies = record { said = said_len; fits = len_fits; room = buf_room; inside = copied_inside; outside = copied_outside; whole = copied_whole }

    -- at 1 to 5
    module _ (up : e ≡ 0 → ⊥) (six : Whole k.regs.words) where
      abbrev from : Log
      from = log k.regs.words l 0

      abbrev received : Side
      received = side_at k.regs.words e Out

      abbrev count : ℕ
      count = rx_count e k.regs.words

      abbrev gives : Log → ReadOutcome
      gives h = read.outcome k (record { answer = Ok count; buf = copied k.regs.board e count buf x; after = after k.control_state k.irq h })

      read_other_lem : reading ≡ gives (modify_rxcsrl NoRxPktRdy (write_index e from))
      unfolding read.read_done got read_other
      read_other_lem = read_done_lem ∙ rw (ne_eqb e 0 up)

      below : e < 6
      unfolding endpoints_of
      below = below_six k.regs.board e readable.admitted.there

      taken_log : {h : Log} → Stands from e Out h (λ (d : Direction). enabled_of d k.regs.words) (dropped true received) (listed (listed l 0 INDEX e e) 1 RXCSRL e (take_value received)) 2 → Takes k e l (gives h)
      taken_log s = record {
        ready = ap (λ (t : Side). t.ready) s.here ∙ (drops received).0;
        length = ap (λ (t : Side). t.len) s.here ∙ (drops received).1;
        bits = subst (SameBits received) (sym s.here) (dropped_rest true received);
        others = s.elsewhere;
        selected = s.selected;
        enabled = s.enabled;
        ended = s.ended;
        rest = s.same;
        parts = record { board = refl; endpoints = refl; control = refl; irq = refl };
        list = s.list;
        count = s.count;
      }

      pub takes : Takes k e l reading
      takes = subst (Takes k e l) (sym read_other_lem) (taken_log (taken_next below up (begin from e Out six)))
