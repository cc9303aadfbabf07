-- What raising bits in the pending interrupt registers leaves, what a read of all three leaves; and a host event as a change that those registers have no part in,
-- and bits that it raises in them.
-- Assumes nothing.
use Prim.Native.Nat.{ℕ, ◌^◌}
use mathlib.Core.Path.{◌≡◌, refl, sym, ap, ◌∙◌}
use mathlib.Core.Bool.{Bool, true, false, cond}
use native.Mathlib.Omega.{arith}
use lib.Bits.{bit_or, or_zero_l}
use lib.Dec.{eqb}
use lib.ListN.{get_or, set, length-set}
use lib.Seq.{get_or-set_other}
use Rattle.laws.specs.Words.{bit, raised}
use Rattle.laws.proofs.Words.{bit_or_lem}
use Rattle.board.specs.declared.Direction.TheVariants.{Out, In}
use Rattle.csr.specs.declared.Side.{Side}
use Rattle.csr.specs.Control.{dropped}
use Rattle.register_file.specs.Registers.{File, Whole, side_at, with_side, intrusb, with_intrusb, intr_of, with_intr, with_setupend}
use Rattle.register_file.proofs.Pending.{Apart, side_unseen, side_apart, changed_apart, setupend_apart, nothing_done, then_done, by_done, cond_done}
use Rattle.register_file.proofs.Raised.{more, more_none, more_here, ups, ups_none, ups_usb, ups_tx, ups_rx, calm}
use Rattle.event_rules.specs.declared.BusEvent.TheVariants.{Suspend, Resume, Reset}
use Rattle.event_rules.specs.Events.{interrupting, received, unstalled, lapsed, waiting_at, arrived, collected, bus_raised, setup_ended, missing, intrusb_cleared, intr_cleared}
use Rattle.event_rules.specs.Promise.{Event, arrival, collection, on_bus, setupend, miss, happens, raises_bus, raises}
use Rattle.event_rules.specs.Raised.{bus_bits_raised, word_raised, bits_raised, Raises}

-- the same by the places of the file
pub raised_is : (usb tx rx : ℕ) (r : File) → bits_raised usb tx rx r ≡ ups usb tx rx r
unfolding bits_raised word_raised bus_bits_raised with_intr with_intrusb intr_of intrusb
raised_is usb tx rx r = refl

-- what the three reads of an interrupt give, each after those before it have cleared their registers, and what they leave
pub read_usb : (r : File) → intrusb r ≡ get_or r 6 0
unfolding intrusb
read_usb r = refl

pub read_tx : (r : File) → intr_of (intrusb_cleared r) In ≡ get_or r 7 0
unfolding intr_of intrusb_cleared with_intrusb
read_tx r = get_or-set_other r 6 7 0 0 (λ p. omega arith)

pub read_rx : (r : File) → intr_of (intr_cleared (intrusb_cleared r) In) Out ≡ get_or r 8 0
unfolding intr_of intrusb_cleared with_intrusb intr_cleared with_intr
read_rx r = get_or-set_other (set r 6 0) 7 8 0 0 (λ p. omega arith) ∙ get_or-set_other r 6 8 0 0 (λ p. omega arith)

pub read_all : (r : File) → intr_cleared (intr_cleared (intrusb_cleared r) In) Out ≡ calm r
unfolding intrusb_cleared with_intrusb intr_cleared with_intr
read_all r = refl

-- a bit is pending that was, or that was raised, and nothing else changes: of every whole file
pub raises_bits : (usb tx rx : ℕ) (r : File) → Whole r → Raises usb tx rx r (bits_raised usb tx rx r)
unfolding bits_raised word_raised bus_bits_raised with_intr with_intrusb intr_of intrusb
raises_bits usb tx rx r six = record {
  bus = λ j. ap (λ (x : ℕ). bit x j) (ups_usb usb tx rx r ∙ more_here 6 usb r six (omega arith)) ∙ bit_or_lem (get_or r 6 0) usb j;
  transmit = λ j. ap (λ (x : ℕ). bit x j) (ups_tx usb tx rx r ∙ more_here 7 tx r six (omega arith)) ∙ bit_or_lem (get_or r 7 0) tx j;
  receive = λ j. ap (λ (x : ℕ). bit x j) (ups_rx usb tx rx r ∙ more_here 8 rx r six (omega arith)) ∙ bit_or_lem (get_or r 8 0) rx j;
  others = λ i l m n. get_or-set_other (more 7 tx (more 6 usb r)) 8 i _ 0 n ∙ get_or-set_other (more 6 usb r) 7 i _ 0 m ∙ get_or-set_other r 6 i _ 0 l;
  whole = simp length-set;
}

-- what an event does beside what it raises
abbrev pub beside : Event → File → File
beside (arrival e n) r = cond (eqb e 0) (with_side (waiting_at r 0 n) 0 In (unstalled (side_at r 0 In))) (waiting_at r e n)
beside (collection e) r = with_side r e In (dropped true (side_at r e In))
beside (on_bus o) r = r
beside setupend r = with_setupend r true
beside (miss e d) r = missing r e d

waiting_apart : (e n : ℕ) → Apart (λ r. waiting_at r e n)
unfolding waiting_at
waiting_apart e n = changed_apart e Out (received n)

pub beside_apart : (o : Event) → Apart (beside o)
unfolding missing
beside_apart (arrival e n) =
    cond_done (eqb e 0)
    (by_done (λ (s : Side) (r : File). with_side (waiting_at r 0 n) 0 In (unstalled s)) (side_unseen 0 In)
    (λ s. then_done (waiting_apart 0 n) (side_apart 0 In (unstalled s))))
    (waiting_apart e n)
beside_apart (collection e) = changed_apart e In (dropped true)
beside_apart (on_bus o) = nothing_done
beside_apart setupend = setupend_apart true
beside_apart (miss e d) = changed_apart e d lapsed

-- a bit in one register, and none in the others
one_usb : (v : ℕ) (r : File) → ups v 0 0 r ≡ more 6 v r
one_usb v r = more_none 8 _ ∙ more_none 7 _

one_tx : (v : ℕ) (r : File) → ups 0 v 0 r ≡ more 7 v r
one_tx v r = more_none 8 _ ∙ ap (more 7 v) (more_none 6 r)

one_rx : (v : ℕ) (r : File) → ups 0 0 v r ≡ more 8 v r
one_rx v r = ap (more 8 v) (more_none 7 _ ∙ more_none 6 r)

-- a bit raised is a power of two more
one_more : (q i : ℕ) (r : File) → set r q (raised (get_or r q 0) i) ≡ more q (raised 0 i) r
unfolding raised
one_more q i r = ap (λ (x : ℕ). set r q (bit_or (get_or r q 0) x)) (sym (or_zero_l (2 ^ i)))

rings_tx : (i : ℕ) (r : File) → interrupting r In i ≡ ups 0 (raised 0 i) 0 r
unfolding interrupting with_intr intr_of
rings_tx i r = one_more 7 i r ∙ sym (one_tx (raised 0 i) r)

rings_rx : (i : ℕ) (r : File) → interrupting r Out i ≡ ups 0 0 (raised 0 i) r
unfolding interrupting with_intr intr_of
rings_rx i r = one_more 8 i r ∙ sym (one_rx (raised 0 i) r)

rings_usb : (i : ℕ) (r : File) → with_intrusb r (raised (intrusb r) i) ≡ ups (raised 0 i) 0 0 r
unfolding with_intrusb intrusb
rings_usb i r = one_more 6 i r ∙ sym (one_usb (raised 0 i) r)

-- so an event is that, and then its bits
pub happens_is : (o : Event) (r : File) → happens o r ≡ ups (raises_bus o 0) (raises o In 0) (raises o Out 0) (beside o r)
unfolding arrived collected bus_raised setup_ended
happens_is (arrival e n) r = go (eqb e 0)
  where
    go : (b : Bool)
        → cond b (interrupting (with_side (waiting_at r 0 n) 0 In (unstalled (side_at r 0 In))) In 0) (interrupting (waiting_at r e n) Out e)
        ≡ ups 0 (cond b (raised 0 0) 0) (cond b 0 (raised 0 e)) (cond b (with_side (waiting_at r 0 n) 0 In (unstalled (side_at r 0 In))) (waiting_at r e n))
    go true = rings_tx 0 _
    go false = rings_rx e _
happens_is (collection e) r = rings_tx e _
happens_is (on_bus Suspend) r = rings_usb 0 r
happens_is (on_bus Resume) r = rings_usb 1 r
happens_is (on_bus Reset) r = rings_usb 2 r
happens_is setupend r = rings_tx 0 _
happens_is (miss e d) r = sym (ups_none _)
