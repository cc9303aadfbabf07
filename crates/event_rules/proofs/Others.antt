-- The registers that no side holds, after every event, and the interrupt registers, each cleared by its own read. Assumes nothing.
use Prim.Native.Nat.{ℕ, ◌<◌}
use mathlib.Core.Path.{◌≡◌, refl, ap, ◌∙◌}
use mathlib.Core.Bool.{Bool, true, false, cond}
use native.Mathlib.Omega.{arith}
use lib.Dec.{eqb}
use lib.ListN.{set, length-set}
use lib.Seq.{get_or-set_same, get_or-set_other}
use Rattle.laws.specs.Words.{raised}
use Rattle.board.specs.declared.Direction.{Direction}
use Rattle.board.specs.declared.Direction.TheVariants.{Out, In}
use Rattle.csr.specs.declared.Side.{Side}
use Rattle.register_file.specs.Registers as file
use Rattle.register_file.specs.Registers.{File, Whole, side_at, with_side, intrusb, intr_of, with_intrusb, with_intr, with_setupend}
use Rattle.register_file.specs.Sound.{Clean}
use Rattle.csr.specs.Control.{dropped}
use Rattle.register_file.proofs.Sides.{keeps_setupend, keeps_length}
use Rattle.register_file.proofs.Soundness.{clean_side, clean_set, clean_setupend}
use Rattle.event_rules.specs.Events.{bus_bit, interrupting, received, unstalled, waiting_at, arrived, collected, bus_raised, setup_ended, missing, lapsed, intrusb_cleared, intr_cleared}
use Rattle.event_rules.specs.declared.BusEvent.{BusEvent}
use Rattle.event_rules.specs.Promise.{Event, arrival, collection, on_bus, setupend, miss, happens, leaves, ends, Others, Clears, at}
use Rattle.event_rules.proofs.Promises.{sides, number, arrival_keeps, collection_keeps, interrupt_keeps}

one : (x y : ℕ) → x ≡ y → eqb x 1 ≡ eqb y 1
one x y p = ap (λ (n : ℕ). eqb n 1) p

-- SetupEnd
setup_raised : (r : File) → Whole r → file.setupend (setup_ended r) ≡ true
unfolding file.setupend setup_ended with_setupend
setup_raised r six =
    one _ _ (interrupt_keeps (with_setupend r true) In 0 9 (λ e. omega arith) (λ e. omega arith) ∙ get_or-set_same r 9 1 0 (omega arith))

ended : (o : Event) (r : File) → Whole r → file.setupend (happens o r) ≡ ends o (file.setupend r)
unfolding file.setupend bus_raised with_intrusb missing
ended (arrival f n) r six = one _ _ (arrival_keeps r f n 9 (omega arith) (λ e. omega arith) (λ e. omega arith))
ended (collection f) r six = one _ _ (collection_keeps r f 9 (omega arith) (λ e. omega arith) (λ e. omega arith))
ended (on_bus o) r six = one _ _ (get_or-set_other r 6 9 _ 0 (λ e. omega arith))
ended setupend r six = setup_raised r six
ended (miss f c) r six = keeps_setupend r f c (lapsed (side_at r f c))

pub others : (o : Event) (r : File) → Whole r → Others o r (happens o r)
others o r six = record { ended = ended o r six; number = λ i l h. number o r i (omega arith) }

-- "Interrupt registers clear when read": the one that is read, and no other
pub usb_clears : (r : File) → Whole r
    → (intrusb (intrusb_cleared r) ≡ 0) × (intr_of (intrusb_cleared r) In ≡ intr_of r In) × (intr_of (intrusb_cleared r) Out ≡ intr_of r Out)
unfolding intrusb_cleared with_intrusb intrusb intr_of
usb_clears r six = (get_or-set_same r 6 0 0 (omega arith), get_or-set_other r 6 7 0 0 (λ e. omega arith), get_or-set_other r 6 8 0 0 (λ e. omega arith))

pub tx_clears : (r : File) → Whole r
    → (intr_of (intr_cleared r In) In ≡ 0) × (intrusb (intr_cleared r In) ≡ intrusb r) × (intr_of (intr_cleared r In) Out ≡ intr_of r Out)
unfolding intr_cleared with_intr intrusb intr_of
tx_clears r six = (get_or-set_same r 7 0 0 (omega arith), get_or-set_other r 7 6 0 0 (λ e. omega arith), get_or-set_other r 7 8 0 0 (λ e. omega arith))

pub rx_clears : (r : File) → Whole r
    → (intr_of (intr_cleared r Out) Out ≡ 0) × (intrusb (intr_cleared r Out) ≡ intrusb r) × (intr_of (intr_cleared r Out) In ≡ intr_of r In)
unfolding intr_cleared with_intr intrusb intr_of
rx_clears r six = (get_or-set_same r 8 0 0 (omega arith), get_or-set_other r 8 6 0 0 (λ e. omega arith), get_or-set_other r 8 7 0 0 (λ e. omega arith))

-- and nothing else changes
set_clears : (r : File) (i : ℕ) → Whole r → i < 46 → Clears i r (set r i 0)
set_clears r i six h = record {
  clear = get_or-set_same r i 0 0 (omega arith);
  others = λ j n. get_or-set_other r i j 0 0 n;
  whole = length-set r i 0;
}

pub usb_alone : (r : File) → Whole r → Clears 6 r (intrusb_cleared r)
unfolding intrusb_cleared with_intrusb
usb_alone r six = set_clears r 6 six (omega arith)

pub tx_alone : (r : File) → Whole r → Clears 7 r (intr_cleared r In)
unfolding intr_cleared with_intr
tx_alone r six = set_clears r 7 six (omega arith)

pub rx_alone : (r : File) → Whole r → Clears 8 r (intr_cleared r Out)
unfolding intr_cleared with_intr
rx_alone r six = set_clears r 8 six (omega arith)

-- SetupEnd among it, which is number 9: the three reads of an interrupt leave it
pub reads_keep_end : (r : File) → Whole r → file.setupend (intr_cleared (intr_cleared (intrusb_cleared r) In) Out) ≡ file.setupend r
unfolding file.setupend
reads_keep_end r six =
    let u = usb_alone r six in
    let t = tx_alone (intrusb_cleared r) (u.whole ∙ six) in
    let v = rx_alone (intr_cleared (intrusb_cleared r) In) (t.whole ∙ u.whole ∙ six) in
    ap (λ (n : ℕ). eqb n 1) (v.others 9 (λ z. omega arith) ∙ t.others 9 (λ z. omega arith) ∙ u.others 9 (λ z. omega arith))

-- no event clears RxPktRdy, and none SetupEnd (`ends`): that is left to the driver's stores
either : (b : Bool) (x y : Side) → (y.ready ≡ true → x.ready ≡ true) → y.ready ≡ true → (cond b x y).ready ≡ true
either true x y f p = f p
either false x y f p = p

received_stays : (o : Event) (e : ℕ) (s : Side) → s.ready ≡ true → (leaves o e Out s).ready ≡ true
received_stays (arrival f n) e s p = either (eqb e f) _ s (λ _. refl) p
received_stays (collection f) e s p = either (eqb e f) s s (λ q. q) p
received_stays (on_bus o) e s p = p
received_stays setupend e s p = p
received_stays (miss f Out) e s p = either (eqb e f) _ s (λ q. q) p
received_stays (miss f In) e s p = either (eqb e f) s s (λ q. q) p

pub still_waits : (o : Event) (r : File) → Whole r → at o < 6 → (e : ℕ) → (side_at r e Out).ready ≡ true → (side_at (happens o r) e Out).ready ≡ true
still_waits o r six h e p = ap (λ (s : Side). s.ready) (sides o r e Out six h) ∙ received_stays o e (side_at r e Out) p

-- no event puts a number into the file that no register can hold
interrupt_clean : (r : File) (c : Direction) (i : ℕ) → Clean r → Clean (interrupting r c i)
unfolding interrupting with_intr
interrupt_clean r Out i k = clean_set r 8 (raised (intr_of r Out) i) (omega arith) k
interrupt_clean r In i k = clean_set r 7 (raised (intr_of r In) i) (omega arith) k

bus_clean : (o : BusEvent) (r : File) → Clean r → Clean (bus_raised o r)
unfolding bus_raised with_intrusb
bus_clean o r k = clean_set r 6 (raised (intrusb r) (bus_bit o)) (omega arith) k

waiting_clean : (r : File) (e n : ℕ) → Whole r → Clean r → Clean (waiting_at r e n)
unfolding waiting_at
waiting_clean r e n six k = clean_side r e Out (received n (side_at r e Out)) six k

arrival_clean : (r : File) (e n : ℕ) → Whole r → Clean r → Clean (arrived r e n)
unfolding arrived waiting_at
arrival_clean r e n six k = go (eqb e 0)
  where
    zero : Clean (with_side (waiting_at r 0 n) 0 In (unstalled (side_at r 0 In)))
    zero = clean_side (waiting_at r 0 n) 0 In (unstalled (side_at r 0 In)) (keeps_length r 0 Out (received n (side_at r 0 Out)) ∙ six) (waiting_clean r 0 n six k)

    go : (b : Bool) → Clean (cond b (interrupting (with_side (waiting_at r 0 n) 0 In (unstalled (side_at r 0 In))) In 0) (interrupting (waiting_at r e n) Out e))
    go true = interrupt_clean (with_side (waiting_at r 0 n) 0 In (unstalled (side_at r 0 In))) In 0 zero
    go false = interrupt_clean (waiting_at r e n) Out e (waiting_clean r e n six k)

pub clean : (o : Event) (r : File) → Whole r → Clean r → Clean (happens o r)
unfolding collected setup_ended missing
clean (arrival f n) r six k = arrival_clean r f n six k
clean (collection f) r six k = interrupt_clean _ In f (clean_side r f In (dropped true (side_at r f In)) six k)
clean (on_bus o) r six k = bus_clean o r k
clean setupend r six k = interrupt_clean (with_setupend r true) In 0 (clean_setupend r true six k)
clean (miss f c) r six k = clean_side r f c (lapsed (side_at r f c)) six k

-- and neither does a read of an interrupt register
pub usb_clean : (r : File) → Clean r → Clean (intrusb_cleared r)
unfolding intrusb_cleared with_intrusb
usb_clean r k = clean_set r 6 0 (omega arith) k

pub word_clean : (r : File) (c : Direction) → Clean r → Clean (intr_cleared r c)
unfolding intr_cleared with_intr
word_clean r Out k = clean_set r 8 0 (omega arith) k
word_clean r In k = clean_set r 7 0 (omega arith) k
