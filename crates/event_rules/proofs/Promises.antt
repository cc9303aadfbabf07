-- The model's promises about host events, each once over every event. Assumes nothing.
use Prim.Native.Nat.{ℕ, ◌<◌}
use mathlib.Core.Path.{◌≡◌, refl, ap, ◌∙◌}
use mathlib.Core.Bool.{Bool, true, false, cond}
use native.Mathlib.Omega.{arith}
use native.Mathlib.Decide.{ℕ_discrete}
use borrow.Author.Tests.{ne_eqb}
use lib.Dec.{eqb}
use lib.ListN.{length, get_or, length-set}
use lib.Seq.{get_or-set_same, get_or-set_other}
use Rattle.laws.specs.Words.{raised}
use Rattle.board.specs.declared.Direction.{Direction}
use Rattle.board.specs.declared.Direction.TheVariants.{Out, In}
use Rattle.register_file.specs.Registers.{File, Whole, side_at, with_side, index, faddr, intrusb, with_intrusb, intr_of, with_intr, with_setupend}
use Rattle.csr.specs.Registers.{towards}
use Rattle.csr.specs.Control.{dropped}
use Rattle.csr.proofs.Sides.{out_in}
use Rattle.register_file.proofs.Sides.{side_seen, side_same, side_other, side_flip, set_keeps, keeps, keeps_length, keeps_intr}
use Rattle.event_rules.specs.declared.BusEvent.{BusEvent}
use Rattle.event_rules.specs.declared.BusEvent.TheVariants.{Suspend, Resume, Reset}
use Rattle.event_rules.specs.Events.{interrupting, waiting_at, arrived, collected, bus_bit, bus_raised, setup_ended, missing, received, unstalled, lapsed, intrusb_cleared, intr_cleared}
use Rattle.event_rules.specs.Promise.{Event, arrival, collection, on_bus, setupend, miss, happens, leaves, raises_bus, raises, Kept, at}
use Rattle.register_file.proofs.AsWritten.{setupend_keeps}

-- an interrupt that is raised touches no side, no number but its own, and not how many there are
quiet : (r : File) (c : Direction) (i e : ℕ) (d : Direction) → side_at (interrupting r c i) e d ≡ side_at r e d
unfolding interrupting with_intr
quiet r Out i e d = set_keeps r 8 (raised (intr_of r Out) i) e d (omega arith)
quiet r In i e d = set_keeps r 7 (raised (intr_of r In) i) e d (omega arith)

pub interrupt_keeps : (r : File) (c : Direction) (i q : ℕ) → (q ≡ 7 → ⊥) → (q ≡ 8 → ⊥) → get_or (interrupting r c i) q 0 ≡ get_or r q 0
unfolding interrupting with_intr
interrupt_keeps r Out i q m n = get_or-set_other r 8 q (raised (intr_of r Out) i) 0 n
interrupt_keeps r In i q m n = get_or-set_other r 7 q (raised (intr_of r In) i) 0 m

interrupt_length : (r : File) (c : Direction) (i : ℕ) → length (interrupting r c i) ≡ length r
unfolding interrupting with_intr
interrupt_length r Out i = length-set r 8 (raised (intr_of r Out) i)
interrupt_length r In i = length-set r 7 (raised (intr_of r In) i)

-- it is raised, and that of the other direction is not
interrupt_here : (r : File) (c : Direction) (i : ℕ) → Whole r → intr_of (interrupting r c i) c ≡ raised (intr_of r c) i
unfolding interrupting with_intr intr_of
interrupt_here r Out i six = get_or-set_same r 8 (raised (intr_of r Out) i) 0 (omega arith)
interrupt_here r In i six = get_or-set_same r 7 (raised (intr_of r In) i) 0 (omega arith)

interrupt_in : (r : File) (i : ℕ) → intr_of (interrupting r In i) Out ≡ intr_of r Out
unfolding interrupting with_intr intr_of
interrupt_in r i = get_or-set_other r 7 8 (raised (intr_of r In) i) 0 (λ e. omega arith)

interrupt_out : (r : File) (i : ℕ) → intr_of (interrupting r Out i) In ≡ intr_of r In
unfolding interrupting with_intr intr_of
interrupt_out r i = get_or-set_other r 8 7 (raised (intr_of r Out) i) 0 (λ e. omega arith)

-- a packet that waits, seen at any side
wait_seen : (r : File) (f n e : ℕ) (d : Direction) → Whole r → f < 6
    → side_at (waiting_at r f n) e d ≡ cond (eqb e f) (towards Out d (received n) (side_at r e d)) (side_at r e d)
unfolding waiting_at
wait_seen r f n e d six h = side_seen r f Out (received n) e d six h

wait_keeps : (r : File) (f n q : ℕ) → q < 10 → get_or (waiting_at r f n) q 0 ≡ get_or r q 0
unfolding waiting_at
wait_keeps r f n q h = keeps r f Out (received n (side_at r f Out)) q h

wait_intr : (r : File) (f n : ℕ) (d : Direction) → intr_of (waiting_at r f n) d ≡ intr_of r d
unfolding waiting_at
wait_intr r f n d = keeps_intr r f Out (received n (side_at r f Out)) d

wait_length : (r : File) (f n : ℕ) → length (waiting_at r f n) ≡ length r
unfolding waiting_at
wait_length r f n = keeps_length r f Out (received n (side_at r f Out))

-- an arrival at endpoint 0: its packet waits, and its SendStall is dropped
abbrev zero_waits : File → ℕ → File
zero_waits r n = with_side (waiting_at r 0 n) 0 In (unstalled (side_at r 0 In))

zero_seen : (r : File) (n e : ℕ) (d : Direction) → Whole r → side_at (arrived r 0 n) e d ≡ leaves (arrival 0 n) e d (side_at r e d)
unfolding arrived
zero_seen r n e d six = quiet (zero_waits r n) In 0 e d ∙ go d (ℕ_discrete e 0)
  where
    go : (d : Direction) → Dec (e ≡ 0) → side_at (zero_waits r n) e d ≡ leaves (arrival 0 n) e d (side_at r e d)
    go Out (yes p) = rw p (side_flip (waiting_at r 0 n) 0 In _ Out out_in ∙ wait_seen r 0 n 0 Out six (omega arith))
    go In (yes p) = rw p (side_same (waiting_at r 0 n) 0 In _ (wait_length r 0 n ∙ six) (omega arith))
    go Out (no m) = rw (ne_eqb e 0 m) (side_other (waiting_at r 0 n) 0 In _ e Out m ∙ wait_seen r 0 n e Out six (omega arith) ∙ rw (ne_eqb e 0 m))
    go In (no m) = rw (ne_eqb e 0 m) (side_other (waiting_at r 0 n) 0 In _ e In m ∙ wait_seen r 0 n e In six (omega arith) ∙ rw (ne_eqb e 0 m))

zero_length : (r : File) (n : ℕ) → length (zero_waits r n) ≡ length r
zero_length r n = keeps_length (waiting_at r 0 n) 0 In (unstalled (side_at r 0 In)) ∙ wait_length r 0 n

zero_intr : (r : File) (n : ℕ) (d : Direction) → intr_of (zero_waits r n) d ≡ intr_of r d
zero_intr r n d = keeps_intr (waiting_at r 0 n) 0 In (unstalled (side_at r 0 In)) d ∙ wait_intr r 0 n d

-- an arrival at another endpoint
other_seen : (r : File) (f n e : ℕ) (d : Direction) → (f ≡ 0 → ⊥) → Whole r → f < 6 → side_at (arrived r f n) e d ≡ leaves (arrival f n) e d (side_at r e d)
unfolding arrived
other_seen r f n e d m six h = rw (ne_eqb f 0 m) (quiet (waiting_at r f n) Out f e d ∙ wait_seen r f n e d six h ∙ go d)
  where
    go : (d : Direction) → cond (eqb e f) (towards Out d (received n) (side_at r e d)) (side_at r e d) ≡ leaves (arrival f n) e d (side_at r e d)
    go Out = refl
    go In = rw (ne_eqb f 0 m) (same (eqb e f))
      where
        same : (b : Bool) → cond b (side_at r e In) (side_at r e In) ≡ side_at r e In
        same true = refl
        same false = refl

arrival_seen : (r : File) (f n e : ℕ) (d : Direction) → Whole r → f < 6 → side_at (arrived r f n) e d ≡ leaves (arrival f n) e d (side_at r e d)
arrival_seen r f n e d six h = go (ℕ_discrete f 0)
  where
    go : Dec (f ≡ 0) → side_at (arrived r f n) e d ≡ leaves (arrival f n) e d (side_at r e d)
    go (yes p) = rw p (zero_seen r n e d six)
    go (no m) = other_seen r f n e d m six h

-- a bus event touches its own register alone
bus_seen : (o : BusEvent) (r : File) (e : ℕ) (d : Direction) → side_at (bus_raised o r) e d ≡ side_at r e d
unfolding bus_raised with_intrusb
bus_seen o r e d = set_keeps r 6 (raised (intrusb r) (bus_bit o)) e d (omega arith)

bus_keeps : (o : BusEvent) (r : File) (q : ℕ) → (q ≡ 6 → ⊥) → get_or (bus_raised o r) q 0 ≡ get_or r q 0
unfolding bus_raised with_intrusb
bus_keeps o r q n = get_or-set_other r 6 q (raised (intrusb r) (bus_bit o)) 0 n

bus_length : (o : BusEvent) (r : File) → length (bus_raised o r) ≡ length r
unfolding bus_raised with_intrusb
bus_length o r = length-set r 6 (raised (intrusb r) (bus_bit o))

bus_here : (o : BusEvent) (r : File) → Whole r → intrusb (bus_raised o r) ≡ raised (intrusb r) (bus_bit o)
unfolding bus_raised with_intrusb intrusb
bus_here o r six = get_or-set_same r 6 (raised (intrusb r) (bus_bit o)) 0 (omega arith)

bus_intr : (o : BusEvent) (r : File) (d : Direction) → intr_of (bus_raised o r) d ≡ intr_of r d
unfolding intr_of
bus_intr o r Out = bus_keeps o r 8 (λ e. omega arith)
bus_intr o r In = bus_keeps o r 7 (λ e. omega arith)

-- SetupEnd raised touches its own number alone
end_keeps : (r : File) (b : Bool) (q : ℕ) → q < 9 → get_or (with_setupend r b) q 0 ≡ get_or r q 0
unfolding with_setupend
end_keeps r b q h = get_or-set_other r 9 q (cond b 1 0) 0 (λ e. omega arith)

end_length : (r : File) (b : Bool) → length (with_setupend r b) ≡ length r
unfolding with_setupend
end_length r b = length-set r 9 (cond b 1 0)

end_intr : (r : File) (b : Bool) (d : Direction) → intr_of (with_setupend r b) d ≡ intr_of r d
unfolding intr_of
end_intr r b Out = end_keeps r b 8 (omega arith)
end_intr r b In = end_keeps r b 7 (omega arith)

-- every event leaves every side as the account says
pub sides : (o : Event) (r : File) (e : ℕ) (d : Direction) → Whole r → at o < 6 → side_at (happens o r) e d ≡ leaves o e d (side_at r e d)
unfolding collected setup_ended missing
sides (arrival f n) r e d six h = arrival_seen r f n e d six h
sides (collection f) r e d six h = quiet _ In f e d ∙ side_seen r f In (dropped true) e d six h
sides (on_bus o) r e d six h = bus_seen o r e d
sides setupend r e d six h = quiet _ In 0 e d ∙ setupend_keeps r true e d
sides (miss f c) r e d six h = side_seen r f c lapsed e d six h

-- an arrival and a collection leave every number before the sides' but the interrupt registers of the two directions
pub arrival_keeps : (r : File) (f n q : ℕ) → q < 10 → (q ≡ 7 → ⊥) → (q ≡ 8 → ⊥) → get_or (arrived r f n) q 0 ≡ get_or r q 0
unfolding arrived
arrival_keeps r f n q h k m = go (eqb f 0)
  where
    go : (b : Bool) → get_or (cond b (interrupting (zero_waits r n) In 0) (interrupting (waiting_at r f n) Out f)) q 0 ≡ get_or r q 0
    go true = interrupt_keeps (zero_waits r n) In 0 q k m ∙ keeps (waiting_at r 0 n) 0 In (unstalled (side_at r 0 In)) q h ∙ wait_keeps r 0 n q h
    go false = interrupt_keeps (waiting_at r f n) Out f q k m ∙ wait_keeps r f n q h

pub collection_keeps : (r : File) (f q : ℕ) → q < 10 → (q ≡ 7 → ⊥) → (q ≡ 8 → ⊥) → get_or (collected r f) q 0 ≡ get_or r q 0
unfolding collected
collection_keeps r f q h k m =
    interrupt_keeps (with_side r f In (dropped true (side_at r f In))) In f q k m ∙ keeps r f In (dropped true (side_at r f In)) q h

-- every event keeps the numbers before the interrupt registers
pub number : (o : Event) (r : File) (q : ℕ) → q < 6 → get_or (happens o r) q 0 ≡ get_or r q 0
unfolding setup_ended missing
number (arrival f n) r q h = arrival_keeps r f n q (omega arith) (λ e. omega arith) (λ e. omega arith)
number (collection f) r q h = collection_keeps r f q (omega arith) (λ e. omega arith) (λ e. omega arith)
number (on_bus o) r q h = bus_keeps o r q (λ e. omega arith)
number setupend r q h = interrupt_keeps (with_setupend r true) In 0 q (λ e. omega arith) (λ e. omega arith) ∙ end_keeps r true q (omega arith)
number (miss f c) r q h = keeps r f c (lapsed (side_at r f c)) q (omega arith)

-- every event raises what the account says: of the bus
pub bus : (o : Event) (r : File) → Whole r → intrusb (happens o r) ≡ raises_bus o (intrusb r)
unfolding setup_ended missing intrusb
bus (arrival f n) r six = arrival_keeps r f n 6 (omega arith) (λ e. omega arith) (λ e. omega arith)
bus (collection f) r six = collection_keeps r f 6 (omega arith) (λ e. omega arith) (λ e. omega arith)
bus (on_bus Reset) r six = bus_here Reset r six
bus (on_bus Suspend) r six = bus_here Suspend r six
bus (on_bus Resume) r six = bus_here Resume r six
bus setupend r six = interrupt_keeps (with_setupend r true) In 0 6 (λ e. omega arith) (λ e. omega arith) ∙ end_keeps r true 6 (omega arith)
bus (miss f c) r six = keeps r f c (lapsed (side_at r f c)) 6 (omega arith)

-- and of each direction
arrival_raises : (r : File) (f n : ℕ) (d : Direction) → Whole r → intr_of (arrived r f n) d ≡ raises (arrival f n) d (intr_of r d)
unfolding arrived
arrival_raises r f n Out six = go (eqb f 0)
  where
    go : (b : Bool) → intr_of (cond b (interrupting (zero_waits r n) In 0) (interrupting (waiting_at r f n) Out f)) Out ≡ cond b (intr_of r Out) (raised (intr_of r Out) f)
    go true = interrupt_in (zero_waits r n) 0 ∙ zero_intr r n Out
    go false = interrupt_here (waiting_at r f n) Out f (wait_length r f n ∙ six) ∙ ap (λ (p : ℕ). raised p f) (wait_intr r f n Out)
arrival_raises r f n In six = go (eqb f 0)
  where
    go : (b : Bool) → intr_of (cond b (interrupting (zero_waits r n) In 0) (interrupting (waiting_at r f n) Out f)) In ≡ cond b (raised (intr_of r In) 0) (intr_of r In)
    go true = interrupt_here (zero_waits r n) In 0 (zero_length r n ∙ six) ∙ ap (λ (p : ℕ). raised p 0) (zero_intr r n In)
    go false = interrupt_out (waiting_at r f n) f ∙ wait_intr r f n In

pub pending : (o : Event) (r : File) (d : Direction) → Whole r → intr_of (happens o r) d ≡ raises o d (intr_of r d)
unfolding collected setup_ended missing
pending (arrival f n) r d six = arrival_raises r f n d six
pending (collection f) r Out six = interrupt_in _ f ∙ keeps_intr r f In _ Out
pending (collection f) r In six =
    interrupt_here (with_side r f In (dropped true (side_at r f In))) In f (keeps_length r f In _ ∙ six)
    ∙ ap (λ (p : ℕ). raised p f) (keeps_intr r f In (dropped true (side_at r f In)) In)
pending (on_bus o) r d six = bus_intr o r d
pending setupend r Out six = interrupt_in _ 0 ∙ end_intr r true Out
pending setupend r In six = interrupt_here (with_setupend r true) In 0 (end_length r true ∙ six) ∙ ap (λ (p : ℕ). raised p 0) (end_intr r true In)
pending (miss f c) r d six = keeps_intr r f c (lapsed (side_at r f c)) d

-- how many numbers there are
arrival_length : (r : File) (f n : ℕ) → length (arrived r f n) ≡ length r
unfolding arrived
arrival_length r f n = go (eqb f 0)
  where
    go : (b : Bool) → length (cond b (interrupting (zero_waits r n) In 0) (interrupting (waiting_at r f n) Out f)) ≡ length r
    go true = interrupt_length (zero_waits r n) In 0 ∙ zero_length r n
    go false = interrupt_length (waiting_at r f n) Out f ∙ wait_length r f n

pub whole : (o : Event) (r : File) → length (happens o r) ≡ length r
unfolding collected setup_ended missing
whole (arrival f n) r = arrival_length r f n
whole (collection f) r = interrupt_length _ In f ∙ keeps_length r f In (dropped true (side_at r f In))
whole (on_bus o) r = bus_length o r
whole setupend r = interrupt_length _ In 0 ∙ end_length r true
whole (miss f c) r = keeps_length r f c (lapsed (side_at r f c))

-- every event keeps the number of registers, the selection and the address
pub rest : (o : Event) (r : File) → Kept r (happens o r)
unfolding index faddr
rest o r = record { whole = whole o r; selected = number o r 0 (omega arith); addressed = number o r 1 (omega arith) }

-- "Interrupt registers clear when read": and nothing else changes
pub usb_read : (r : File) (e : ℕ) (d : Direction) → side_at (intrusb_cleared r) e d ≡ side_at r e d
unfolding intrusb_cleared with_intrusb
usb_read r e d = set_keeps r 6 0 e d (omega arith)

pub word_read : (r : File) (c : Direction) (e : ℕ) (d : Direction) → side_at (intr_cleared r c) e d ≡ side_at r e d
unfolding intr_cleared with_intr
word_read r Out e d = set_keeps r 8 0 e d (omega arith)
word_read r In e d = set_keeps r 7 0 e d (omega arith)

pub usb_rest : (r : File) → Kept r (intrusb_cleared r)
unfolding intrusb_cleared with_intrusb index faddr
usb_rest r = record {
  whole = length-set r 6 0;
  selected = get_or-set_other r 6 0 0 0 (λ e. omega arith);
  addressed = get_or-set_other r 6 1 0 0 (λ e. omega arith);
}

pub word_rest : (r : File) (c : Direction) → Kept r (intr_cleared r c)
unfolding intr_cleared with_intr index faddr
word_rest r Out = record {
  whole = length-set r 8 0;
  selected = get_or-set_other r 8 0 0 0 (λ e. omega arith);
  addressed = get_or-set_other r 8 1 0 0 (λ e. omega arith);
}
word_rest r In = record {
  whole = length-set r 7 0;
  selected = get_or-set_other r 7 0 0 0 (λ e. omega arith);
  addressed = get_or-set_other r 7 1 0 0 (λ e. omega arith);
}
