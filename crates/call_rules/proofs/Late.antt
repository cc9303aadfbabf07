-- Interrupts that come late: an interrupt that is taken before another adds nothing to what the other leaves. The flags hold what was read of all of them, whichever
-- read it, and the registers are cleared by the last. Assumes nothing.
use Prim.Native.Nat.{ℕ, ◌^◌, ◌-◌}
use mathlib.Core.Path.{◌≡◌, refl, sym, ap, ap₂, ◌∙◌}
use mathlib.Core.Bool.{Bool, true, false, cond, ◌||◌, or_assoc}
use mathlib.Core.List.{List, [], ◌∷◌, foldl}
use borrow.Author.Tests.{lt-ltb}
use lib.Bits.{bit_or, or_zero_l, or_zero_r, or_self, or_comm}
use lib.ListN.{length, get_or, length-set}
use native.Mathlib.Omega.{arith}
use Rattle.laws.specs.Words.{bit, raised}
use Rattle.laws.specs.Lists.{numbers}
use Rattle.laws.specs.Tests.{◌also◌}
use Rattle.laws.proofs.Tests.{also_left, also_both}
use Rattle.laws.proofs.Words as words
use Rattle.laws.proofs.Words.{bit_or_lem}
use Rattle.board.specs.Boards.{rows, at_least_one, at_most_six}
use Rattle.board.specs.declared.Board.{Board}
use Rattle.register_file.specs.Registers.{File, Whole}
use Rattle.register_file.proofs.Pending.{PendingAt, at_bus, at_tx, at_rx, sound_unseen}
use Rattle.register_file.proofs.Raised.{more_here, more_read, ups, ups_none, ups_again, ups_usb, ups_tx, ups_rx, calm, calm_again, calm_ups, calm_length, calm_other, calm_usb, calm_tx, calm_rx, unseen_three}
use Rattle.event_rules.specs.Events.{bus_bit}
use Rattle.event_rules.specs.declared.BusEvent.TheVariants.{Suspend, Resume, Reset}
use Rattle.event_rules.specs.Raised.{bits_raised}
use Rattle.event_rules.proofs.Raised.{raised_is, read_usb, read_tx, read_rx, read_all}
use Rattle.record.specs.declared.Flags.{Flags}
use Rattle.record.specs.declared.Record.{Record}
use Rattle.record.specs.Record.{with_regs, with_tx, passes, flags_sound, record_sound, endpoints_in, endpoints_of}
use Rattle.record.proofs.Passing.{record_is_sound}
use Rattle.call_rules.specs.declared.Snapshot.{Snapshot}
use Rattle.call_rules.specs.Interrupt.{snapshot_of, cleared, bus_taken, raised_if, endpoints_taken, taken, interrupted, interrupt_call}
use Rattle.call_rules.specs.Late.{nothing, joined, AllBits, raised_in, take, LateInterrupts, TakesAll}
use Rattle.call_rules.proofs.Flags.{taken_low}
use Rattle.call_rules.proofs.Taken.{walked, takes}

-- joining -----------------------------------------------------------------------------------------------------------------------------

pub all_bits : (a b : Snapshot) → AllBits a b (joined a b)
unfolding joined
all_bits a b = record { usb = bit_or_lem a.usb b.usb; tx = bit_or_lem a.tx b.tx; rx = bit_or_lem a.rx b.rx }

snapshot : {a b c d e f : ℕ} → a ≡ d → b ≡ e → c ≡ f → ◌≡◌ {A = Snapshot} (record { usb = a; tx = b; rx = c }) (record { usb = d; tx = e; rx = f })
snapshot p q r = λ i. record { usb = p i; tx = q i; rx = r i }

joined_comm : (a b : Snapshot) → joined a b ≡ joined b a
unfolding joined
joined_comm a b = snapshot (or_comm a.usb b.usb) (or_comm a.tx b.tx) (or_comm a.rx b.rx)

joined_self : (a : Snapshot) → joined a a ≡ a
unfolding joined
joined_self a = snapshot (or_self a.usb) (or_self a.tx) (or_self a.rx)

-- the flags ---------------------------------------------------------------------------------------------------------------------------

-- the bits of a word at the endpoints of a list
picked : ℕ → List ℕ → ℕ
picked s [] = 0
picked s (e ∷ l) = bit_or (cond (bit s e) (2 ^ e) 0) (picked s l)

-- the walk adds them, all at once
raised_if_lem : (s w e : ℕ) → raised_if s w e ≡ bit_or w (cond (bit s e) (2 ^ e) 0)
unfolding raised_if raised
raised_if_lem s w e = go (bit s e)
  where
    go : (b : Bool) → cond b (bit_or w (2 ^ e)) w ≡ bit_or w (cond b (2 ^ e) 0)
    go true = refl
    go false = sym (or_zero_r w)

walk_adds : (s w : ℕ) (l : List ℕ) → foldl (raised_if s) w l ≡ bit_or w (picked s l)
unfolding picked
walk_adds s w [] = sym (or_zero_r w)
walk_adds s w (e ∷ l) =
    walk_adds s (raised_if s w e) l ∙ ap (λ (x : ℕ). bit_or x (picked s l)) (raised_if_lem s w e) ∙ words.or_assoc w (cond (bit s e) (2 ^ e) 0) (picked s l)

or_four : (a b c d : ℕ) → bit_or (bit_or a b) (bit_or c d) ≡ bit_or (bit_or a c) (bit_or b d)
or_four a b c d =
    words.or_assoc a b (bit_or c d)
    ∙ ap (bit_or a) (sym (words.or_assoc b c d) ∙ ap (λ (x : ℕ). bit_or x d) (or_comm b c) ∙ words.or_assoc c b d)
    ∙ sym (words.or_assoc a c (bit_or b d))

one_of : (a b : Bool) (x : ℕ) → cond (a || b) x 0 ≡ bit_or (cond a x 0) (cond b x 0)
one_of true true x = sym (or_self x)
one_of true false x = sym (or_zero_r x)
one_of false b x = sym (or_zero_l (cond b x 0))

picked_both : (a b : ℕ) (l : List ℕ) → picked (bit_or a b) l ≡ bit_or (picked a l) (picked b l)
unfolding picked
picked_both a b [] = sym (or_zero_l 0)
picked_both a b (e ∷ l) =
    ap₂ bit_or (ap (λ (x : Bool). cond x (2 ^ e) 0) (bit_or_lem a b e) ∙ one_of (bit a e) (bit b e) (2 ^ e)) (picked_both a b l)
    ∙ or_four (cond (bit a e) (2 ^ e) 0) (cond (bit b e) (2 ^ e) 0) (picked a l) (picked b l)

walk_again : (a b w : ℕ) (l : List ℕ) → foldl (raised_if b) (foldl (raised_if a) w l) l ≡ foldl (raised_if (bit_or a b)) w l
walk_again a b w l =
    walk_adds b (foldl (raised_if a) w l) l ∙ ap (λ (x : ℕ). bit_or x (picked b l)) (walk_adds a w l) ∙ words.or_assoc w (picked a l) (picked b l)
    ∙ ap (bit_or w) (sym (picked_both a b l)) ∙ sym (walk_adds (bit_or a b) w l)

-- all the flags, each by itself
abbrev flags_of : ℕ → Snapshot → Flags → Flags
flags_of n s f = record {
  reset = f.reset || bit s.usb (bus_bit Reset);
  suspend = f.suspend || bit s.usb (bus_bit Suspend);
  resume = f.resume || bit s.usb (bus_bit Resume);
  ep0 = f.ep0 || bit s.tx 0;
  ep_tx = foldl (raised_if s.tx) f.ep_tx (numbers 1 (n - 1));
  ep_rx = foldl (raised_if s.rx) f.ep_rx (numbers 1 (n - 1));
}

taken_is : (n : ℕ) (s : Snapshot) (f : Flags) → taken n s f ≡ flags_of n s f
unfolding taken endpoints_taken bus_taken
taken_is n s f =
    let w = walked s (bus_taken s f) (numbers 1 (n - 1)) in
    λ i. record { reset = w.reset i; suspend = w.suspend i; resume = w.resume i; ep0 = w.ep0 i; ep_tx = w.tx i; ep_rx = w.rx i }

-- one flag: what was up, and what either snapshot has
flag_again : (x : Bool) (a b j : ℕ) → ((x || bit a j) || bit b j) ≡ (x || bit (bit_or a b) j)
flag_again x a b j = or_assoc x (bit a j) (bit b j) ∙ ap (λ (y : Bool). x || y) (sym (bit_or_lem a b j))

taken_again : (n : ℕ) (a b : Snapshot) (f : Flags) → taken n b (taken n a f) ≡ taken n (joined a b) f
unfolding joined
taken_again n a b f = taken_is n b (taken n a f) ∙ ap (flags_of n b) (taken_is n a f) ∙ both ∙ sym (taken_is n (joined a b) f)
  where
    both : flags_of n b (flags_of n a f) ≡ flags_of n (joined a b) f
    both = λ i. record {
      reset = flag_again f.reset a.usb b.usb (bus_bit Reset) i;
      suspend = flag_again f.suspend a.usb b.usb (bus_bit Suspend) i;
      resume = flag_again f.resume a.usb b.usb (bus_bit Resume) i;
      ep0 = flag_again f.ep0 a.tx b.tx 0 i;
      ep_tx = walk_again a.tx b.tx f.ep_tx (numbers 1 (n - 1)) i;
      ep_rx = walk_again a.rx b.rx f.ep_rx (numbers 1 (n - 1)) i;
    }

-- A flag that a call raises, as a write that ends a request without data does, is up whether it is raised before an interrupt or after.
pub taken_beside : (n i : ℕ) (s : Snapshot) (f : Flags) → taken n s (with_tx f (raised f.ep_tx i)) ≡ with_tx (taken n s f) (raised (taken n s f).ep_tx i)
unfolding raised
taken_beside n i s f =
    taken_is n s (with_tx f (bit_or f.ep_tx (2 ^ i))) ∙ ap (with_tx (flags_of n s f)) swapped ∙ ap (λ (g : Flags). with_tx g (bit_or g.ep_tx (2 ^ i))) (sym (taken_is n s f))
  where
    l : List ℕ
    l = numbers 1 (n - 1)

    swapped : foldl (raised_if s.tx) (bit_or f.ep_tx (2 ^ i)) (numbers 1 (n - 1)) ≡ bit_or (foldl (raised_if s.tx) f.ep_tx (numbers 1 (n - 1))) (2 ^ i)
    swapped =
        walk_adds s.tx (bit_or f.ep_tx (2 ^ i)) l ∙ words.or_assoc f.ep_tx (2 ^ i) (picked s.tx l)
        ∙ ap (bit_or f.ep_tx) (or_comm (2 ^ i) (picked s.tx l)) ∙ sym (words.or_assoc f.ep_tx (picked s.tx l) (2 ^ i))
        ∙ ap (λ (x : ℕ). bit_or x (2 ^ i)) (sym (walk_adds s.tx f.ep_tx l))

-- the registers -----------------------------------------------------------------------------------------------------------------------

-- what an interrupt reads, and what it leaves
reads : (r : File) → snapshot_of r ≡ record { usb = get_or r 6 0; tx = get_or r 7 0; rx = get_or r 8 0 }
unfolding snapshot_of
reads r = snapshot (read_usb r) (read_tx r) (read_rx r)

-- what leaves the three as they were is read alike
pub same_reads : (r q : File) → ((p : ℕ) → PendingAt p → get_or q p 0 ≡ get_or r p 0) → snapshot_of q ≡ snapshot_of r
same_reads r q same = reads q ∙ snapshot (same 6 at_bus) (same 7 at_tx) (same 8 at_rx) ∙ sym (reads r)

pub clears : (r : File) → cleared r ≡ calm r
unfolding cleared
clears r = read_all r

-- what is raised is read beside what stood there
reads_raised : (s : Snapshot) (r : File)
    → snapshot_of (bits_raised s.usb s.tx s.rx r) ≡ joined (snapshot_of r) (snapshot_of (bits_raised s.usb s.tx s.rx (cleared r)))
unfolding joined
reads_raised s r =
    ap snapshot_of (raised_is s.usb s.tx s.rx r) ∙ reads _
    ∙ snapshot
    (ups_usb s.usb s.tx s.rx r ∙ more_read 6 s.usb r (calm r) (calm_length r) (calm_usb r) ∙ ap (bit_or (get_or r 6 0)) (sym (ups_usb s.usb s.tx s.rx (calm r))))
    (ups_tx s.usb s.tx s.rx r ∙ more_read 7 s.tx r (calm r) (calm_length r) (calm_tx r) ∙ ap (bit_or (get_or r 7 0)) (sym (ups_tx s.usb s.tx s.rx (calm r))))
    (ups_rx s.usb s.tx s.rx r ∙ more_read 8 s.rx r (calm r) (calm_length r) (calm_rx r) ∙ ap (bit_or (get_or r 8 0)) (sym (ups_rx s.usb s.tx s.rx (calm r))))
    ∙ sym (ap₂ joined (reads r) (ap snapshot_of (ap (bits_raised s.usb s.tx s.rx) (clears r) ∙ raised_is s.usb s.tx s.rx (calm r)) ∙ reads _))

clears_raised : (s : Snapshot) (r : File) → cleared (bits_raised s.usb s.tx s.rx r) ≡ cleared r
clears_raised s r = ap cleared (raised_is s.usb s.tx s.rx r) ∙ clears _ ∙ calm_ups s.usb s.tx s.rx r ∙ sym (clears r)

clears_again : (r : File) → cleared (cleared r) ≡ cleared r
clears_again r = ap cleared (clears r) ∙ clears (calm r) ∙ calm_again r ∙ sym (clears r)

-- the record --------------------------------------------------------------------------------------------------------------------------

-- reply 16 does not ask what is pending
passes_raised : (b : Board) (f : Flags) (usb tx rx : ℕ) (r : File) → passes b (bits_raised usb tx rx r) f ≡ passes b r f
unfolding passes
passes_raised b f usb tx rx r =
    ap (λ (w : File). passes b w f) (raised_is usb tx rx r) ∙ ap (λ (x : Bool). x also flags_sound b f) (unseen_three (sound_unseen _ _) _ _ _ r)

passes_cleared : (b : Board) (f : Flags) (r : File) → passes b (cleared r) f ≡ passes b r f
unfolding passes
passes_cleared b f r = ap (λ (w : File). passes b w f) (clears r) ∙ ap (λ (x : Bool). x also flags_sound b f) (unseen_three (sound_unseen _ _) 0 0 0 r)

sound_raised : (k : Record) (s : Snapshot) → record_sound (raised_in k s) ≡ record_sound k
unfolding record_sound raised_in
sound_raised k s = passes_raised k.regs.board k.irq s.usb s.tx s.rx k.regs.words

-- a record that passes goes on passing
pub sound_interrupted : (k : Record) → record_sound k ≡ true → record_sound (interrupted k) ≡ true
unfolding record_sound interrupted passes flags_sound endpoints_of endpoints_in
sound_interrupted k p =
    let s = record_is_sound k p in
    let low = taken_low (length (rows k.regs.board)) (snapshot_of k.regs.words) k.irq (at_least_one k.regs.board) s.tx s.rx in
    passes_cleared k.regs.board (interrupted k).irq k.regs.words
    ∙ also_both (also_left _ _ p) (also_both (lt-ltb _ _ low.0) (lt-ltb _ _ low.1))

-- an interrupt that is refused, and one that is taken
pub is_refused : (k : Record) → record_sound k ≡ false → (interrupt_call k).«record» ≡ k
unfolding interrupt_call
is_refused k p = rw p

pub is_taken : (k : Record) → record_sound k ≡ true → (interrupt_call k).«record» ≡ interrupted k
unfolding interrupt_call
is_taken k p = rw p

-- One that comes before a snapshot is taken adds nothing.
pub before : (k : Record) (s : Snapshot) → interrupted (raised_in (interrupted k) s) ≡ interrupted (raised_in k s)
unfolding interrupted raised_in endpoints_of
before k s = λ i. record {
  regs = record { board = k.regs.board; words = (clears_raised s (cleared r) ∙ clears_again r ∙ sym (clears_raised s r)) i };
  endpoints = k.endpoints;
  control_state = k.control_state;
  irq = (taken_again n (snapshot_of r) (snapshot_of (bits_raised s.usb s.tx s.rx (cleared r))) k.irq ∙ ap (λ (x : Snapshot). taken n x k.irq) (sym (reads_raised s r))) i;
}
  where
    r : File
    r = k.regs.words

    n : ℕ
    n = endpoints_in k.regs.board

later : (k : Record) (s : Snapshot) → take (interrupt_call k).«record» s ≡ take k s
later k s = go (record_sound k) refl
  where
    go : (b : Bool) → record_sound k ≡ b → take (interrupt_call k).«record» s ≡ take k s
    go false p = ap (λ (j : Record). take j s) (is_refused k p)
    go true p =
        ap (λ (j : Record). take j s) (is_taken k p) ∙ is_taken (raised_in (interrupted k) s) (sound_raised (interrupted k) s ∙ sound_interrupted k p)
        ∙ before k s ∙ sym (is_taken (raised_in k s) (sound_raised k s ∙ p))

-- nothing raised: an interrupt right after another changes nothing, refused or not
raised_nothing : (k : Record) → raised_in k nothing ≡ k
unfolding raised_in
raised_nothing k = ap (with_regs k) (raised_is 0 0 0 k.regs.words ∙ ups_none k.regs.words)

pub again : (k : Record) → (interrupt_call (interrupt_call k).«record»).«record» ≡ (interrupt_call k).«record»
again k =
    ap (λ (j : Record). (interrupt_call j).«record») (sym (raised_nothing (interrupt_call k).«record»)) ∙ later k nothing
    ∙ ap (λ (j : Record). (interrupt_call j).«record») (raised_nothing k)

pub twice : (k : Record) → interrupted (interrupted k) ≡ interrupted k
twice k = ap interrupted (sym (raised_nothing (interrupted k))) ∙ before k nothing ∙ ap interrupted (raised_nothing k)

-- one snapshot raised, and then another
raised_again : (k : Record) (a b : Snapshot) → raised_in (raised_in k a) b ≡ raised_in k (joined a b)
unfolding raised_in joined
raised_again k a b =
    ap (with_regs k)
    (raised_is b.usb b.tx b.rx _ ∙ ap (ups b.usb b.tx b.rx) (raised_is a.usb a.tx a.rx k.regs.words)
    ∙ ups_again a.usb a.tx a.rx b.usb b.tx b.rx k.regs.words ∙ sym (raised_is _ _ _ k.regs.words))

-- T-11
two : (k : Record) (a b : Snapshot) → take (take k a) b ≡ take k (joined a b)
two k a b = later (raised_in k a) b ∙ ap (λ (j : Record). (interrupt_call j).«record») (raised_again k a b)

pub late_interrupts : LateInterrupts
late_interrupts = record {
  two = two;
  order = λ k a b. two k a b ∙ ap (take k) (joined_comm a b) ∙ sym (two k b a);
  twice = λ k a. two k a a ∙ ap (take k) (joined_self a);
}

-- nothing waits any more
none_left : (r : File) → snapshot_of (cleared r) ≡ nothing
none_left r = ap snapshot_of (clears r) ∙ reads (calm r) ∙ snapshot (calm_usb r) (calm_tx r) (calm_rx r)

-- and all that waits is taken: of every whole record that passes 16
alone : (s : Snapshot) (r : File) → Whole r → snapshot_of (bits_raised s.usb s.tx s.rx (cleared r)) ≡ s
alone s r six =
    let long : Whole (calm r) = calm_length r ∙ six in
    let alone_of : (x v : ℕ) → x ≡ 0 → bit_or x v ≡ v = λ x v p. ap (λ (y : ℕ). bit_or y v) p ∙ or_zero_l v in
    ap snapshot_of (ap (bits_raised s.usb s.tx s.rx) (clears r) ∙ raised_is s.usb s.tx s.rx (calm r)) ∙ reads _
    ∙ snapshot
    (ups_usb s.usb s.tx s.rx (calm r) ∙ more_here 6 s.usb (calm r) long (omega arith) ∙ alone_of _ s.usb (calm_usb r))
    (ups_tx s.usb s.tx s.rx (calm r) ∙ more_here 7 s.tx (calm r) long (omega arith) ∙ alone_of _ s.tx (calm_tx r))
    (ups_rx s.usb s.tx s.rx (calm r) ∙ more_here 8 s.rx (calm r) long (omega arith) ∙ alone_of _ s.rx (calm_rx r))

pub takes_all : (k : Record) (s : Snapshot) → record_sound k ≡ true → Whole k.regs.words → TakesAll k s
unfolding raised_in interrupted endpoints_of endpoints_in
takes_all k s p six =
    let q : record_sound (raised_in k s) ≡ true = sound_raised k s ∙ p in
    let long : Whole (bits_raised s.usb s.tx s.rx k.regs.words) = ap length (raised_is s.usb s.tx s.rx k.regs.words) ∙ simp length-set six in
    let is : take k s ≡ interrupted (raised_in k s) = is_taken (raised_in k s) q in
    let words : (take k s).regs.words ≡ calm k.regs.words = ap (λ (j : Record). j.regs.words) is ∙ clears_raised s k.regs.words ∙ clears k.regs.words in
    record {
      read = reads_raised s k.regs.words ∙ ap (joined (snapshot_of k.regs.words)) (alone s k.regs.words six);
      flags = rw is (takes (length (rows k.regs.board)) _ k.irq long (at_most_six k.regs.board));
      left = rw is (none_left (bits_raised s.usb s.tx s.rx k.regs.words));
      others = λ i l m n. ap (λ (w : File). get_or w i 0) words ∙ calm_other i k.regs.words l m n;
      whole = ap length words ∙ calm_length k.regs.words;
      rest = rw is refl;
    }
