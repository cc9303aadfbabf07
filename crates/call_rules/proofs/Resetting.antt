-- `reset`, where it is answered, leaves what specs/Resetting.antt says: one endpoint after the other, each leaves what the others have.
-- Assumes nothing.
use Rattle.std.specs.Prelude.{Err, Ok}
use Prim.Native.Nat.{ℕ, zero, suc, ◌<◌, ◌≤◌}
use mathlib.Core.Path.{◌≡◌, refl, sym, ap, subst, ◌∙◌}
use mathlib.Core.Bool.{Bool, true, false, ◌||◌, cond}
use mathlib.Core.List.{List}
use native.Mathlib.Omega.{arith}
use native.Mathlib.Decide.{ℕ_discrete}
use lib.ListN.{length, get_or}
use Rattle.laws.specs.Words.{bit}
use Rattle.laws.proofs.Tests.{clash}
use Rattle.board.specs.declared.Direction.{Direction}
use Rattle.board.specs.declared.Direction.TheVariants.{Out, In}
use Rattle.board.specs.Boards.{rows, at_most_six}
use Rattle.csr.specs.declared.Side.{Side}
use Rattle.csr.proofs.Sides.{same_direction, in_out, out_in}
use Rattle.register_file.specs.Registers.{Whole, side_at, faddr, enabled_of}
use Rattle.endpoints.specs.declared.EndpointData.{EndpointData}
use Rattle.endpoints.specs.Endpoints.{blank, kind_of, size_in, used_in, used}
use Rattle.store_rules.specs.Stores.{Log, write_power}
use Rattle.store_rules.specs.Promise.{power}
use Rattle.store_rules.proofs.Promises.{sides, rest}
use Rattle.common_rules.specs.Enable.{isochronous, ep_tx_enable, ep_rx_enable}
use Rattle.common_rules.specs.Enabling.{Raised, Ready, Enables, EnablesZero}
use Rattle.common_rules.proofs.Enabling.{tx_enables, rx_enables, tx_enables_zero, rx_enables_zero}
use Rattle.record.specs.declared.Record.{Record}
use Rattle.record.specs.Record.{record_sound, admission_by, endpoints_in, endpoints_of, Reply}
use Rattle.record.proofs.Rows.{none_refused}
use Rattle.record.proofs.Passing.{record_is_sound}
use Rattle.call_rules.specs.Calls.{stored, unless, short, begun, idled}
use Rattle.call_rules.specs.Reset.{tx_enabled, rx_enabled, used_enabled, enabled_below, reset_stores, reset_call}
use Rattle.call_rules.specs.Resetting.{Resets}
use Rattle.call_rules.proofs.Replies.{not_refused}
use Rattle.csr.specs.Kept.{NoPacket}

-- a bit that is up stays up where another is raised
word_up : (e j : ℕ) {v w : ℕ} → j < 16 → Raised e v w → bit v j ≡ true → bit w j ≡ true
word_up e j {v} {w} low r up = go (ℕ_discrete j e)
  where
    go : Dec (j ≡ e) → bit w j ≡ true
    go (yes q) = subst (λ (x : ℕ). bit w x ≡ true) (sym q) r.set
    go (no m) = r.others j low m ∙ up

-- one direction of endpoint n, used or not, between the logs a and b
record Turn (d : Direction) (n : ℕ) (u iso : Bool) (size : ℕ) (a b : Log) : Type 0 where
  six : Whole b.regs
  address : faddr b.regs ≡ faddr a.regs
  here : (n ≡ 0 → ⊥) → u ≡ true → Ready iso size (side_at a.regs n d) (side_at b.regs n d)
  idle : u ≡ false → (f : ℕ) (c : Direction) → side_at b.regs f c ≡ side_at a.regs f c
  flip : (n ≡ 0 → ⊥) → (c : Direction) → (c ≡ d → ⊥) → side_at b.regs n c ≡ side_at a.regs n c
  elsewhere : (f : ℕ) (c : Direction) → (f ≡ n → ⊥) → side_at b.regs f c ≡ side_at a.regs f c
  empty : n ≡ 0 → u ≡ true → (c : Direction) → NoPacket (side_at b.regs 0 c)
  raised : (n ≡ 0 → ⊥) → u ≡ true → bit (enabled_of d b.regs) n ≡ true
  zero_raised : n ≡ 0 → u ≡ true → bit (enabled_of In b.regs) 0 ≡ true
  stays_up : (c : Direction) (j : ℕ) → j < 16 → bit (enabled_of c a.regs) j ≡ true → bit (enabled_of c b.regs) j ≡ true

not_used : (d : Direction) (n : ℕ) (iso : Bool) (size : ℕ) (a : Log) → Whole a.regs → Turn d n false iso size a a
not_used d n iso size a six = record {
  six = six;
  address = refl;
  here = λ z p. clash (sym p);
  idle = λ p f c. refl;
  flip = λ z c m. refl;
  elsewhere = λ f c m. refl;
  empty = λ z p. clash (sym p);
  raised = λ z p. clash (sym p);
  zero_raised = λ z p. clash (sym p);
  stays_up = λ c j low up. up;
}

other_used : (d : Direction) (n : ℕ) (iso : Bool) (size : ℕ) (a b : Log) → Whole a.regs → (n ≡ 0 → ⊥) → Enables d n iso size a b → Turn d n true iso size a b
other_used d n iso size a b six nz k = record {
  six = k.rest.whole ∙ six;
  address = k.rest.address;
  here = λ z p. k.side;
  idle = λ p. clash p;
  flip = λ z c m. k.others n c (λ _. m);
  elsewhere = λ f c m. k.others f c (λ p _. m p);
  empty = λ z. absurd (nz z);
  raised = λ z p. k.interrupt.set;
  zero_raised = λ z. absurd (nz z);
  stays_up = λ c j low up. up_by c (same_direction c d) j low up;
}
  where
    up_by : (c : Direction) → Dec (c ≡ d) → (j : ℕ) → j < 16 → bit (enabled_of c a.regs) j ≡ true → bit (enabled_of c b.regs) j ≡ true
    up_by c (yes q) j low up = subst (λ (x : Direction). bit (enabled_of x b.regs) j ≡ true) (sym q) (word_up n j low k.interrupt (subst (λ (x : Direction). bit (enabled_of x a.regs) j ≡ true) q up))
    up_by c (no m) j low up = ap (λ (w : ℕ). bit w j) (k.other_word c m) ∙ up

zero_used : (d : Direction) (iso : Bool) (size : ℕ) (a b : Log) → Whole a.regs → EnablesZero a b → Turn d 0 true iso size a b
zero_used d iso size a b six k = record {
  six = k.rest.whole ∙ six;
  address = k.rest.address;
  here = λ z. absurd (z refl);
  idle = λ p. clash p;
  flip = λ z. absurd (z refl);
  elsewhere = λ f c m. k.others f c m;
  empty = λ z p. k.empty;
  raised = λ z. absurd (z refl);
  zero_raised = λ z p. k.interrupt.set;
  stays_up = zero_up;
}
  where
    zero_up : (c : Direction) (j : ℕ) → j < 16 → bit (enabled_of c a.regs) j ≡ true → bit (enabled_of c b.regs) j ≡ true
    zero_up In j low up = word_up 0 j low k.interrupt up
    zero_up Out j low up = ap (λ (w : ℕ). bit w j) k.other_word ∙ up

-- the two of an endpoint
module _ (p : EndpointData) (a : Log) (six : Whole a.regs) where
  abbrev kind : Bool
  kind = isochronous (kind_of p)

  tx_turn : (n : ℕ) → n < 6 → Turn In n (used_in p In) kind (size_in p In) a (tx_enabled n p a)
  unfolding tx_enabled
  tx_turn n low = go n low p.used_tx
    where
      go : (n : ℕ) → n < 6 → (u : Bool) → Turn In n u kind (size_in p In) a (cond u (ep_tx_enable n p.ep_conf a) a)
      go n low false = not_used In n kind (size_in p In) a six
      go zero low true = zero_used In kind (size_in p In) a _ six (tx_enables_zero a six p.ep_conf)
      go (suc n) low true = other_used In (suc n) kind (size_in p In) a _ six (λ z. omega arith) (tx_enables (suc n) p.ep_conf a six (λ z. omega arith) low)

  rx_turn : (n : ℕ) → n < 6 → Turn Out n (used_in p Out) kind (size_in p Out) a (rx_enabled n p a)
  unfolding rx_enabled
  rx_turn n low = go n low p.used_rx
    where
      go : (n : ℕ) → n < 6 → (u : Bool) → Turn Out n u kind (size_in p Out) a (cond u (ep_rx_enable n p.ep_conf a) a)
      go n low false = not_used Out n kind (size_in p Out) a six
      go zero low true = zero_used Out kind (size_in p Out) a _ six (rx_enables_zero a six p.ep_conf)
      go (suc n) low true = other_used Out (suc n) kind (size_in p Out) a _ six (λ z. omega arith) (rx_enables (suc n) p.ep_conf a six (λ z. omega arith) low)

-- every endpoint below n
module _ (es : List EndpointData) (g : Log) where
  abbrev data_at : ℕ → EndpointData
  data_at e = get_or es e blank

  record Below (n : ℕ) (h : Log) : Type 0 where
    six : Whole h.regs
    address : faddr h.regs ≡ faddr g.regs
    enabled : (e : ℕ) (d : Direction) → (e ≡ 0 → ⊥) → e < n → used_in (data_at e) d ≡ true
        → Ready (isochronous (kind_of (data_at e))) (size_in (data_at e) d) (side_at g.regs e d) (side_at h.regs e d)
    unused : (e : ℕ) (d : Direction) → (e ≡ 0 → ⊥) → (e < n → used_in (data_at e) d ≡ false) → side_at h.regs e d ≡ side_at g.regs e d
    interrupt : (e : ℕ) (d : Direction) → (e ≡ 0 → ⊥) → e < n → used_in (data_at e) d ≡ true → bit (enabled_of d h.regs) e ≡ true
    zero_interrupt_lem : 0 < n → used (data_at 0) ≡ true → bit (enabled_of In h.regs) 0 ≡ true
    zero : 0 < n → used (data_at 0) ≡ true → (d : Direction) → NoPacket (side_at h.regs 0 d)
    zero_unused_lem : used (data_at 0) ≡ false → (d : Direction) → side_at h.regs 0 d ≡ side_at g.regs 0 d

  module _ (n : ℕ) (h : Log) (low : n < 6) (k : Below n h) where
    abbrev p : EndpointData
    p = data_at n

    abbrev h1 : Log
    h1 = tx_enabled n p h

    abbrev h2 : Log
    h2 = rx_enabled n p h1

    t1 : Turn In n (used_in p In) (isochronous (kind_of p)) (size_in p In) h h1
    t1 = tx_turn p h k.six n low

    t2 : Turn Out n (used_in p Out) (isochronous (kind_of p)) (size_in p Out) h1 h2
    t2 = rx_turn p h1 t1.six n low

    passed : (f : ℕ) (c : Direction) → (f ≡ n → ⊥) → side_at h2.regs f c ≡ side_at h.regs f c
    passed f c m = t2.elsewhere f c m ∙ t1.elsewhere f c m

    start : (d : Direction) → (n ≡ 0 → ⊥) → side_at h.regs n d ≡ side_at g.regs n d
    start d nz = k.unused n d nz (λ lt. absurd (omega (arith, lt)))

    enabled_here : (d : Direction) → (n ≡ 0 → ⊥) → used_in p d ≡ true → Ready (isochronous (kind_of p)) (size_in p d) (side_at g.regs n d) (side_at h2.regs n d)
    enabled_here In nz u =
        subst (λ (x : Side). Ready (isochronous (kind_of p)) (size_in p In) x (side_at h2.regs n In)) (start In nz)
        (subst (Ready (isochronous (kind_of p)) (size_in p In) (side_at h.regs n In)) (sym (t2.flip nz In in_out)) (t1.here nz u))
    enabled_here Out nz u =
        subst (λ (x : Side). Ready (isochronous (kind_of p)) (size_in p Out) x (side_at h2.regs n Out)) (t1.flip nz Out out_in ∙ start Out nz) (t2.here nz u)

    unused_here : (d : Direction) → (n ≡ 0 → ⊥) → used_in p d ≡ false → side_at h2.regs n d ≡ side_at g.regs n d
    unused_here In nz u = t2.flip nz In in_out ∙ t1.idle u n In ∙ start In nz
    unused_here Out nz u = t2.idle u n Out ∙ t1.flip nz Out out_in ∙ start Out nz

    enabled_now : (e : ℕ) (d : Direction) → (e ≡ 0 → ⊥) → e < suc n → used_in (data_at e) d ≡ true
        → Ready (isochronous (kind_of (data_at e))) (size_in (data_at e) d) (side_at g.regs e d) (side_at h2.regs e d)
    enabled_now e d nz lt u = go (ℕ_discrete e n)
      where
        go : Dec (e ≡ n) → Ready (isochronous (kind_of (data_at e))) (size_in (data_at e) d) (side_at g.regs e d) (side_at h2.regs e d)
        go (yes q) =
            subst (λ (x : ℕ). Ready (isochronous (kind_of (data_at x))) (size_in (data_at x) d) (side_at g.regs x d) (side_at h2.regs x d)) (sym q)
            (enabled_here d (λ z. nz (q ∙ z)) (subst (λ (x : ℕ). used_in (data_at x) d ≡ true) q u))
        go (no m) =
            subst (Ready (isochronous (kind_of (data_at e))) (size_in (data_at e) d) (side_at g.regs e d)) (sym (passed e d m))
            (k.enabled e d nz (omega arith) u)

    unused_now : (e : ℕ) (d : Direction) → (e ≡ 0 → ⊥) → (e < suc n → used_in (data_at e) d ≡ false) → side_at h2.regs e d ≡ side_at g.regs e d
    unused_now e d nz f = go (ℕ_discrete e n)
      where
        go : Dec (e ≡ n) → side_at h2.regs e d ≡ side_at g.regs e d
        go (yes q) =
            subst (λ (x : ℕ). side_at h2.regs x d ≡ side_at g.regs x d) (sym q)
            (unused_here d (λ z. nz (q ∙ z)) (subst (λ (x : ℕ). used_in (data_at x) d ≡ false) q (f (omega arith))))
        go (no m) = passed e d m ∙ k.unused e d nz (λ lt. f (omega (arith, lt)))

    -- endpoint 0: its own turn, and the turns of the others
    emptied : n ≡ 0 → (x y : Bool) → used_in p Out ≡ x → used_in p In ≡ y → (x || y) ≡ true → (d : Direction) → NoPacket (side_at h2.regs 0 d)
    emptied z true y q r u d = t2.empty z q d
    emptied z false true q r u d = subst NoPacket (sym (t2.idle q 0 d)) (t1.empty z r d)
    emptied z false false q r u d = clash (sym u)

    left_so : (x y : Bool) → used_in p Out ≡ x → used_in p In ≡ y → (x || y) ≡ false → (d : Direction) → side_at h2.regs 0 d ≡ side_at h.regs 0 d
    left_so true y q r u d = clash u
    left_so false true q r u d = clash u
    left_so false false q r u d = t2.idle q 0 d ∙ t1.idle r 0 d

    zero_now : used (data_at 0) ≡ true → (d : Direction) → NoPacket (side_at h2.regs 0 d)
    zero_now u d = go (ℕ_discrete n 0)
      where
        go : Dec (n ≡ 0) → NoPacket (side_at h2.regs 0 d)
        go (yes z) = emptied z _ _ refl refl (subst (λ (x : ℕ). used (data_at x) ≡ true) (sym z) u) d
        go (no m) = subst NoPacket (sym (passed 0 d (λ q. m (sym q)))) (k.zero (omega (arith, m)) u d)

    zero_left : used (data_at 0) ≡ false → (d : Direction) → side_at h2.regs 0 d ≡ side_at g.regs 0 d
    zero_left u d = go (ℕ_discrete n 0)
      where
        go : Dec (n ≡ 0) → side_at h2.regs 0 d ≡ side_at g.regs 0 d
        go (yes z) = left_so _ _ refl refl (subst (λ (x : ℕ). used (data_at x) ≡ false) (sym z) u) d ∙ k.zero_unused_lem u d
        go (no m) = passed 0 d (λ q. m (sym q)) ∙ k.zero_unused_lem u d

    stays_up_two : (c : Direction) (j : ℕ) → j < 16 → bit (enabled_of c h.regs) j ≡ true → bit (enabled_of c h2.regs) j ≡ true
    stays_up_two c j b up = t2.stays_up c j b (t1.stays_up c j b up)

    raised_here : (d : Direction) → (n ≡ 0 → ⊥) → used_in p d ≡ true → bit (enabled_of d h2.regs) n ≡ true
    raised_here In nz u = t2.stays_up In n (omega arith) (t1.raised nz u)
    raised_here Out nz u = t2.raised nz u

    interrupt_now : (e : ℕ) (d : Direction) → (e ≡ 0 → ⊥) → e < suc n → used_in (data_at e) d ≡ true → bit (enabled_of d h2.regs) e ≡ true
    interrupt_now e d nz lt u = go (ℕ_discrete e n)
      where
        go : Dec (e ≡ n) → bit (enabled_of d h2.regs) e ≡ true
        go (yes q) =
            subst (λ (x : ℕ). bit (enabled_of d h2.regs) x ≡ true) (sym q)
            (raised_here d (λ z. nz (q ∙ z)) (subst (λ (x : ℕ). used_in (data_at x) d ≡ true) q u))
        go (no m) = stays_up_two d e (omega arith) (k.interrupt e d nz (omega arith) u)

    raised_zero : n ≡ 0 → (x y : Bool) → used_in p Out ≡ x → used_in p In ≡ y → (x || y) ≡ true → bit (enabled_of In h2.regs) 0 ≡ true
    raised_zero z true y q r u = t2.zero_raised z q
    raised_zero z false true q r u = t2.stays_up In 0 (omega arith) (t1.zero_raised z r)
    raised_zero z false false q r u = clash (sym u)

    zero_interrupt_now : used (data_at 0) ≡ true → bit (enabled_of In h2.regs) 0 ≡ true
    zero_interrupt_now u = go (ℕ_discrete n 0)
      where
        go : Dec (n ≡ 0) → bit (enabled_of In h2.regs) 0 ≡ true
        go (yes z) = raised_zero z _ _ refl refl (subst (λ (x : ℕ). used (data_at x) ≡ true) (sym z) u)
        go (no m) = stays_up_two In 0 (omega arith) (k.zero_interrupt_lem (omega (arith, m)) u)

    one_more : Below (suc n) h2
    one_more = record {
      six = t2.six;
      address = t2.address ∙ t1.address ∙ k.address;
      enabled = enabled_now;
      unused = unused_now;
      interrupt = interrupt_now;
      zero_interrupt_lem = λ _. zero_interrupt_now;
      zero = λ _. zero_now;
      zero_unused_lem = zero_left;
    }

  all_below : (n : ℕ) → n ≤ 6 → Whole g.regs → Below n (enabled_below es n g)
  unfolding enabled_below used_enabled
  all_below zero le six = record {
    six = six;
    address = refl;
    enabled = λ e d nz lt. absurd (omega (arith, lt));
    unused = λ e d nz f. refl;
    interrupt = λ e d nz lt. absurd (omega (arith, lt));
    zero_interrupt_lem = λ lt. absurd (omega (arith, lt));
    zero = λ lt. absurd (omega (arith, lt));
    zero_unused_lem = λ u d. refl;
  }
  all_below (suc n) le six = one_more n (enabled_below es n g) (omega arith) (all_below n (omega arith) six)

pub reset : (k : Record) (l : List ℕ) → Whole k.regs.words → (reset_call k l).call.answer ≡ (Ok tt) → Resets k (reset_call k l).call.«record»
unfolding reset_call reset_stores endpoints_of endpoints_in idled
reset k l six a = go (admission_by (short l) (record_sound k) false) refl a
  where
    low : length (rows k.regs.board) ≤ 6
    low = at_most_six k.regs.board

    go : (t : Reply Unit) → admission_by (short l) (record_sound k) false ≡ t
        → (unless t k l (stored k (idled k.control_state) (reset_stores k (begun k l)))).call.answer ≡ (Ok tt)
        → Resets k (unless t k l (stored k (idled k.control_state) (reset_stores k (begun k l)))).call.«record»
    go (Err x) p q = not_refused q
    go (Ok tt) p q =
        let s = record_is_sound k (none_refused (short l) (record_sound k) false p).1 in
        let g = begun k l in
        let h = write_power g in
        let b = all_below k.endpoints h (length (rows k.regs.board)) low ((rest power g six).whole ∙ six) in
        let at : (e : ℕ) (d : Direction) → side_at h.regs e d ≡ side_at g.regs e d = λ e d. sides power g e d six (omega (arith, s.regs.selected, low)) in
        record {
          enabled = λ e d nz lt u. subst (λ (x : Side). Ready (isochronous (kind_of (get_or k.endpoints e blank))) (size_in (get_or k.endpoints e blank) d) x (side_at (enabled_below k.endpoints (length (rows k.regs.board)) h).regs e d)) (at e d) (b.enabled e d nz lt u);
          empty = λ e d nz lt u. (b.enabled e d nz lt u).empty (λ q. ap (λ (x : Side). x.len) (at e d) ∙ (s.regs.side e d).none (ap (λ (x : Side). x.ready) (sym (at e d)) ∙ q));
          interrupt = b.interrupt;
          unused = λ e d nz f. b.unused e d nz f ∙ at e d;
          zero = b.zero;
          zero_interrupt = b.zero_interrupt_lem;
          zero_unused = λ u d. b.zero_unused_lem u d ∙ at 0 d;
          idle = refl;
          remaining = refl;
          address = b.address ∙ (rest power g six).addressed;
          flags = refl;
          endpoints = refl;
          board = refl;
        }
