-- The stores of one side, one after the other: what has become of that side, that all else stands as it stood, and what is listed.
-- Assumes nothing.
use Prim.Native.Nat.{ℕ, ◌+◌, ◌<◌}
use mathlib.Core.Path.{◌≡◌, refl, sym, ap, ◌∙◌}
use mathlib.Core.Bool.{Bool, true, cond}
use mathlib.Core.List.{List}
use native.Mathlib.Omega.{arith}
use native.Mathlib.Decide.{ℕ_discrete}
use borrow.Author.Tests.{eq-eqb, ne_eqb}
use lib.Dec.{eqb, lit<}
use Rattle.board.specs.declared.Direction.{Direction}
use Rattle.board.specs.declared.Direction.TheVariants.{Out, In}
use Rattle.csr.specs.declared.Side.{Side}
use Rattle.csr.specs.declared.Txcsrl.{Txcsrl}
use Rattle.csr.specs.declared.Rxcsrl.{Rxcsrl}
use Rattle.csr.specs.Registers.{towards, with_iso, with_maxp, with_len}
use Rattle.csr.specs.Control.{tx_stored, rx_stored}
use Rattle.register_file.specs.Registers as file
use Rattle.register_file.specs.Registers.{File, Whole, side_at}
use Rattle.register_file.proofs.Readings.{reselected}
use Rattle.store_list.specs.Stores as Stores
use Rattle.store_list.specs.Stores.{listed, INDEX}
use Rattle.store_rules.specs.Stores.{Log, write_index}
use Rattle.store_rules.specs.Promise.{Store, index, txcsrl, rxcsrl, iso, maxp, intre, packet, does, leaves, writes, ends, register, value, is_listed, Noted}
use Rattle.store_rules.proofs.Promises.{sides, rest, index_selects, index_lists}
use Rattle.store_rules.proofs.Others.{others}
use Rattle.store_rules.proofs.Named.{named_faddr, named_power, named_intrusbe, named_enabled}
use Rattle.common_rules.specs.Kept.{SameRest}

-- from the log g on: endpoint e is selected, its side of direction d is s, the enable words are those of w, and n stores stand in the list l
pub record Stands (g : Log) (e : ℕ) (d : Direction) (h : Log) (w : Direction → ℕ) (s : Side) (l : List ℕ) (n : ℕ) : Type 0 where
  pub six : Whole h.regs
  pub selected : file.index h.regs ≡ e
  pub here : side_at h.regs e d ≡ s
  pub elsewhere : (f : ℕ) (c : Direction) → (f ≡ e → c ≡ d → ⊥) → side_at h.regs f c ≡ side_at g.regs f c
  pub ended : file.setupend h.regs ≡ file.setupend g.regs
  pub enabled : (c : Direction) → file.enabled_of c h.regs ≡ w c
  pub same : SameRest g.regs h.regs
  pub list : h.list ≡ l
  pub count : h.count ≡ n

-- the index store
pub at_start : (g : Log) (e f : ℕ) (c : Direction) → side_at (write_index e g).regs f c ≡ side_at g.regs f c
at_start g e f c = ap (λ (r : File). side_at r f c) (index_selects e g) ∙ reselected g.regs e f c

-- a store that writes none of the registers that no side holds, but for the selection and the enable words
pub rest_kept : (o : Store) (h : Log) {r : File} → Whole h.regs → ((x : ℕ) → writes o 1 x ≡ x) → ((x : ℕ) → writes o 2 x ≡ x) → ((x : ℕ) → writes o 3 x ≡ x)
    → SameRest r h.regs → SameRest r (does o h).regs
rest_kept o h six a b c k = record {
  address = named_faddr o h six ∙ a _ ∙ k.address;
  power = named_power o h six ∙ b _ ∙ k.power;
  bus_enable = named_intrusbe o h six ∙ c _ ∙ k.bus_enable;
  usb = (rest o h six).usb ∙ k.usb;
  intr = λ d. (rest o h six).intr d ∙ k.intr d;
  whole = (rest o h six).whole ∙ k.whole;
}

pub rest_same : (r : File) → SameRest r r
rest_same r = record { address = refl; power = refl; bus_enable = refl; usb = refl; intr = λ d. refl; whole = refl }

module _ (g : Log) (e : ℕ) (d : Direction) (six : Whole g.regs) where
  words : (c : Direction) → file.enabled_of c (write_index e g).regs ≡ file.enabled_of c g.regs
  words Out = named_enabled (index e) g six Out
  words In = named_enabled (index e) g six In

  pub begin : Stands g e d (write_index e g) (λ (c : Direction). file.enabled_of c g.regs) (side_at g.regs e d) (listed g.list g.count INDEX e e) (g.count + 1)
  begin = record {
    six = (rest (index e) g six).whole ∙ six;
    selected = (rest (index e) g six).selected;
    here = at_start g e e d;
    elsewhere = λ f c n. at_start g e f c;
    ended = (others (index e) g six).ended;
    enabled = words;
    same = rest_kept (index e) g six (λ x. refl) (λ x. refl) (λ x. refl) (rest_same g.regs);
    list = (index_lists e g).0;
    count = (index_lists e g).1;
  }

-- a store that changes the selected endpoint's side of direction c, and nothing else; endpoint 0 has no such register
pub record Concerns (o : Store) (c : Direction) (f : Side → Side) : Type 0 where
  pub side : (i e : ℕ) (d : Direction) (s : Side) → (i ≡ 0 → ⊥) → leaves o i e d s ≡ cond (eqb e i) (towards c d f s) s
  pub number : (q x : ℕ) → writes o q x ≡ x
  pub ended : (b : Bool) → ends o b ≡ b
  pub listed : is_listed o ≡ true

pub of_txcsrl : (w : Txcsrl) → Concerns (txcsrl w) In (tx_stored w)
of_txcsrl w = record { side = λ i e d s n. rw (ne_eqb i 0 n); number = λ q x. refl; ended = λ b. refl; listed = refl }

pub of_rxcsrl : (w : Rxcsrl) → Concerns (rxcsrl w) Out (rx_stored w)
of_rxcsrl w = record { side = λ i e d s n. rw (ne_eqb i 0 n); number = λ q x. refl; ended = λ b. refl; listed = refl }

pub of_iso : (d : Direction) → Concerns (iso d) d with_iso
of_iso c = record { side = λ i e d s n. rw (ne_eqb i 0 n); number = λ q x. refl; ended = λ b. refl; listed = refl }

pub of_maxp : (d : Direction) (n : ℕ) → Concerns (maxp d n) d (with_maxp n)
of_maxp c n = record { side = λ i e d s n. rw (ne_eqb i 0 n); number = λ q x. refl; ended = λ b. refl; listed = refl }

-- "none if empty"
pub of_packet : (n : ℕ) → (n ≡ 0 → ⊥) → Concerns (packet n) In (with_len n)
of_packet n p = record { side = λ i e d s m. rw (ne_eqb n 0 p); number = λ q x. refl; ended = λ b. refl; listed = rw (ne_eqb n 0 p) }

both_ways : (d : Direction) (f : Side → Side) (s : Side) → towards d d f s ≡ f s
both_ways Out f s = refl
both_ways In f s = refl

other_way : (c d : Direction) (f : Side → Side) (s : Side) → (d ≡ c → ⊥) → towards c d f s ≡ s
other_way Out Out f s n = absurd (n refl)
other_way Out In f s n = refl
other_way In Out f s n = refl
other_way In In f s n = absurd (n refl)

-- the two enable words, one of them stored anew
abbrev pub words_with : Direction → ℕ → (Direction → ℕ) → Direction → ℕ
words_with Out v w Out = v
words_with Out v w In = w In
words_with In v w Out = w Out
words_with In v w In = v

words_after : (c : Direction) (v : ℕ) (h : Log) (w : Direction → ℕ) → Whole h.regs → ((b : Direction) → file.enabled_of b h.regs ≡ w b)
    → (b : Direction) → file.enabled_of b (does (intre c v) h).regs ≡ words_with c v w b
words_after Out v h w six k Out = named_enabled (intre Out v) h six Out
words_after Out v h w six k In = named_enabled (intre Out v) h six In ∙ k In
words_after In v h w six k Out = named_enabled (intre In v) h six Out ∙ k Out
words_after In v h w six k In = named_enabled (intre In v) h six In

far : (c : Direction) (v q x : ℕ) → q < 4 → writes (intre c v) q x ≡ x
far Out v q x h = rw (ne_eqb q 5 (λ p. omega arith))
far In v q x h = rw (ne_eqb q 4 (λ p. omega arith))

module _ {g : Log} {e : ℕ} {d : Direction} {h : Log} {w : Direction → ℕ} {s : Side} {l : List ℕ} {n : ℕ} (low : e < 6) (k : Stands g e d h w s l n) where
  within : file.index h.regs < 6
  within = rw k.selected low

  -- such a store
  module _ (up : e ≡ 0 → ⊥) (o : Store) (f : Side → Side) (t : Concerns o d f) where
    own : file.index h.regs ≡ 0 → ⊥
    own p = up (sym k.selected ∙ p)

    abbrev noted : Noted o h (does o h)
    noted = others o h k.six

    now_here : side_at (does o h).regs e d ≡ f s
    now_here =
        sides o h e d k.six within ∙ t.side _ e d _ own ∙ rw (eq-eqb e (file.index h.regs) (sym k.selected)) (both_ways d f _)
        ∙ ap f k.here

    still : (a : ℕ) (c : Direction) → (a ≡ e → c ≡ d → ⊥) → side_at (does o h).regs a c ≡ side_at g.regs a c
    still a c m = sides o h a c k.six within ∙ t.side _ a c _ own ∙ go (ℕ_discrete a (file.index h.regs)) ∙ k.elsewhere a c m
      where
        go : Dec (a ≡ file.index h.regs) → cond (eqb a (file.index h.regs)) (towards d c f (side_at h.regs a c)) (side_at h.regs a c) ≡ side_at h.regs a c
        go (yes p) = rw (eq-eqb a (file.index h.regs) p) (other_way d c f _ (m (p ∙ k.selected)))
        go (no p) = rw (ne_eqb a (file.index h.regs) p)

    now_enabled : (c : Direction) → file.enabled_of c (does o h).regs ≡ w c
    now_enabled c = named_enabled o h k.six c ∙ t.number _ _ ∙ k.enabled c

    now_selected : file.index (does o h).regs ≡ e
    now_selected = (rest o h k.six).selected ∙ t.number 0 _ ∙ k.selected

    pub next : Stands g e d (does o h) w (f s) (listed l n (register o) e (value o)) (n + 1)
    next = record {
      six = (rest o h k.six).whole ∙ k.six;
      selected = now_selected;
      here = now_here;
      elsewhere = still;
      ended = noted.ended ∙ t.ended _ ∙ k.ended;
      enabled = now_enabled;
      same = rest_kept o h k.six (t.number 1) (t.number 2) (t.number 3) k.same;
      list = noted.list ∙ rw t.listed (λ i. listed (k.list i) (k.count i) (register o) (now_selected i) (value o));
      count = noted.count ∙ rw t.listed (ap (λ (m : ℕ). m + 1) k.count);
    }

  -- a store to an enable word
  pub enables : (c : Direction) (v : ℕ) → Stands g e d (does (intre c v) h) (words_with c v w) s (listed l n (Stores.intre c) e v) (n + 1)
  enables c v =
      let o = others (intre c v) h k.six in
      let at = (rest (intre c v) h k.six).selected ∙ far c v 0 _ (lit< tt) ∙ k.selected in
      record {
        six = (rest (intre c v) h k.six).whole ∙ k.six;
        selected = at;
        here = sides (intre c v) h e d k.six within ∙ k.here;
        elsewhere = λ a b m. sides (intre c v) h a b k.six within ∙ k.elsewhere a b m;
        ended = o.ended ∙ k.ended;
        enabled = words_after c v h w k.six k.enabled;
        same = rest_kept (intre c v) h k.six (λ x. far c v 1 x (lit< tt)) (λ x. far c v 2 x (lit< tt)) (λ x. far c v 3 x (lit< tt)) k.same;
        list = o.list ∙ (λ i. listed (k.list i) (k.count i) (Stores.intre c) (at i) v);
        count = o.count ∙ ap (λ (m : ℕ). m + 1) k.count;
      }

-- the side and the list by other names
pub as_named : {g : Log} {e : ℕ} {d : Direction} {h : Log} {w : Direction → ℕ} {s t : Side} {l m : List ℕ} {n : ℕ} → s ≡ t → l ≡ m
    → Stands g e d h w s l n → Stands g e d h w t m n
as_named p q k = record {
  six = k.six;
  selected = k.selected;
  here = k.here ∙ p;
  elsewhere = k.elsewhere;
  ended = k.ended;
  enabled = k.enabled;
  same = k.same;
  list = k.list ∙ q;
  count = k.count;
}
