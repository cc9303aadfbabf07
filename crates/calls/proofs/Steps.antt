-- The stores of a call, step by step, and what follows for the registers whatever the call: the account of a call says once which steps it
-- makes, and every law about what calls keep is one induction over such accounts.
-- Assumes nothing.
use Prim.Native.Nat.{ℕ, ◌+◌, ◌<◌, ◌≤◌}
use mathlib.Core.Path.{◌≡◌, refl, sym, ap, ◌∙◌}
use mathlib.Core.Bool.{Bool, true, false, cond}
use native.Mathlib.Nat.{le_trans}
use native.Mathlib.Decide.{ℕ_discrete}
use borrow.Author.Tests.{eq-eqb, ne_eqb}
use lib.Dec.{eqb}
use lib.ListN.{length}
use Rattle.board.specs.declared.Board.{Board}
use Rattle.board.specs.declared.Direction.{Direction}
use Rattle.board.specs.declared.Direction.TheVariants.{Out, In}
use Rattle.board.specs.Table.{area_at}
use Rattle.board.specs.Boards.{rows, at_most_six}
use Rattle.csr.specs.declared.Side.{Side}
use Rattle.register_file.specs.Registers as file
use Rattle.register_file.specs.Registers.{File, Whole, side_at, chosen}
use Rattle.register_file.specs.Sound.{Clean}
use Rattle.csr.specs.Registers.{with_iso, with_maxp, with_len}
use Rattle.csr.specs.Control.{tx_stored, rx_stored}
use Rattle.csr.specs.Sound.{SideOk}
use Rattle.store_rules.specs.Stores.{Log}
use Rattle.store_rules.specs.Promise.{Store, faddr, power, index, csr0l, csr0h, txcsrl, rxcsrl, iso, maxp, intrusbe, intre, packet, does, leaves, selects, addresses, SameHalts}
use Rattle.store_rules.proofs.Promises.{sides, rest}
use Rattle.store_rules.proofs.Others.{clean}
use Rattle.store_rules.proofs.Halts.{SameStall, halts}
use Rattle.laws.proofs.Tests.{clash}
use Rattle.calls.proofs.Packets.{Apart, Spares, leaves_apart, leaves_ready}
use Rattle.csr.proofs.Tame.{Tame, stays_ok, same, either, spared, one_way, alike, tx_tame, rx_tame, zero_tame, dropped_tame}

-- A step is a store, or a packet with the store that sets its ready bit: between these two a length stands with its ready bit clear.
pub data Step : Type 0 where
  one : Store → Step
  sent : ℕ → Store → Step

abbrev pub makes : Step → Log → Log
makes (one o) g = does o g
makes (sent n o) g = does o (does (packet n) g)

-- at most so many stores: an empty packet is none
abbrev pub most : Step → ℕ
most (one o) = 1
most (sent n o) = 2

-- whether it stores DataEnd, which ends the data of a control transfer
abbrev pub has_data_end : Store → Bool
has_data_end (csr0l w) = w.data_end
has_data_end (faddr a) = false
has_data_end power = false
has_data_end (index e) = false
has_data_end csr0h = false
has_data_end (txcsrl w) = false
has_data_end (rxcsrl w) = false
has_data_end (iso d) = false
has_data_end (maxp d n) = false
has_data_end intrusbe = false
has_data_end (intre d v) = false
has_data_end (packet n) = false

abbrev pub closes : Step → Bool
closes (one o) = has_data_end o
closes (sent n o) = has_data_end o

-- h is g after some steps, each of which was allowed where it was made, and no more than c stores. Nothing comes after DataEnd, and the first index
-- says whether it was stored.
pub data Reached (May : Step → Log → Type 0) (g : Log) : Bool → ℕ → Log → Type 0 where
  none : Reached May g false 0 g
  then : {h : Log} {c : ℕ} → Reached May g false c h → (s : Step) → May s h → Reached May g (closes s) (c + most s) (makes s h)
  within : {e : Bool} {h : Log} {c : ℕ} → Reached May g e c h → (d : ℕ) → c ≤ d → Reached May g e d h

pub weaken : {May Might : Step → Log → Type 0} {g : Log} {e : Bool} {h : Log} {c : ℕ} → ((s : Step) (x : Log) → May s x → Might s x) → Reached May g e c h → Reached Might g e c h
weaken f none = none
weaken f (then r s m) = then (weaken f r) s (f s _ m)
weaken f (within r d i) = within (weaken f r) d i

-- what is asked of a store for reply 16's sake: a selection of the board's, an address, and no packet without its ready bit
abbrev pub Proper : Board → Store → Type 0
Proper b (faddr a) = a ≤ 127
Proper b (index e) = e < length (rows b)
Proper b (packet n) = n ≡ 0
Proper b power = Unit
Proper b (csr0l w) = Unit
Proper b csr0h = Unit
Proper b (txcsrl w) = Unit
Proper b (rxcsrl w) = Unit
Proper b (iso d) = Unit
Proper b (maxp d n) = Unit
Proper b intrusbe = Unit
Proper b (intre d v) = Unit

-- the store sets the ready bit of the selected transmit side
abbrev pub Readies : Store → File → Type 0
Readies o r = (leaves o (file.index r) (file.index r) In (chosen r In)).ready ≡ true

-- a packet that is sent fits its area
pub record Sends (b : Board) (n : ℕ) (o : Store) (g : Log) : Type 0 where
  pub fits : n ≤ (area_at (rows b) (file.index g.regs) In).size
  pub proper : Proper b o
  pub readies : Readies o (does (packet n) g).regs

abbrev pub Sane : Board → Step → Log → Type 0
Sane b (one o) g = Proper b o
Sane b (sent n o) g = Sends b n o g

-- and SendStall of the selected side is written as it stands there
abbrev pub SameStalls : Step → Log → Type 0
SameStalls (one o) g = SameStall o g.regs
SameStalls (sent n o) g = SameStall o (does (packet n) g).regs

abbrev pub Gentle : Board → Step → Log → Type 0
Gentle b s g = Sane b s g × SameStalls s g

pub gentle_sane : {b : Board} {x : Bool} {g h : Log} {c : ℕ} → Reached (Gentle b) g x c h → Reached (Sane b) g x c h
gentle_sane r = weaken (λ s x m. m.0) r

-- and no packet that waits to be read at 1 to 5 is dropped
abbrev pub Sparing : Step → Log → Type 0
Sparing (one o) g = Spares o g.regs
Sparing (sent n o) g = Apart o

abbrev pub Careful : Board → Step → Log → Type 0
Careful b s g = Gentle b s g × Sparing s g

pub careful_gentle : {b : Board} {x : Bool} {g h : Log} {c : ℕ} → Reached (Careful b) g x c h → Reached (Gentle b) g x c h
careful_gentle r = weaken (λ s x m. m.0) r

-- the parts of the registers that any step keeps: the pending interrupts, and that there are 46 numbers
pub record Same (r q : File) : Type 0 where
  pub usb : file.intrusb q ≡ file.intrusb r
  pub intr : (d : Direction) → file.intr_of q d ≡ file.intr_of r d
  pub six : Whole q

same_one : {r : File} (o : Store) (g : Log) → Same r g.regs → Same r (does o g).regs
same_one o g k =
    let t = rest o g k.six in
    record { usb = t.usb ∙ k.usb; intr = λ d. t.intr d ∙ k.intr d; six = t.whole ∙ k.six }

pub keeps : {May : Step → Log → Type 0} {g : Log} {x : Bool} {h : Log} {c : ℕ} → Whole g.regs → Reached May g x c h → Same g.regs h.regs
keeps six none = record { usb = refl; intr = λ d. refl; six = six }
keeps six (then {h} r (one o) m) = same_one o h (keeps six r)
keeps six (then {h} r (sent n o) m) = same_one o (does (packet n) h) (same_one (packet n) h (keeps six r))
keeps six (within r c i) = keeps six r

-- reply 16's register part, for a board, of a file of 46 numbers
pub record Standing (b : Board) (r : File) : Type 0 where
  pub six : Whole r
  pub selected : file.index r < length (rows b)
  pub address : file.faddr r ≤ 127
  pub clean : Clean r

pub record Holds (b : Board) (r : File) : Type 0 where
  pub standing : Standing b r
  pub side : (e : ℕ) (d : Direction) → SideOk (area_at (rows b) e d).size (side_at r e d)

pub within_six : {b : Board} {r : File} → Standing b r → file.index r < 6
within_six {b} k = le_trans k.selected (at_most_six b)

stands : {b : Board} (o : Store) (g : Log) → selects o (file.index g.regs) < length (rows b) → addresses o (file.faddr g.regs) ≤ 127 → Standing b g.regs
    → Standing b (does o g).regs
stands o g s a k =
    let t = rest o g k.six in
    record { six = t.whole ∙ k.six; selected = rw t.selected s; address = rw t.addressed a; clean = clean o g k.six k.clean }

-- what a proper store selects and writes as the address, and what it leaves of a side
module _ (b : Board) where
  selects_low : (o : Store) (i : ℕ) → Proper b o → i < length (rows b) → selects o i < length (rows b)
  selects_low (index e) i p h = p
  selects_low (faddr a) i p h = h
  selects_low power i p h = h
  selects_low (csr0l w) i p h = h
  selects_low csr0h i p h = h
  selects_low (txcsrl w) i p h = h
  selects_low (rxcsrl w) i p h = h
  selects_low (iso d) i p h = h
  selects_low (maxp d n) i p h = h
  selects_low intrusbe i p h = h
  selects_low (intre Out v) i p h = h
  selects_low (intre In v) i p h = h
  selects_low (packet n) i p h = h

  addresses_low : (o : Store) (a : ℕ) → Proper b o → a ≤ 127 → addresses o a ≤ 127
  addresses_low (faddr c) a p h = p
  addresses_low (index e) a p h = h
  addresses_low power a p h = h
  addresses_low (csr0l w) a p h = h
  addresses_low csr0h a p h = h
  addresses_low (txcsrl w) a p h = h
  addresses_low (rxcsrl w) a p h = h
  addresses_low (iso d) a p h = h
  addresses_low (maxp d n) a p h = h
  addresses_low intrusbe a p h = h
  addresses_low (intre Out v) a p h = h
  addresses_low (intre In v) a p h = h
  addresses_low (packet n) a p h = h

  pub leaves_tame : (o : Store) (i e : ℕ) (d : Direction) (s : Side) → Proper b o → Tame s (leaves o i e d s)
  leaves_tame (faddr a) i e d s p = same
  leaves_tame power i e d s p = same
  leaves_tame (index f) i e d s p = same
  leaves_tame (csr0l w) i e Out s p = either (eqb e 0) (dropped_tame w.serviced_rx_pkt_rdy s)
  leaves_tame (csr0l w) i e In s p = either (eqb e 0) (zero_tame w s)
  leaves_tame csr0h i e d s p = either (eqb e 0) (dropped_tame true s)
  leaves_tame (txcsrl w) i e d s p = spared (eqb i 0) (either (eqb e i) (one_way In d (tx_stored w) (tx_tame w s)))
  leaves_tame (rxcsrl w) i e d s p = spared (eqb i 0) (either (eqb e i) (one_way Out d (rx_stored w) (rx_tame w s)))
  leaves_tame (iso c) i e d s p = spared (eqb i 0) (either (eqb e i) (one_way c d with_iso (alike refl refl)))
  leaves_tame (maxp c n) i e d s p = spared (eqb i 0) (either (eqb e i) (one_way c d (with_maxp n) (alike refl refl)))
  leaves_tame intrusbe i e d s p = same
  leaves_tame (intre c v) i e d s p = same
  leaves_tame (packet n) i e d s p = rw p same

-- a store alone
holds_one : {b : Board} (o : Store) (g : Log) → Proper b o → Holds b g.regs → Holds b (does o g).regs
holds_one {b} o g p k =
    let t = k.standing in
    record {
      standing = stands o g (selects_low b o _ p t.selected) (addresses_low b o _ p t.address) t;
      side = λ (e : ℕ) (d : Direction). rw (sides o g e d t.six (within_six t)) (stays_ok _ (leaves_tame b o _ e d _ p) (k.side e d));
    }

-- a packet alone: it lengthens the selected transmit side, and changes no other
packet_out : (n i e : ℕ) (s : Side) → leaves (packet n) i e Out s ≡ s
packet_out n i e s = go (eqb n 0) (eqb e i)
  where
    go : (a b : Bool) → cond a s (cond b s s) ≡ s
    go true b = refl
    go false true = refl
    go false false = refl

packet_other : (n i e : ℕ) (s : Side) → (e ≡ i → ⊥) → leaves (packet n) i e In s ≡ s
packet_other n i e s m = rw (ne_eqb e i m) (go (eqb n 0))
  where
    go : (a : Bool) → cond a s s ≡ s
    go true = refl
    go false = refl

packet_here : (n i size : ℕ) (s : Side) → n ≤ size → s.len ≤ size → (leaves (packet n) i i In s).len ≤ size
packet_here n i size s h k = rw (eq-eqb i i refl) (go (eqb n 0))
  where
    go : (a : Bool) → (cond a s (with_len n s)).len ≤ size
    go true = k
    go false = h

-- a packet and its ready bit
module _ {b : Board} (n : ℕ) (o : Store) (g : Log) (m : Sends b n o g) (k : Holds b g.regs) where
  abbrev mid : Log
  mid = does (packet n) g

  abbrev first : Standing b g.regs
  first = k.standing

  amid : Standing b mid.regs
  amid = stands (packet n) g first.selected first.address first

  loaded : (e : ℕ) (d : Direction) → side_at mid.regs e d ≡ leaves (packet n) (file.index g.regs) e d (side_at g.regs e d)
  loaded e d = sides (packet n) g e d first.six (within_six first)

  stored : (e : ℕ) (d : Direction) → side_at (does o mid).regs e d ≡ leaves o (file.index mid.regs) e d (side_at mid.regs e d)
  stored e d = sides o mid e d amid.six (within_six amid)

  tame : (e : ℕ) (d : Direction) → Tame (side_at mid.regs e d) (side_at (does o mid).regs e d)
  tame e d = rw (stored e d) (leaves_tame b o _ e d _ m.proper)

  -- the selected side
  at_index : (e : ℕ) → e ≡ file.index mid.regs → (side_at (does o mid).regs e In).ready ≡ true
  at_index e p = rw p (ap (λ (s : Side). s.ready) (stored (file.index mid.regs) In) ∙ m.readies)

  ready_here : (e : ℕ) → e ≡ file.index g.regs → SideOk (area_at (rows b) e In).size (side_at (does o mid).regs e In)
  ready_here e p = record {
    fits = le_trans (tame e In).shorter (rw (loaded e In) (rw p (packet_here n (file.index g.regs) _ _ m.fits (k.side (file.index g.regs) In).fits)));
    none = λ q. clash (sym (at_index e (p ∙ sym (rest (packet n) g first.six).selected)) ∙ q);
  }

  -- every other
  elsewhere : (e : ℕ) (d : Direction) → leaves (packet n) (file.index g.regs) e d (side_at g.regs e d) ≡ side_at g.regs e d
      → SideOk (area_at (rows b) e d).size (side_at (does o mid).regs e d)
  elsewhere e d p = stays_ok _ (tame e d) (rw (loaded e d ∙ p) (k.side e d))

  holds_sent : Holds b (does o mid).regs
  holds_sent = record {
    standing = stands o mid (selects_low b o _ m.proper amid.selected) (addresses_low b o _ m.proper amid.address) amid;
    side = go;
  }
    where
      go : (e : ℕ) (d : Direction) → SideOk (area_at (rows b) e d).size (side_at (does o mid).regs e d)
      go e Out = elsewhere e Out (packet_out n _ e _)
      go e In = by (ℕ_discrete e (file.index g.regs))
        where
          by : Dec (e ≡ file.index g.regs) → SideOk (area_at (rows b) e In).size (side_at (does o mid).regs e In)
          by (yes p) = ready_here e p
          by (no q) = elsewhere e In (packet_other n _ e _ q)

pub holds : {b : Board} {g : Log} {x : Bool} {h : Log} {c : ℕ} → Reached (Sane b) g x c h → Holds b g.regs → Holds b h.regs
holds none k = k
holds (then {h} r (one o) m) k = holds_one o h m (holds r k)
holds (then {h} r (sent n o) m) k = holds_sent n o h m (holds r k)
holds (within r c i) k = holds r k

-- SendStall of endpoints 1 to 5
pub same_halts : {b : Board} {g : Log} {x : Bool} {h : Log} {c : ℕ} → Reached (Gentle b) g x c h → Holds b g.regs → SameHalts g.regs h.regs
same_halts none k e d n = refl
same_halts (then {h} r (one o) m) k e d n =
    let t = (holds (gentle_sane r) k).standing in
    halts o h t.six (within_six t) m.1 e d n ∙ same_halts r k e d n
same_halts (then {h} r (sent x o) m) k e d n =
    let t = holds (gentle_sane r) k in
    let u = amid x o h m.0 t in
    halts o (does (packet x) h) u.six (within_six u) m.1 e d n
    ∙ halts (packet x) h t.standing.six (within_six t.standing) tt e d n
    ∙ same_halts r k e d n
same_halts (within r c i) k e d n = same_halts r k e d n

-- RxPktRdy of endpoints 1 to 5
abbrev pub SameReady : File → File → Type 0
SameReady r q = (e : ℕ) → (e ≡ 0 → ⊥) → (side_at q e Out).ready ≡ (side_at r e Out).ready

pub same_ready : {b : Board} {g : Log} {x : Bool} {h : Log} {c : ℕ} → Reached (Careful b) g x c h → Holds b g.regs → SameReady g.regs h.regs
same_ready none k e n = refl
same_ready (then {h} r (one o) m) k e n =
    let t = holds (gentle_sane (careful_gentle r)) k in
    ap (λ (s : Side). s.ready) (sides o h e Out t.standing.six (within_six t.standing))
    ∙ leaves_ready o h.regs e n (λ i. (t.side i Out).none) m.1
    ∙ same_ready r k e n
same_ready (then {h} r (sent x o) m) k e n =
    let t = holds (gentle_sane (careful_gentle r)) k in
    let u = amid x o h m.0.0 t in
    ap (λ (s : Side). s.ready) (sides o (does (packet x) h) e Out u.six (within_six u))
    ∙ leaves_apart o (file.index (does (packet x) h).regs) e (side_at (does (packet x) h).regs e Out) n m.1
    ∙ ap (λ (s : Side). s.ready) (sides (packet x) h e Out t.standing.six (within_six t.standing))
    ∙ leaves_apart (packet x) (file.index h.regs) e (side_at h.regs e Out) n tt
    ∙ same_ready r k e n
same_ready (within r c i) k e n = same_ready r k e n
