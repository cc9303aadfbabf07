-- RxPktRdy of endpoints 1 to 5: which stores leave it, and which drop what waits. Assumes nothing.
use Prim.Native.Nat.{ℕ, ◌<◌}
use mathlib.Core.Path.{◌≡◌, refl, sym, ap, ◌∙◌}
use mathlib.Core.Logic.{◌⊎◌, inl, inr}
use mathlib.Core.Bool.{Bool, true, false, not, cond, ◌&&◌, ◌||◌, and-false}
use native.Mathlib.Nat.{le_refl}
use native.Mathlib.Decide.{ℕ_discrete}
use borrow.Author.Tests.{eq-eqb, ne_eqb}
use lib.Dec.{eqb}
use Rattle.board.specs.declared.Direction.{Direction}
use Rattle.board.specs.declared.Direction.TheVariants.{Out, In}
use Rattle.csr.specs.declared.Side.{Side}
use Rattle.csr.specs.declared.Rxcsrl.{Rxcsrl}
use Rattle.csr.specs.declared.RxcsrlSet.TheVariants.{NoOverRun}
use Rattle.csr.specs.Registers.{with_iso, with_maxp, towards}
use Rattle.csr.specs.Control.{rxcsrl_set, rx_stored}
use Rattle.csr.proofs.Modified.{rx_repaired}
use Rattle.register_file.specs.Registers as file
use Rattle.register_file.specs.Registers.{File, Whole, side_at, chosen}
use Rattle.register_file.specs.Control.{rxcsrl_read}
use Rattle.store_rules.specs.Stores.{Log}
use Rattle.store_rules.specs.Promise.{Store, faddr, power, index, csr0l, csr0h, txcsrl, rxcsrl, iso, maxp, intrusbe, intre, packet, does, leaves, selects}
use Rattle.store_rules.proofs.Promises.{sides, rest}

-- a store to any register but RXCSRL
abbrev pub Apart : Store → Type 0
Apart (rxcsrl w) = ⊥
Apart (faddr a) = Unit
Apart power = Unit
Apart (index e) = Unit
Apart (csr0l w) = Unit
Apart csr0h = Unit
Apart (txcsrl w) = Unit
Apart (iso d) = Unit
Apart (maxp d n) = Unit
Apart intrusbe = Unit
Apart (intre d v) = Unit
Apart (packet n) = Unit

-- or the `modify` that repairs an overrun
abbrev pub Spares : Store → File → Type 0
Spares o r = Apart o ⊎ (o ≡ rxcsrl (rxcsrl_set NoOverRun (rxcsrl_read r)))

-- a change that leaves the ready bit, made or not
made : (s t : Side) (b : Bool) → t.ready ≡ s.ready → (cond b t s).ready ≡ s.ready
made s t true p = p
made s t false p = refl

-- and where endpoint 0 is selected, which has none of these registers
skipped : (s t : Side) (b : Bool) → t.ready ≡ s.ready → (cond b s t).ready ≡ s.ready
skipped s t true p = refl
skipped s t false p = p

one_way : (s : Side) (c : Direction) (f : Side → Side) → (f s).ready ≡ s.ready → (towards c Out f s).ready ≡ s.ready
one_way s Out f p = p
one_way s In f p = refl

pub leaves_apart : (o : Store) (i e : ℕ) (s : Side) → (e ≡ 0 → ⊥) → Apart o → (leaves o i e Out s).ready ≡ s.ready
leaves_apart (rxcsrl w) i e s n a = absurd a
leaves_apart (faddr x) i e s n a = refl
leaves_apart power i e s n a = refl
leaves_apart (index f) i e s n a = refl
leaves_apart (csr0l w) i e s n a = rw (ne_eqb e 0 n)
leaves_apart csr0h i e s n a = rw (ne_eqb e 0 n)
leaves_apart (txcsrl w) i e s n a = skipped s _ (eqb i 0) (made s s (eqb e i) refl)
leaves_apart (iso c) i e s n a = skipped s _ (eqb i 0) (made s _ (eqb e i) (one_way s c with_iso refl))
leaves_apart (maxp c m) i e s n a = skipped s _ (eqb i 0) (made s _ (eqb e i) (one_way s c (with_maxp m) refl))
leaves_apart intrusbe i e s n a = refl
leaves_apart (intre c v) i e s n a = refl
leaves_apart (packet m) i e s n a = go (eqb m 0)
  where
    go : (b : Bool) → (cond b s (cond (eqb e i) s s)).ready ≡ s.ready
    go true = refl
    go false = made s s (eqb e i) refl

-- a side with nothing waiting has no length, as reply 16 asks
abbrev None : File → Type 0
None r = (e : ℕ) → (side_at r e Out).ready ≡ false → (side_at r e Out).len ≡ 0

-- an overrun repaired: RxPktRdy is written as it was read
repairs : (r : File) (e : ℕ) → (e ≡ 0 → ⊥) → None r
    → (leaves (rxcsrl (rxcsrl_set NoOverRun (rxcsrl_read r))) (file.index r) e Out (side_at r e Out)).ready ≡ (side_at r e Out).ready
repairs r e n none = go (ℕ_discrete e (file.index r))
  where
    still : (s : Side) → s ≡ chosen r Out → (s.ready ≡ false → s.len ≡ 0) → (rx_stored (rxcsrl_set NoOverRun (rxcsrl_read r)) s).ready ≡ s.ready
    still s p k = rw (← p) (ap (λ (x : Side). x.ready) (rx_repaired s.len s (record { fits = le_refl _; none = k })))

    go : Dec (e ≡ file.index r)
        → (leaves (rxcsrl (rxcsrl_set NoOverRun (rxcsrl_read r))) (file.index r) e Out (side_at r e Out)).ready ≡ (side_at r e Out).ready
    go (yes p) = skipped _ _ (eqb (file.index r) 0) (rw (eq-eqb e (file.index r) p) (still (side_at r e Out) (ap (λ (i : ℕ). side_at r i Out) p) (none e)))
    go (no m) = skipped _ _ (eqb (file.index r) 0) (rw (ne_eqb e (file.index r) m))

pub leaves_ready : (o : Store) (r : File) (e : ℕ) → (e ≡ 0 → ⊥) → None r → Spares o r
    → (leaves o (file.index r) e Out (side_at r e Out)).ready ≡ (side_at r e Out).ready
leaves_ready o r e n none (inl a) = leaves_apart o (file.index r) e (side_at r e Out) n a
leaves_ready o r e n none (inr p) = rw p (repairs r e n none)

-- Of the packets that waited in r, those are gone whose endpoint passes a test; endpoint i is selected.
pub record At (r : File) (i : ℕ) (gone : ℕ → Bool) (h : Log) : Type 0 where
  pub six : Whole h.regs
  pub at : file.index h.regs ≡ i
  pub low : i < 6
  pub ready : (e : ℕ) → (e ≡ 0 → ⊥) → (side_at h.regs e Out).ready ≡ ((side_at r e Out).ready && not (gone e))

-- whatever is selected
abbrev pub Left : File → (ℕ → Bool) → Log → Type 0
Left r gone h = (i : ℕ) × At r i gone h

module _ {r : File} {i : ℕ} {gone : ℕ → Bool} where
  selected_low : (h : Log) → At r i gone h → file.index h.regs < 6
  selected_low h l = rw l.at l.low

  -- a store apart drops none
  pub apart : (o : Store) (h : Log) → Apart o → selects o i < 6 → At r i gone h → At r (selects o i) gone (does o h)
  apart o h a low l =
      let k = rest o h l.six in
      record {
        six = k.whole ∙ l.six;
        at = k.selected ∙ ap (selects o) l.at;
        low = low;
        ready = λ e n.
            ap (λ (s : Side). s.ready) (sides o h e Out l.six (selected_low h l))
            ∙ leaves_apart o (file.index h.regs) e (side_at h.regs e Out) n a
            ∙ l.ready e n;
      }

  -- a store that leaves the selected side's RxPktRdy clear drops what waits there
  pub drops : (w : Rxcsrl) (h : Log) → (rx_stored w (chosen h.regs Out)).ready ≡ false → At r i gone h
      → At r i (λ e. eqb e i || gone e) (does (rxcsrl w) h)
  drops w h d l =
      let k = rest (rxcsrl w) h l.six in
      record {
        six = k.whole ∙ l.six;
        at = k.selected ∙ l.at;
        low = l.low;
        ready = λ e n. ap (λ (s : Side). s.ready) (sides (rxcsrl w) h e Out l.six (selected_low h l)) ∙ side e n (ℕ_discrete e i);
      }
    where
      here : (e : ℕ) → (e ≡ 0 → ⊥) → e ≡ file.index h.regs → (leaves (rxcsrl w) (file.index h.regs) e Out (side_at h.regs e Out)).ready ≡ false
      here e n p = rw (ne_eqb (file.index h.regs) 0 (λ z. n (p ∙ z)), eq-eqb e (file.index h.regs) p) (ap (λ (j : ℕ). (rx_stored w (side_at h.regs j Out)).ready) p ∙ d)

      side : (e : ℕ) → (e ≡ 0 → ⊥) → Dec (e ≡ i)
          → (leaves (rxcsrl w) (file.index h.regs) e Out (side_at h.regs e Out)).ready ≡ ((side_at r e Out).ready && not (eqb e i || gone e))
      side e n (yes p) = here e n (p ∙ sym l.at) ∙ sym (rw (eq-eqb e i p) (and-false (side_at r e Out).ready))
      side e n (no m) =
          skipped (side_at h.regs e Out) _ (eqb (file.index h.regs) 0) (rw (ne_eqb e (file.index h.regs) (λ p. m (p ∙ l.at))))
          ∙ rw (ne_eqb e i m) (l.ready e n)

  -- the same by another test
  pub told_by : {gone' : ℕ → Bool} {h : Log} → ((e : ℕ) → (e ≡ 0 → ⊥) → gone e ≡ gone' e) → At r i gone h → At r i gone' h
  told_by same l =
      record { six = l.six; at = l.at; low = l.low; ready = λ e n. l.ready e n ∙ ap (λ (b : Bool). (side_at r e Out).ready && not b) (same e n) }
