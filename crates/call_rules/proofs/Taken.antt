-- What an interrupt that is taken does to the flags: it adds what the interrupt registers held, at every endpoint of the board, and clears them.
-- Assumes nothing.
use mathlib.Core.Path.{◌≡◌, refl, sym, ap, ◌∙◌}
use mathlib.Core.Bool.{Bool, true, false, cond, ◌||◌, or-false, or-true}
use mathlib.Core.List.{List, [], ◌∷◌, foldl}
use Prim.Native.Nat.{ℕ, zero, suc, ◌+◌, ◌-◌, ◌≤◌, ◌<◌}
use native.Mathlib.Omega.{arith}
use native.Mathlib.Decide.{ℕ_discrete}
use borrow.Author.Tests.{eq-eqb, ne_eqb}
use Rattle.laws.specs.Words.{bit, raised}
use Rattle.laws.proofs.Words.{bit_raised}
use Rattle.board.specs.declared.Direction.TheVariants.{Out, In}
use Rattle.register_file.specs.Registers.{File, Whole, intr_of}
use Rattle.event_rules.specs.Events.{intrusb_cleared, intr_cleared}
use Rattle.event_rules.proofs.Promises.{usb_rest, word_rest}
use Rattle.event_rules.proofs.Others.{usb_clears, tx_clears, rx_clears}
use Rattle.laws.specs.Lists.{numbers}
use Rattle.record.specs.declared.Flags.{Flags}
use Rattle.call_rules.specs.declared.Snapshot.{Snapshot}
use Rattle.call_rules.specs.Taken.{Takes}
use Rattle.call_rules.specs.Interrupt.{snapshot_of, cleared, bus_taken, raised_if, endpoint_taken, endpoints_taken, taken}

-- one bit of what was read, added to a word
module _ (read w e j : ℕ) (he : e < 6) (hj : j < 6) where
  other : (j ≡ e → ⊥) → bit (raised_if read w e) j ≡ bit w j
  unfolding raised_if
  other n = go (bit read e)
    where
      go : (b : Bool) → bit (cond b (raised w e) w) j ≡ bit w j
      go true = bit_raised w e j he hj ∙ ap (λ (x : Bool). x || bit w j) (ne_eqb j e n)
      go false = refl

  here : j ≡ e → bit (raised_if read w e) j ≡ (bit w j || bit read j)
  unfolding raised_if
  here p = go (bit read e) refl
    where
      go : (b : Bool) → bit read e ≡ b → bit (cond b (raised w e) w) j ≡ (bit w j || bit read j)
      go true q =
          bit_raised w e j he hj ∙ ap (λ (x : Bool). x || bit w j) (eq-eqb j e p)
          ∙ sym (ap (λ (x : Bool). bit w j || x) (ap (bit read) p ∙ q) ∙ or-true (bit w j))
      go false q = sym (ap (λ (x : Bool). bit w j || x) (ap (bit read) p ∙ q) ∙ or-false (bit w j))

-- and then those of m endpoints from i on
abbrev added : ℕ → ℕ → ℕ → ℕ → ℕ
added read w i m = foldl (raised_if read) w (numbers i m)

before : (read m w i j : ℕ) → i + m ≤ 6 → j < i → bit (added read w i m) j ≡ bit w j
unfolding numbers
before read zero w i j h b = refl
before read (suc m) w i j h b =
    before read m (raised_if read w i) (suc i) j (omega arith) (omega arith) ∙ other read w i j (omega arith) (omega arith) (λ e. omega arith)

within : (read m w i j : ℕ) → i + m ≤ 6 → i ≤ j → j < i + m → bit (added read w i m) j ≡ (bit w j || bit read j)
unfolding numbers
within read zero w i j h a b = absurd (omega arith)
within read (suc m) w i j h a b = go (ℕ_discrete j i) (within read m (raised_if read w i) (suc i) j (omega arith))
  where
    go : Dec (j ≡ i) → (suc i ≤ j → j < suc i + m → bit (added read (raised_if read w i) (suc i) m) j ≡ (bit (raised_if read w i) j || bit read j))
        → bit (added read (raised_if read w i) (suc i) m) j ≡ (bit w j || bit read j)
    go (yes p) rest = before read m (raised_if read w i) (suc i) j (omega arith) (omega arith) ∙ here read w i j (omega arith) (omega arith) p
    go (no n) rest =
        rest (omega arith) (omega arith) ∙ ap (λ (x : Bool). x || bit read j) (other read w i j (omega arith) (omega arith) n)

-- the loop over the endpoints changes the two words alone, each by its own bits
pub record Walked (s : Snapshot) (f g : Flags) (l : List ℕ) : Type 0 where
  pub tx : g.ep_tx ≡ foldl (raised_if s.tx) f.ep_tx l
  pub rx : g.ep_rx ≡ foldl (raised_if s.rx) f.ep_rx l
  pub reset : g.reset ≡ f.reset
  pub suspend : g.suspend ≡ f.suspend
  pub resume : g.resume ≡ f.resume
  pub ep0 : g.ep0 ≡ f.ep0

pub walked : (s : Snapshot) (f : Flags) (l : List ℕ) → Walked s f (foldl (endpoint_taken s) f l) l
unfolding endpoint_taken
walked s f [] = record { tx = refl; rx = refl; reset = refl; suspend = refl; resume = refl; ep0 = refl }
walked s f (e ∷ l) = let w = walked s (endpoint_taken s f e) l in record { tx = w.tx; rx = w.rx; reset = w.reset; suspend = w.suspend; resume = w.resume; ep0 = w.ep0 }

pub takes : (count : ℕ) (r : File) (f : Flags) → Whole r → count ≤ 6 → Takes count r f (taken count (snapshot_of r) f)
unfolding taken endpoints_taken bus_taken snapshot_of
takes count r f all six =
    let s = snapshot_of r in
    let w = walked s (bus_taken s f) (numbers 1 (count - 1)) in
    let tx : s.tx ≡ intr_of r In = (usb_clears r all).1 in
    let rx : s.rx ≡ intr_of r Out = (tx_clears (intrusb_cleared r) ((usb_rest r).whole ∙ all)).2 ∙ (usb_clears r all).2 in
    record {
      tx = λ j h low.
          ap (λ (x : ℕ). bit x j) w.tx ∙ within s.tx (count - 1) f.ep_tx 1 j (omega arith) h (omega arith)
          ∙ ap (λ (x : ℕ). bit f.ep_tx j || bit x j) tx;
      rx = λ j h low.
          ap (λ (x : ℕ). bit x j) w.rx ∙ within s.rx (count - 1) f.ep_rx 1 j (omega arith) h (omega arith)
          ∙ ap (λ (x : ℕ). bit f.ep_rx j || bit x j) rx;
      reset = w.reset;
      suspend = w.suspend;
      resume = w.resume;
      zero = w.ep0 ∙ ap (λ (x : ℕ). f.ep0 || bit x 0) tx;
      tx_zero = ap (λ (x : ℕ). bit x 0) w.tx ∙ before s.tx (count - 1) f.ep_tx 1 0 (omega arith) (omega arith);
      rx_zero = ap (λ (x : ℕ). bit x 0) w.rx ∙ before s.rx (count - 1) f.ep_rx 1 0 (omega arith) (omega arith);
    }

-- "Interrupt registers clear when read."
pub none_due : (r : File) → Whole r → intr_of (cleared r) Out ≡ 0
unfolding cleared
none_due r all =
    (rx_clears (intr_cleared (intrusb_cleared r) In) ((word_rest (intrusb_cleared r) In).whole ∙ (usb_rest r).whole ∙ all)).0
