-- Bits raised in a pending interrupt register, and all three of them cleared: what is left, and what is read. Of any list of numbers: past its end nothing is set,
-- and 0 is read.
-- Assumes nothing.
use Prim.Native.Nat.{ℕ, ◌≤◌, ◌<◌}
use mathlib.Core.Path.{◌≡◌, sym, ap, ap₂, ◌∙◌}
use native.Mathlib.Decide.{dec_le}
use native.Mathlib.Nat.{lt_of_not-le}
use native.Mathlib.Omega.{arith}
use lib.Bits.{bit_or, or_zero_l, or_zero_r}
use lib.ListN.{length, get_or, set, length-set, get_or-eq_default}
use lib.Seq.{get_or-set_same, get_or-set_other, set-set, set_comm, set-get_or, set_out}
use Rattle.laws.proofs.Words.{or_assoc}
use Rattle.register_file.specs.Registers.{File, Whole}
use Rattle.register_file.proofs.Pending.{at_bus, at_tx, at_rx, Unseen, Apart}

-- the bits of v more in number q of the file
abbrev pub more : ℕ → ℕ → File → File
more q v w = set w q (bit_or (get_or w q 0) v)

pub more_none : (q : ℕ) (w : File) → more q 0 w ≡ w
more_none q w = ap (set w q) (or_zero_r (get_or w q 0)) ∙ set-get_or w q 0

-- in one number, and then again
more_again : (q a b : ℕ) (w : File) → more q b (more q a w) ≡ more q (bit_or a b) w
more_again q a b w = set-set w q _ _ ∙ go (dec_le (length w) q)
  where
    go : Dec (length w ≤ q) → set w q (bit_or (get_or (more q a w) q 0) b) ≡ more q (bit_or a b) w
    go (yes h) = set_out w q _ h ∙ sym (set_out w q _ h)
    go (no h) =
        ap (λ (x : ℕ). set w q (bit_or x b)) (get_or-set_same w q (bit_or (get_or w q 0) a) 0 (lt_of_not-le h))
        ∙ ap (set w q) (or_assoc (get_or w q 0) a b)

-- in two numbers, in either order
more_apart : (p q a b : ℕ) (w : File) → (p ≡ q → ⊥) → more p a (more q b w) ≡ more q b (more p a w)
more_apart p q a b w n =
    ap (λ (x : ℕ). set (more q b w) p (bit_or x a)) (get_or-set_other w q p _ 0 n) ∙ set_comm w q p _ _ (λ e. n (sym e))
    ∙ ap (λ (x : ℕ). set (more p a w) q (bit_or x b)) (sym (get_or-set_other w p q _ 0 (λ e. n (sym e))))

-- What is read of it: past the end of the list nothing; in a whole file what was there and the bits.
past : (q v : ℕ) (w : File) → length w ≤ q → get_or (set w q v) q 0 ≡ 0
past q v w h = ap (λ (u : File). get_or u q 0) (set_out w q v h) ∙ get_or-eq_default w 0 h

pub more_here : (q v : ℕ) (w : File) → Whole w → q < 46 → get_or (more q v w) q 0 ≡ bit_or (get_or w q 0) v
more_here q v w six h = get_or-set_same w q _ 0 (omega (arith, six, h))

-- Either way it is what was there, and what would be there of the bits alone, in a file u as long that had none.
pub more_read : (q v : ℕ) (w u : File) → length u ≡ length w → get_or u q 0 ≡ 0 → get_or (more q v w) q 0 ≡ bit_or (get_or w q 0) (get_or (more q v u) q 0)
more_read q v w u long none = go (dec_le (length w) q)
  where
    go : Dec (length w ≤ q) → get_or (more q v w) q 0 ≡ bit_or (get_or w q 0) (get_or (more q v u) q 0)
    go (yes h) = past q _ w h ∙ sym (ap₂ bit_or (get_or-eq_default w 0 h) (past q _ u (omega (arith, h, long))))
    go (no h) =
        get_or-set_same w q _ 0 (lt_of_not-le h)
        ∙ ap (bit_or (get_or w q 0)) (sym (get_or-set_same u q _ 0 (omega (arith, lt_of_not-le h, long)) ∙ ap (λ (x : ℕ). bit_or x v) none ∙ or_zero_l v))

-- bits in each of the three
abbrev pub ups : ℕ → ℕ → ℕ → File → File
ups usb tx rx w = more 8 rx (more 7 tx (more 6 usb w))

pub ups_none : (w : File) → ups 0 0 0 w ≡ w
ups_none w = more_none 8 _ ∙ more_none 7 _ ∙ more_none 6 w

pub ups_again : (a b c d e f : ℕ) (w : File) → ups d e f (ups a b c w) ≡ ups (bit_or a d) (bit_or b e) (bit_or c f) w
ups_again a b c d e f w =
    ap (λ (x : File). more 8 f (more 7 e x)) (more_apart 6 8 d c (more 7 b (more 6 a w)) (λ p. omega arith))
    ∙ ap (λ (x : File). more 8 f (more 7 e (more 8 c x))) (more_apart 6 7 d b (more 6 a w) (λ p. omega arith) ∙ ap (more 7 b) (more_again 6 a d w))
    ∙ ap (more 8 f) (more_apart 7 8 e c (more 7 b (more 6 (bit_or a d) w)) (λ p. omega arith) ∙ ap (more 8 c) (more_again 7 b e (more 6 (bit_or a d) w)))
    ∙ more_again 8 c f (more 7 (bit_or b e) (more 6 (bit_or a d) w))

module _ (a b c : ℕ) (w : File) where
  pub ups_usb : get_or (ups a b c w) 6 0 ≡ get_or (more 6 a w) 6 0
  ups_usb = get_or-set_other (more 7 b (more 6 a w)) 8 6 _ 0 (λ p. omega arith) ∙ get_or-set_other (more 6 a w) 7 6 _ 0 (λ p. omega arith)

  pub ups_tx : get_or (ups a b c w) 7 0 ≡ get_or (more 7 b w) 7 0
  ups_tx =
      get_or-set_other (more 7 b (more 6 a w)) 8 7 _ 0 (λ p. omega arith) ∙ ap (λ (x : File). get_or x 7 0) (more_apart 7 6 b a w (λ p. omega arith))
      ∙ get_or-set_other (more 7 b w) 6 7 _ 0 (λ p. omega arith)

  pub ups_rx : get_or (ups a b c w) 8 0 ≡ get_or (more 8 c w) 8 0
  ups_rx =
      ap (λ (x : File). get_or x 8 0) (more_apart 8 7 c b (more 6 a w) (λ p. omega arith)) ∙ get_or-set_other (more 8 c (more 6 a w)) 7 8 _ 0 (λ p. omega arith)
      ∙ ap (λ (x : File). get_or x 8 0) (more_apart 8 6 c a w (λ p. omega arith)) ∙ get_or-set_other (more 8 c w) 6 8 _ 0 (λ p. omega arith)

-- the three set, and set again
abbrev three : ℕ → ℕ → ℕ → File → File
three a b c w = set (set (set w 6 a) 7 b) 8 c

three_again : (a b c d e f : ℕ) (w : File) → three d e f (three a b c w) ≡ three d e f w
three_again a b c d e f w =
    ap (λ (x : File). set (set x 7 e) 8 f) (set_comm (set (set w 6 a) 7 b) 8 6 c d (λ p. omega arith))
    ∙ ap (λ (x : File). set (set (set x 8 c) 7 e) 8 f) (set_comm (set w 6 a) 7 6 b d (λ p. omega arith) ∙ ap (λ (x : File). set x 7 b) (set-set w 6 a d))
    ∙ ap (λ (x : File). set x 8 f) (set_comm (set (set w 6 d) 7 b) 8 7 c e (λ p. omega arith) ∙ ap (λ (x : File). set x 8 c) (set-set (set w 6 d) 7 b e))
    ∙ set-set (set (set w 6 d) 7 e) 8 c f

-- all three cleared
abbrev pub calm : File → File
calm w = three 0 0 0 w

pub calm_again : (w : File) → calm (calm w) ≡ calm w
calm_again w = three_again 0 0 0 0 0 0 w

pub calm_ups : (a b c : ℕ) (w : File) → calm (ups a b c w) ≡ calm w
calm_ups a b c w = three_again _ _ _ 0 0 0 w

pub calm_length : (w : File) → length (calm w) ≡ length w
calm_length w = simp length-set

pub calm_other : (i : ℕ) (w : File) → (i ≡ 6 → ⊥) → (i ≡ 7 → ⊥) → (i ≡ 8 → ⊥) → get_or (calm w) i 0 ≡ get_or w i 0
calm_other i w l m n = get_or-set_other (set (set w 6 0) 7 0) 8 i 0 0 n ∙ get_or-set_other (set w 6 0) 7 i 0 0 m ∙ get_or-set_other w 6 i 0 0 l

-- nothing is read of them then
zero_read : (q : ℕ) (w : File) → get_or (set w q 0) q 0 ≡ 0
zero_read q w = go (dec_le (length w) q)
  where
    go : Dec (length w ≤ q) → get_or (set w q 0) q 0 ≡ 0
    go (yes h) = past q 0 w h
    go (no h) = get_or-set_same w q 0 0 (lt_of_not-le h)

pub calm_usb : (w : File) → get_or (calm w) 6 0 ≡ 0
calm_usb w = get_or-set_other (set (set w 6 0) 7 0) 8 6 0 0 (λ p. omega arith) ∙ get_or-set_other (set w 6 0) 7 6 0 0 (λ p. omega arith) ∙ zero_read 6 w

pub calm_tx : (w : File) → get_or (calm w) 7 0 ≡ 0
calm_tx w = get_or-set_other (set (set w 6 0) 7 0) 8 7 0 0 (λ p. omega arith) ∙ zero_read 7 (set w 6 0)

pub calm_rx : (w : File) → get_or (calm w) 8 0 ≡ 0
calm_rx w = zero_read 8 (set (set w 6 0) 7 0)

-- what is done beside them is done alike when they are cleared
pub apart_calm : {φ : File → File} → Apart φ → (w : File) → φ (calm w) ≡ calm (φ w)
apart_calm {φ} a w =
    a.sets 8 0 at_rx (set (set w 6 0) 7 0)
    ∙ ap (λ (x : File). set x 8 0) (a.sets 7 0 at_tx (set w 6 0))
    ∙ ap (λ (x : File). set (set x 7 0) 8 0) (a.sets 6 0 at_bus w)

-- and what is read beside them is the same
pub unseen_three : {A : Type 0} {f : File → A} → Unseen f → (a b c : ℕ) (w : File) → f (three a b c w) ≡ f w
unseen_three u a b c w =
    u.same 8 c at_rx (set (set w 6 a) 7 b)
    ∙ u.same 7 b at_tx (set w 6 a)
    ∙ u.same 6 a at_bus w
