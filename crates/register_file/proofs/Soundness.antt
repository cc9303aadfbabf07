-- The register part of reply 16's test: the loop's step, and what a file that passes it says of each side.
-- Assumes nothing.
use Prim.Native.Nat.{ℕ, zero, suc, ◌+◌, ◌<◌, ◌≤◌}
use mathlib.Core.Path.{◌≡◌, refl, ap, ◌∙◌}
use mathlib.Core.Bool.{Bool, true, false, cond}
use mathlib.Core.Logic.{◌⊎◌, inl, inr}
use mathlib.Core.List.{List}
use native.Mathlib.Decide.{ℕ_discrete, dec_le}
use native.Mathlib.Nat.{lt_of_not-le}
use native.Mathlib.Omega.{arith}
use borrow.Author.Tests.{leb-true, le-leb, ltb-true, lt-ltb}
use lib.Dec.{ltb, lit<, lit≤}
use lib.ListN.{get_or, set}
use lib.Seq.{get_or-set_same, get_or-set_other}
use Rattle.laws.specs.Tests.{◌also◌}
use Rattle.laws.proofs.Tests.{also_left, also_right, also_both}
use Rattle.board.specs.Table.{place}
use Rattle.board.specs.declared.Direction.{Direction}
use Rattle.board.specs.declared.Direction.TheVariants.{Out, In}
use Rattle.csr.specs.declared.Side.{Side}
use Rattle.csr.specs.declared.Csr0l.{Csr0l}
use Rattle.csr.specs.Control.{zero_tx_stored, dropped}
use Rattle.csr.specs.Sound.{side_sound, SideOk}
use Rattle.register_file.specs.Control.{csr0l_stored, csr0h_flushed}
use Rattle.csr.proofs.Soundness.{side_ok, side_test, none_ok}
use Rattle.register_file.specs.Registers.{File, Whole, fresh_file, side_in, side_at, with_side, with_side_in, side_word, with_setupend}
use Rattle.register_file.specs.Sound.{words_below, sides_below, regs_sound, Clean, Sound}
use Rattle.register_file.proofs.Words.{word_lt}
use Rattle.register_file.proofs.Sides.{place_lt, there, past, put_there, unchanged, word_either, keeps, keeps_length, fresh_zero}

-- a turn of either loop
pub words_next : (w : File) (i : ℕ) → words_below w (i + 1) ≡ (words_below w i also ltb (get_or w (10 + i) 0) 32)
unfolding words_below
words_next w i = let e : i + 1 ≡ suc i = omega arith in ap (words_below w) e

pub words_none : (w : File) → words_below w 0 ≡ true
unfolding words_below
words_none w = refl

pub sides_next : (sizes : List ℕ) (w : File) (i : ℕ) → sides_below sizes w (i + 1) ≡ (sides_below sizes w i also side_sound (get_or sizes i 0) (side_in w i))
unfolding sides_below
sides_next sizes w i = let e : i + 1 ≡ suc i = omega arith in ap (sides_below sizes w) e

pub sides_none : (sizes : List ℕ) (w : File) → sides_below sizes w 0 ≡ true
unfolding sides_below
sides_none sizes w = refl

-- every place below n passes, and the other way about
word_at : (w : File) (n : ℕ) → words_below w n ≡ true → (i : ℕ) → i < n → ltb (get_or w (10 + i) 0) 32 ≡ true
unfolding words_below
word_at w zero p i h = absurd (omega arith)
word_at w (suc n) p i h = go (word_at w n (also_left _ _ p) i) (ℕ_discrete i n)
  where
    go : (i < n → ltb (get_or w (10 + i) 0) 32 ≡ true) → Dec (i ≡ n) → ltb (get_or w (10 + i) 0) 32 ≡ true
    go below (yes e) = rw e (also_right _ _ p)
    go below (no e) = below (omega arith)

words : (w : File) (n : ℕ) → ((i : ℕ) → i < n → ltb (get_or w (10 + i) 0) 32 ≡ true) → words_below w n ≡ true
unfolding words_below
words w zero k = refl
words w (suc n) k = also_both (words w n (λ i h. k i (omega arith))) (k n (omega arith))

side_in_lem : (sizes : List ℕ) (w : File) (n : ℕ) → sides_below sizes w n ≡ true → (i : ℕ) → i < n → side_sound (get_or sizes i 0) (side_in w i) ≡ true
unfolding sides_below
side_in_lem sizes w zero p i h = absurd (omega arith)
side_in_lem sizes w (suc n) p i h = go (side_in_lem sizes w n (also_left _ _ p) i) (ℕ_discrete i n)
  where
    go : (i < n → side_sound (get_or sizes i 0) (side_in w i) ≡ true) → Dec (i ≡ n) → side_sound (get_or sizes i 0) (side_in w i) ≡ true
    go below (yes e) = rw e (also_right _ _ p)
    go below (no e) = below (omega arith)

sides : (sizes : List ℕ) (w : File) (n : ℕ) → ((i : ℕ) → i < n → side_sound (get_or sizes i 0) (side_in w i) ≡ true) → sides_below sizes w n ≡ true
unfolding sides_below
sides sizes w zero k = refl
sides sizes w (suc n) k = also_both (sides sizes w n (λ i h. k i (omega arith))) (k n (omega arith))

sides_ok : (sizes : List ℕ) (w : File) → sides_below sizes w 12 ≡ true → (e : ℕ) (d : Direction) → SideOk (get_or sizes (place e d) 0) (side_at w e d)
sides_ok sizes w p e d = go (dec_le 6 e)
  where
    go : Dec (6 ≤ e) → SideOk (get_or sizes (place e d) 0) (side_at w e d)
    go (yes h) = rw (past w e d h) (none_ok _)
    go (no h) =
        let l = lt_of_not-le h in
        rw (there w e d l) (side_ok _ _ (side_in_lem sizes w 12 p (place e d) (place_lt e d l)))

-- a place below twelve is that of an endpoint and a direction
pub record Placed (i : ℕ) : Type 0 where
  pub e : ℕ
  pub d : Direction
  pub below : e < 6
  pub is : i ≡ place e d

placed : (i : ℕ) → i < 12 → Placed i
placed zero h = record { e = 0; d = In; below = omega arith; is = refl }
placed (suc zero) h = record { e = 0; d = Out; below = omega arith; is = refl }
placed (suc (suc i)) h = up (placed i (omega arith))
  where
    moved : (e : ℕ) (d : Direction) → i ≡ place e d → suc (suc i) ≡ place (suc e) d
    moved e Out p = omega arith
    moved e In p = omega arith

    up : Placed i → Placed (suc (suc i))
    up q = record { e = suc q.e; d = q.d; below = bound q.d q.is; is = moved q.e q.d q.is }
      where
        bound : (d : Direction) → i ≡ place q.e d → suc q.e < 6
        bound Out p = omega arith
        bound In p = omega arith

-- the whole test
module _ (sizes : List ℕ) (count : ℕ) (w : File) where
  pub is_sound : regs_sound sizes count w ≡ true → Sound sizes count w
  unfolding regs_sound
  is_sound p = record {
    selected = ltb-true _ _ (also_left _ _ (also_left _ _ (also_left _ _ (also_left _ _ p))));
    address = leb-true _ _ (also_right _ _ (also_left _ _ (also_left _ _ (also_left _ _ p))));
    clean = record {
      ended = leb-true _ _ (also_right _ _ (also_left _ _ (also_left _ _ p)));
      bits = λ i h. ltb-true _ _ (word_at w 12 (also_right _ _ (also_left _ _ p)) i h);
    };
    side = sides_ok sizes w (also_right _ _ p);
  }

  pub sound_passes : Sound sizes count w → regs_sound sizes count w ≡ true
  unfolding regs_sound
  sound_passes k =
      also_both
      (also_both (also_both (also_both (lt-ltb _ _ k.selected) (le-leb _ _ k.address)) (le-leb _ _ k.clean.ended)) (words w 12 (λ i h. lt-ltb _ _ (k.clean.bits i h))))
      (sides sizes w 12 (λ i h. one i (placed i h)))
    where
      one : (i : ℕ) → Placed i → side_sound (get_or sizes i 0) (side_in w i) ≡ true
      one i q = rw q.is (rw (← there w q.e q.d q.below) (side_test _ _ (k.side q.e q.d)))

-- a side that is changed leaves the file clean, and so does a number before SetupEnd's
pub clean_side : (w : File) (e : ℕ) (d : Direction) (s : Side) → Whole w → Clean w → Clean (with_side w e d s)
clean_side w e d s six k = record {
  ended = rw (keeps w e d s 9 (omega arith)) k.ended;
  bits = λ (i : ℕ) (h : i < 12). bit (dec_le 6 e) i h;
}
  where
    bit : Dec (6 ≤ e) → (i : ℕ) → i < 12 → get_or (with_side w e d s) (10 + i) 0 < 32
    bit (yes l) i h = rw (unchanged w e d s l) (k.bits i h)
    bit (no l) i h = rw (put_there w e d s (lt_of_not-le l)) (which (word_either w (place e d) s i (place_lt e d (lt_of_not-le l)) h six))
      where
        which : (get_or (with_side_in w (place e d) s) (10 + i) 0 ≡ side_word s) ⊎ (get_or (with_side_in w (place e d) s) (10 + i) 0 ≡ get_or w (10 + i) 0)
            → get_or (with_side_in w (place e d) s) (10 + i) 0 < 32
        which (inl p) = rw p (word_lt s)
        which (inr p) = rw p (k.bits i h)

pub clean_set : (w : File) (q v : ℕ) → q < 9 → Clean w → Clean (set w q v)
clean_set w q v h k = record {
  ended = rw (get_or-set_other w q 9 v 0 (λ e. omega arith)) k.ended;
  bits = λ (i : ℕ) (l : i < 12). rw (get_or-set_other w q (10 + i) v 0 (λ e. omega arith)) (k.bits i l);
}

pub clean_setupend : (w : File) (b : Bool) → Whole w → Clean w → Clean (with_setupend w b)
unfolding with_setupend
clean_setupend w b six k = record {
  ended = rw (get_or-set_same w 9 (cond b 1 0) 0 (omega arith)) (one b);
  bits = λ (i : ℕ) (l : i < 12). rw (get_or-set_other w 9 (10 + i) (cond b 1 0) 0 (λ e. omega arith)) (k.bits i l);
}
  where
    one : (b : Bool) → cond b 1 0 ≤ 1
    one true = omega arith
    one false = omega arith

-- the two stores to endpoint 0's registers
pub clean_zero : (v : Csr0l) (w : File) → Whole w → Clean w → Clean (csr0l_stored v w)
unfolding csr0l_stored
clean_zero v w six k =
    let tx = zero_tx_stored v (side_at w 0 In) in
    let rx = dropped v.serviced_rx_pkt_rdy (side_at w 0 Out) in
    let half = keeps_length w 0 In tx ∙ six in
    clean_setupend (with_side (with_side w 0 In tx) 0 Out rx) _ (keeps_length (with_side w 0 In tx) 0 Out rx ∙ half)
    (clean_side (with_side w 0 In tx) 0 Out rx half (clean_side w 0 In tx six k))

pub clean_flush : (w : File) → Whole w → Clean w → Clean (csr0h_flushed w)
unfolding csr0h_flushed
clean_flush w six k =
    let tx = dropped true (side_at w 0 In) in
    clean_side (with_side w 0 In tx) 0 Out (dropped true (side_at w 0 Out)) (keeps_length w 0 In tx ∙ six) (clean_side w 0 In tx six k)

-- a fresh file is clean
pub fresh_clean : Clean fresh_file
fresh_clean = record { ended = rw (fresh_zero 9) (lit≤ tt); bits = λ (i : ℕ) (h : i < 12). rw (fresh_zero (10 + i)) (lit< tt) }
