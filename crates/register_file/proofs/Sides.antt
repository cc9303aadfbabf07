-- The register file: what is read after one of its parts was changed, and what stays.
-- Assumes nothing.
use Prim.Native.Nat.{ℕ, zero, suc, ◌+◌, ◌<◌, ◌≤◌}
use mathlib.Core.Path.{◌≡◌, refl, ap, sym, ◌∙◌}
use mathlib.Core.Logic.{◌⊎◌, inl, inr}
use mathlib.Core.Bool.{Bool, true, false, cond}
use borrow.Author.Tests.{eq-eqb, ne_eqb, lt-ltb, le-ltb}
use lib.Dec.{eqb, ltb}
use native.Mathlib.Decide.{ℕ_discrete, dec_le}
use native.Mathlib.Nat.{lt_of_not-le}
use native.Mathlib.Omega.{arith}
use lib.ListN.{length, get_or, set, length-set, replicate}
use lib.Seq.{get_or-set_same, get_or-set_other}
use Rattle.laws.specs.Words.{bit}
use Rattle.board.specs.Table.{place}
use Rattle.board.specs.declared.Board.{Board}
use Rattle.board.specs.declared.Direction.{Direction}
use Rattle.board.specs.declared.Direction.TheVariants.{Out, In}
use Rattle.csr.specs.declared.Side.{Side}
use Rattle.csr.specs.Registers.{no_side, towards}
use Rattle.csr.proofs.Sides.{in_out, out_in, same_direction}
use Rattle.register_file.specs.Registers.{File, Whole, Fresh, fresh_file, fresh_regs, side_word, side_of, side_in, with_side_in, side_at, with_side, index, faddr, power, intrusbe, enabled_of, intrusb, intr_of, setupend}
use Rattle.register_file.proofs.Words.{read_back}

-- places: below twelve, and no two alike
pub place_lt : (e : ℕ) (d : Direction) → e < 6 → place e d < 12
place_lt e Out h = omega arith
place_lt e In h = omega arith

apart : (e f : ℕ) (d c : Direction) → (f ≡ e → ⊥) → place f c ≡ place e d → ⊥
apart e f Out Out n p = n (omega arith)
apart e f Out In n p = omega arith
apart e f In Out n p = omega arith
apart e f In In n p = n (omega arith)

flipped : (e : ℕ) (d c : Direction) → (c ≡ d → ⊥) → place e c ≡ place e d → ⊥
flipped e Out Out n p = n refl
flipped e Out In n p = omega arith
flipped e In Out n p = omega arith
flipped e In In n p = n refl

-- a place other than three that are set
beside : (w : File) (a b c q x y z : ℕ) → (q ≡ a → ⊥) → (q ≡ b → ⊥) → (q ≡ c → ⊥) → get_or (set (set (set w a x) b y) c z) q 0 ≡ get_or w q 0
beside w a b c q x y z na nb nc =
    get_or-set_other (set (set w a x) b y) c q z 0 nc ∙ get_or-set_other (set w a x) b q y 0 nb ∙ get_or-set_other w a q x 0 na

module _ (w : File) (i : ℕ) (s : Side) where
  pub length_in : length (with_side_in w i s) ≡ length w
  unfolding with_side_in
  length_in = simp length-set

  -- the numbers before the sides' stay
  below_ten : (q : ℕ) → q < 10 → get_or (with_side_in w i s) q 0 ≡ get_or w q 0
  unfolding with_side_in
  below_ten q h = beside w (10 + i) (34 + i) (22 + i) q (side_word s) s.maxp s.len (λ e. omega arith) (λ e. omega arith) (λ e. omega arith)

  pub in_same : Whole w → i < 12 → side_in (with_side_in w i s) i ≡ s
  unfolding side_in with_side_in
  in_same k h =
      let c : get_or (set (set (set w (10 + i) (side_word s)) (34 + i) s.maxp) (22 + i) s.len) (10 + i) 0 ≡ side_word s =
      get_or-set_other (set (set w (10 + i) (side_word s)) (34 + i) s.maxp) (22 + i) (10 + i) s.len 0 (λ e. omega arith)
      ∙ get_or-set_other (set w (10 + i) (side_word s)) (34 + i) (10 + i) s.maxp 0 (λ e. omega arith)
      ∙ get_or-set_same w (10 + i) (side_word s) 0 (omega arith) in
      let m : get_or (set (set (set w (10 + i) (side_word s)) (34 + i) s.maxp) (22 + i) s.len) (34 + i) 0 ≡ s.maxp =
      get_or-set_other (set (set w (10 + i) (side_word s)) (34 + i) s.maxp) (22 + i) (34 + i) s.len 0 (λ e. omega arith)
      ∙ get_or-set_same (set w (10 + i) (side_word s)) (34 + i) s.maxp 0 (simp length-set (omega arith)) in
      let n : get_or (set (set (set w (10 + i) (side_word s)) (34 + i) s.maxp) (22 + i) s.len) (22 + i) 0 ≡ s.len =
      get_or-set_same (set (set w (10 + i) (side_word s)) (34 + i) s.maxp) (22 + i) s.len 0 (simp length-set (omega arith)) in
      (λ t. side_of (c t) (m t) (n t)) ∙ read_back s

  pub in_other : (j : ℕ) → i < 12 → j < 12 → (j ≡ i → ⊥) → side_in (with_side_in w i s) j ≡ side_in w j
  unfolding side_in with_side_in
  in_other j h l n =
      let at : (q : ℕ) → (q ≡ 10 + i → ⊥) → (q ≡ 34 + i → ⊥) → (q ≡ 22 + i → ⊥) → get_or (set (set (set w (10 + i) (side_word s)) (34 + i) s.maxp) (22 + i) s.len) q 0 ≡ get_or w q 0 =
      λ q na nb nc. beside w (10 + i) (34 + i) (22 + i) q (side_word s) s.maxp s.len na nb nc in
      λ t. side_of
      (at (10 + j) (λ e. n (omega arith)) (λ e. omega arith) (λ e. omega arith) t)
      (at (34 + j) (λ e. omega arith) (λ e. n (omega arith)) (λ e. omega arith) t)
      (at (22 + j) (λ e. omega arith) (λ e. omega arith) (λ e. n (omega arith)) t)

  -- a control word: the new one's, or as it was
  pub word_either : (j : ℕ) → i < 12 → j < 12 → Whole w
      → (get_or (with_side_in w i s) (10 + j) 0 ≡ side_word s) ⊎ (get_or (with_side_in w i s) (10 + j) 0 ≡ get_or w (10 + j) 0)
  unfolding with_side_in
  word_either j h l k = go (ℕ_discrete j i)
    where
      go : Dec (j ≡ i) → (get_or (set (set (set w (10 + i) (side_word s)) (34 + i) s.maxp) (22 + i) s.len) (10 + j) 0 ≡ side_word s) ⊎ (get_or (set (set (set w (10 + i) (side_word s)) (34 + i) s.maxp) (22 + i) s.len) (10 + j) 0 ≡ get_or w (10 + j) 0)
      go (yes p) =
          inl (get_or-set_other (set (set w (10 + i) (side_word s)) (34 + i) s.maxp) (22 + i) (10 + j) s.len 0 (λ e. omega arith)
          ∙ get_or-set_other (set w (10 + i) (side_word s)) (34 + i) (10 + j) s.maxp 0 (λ e. omega arith)
          ∙ rw p (get_or-set_same w (10 + i) (side_word s) 0 (omega arith)))
      go (no n) =
          inr (beside w (10 + i) (34 + i) (22 + i) (10 + j) (side_word s) s.maxp s.len (λ e. n (omega arith)) (λ e. omega arith) (λ e. omega arith))

-- by the number of an endpoint
pub there : (w : File) (e : ℕ) (d : Direction) → e < 6 → side_at w e d ≡ side_in w (place e d)
unfolding side_at
there w e d h = rw (lt-ltb e 6 h)

pub past : (w : File) (e : ℕ) (d : Direction) → 6 ≤ e → side_at w e d ≡ no_side
unfolding side_at
past w e d h = rw (le-ltb e 6 h)

pub put_there : (w : File) (e : ℕ) (d : Direction) (s : Side) → e < 6 → with_side w e d s ≡ with_side_in w (place e d) s
unfolding with_side
put_there w e d s h = rw (lt-ltb e 6 h)

pub unchanged : (w : File) (e : ℕ) (d : Direction) (s : Side) → 6 ≤ e → with_side w e d s ≡ w
unfolding with_side
unchanged w e d s h = rw (le-ltb e 6 h)

module _ (w : File) (e : ℕ) (d : Direction) (s : Side) where
  -- the side that was changed
  pub side_same : Whole w → e < 6 → side_at (with_side w e d s) e d ≡ s
  side_same k h = there (with_side w e d s) e d h ∙ ap (λ (v : File). side_in v (place e d)) (put_there w e d s h) ∙ in_same w (place e d) s k (place_lt e d h)

  elsewhere : (f : ℕ) (c : Direction) → e < 6 → f < 6 → (place f c ≡ place e d → ⊥) → side_at (with_side w e d s) f c ≡ side_at w f c
  elsewhere f c h l n =
      there (with_side w e d s) f c l ∙ ap (λ (v : File). side_in v (place f c)) (put_there w e d s h)
      ∙ in_other w (place e d) s (place f c) (place_lt e d h) (place_lt f c l) n ∙ sym (there w f c l)

  apart_from : (f : ℕ) (c : Direction) → (place f c ≡ place e d → ⊥) → side_at (with_side w e d s) f c ≡ side_at w f c
  apart_from f c n = go (dec_le 6 e) (dec_le 6 f)
    where
      go : Dec (6 ≤ e) → Dec (6 ≤ f) → side_at (with_side w e d s) f c ≡ side_at w f c
      go (yes h) l = ap (λ (v : File). side_at v f c) (unchanged w e d s h)
      go (no h) (yes l) = past (with_side w e d s) f c l ∙ sym (past w f c l)
      go (no h) (no l) = elsewhere f c (lt_of_not-le h) (lt_of_not-le l) n

  -- another endpoint's
  pub side_other : (f : ℕ) (c : Direction) → (f ≡ e → ⊥) → side_at (with_side w e d s) f c ≡ side_at w f c
  side_other f c n = apart_from f c (apart e f d c n)

  -- the same endpoint's other side
  pub side_flip : (c : Direction) → (c ≡ d → ⊥) → side_at (with_side w e d s) e c ≡ side_at w e c
  side_flip c n = apart_from e c (flipped e d c n)

  -- any side: the new one, or as it was
  pub side_either : (f : ℕ) (c : Direction) → Whole w
      → ((side_at (with_side w e d s) f c ≡ s) × (f ≡ e) × (c ≡ d)) ⊎ (side_at (with_side w e d s) f c ≡ side_at w f c)
  side_either f c k = go (ℕ_discrete f e) (same_direction c d) (dec_le 6 e)
    where
      go : Dec (f ≡ e) → Dec (c ≡ d) → Dec (6 ≤ e)
          → ((side_at (with_side w e d s) f c ≡ s) × (f ≡ e) × (c ≡ d)) ⊎ (side_at (with_side w e d s) f c ≡ side_at w f c)
      go (no n) q h = inr (side_other f c n)
      go (yes p) (no n) h = inr (rw p (side_flip c n))
      go (yes p) (yes q) (yes h) = inr (ap (λ (v : File). side_at v f c) (unchanged w e d s h))
      go (yes p) (yes q) (no h) = inl (rw (p, q) (side_same k (lt_of_not-le h)), p, q)

  -- every number before the sides', and how many there are
  pub keeps : (q : ℕ) → q < 10 → get_or (with_side w e d s) q 0 ≡ get_or w q 0
  keeps q l = go (dec_le 6 e)
    where
      go : Dec (6 ≤ e) → get_or (with_side w e d s) q 0 ≡ get_or w q 0
      go (yes h) = ap (λ (v : File). get_or v q 0) (unchanged w e d s h)
      go (no h) = ap (λ (v : File). get_or v q 0) (put_there w e d s (lt_of_not-le h)) ∙ below_ten w (place e d) s q l

  pub keeps_length : length (with_side w e d s) ≡ length w
  keeps_length = go (dec_le 6 e)
    where
      go : Dec (6 ≤ e) → length (with_side w e d s) ≡ length w
      go (yes h) = ap length (unchanged w e d s h)
      go (no h) = ap length (put_there w e d s (lt_of_not-le h)) ∙ length_in w (place e d) s

  pub keeps_intr : (c : Direction) → intr_of (with_side w e d s) c ≡ intr_of w c
  unfolding intr_of
  keeps_intr Out = keeps 8 (omega arith)
  keeps_intr In = keeps 7 (omega arith)

  pub keeps_setupend : setupend (with_side w e d s) ≡ setupend w
  unfolding setupend
  keeps_setupend = ap (λ (n : ℕ). eqb n 1) (keeps 9 (omega arith))

-- a number before the sides' is set: every side stays
pub set_keeps : (w : File) (q v e : ℕ) (d : Direction) → q < 10 → side_at (set w q v) e d ≡ side_at w e d
unfolding side_at side_in
set_keeps w q v e d h =
    let at : (p : ℕ) → 10 ≤ p → get_or (set w q v) p 0 ≡ get_or w p 0 = λ p l. get_or-set_other w q p v 0 (λ e. omega arith) in
    λ t. cond (ltb e 6) (side_of (at (10 + place e d) (omega arith) t) (at (34 + place e d) (omega arith) t) (at (22 + place e d) (omega arith) t)) no_side

-- a side that is changed by f, seen at any endpoint and direction
pub side_seen : (w : File) (i : ℕ) (c : Direction) (f : Side → Side) (e : ℕ) (d : Direction) → Whole w → i < 6
    → side_at (with_side w i c (f (side_at w i c))) e d ≡ cond (eqb e i) (towards c d f (side_at w e d)) (side_at w e d)
side_seen w i c f e d k h = go (ℕ_discrete e i)
  where
    here : (c d : Direction) → side_at (with_side w i c (f (side_at w i c))) i d ≡ towards c d f (side_at w i d)
    here Out Out = side_same w i Out _ k h
    here Out In = side_flip w i Out _ In in_out
    here In Out = side_flip w i In _ Out out_in
    here In In = side_same w i In _ k h

    go : Dec (e ≡ i) → side_at (with_side w i c (f (side_at w i c))) e d ≡ cond (eqb e i) (towards c d f (side_at w e d)) (side_at w e d)
    go (yes p) = rw (eq-eqb e i p) (rw p (here c d))
    go (no n) = rw (ne_eqb e i n) (side_other w i c _ e d n)

-- a fresh file: every number is 0, nothing at any side
pub fresh_zero : (q : ℕ) → get_or fresh_file q 0 ≡ 0
unfolding fresh_file
fresh_zero q = nothing q 46
  where
    nothing : (q n : ℕ) → ◌≡◌ {A = ℕ} (get_or (replicate n 0) q 0) 0
    nothing q zero = refl
    nothing zero (suc n) = refl
    nothing (suc q) (suc n) = nothing q n

pub fresh_side : (e : ℕ) (d : Direction) → side_at fresh_file e d ≡ no_side
unfolding side_at side_in side_of bit
fresh_side e d =
    (λ t. cond (ltb e 6) (side_of (fresh_zero (10 + place e d) t) (fresh_zero (34 + place e d) t) (fresh_zero (22 + place e d) t)) no_side) ∙ either (ltb e 6)
  where
    either : (b : Bool) → cond b (side_of 0 0 0) no_side ≡ no_side
    either true = refl
    either false = refl

pub fresh_whole : Whole fresh_file
unfolding fresh_file
fresh_whole = refl

pub fresh_words : (b : Board) → ((fresh_regs b).words ≡ fresh_file) × ((fresh_regs b).board ≡ b)
unfolding fresh_regs
fresh_words b = (refl, refl)

-- so every register of a fresh file is 0, and nothing waits
pub fresh_file_lem : Fresh fresh_file
unfolding index faddr power intrusbe enabled_of intrusb intr_of setupend
fresh_file_lem = record {
  whole = fresh_whole;
  selection = fresh_zero 0;
  address = fresh_zero 1;
  powered = fresh_zero 2;
  buses = fresh_zero 3;
  enables = enables;
  bus = fresh_zero 6;
  pending = pending;
  ended = ap (λ (n : ℕ). eqb n 1) (fresh_zero 9);
  side = fresh_side;
}
  where
    enables : (d : Direction) → enabled_of d fresh_file ≡ 0
    enables Out = fresh_zero 5
    enables In = fresh_zero 4

    pending : (d : Direction) → intr_of fresh_file d ≡ 0
    pending Out = fresh_zero 8
    pending In = fresh_zero 7
