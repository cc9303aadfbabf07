-- The walks that work out the sizes and the starts of the areas, over any table: each turn puts the next numbers behind those that stand.
-- Assumes nothing.
use mathlib.Core.Path.{◌≡◌, refl, sym, ap, ◌∙◌}
use mathlib.Core.List.{List}
use Prim.Native.Nat.{ℕ, ◌+◌, ◌*◌, ◌≤◌, ◌<◌}
use native.Mathlib.Omega.{arith}
use native.Mathlib.Numerals.{add-one}
use lib.ListN.{get_or, set, length, length-set, take, replicate}
use lib.Seq.{get_or-set_same, get_or-set_other, ext_get_or}
use borrow.Author.Count.{below_none, below_more}
use Rattle.board.specs.declared.Row.{Row}
use Rattle.board.specs.declared.Direction.TheVariants.{Out, In}
use Rattle.board.specs.Table.{row_at, room_of, areas, sum, sizes_of}
use Rattle.board.proofs.Areas.{ends, room_at, size_at}

-- a list of m numbers, of which the first n are those that f gives
pub record Filled (f : ℕ → ℕ) (m : ℕ) (l : List ℕ) (n : ℕ) : Type 0 where
  pub so_far : (k : ℕ) → k < n → get_or l k 0 ≡ f k
  pub long : length l ≡ m

put : (f : ℕ → ℕ) (m : ℕ) (l : List ℕ) (n x : ℕ) → Filled f m l n → n < m → x ≡ f n → Filled f m (set l n x) (n + 1)
put f m l n x w h e = record {
  so_far =
      below_more (λ (k : ℕ). get_or (set l n x) k 0 ≡ f k) n
      (λ k g. get_or-set_other l n k x 0 (λ same. omega (arith, same, g)) ∙ w.so_far k g)
      (get_or-set_same l n x 0 (omega (arith, w.long)) ∙ e);
  long = length-set l n x ∙ w.long;
}

-- before area k: the starts up to its own
abbrev pub Starting : List ℕ → List ℕ → ℕ → Type 0
Starting s a k = Filled (λ (j : ℕ). sum (take j s)) 13 a (k + 1)

pub start_first : (s : List ℕ) → Starting s (replicate 13 0) 0
start_first s = record { so_far = below_more (λ (k : ℕ). get_or (replicate 13 0) k 0 ≡ sum (take k s)) 0 (below_none _) refl; long = refl }

pub start_next : (s a : List ℕ) (k : ℕ) → Starting s a k → k < 12 → Starting s (set a (k + 1) (get_or a k 0 + get_or s k 0)) (k + 1)
start_next s a k w h = put (λ (j : ℕ). sum (take j s)) 13 a (k + 1) _ w (omega arith) sums
  where
    sums : get_or a k 0 + get_or s k 0 ≡ sum (take (k + 1) s)
    sums = ap (λ (x : ℕ). x + get_or s k 0) (w.so_far k (omega arith)) ∙ sym (rw (add-one k) (ends s k))

-- before endpoint n: the sizes of the areas of those before it
abbrev pub Sizing : List Row → List ℕ → ℕ → Type 0
Sizing t s n = Filled (λ (k : ℕ). get_or (areas t) k 0) 12 s (2 * n)

pub size_first : (t : List Row) → Sizing t (replicate 12 0) 0
size_first t = record { so_far = below_none _; long = refl }

pub size_next : (t : List Row) (s : List ℕ) (n x y : ℕ) → Sizing t s n → n < 6 → x ≡ room_of (row_at t n) In → y ≡ room_of (row_at t n) Out
    → Sizing t (set (set s (2 * n) x) (2 * n + 1) y) (n + 1)
size_next t s n x y w h ex ey =
    let f : ℕ → ℕ = λ (k : ℕ). get_or (areas t) k 0 in
    let one : Filled f 12 (set s (2 * n) x) (2 * n + 1) = put f 12 s (2 * n) x w (omega arith) (ex ∙ sym (room_at t n In)) in
    let e : 2 * (n + 1) ≡ 2 * n + 1 + 1 = omega arith in
    rw e (put f 12 _ (2 * n + 1) y one (omega arith) (ey ∙ sym (room_at t n Out)))

pub size_last : (t : List Row) (s : List ℕ) (n : ℕ) → Sizing t s n → 6 ≤ n → s ≡ sizes_of t
unfolding sizes_of
size_last t s n w h =
    ext_get_or 0 s (sizes_of t) w.long (λ k g. w.so_far k (omega (arith, w.long)) ∙ sym (size_at t k (omega (arith, w.long))))
