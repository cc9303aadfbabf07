-- What the functions make, from what their calls ensure.
-- Assumes nothing.
use Prim.Native.Nat.{ℕ, zero, suc, ◌+◌, ◌-◌, ◌*◌, ◌≤◌, ◌<◌}
use native.Mathlib.Nat.{add-zero, not-suc-le-zero, le_of_suc-le-suc}
use native.Mathlib.Omega.{arith}
use mathlib.Core.Path.{◌≡◌, refl, ap, sym, ◌∙◌}
use mathlib.Core.List.{List, [], ◌∷◌, map}
use lib.ListN.{get_or, replicate}
use Rattle.std.specs.Int.{from_le_bytes}
use Rattle.std.proofs.Common.{w32}
use Rattle.laws.specs.Lists.{numbers}
use Rattle.register_file.specs.Registers.{File, fresh_file}
use Rattle.detail_rules.specs.Given.{number_at, numbers_of, long_at, with_chip, with_zero, with_sides, with_others, file_of}

-- the number in place i of those that stand in the bytes
listed_at : (f : ℕ → ℕ) (s k i : ℕ) → i < k → get_or (map f (numbers s k)) i 0 ≡ f (s + i)
unfolding numbers
listed_at f s zero i h = absurd (not-suc-le-zero h)
listed_at f s (suc k) zero h = ap f (sym (add-zero s))
listed_at f s (suc k) (suc i) h =
    let e : suc s + i ≡ s + suc i = omega arith in
    listed_at f (suc s) k i (le_of_suc-le-suc h) ∙ ap f e

pub number_in : (h : List ℕ) (i : ℕ) → i < 96 → long_at (numbers_of h) i ≡ number_at h i
unfolding numbers_of
number_in h i l =
    let e : 0 + i ≡ i = omega arith in
    listed_at (number_at h) 0 96 i l ∙ ap (number_at h) e

pub long_is : (h : List ℕ) (i : ℕ) {a b c d n : ℕ} → i < 96 → a ≡ get_or h (4 * i) 0 → b ≡ get_or h (4 * i + 1) 0 → c ≡ get_or h (4 * i + 2) 0
    → d ≡ get_or h (4 * i + 3) 0 → n ≡ from_le_bytes w32 (a ∷ b ∷ c ∷ d ∷ []) → n ≡ long_at (numbers_of h) i
unfolding number_at
long_is h i l ea eb ec ed en = omega (arith, en, ea, eb, ec, ed, number_in h i l)

-- the file: no other endpoint's sides yet, one endpoint's more, and all of them
pub others_none : (ns : List ℕ) (w : File) → w ≡ with_others ns 0 w
unfolding with_others
others_none ns w = refl

pub others_more : (ns : List ℕ) (w : File) (e : ℕ) {a b : File} → 1 ≤ e → a ≡ with_others ns (e - 1) w → b ≡ with_sides ns e a → b ≡ with_others ns (e + 1 - 1) w
unfolding with_others
others_more ns w zero l ea eb = absurd (omega arith)
others_more ns w (suc n) l ea eb =
    let p : suc n - 1 ≡ n = omega arith in
    let q : suc n ≡ suc n + 1 - 1 = omega arith in
    eb ∙ ap (with_sides ns (suc n)) (ea ∙ ap (λ (k : ℕ). with_others ns k w) p) ∙ ap (λ (k : ℕ). with_others ns k w) q

pub words_done : (ns : List ℕ) {c z a : File} (e : ℕ) → c ≡ with_chip ns (replicate 46 0) → z ≡ with_zero ns c → e ≡ 6 → a ≡ with_others ns (e - 1) z → a ≡ file_of ns
unfolding file_of fresh_file
words_done ns {c} {z} e ec ez is ea =
    ea ∙ ap (λ (k : ℕ). with_others ns (k - 1) z) is ∙ ap (with_others ns 5) (ez ∙ ap (with_zero ns) ec)
