-- The laws of the number reader: every number's encoding reads back, nothing else is accepted, and a read moves on and stays inside.
-- Assumes nothing.
use Rattle.std.specs.Prelude.{Option, Some}
use Prim.Native.Nat.{ℕ, ◌+◌, ◌-◌, ◌*◌, ◌/◌, ◌%◌, ◌<◌, ◌≤◌}
use native.Mathlib.Omega.{arith}
use native.Mathlib.Numerals.{add-one}
use native.Mathlib.Decide.{dec_lt}
use mathlib.Core.Path.{◌≡◌, sym, ◌∙◌}
use mathlib.Core.List.{List, [], ◌∷◌, ◌++◌}
use lib.ListN.{length, get_or, drop, length-append}
use lib.Seq.{get_or-append_seam, get_or-append-add, drop-cons}
use borrow.Author.Tests.{le-ltb, lt-ltb}
use Rattle.trace_rules.specs.Groups.{number_at}
use Rattle.trace_rules.specs.Encode.{encode, Written}
use Rattle.trace_rules.proofs.NumberCases.{one, two, three}
use Rattle.trace_rules.proofs.Pairs.{first_is, second_is}
use Rattle.trace_rules.proofs.Read.{Read, read, bad, in_1, in_2, in_3}

-- the three lengths of an encoding
encode_1 : (n : ℕ) → n < 128 → encode n ≡ n ∷ []
unfolding encode
encode_1 n h = simp (lt-ltb _ _ h)

encode_2 : (n : ℕ) → 128 ≤ n → n < 16384 → encode n ≡ (128 + n % 128) ∷ (n / 128) ∷ []
unfolding encode
encode_2 n h l = simp (le-ltb _ _ h, lt-ltb _ _ l)

encode_3 : (n : ℕ) → 16384 ≤ n → encode n ≡ (128 + n % 128) ∷ (128 + n / 128 % 128) ∷ (n / 16384) ∷ []
unfolding encode
encode_3 n h = let l : 128 ≤ n = omega arith in simp (le-ltb _ _ l, le-ltb _ _ h)

-- groups that stand between p and q are read from the end of p on
module _ (p q : List ℕ) where
  seam_1 : (a : ℕ) → a < 128 → number_at (p ++ a ∷ q) (length p) ≡ Some (a, length p + 1)
  seam_1 a h = sym (one _ _ a (omega (arith, length-append p (a ∷ q))) (sym (get_or-append_seam p a q 0)) h)

  seam_2 : (a b : ℕ) → 128 ≤ a → 0 < b → b < 128 → number_at (p ++ a ∷ b ∷ q) (length p) ≡ Some (a - 128 + b * 128, length p + 1 + 1)
  seam_2 a b h z l =
      let l₀ = length-append p (a ∷ b ∷ q) in
      let eb = get_or-append-add p (a ∷ b ∷ q) 1 0 in
      sym (two _ _ a b (omega (arith, l₀)) (sym (get_or-append_seam p a (b ∷ q) 0)) h (sym eb) l (λ e. omega arith))

  seam_3 : (a b c : ℕ) → 128 ≤ a → 128 ≤ b → 0 < c → c ≤ 3
      → number_at (p ++ a ∷ b ∷ c ∷ q) (length p) ≡ Some (a - 128 + (b - 128) * 128 + c * 16384, length p + 1 + 1 + 1)
  seam_3 a b c h k z l =
      let l₀ = length-append p (a ∷ b ∷ c ∷ q) in
      let eb = get_or-append-add p (a ∷ b ∷ c ∷ q) 1 0 in
      let ec = get_or-append-add p (a ∷ b ∷ c ∷ q) 2 0 in
      let at : length p + 1 + 1 ≡ length p + 2 = omega arith in
      sym (three _ _ a b (omega (arith, l₀)) (sym (get_or-append_seam p a (b ∷ c ∷ q) 0)) h (sym eb) c (omega (arith, l₀)) k (rw at (sym ec)) (λ e. omega arith) l)

  by_length : (n : ℕ) → n ≤ 65535 → Dec (n < 128) → Dec (n < 16384) → number_at (p ++ (encode n ++ q)) (length p) ≡ Some (n, length p + length (encode n))
  by_length n most (yes h) l = rw (encode_1 n h) (seam_1 n h)
  by_length n most (no h) (yes l) =
      let sum : 128 + n % 128 - 128 + n / 128 * 128 ≡ n = omega arith in
      let at : length p + 1 + 1 ≡ length p + 2 = omega arith in
      rw (encode_2 n (omega arith) l) (seam_2 (128 + n % 128) (n / 128) (omega arith) (omega arith) (omega arith) ∙ cc)
  by_length n most (no h) (no l) =
      let sum : 128 + n % 128 - 128 + (128 + n / 128 % 128 - 128) * 128 + n / 16384 * 16384 ≡ n = omega arith in
      let at : length p + 1 + 1 + 1 ≡ length p + 3 = omega arith in
      rw (encode_3 n (omega arith)) (seam_3 (128 + n % 128) (128 + n / 128 % 128) (n / 16384) (omega arith) (omega arith) (omega arith) (omega arith) ∙ cc)

  -- Every number's encoding reads back, whatever stands before it and after it.
  pub reads_back : (n : ℕ) → n ≤ 65535 → number_at (p ++ (encode n ++ q)) (length p) ≡ Some (n, length p + length (encode n))
  reads_back n most = by_length n most (dec_lt _ _) (dec_lt _ _)

low : (m x y : ℕ) → x < 128 → m ≡ x + y * 128 → m % 128 ≡ x
low m x y h e = omega arith

peel : (s : List ℕ) (i : ℕ) → i < length s → drop i s ≡ get_or s i 0 ∷ drop (i + 1) s
peel s i h = rw add-one (drop-cons s i 0 h)

-- the elements of a trace are bytes
module _ (s : List ℕ) (at : ℕ) (bytes : (i : ℕ) → get_or s i 0 < 256) where
  written : {x : Option (ℕ × ℕ)} (n past : ℕ) → Read s at x → x ≡ Some (n, past) → Written s at n past
  written n past bad e = cc
  written n past (in_1 h l) e =
      let en : get_or s at 0 ≡ n = first_is e in
      let ex : at + 1 ≡ past = second_is e in
      let c : encode n ≡ n ∷ [] = encode_1 n (rw (← en) l) in
      let d = peel s at h in
      record { fits = omega arith; bytes = rw c cc; length_is = rw c (sym ex) }
  written n past (in_2 h la z l) e =
      let en : get_or s at 0 - 128 + get_or s (at + 1) 0 * 128 ≡ n = first_is e in
      let ex : at + 1 + 1 ≡ past = second_is e in
      let sa = bytes at in
      let c : encode n ≡ (128 + n % 128) ∷ (n / 128) ∷ [] = encode_2 n (omega arith) (omega arith) in
      let ea : get_or s at 0 ≡ 128 + n % 128 = omega arith in
      let eb : get_or s (at + 1) 0 ≡ n / 128 = omega arith in
      let da = peel s at (omega arith) in
      let db = peel s (at + 1) h in
      record { fits = omega arith; bytes = rw c cc; length_is = rw c (omega arith) }
  written n past (in_3 h la lb z l) e =
      let en : get_or s at 0 - 128 + (get_or s (at + 1) 0 - 128) * 128 + get_or s (at + 1 + 1) 0 * 16384 ≡ n = first_is e in
      let ex : at + 1 + 1 + 1 ≡ past = second_is e in
      let sa = bytes at in
      let sb = bytes (at + 1) in
      let c : encode n ≡ (128 + n % 128) ∷ (128 + n / 128 % 128) ∷ (n / 16384) ∷ [] = encode_3 n (omega arith) in
      let ea : get_or s at 0 ≡ 128 + n % 128 = omega arith in
      let m : n / 128 ≡ get_or s (at + 1) 0 - 128 + get_or s (at + 1 + 1) 0 * 128 = omega arith in
      let eb : get_or s (at + 1) 0 ≡ 128 + n / 128 % 128 = omega (arith, low (n / 128) (get_or s (at + 1) 0 - 128) (get_or s (at + 1 + 1) 0) (omega arith) m) in
      let ec : get_or s (at + 1 + 1) 0 ≡ n / 16384 = omega arith in
      let da = peel s at (omega arith) in
      let db = peel s (at + 1) (omega arith) in
      let dc = peel s (at + 1 + 1) h in
      record { fits = omega arith; bytes = rw c cc; length_is = rw c (omega arith) }

  -- What is accepted is exactly the encoding of the number that is read: one form only, and at most 65,535.
  pub accepted : (n past : ℕ) → number_at s at ≡ Some (n, past) → Written s at n past
  accepted n past e = written n past (read s at) e

-- A number that is read ends past its place, and inside.
pub moves_on : (s : List ℕ) (at n past : ℕ) → number_at s at ≡ Some (n, past) → (at < past) × (past ≤ length s)
moves_on s at n past e = go (read s at) e
  where
    go : {x : Option (ℕ × ℕ)} → Read s at x → x ≡ Some (n, past) → (at < past) × (past ≤ length s)
    go bad q = cc
    go (in_1 h l) q = let ex : at + 1 ≡ past = second_is q in omega arith
    go (in_2 h la z l) q = let ex : at + 1 + 1 ≡ past = second_is q in omega arith
    go (in_3 h la lb z l) q = let ex : at + 1 + 1 + 1 ≡ past = second_is q in omega arith
