-- What is appended: one piece after another.
-- Assumes nothing.
use Prim.Native.Nat.{ℕ, suc, ◌+◌, ◌*◌, ◌/◌, ◌%◌, ◌^◌, ◌≤◌, ◌<◌}
use native.Mathlib.Omega.{arith}
use native.Mathlib.Nat.{add-zero, mul-suc}
use native.Mathlib.Numerals.{add-one}
use mathlib.Core.Path.{◌≡◌, refl, sym, ap, ◌∙◌}
use mathlib.Core.List.{List, [], ◌∷◌, ◌++◌, append-nil, append_assoc}
use lib.ListN.{length, set, get_or, take, drop, length-append}
use borrow.Rule.Slice.PartMut.{put_mid}
use Rattle.std.specs.Prelude.{map}
use Rattle.std.proofs.lemmas.List.{map-append, map-id, take_more}
use lib.Seq.{sets, length-sets, sets-eq, drop-drop, take-append_seam}
use Rattle.trace_rules.specs.Text.{Wrote, decimal, field, fields}
use Rattle.trace_rules.proofs.Decimal.{one_digit, more_digits, length_3, length_5, length_9, length_10}

sets_append : (l : List ℕ) (i : ℕ) (xs ys : List ℕ) → sets (sets l i xs) (i + length xs) ys ≡ sets l i (xs ++ ys)
sets_append l i [] ys = ap (λ (k : ℕ). sets l k ys) (add-zero i)
sets_append l i (x ∷ xs) ys =
    let e : i + suc (length xs) ≡ suc i + length xs = omega arith in
    rw e (sets_append (set l i x) (suc i) xs ys)

-- one piece after another
pub then : {a b c : List ℕ} {at m r : ℕ} {xs ys : List ℕ} → Wrote a b at m xs → Wrote b c m r ys → Wrote a c at r (xs ++ ys)
then {a} {b} {c} {at} {m} {r} {xs} {ys} p q = record {
  count = omega (arith, p.count, q.count, length-append xs ys);
  bytes = q.bytes ∙ rw (p.bytes, p.count) (sets_append a at xs ys);
}

-- the same bytes, said otherwise
pub said : {a b : List ℕ} {at r : ℕ} {xs ys : List ℕ} → xs ≡ ys → Wrote a b at r xs → Wrote a b at r ys
said {a} {b} {at} {r} e w = rw e at w

-- the buffer keeps its length, and what was written from its front on is its front
pub kept : {a b : List ℕ} {at r : ℕ} {bs : List ℕ} → Wrote a b at r bs → length b ≡ length a
kept {a} {b} {at} {r} {bs} w = ap length w.bytes ∙ length-sets a at bs

pub front : {a b : List ℕ} {r : ℕ} {bs : List ℕ} → Wrote a b 0 r bs → r ≤ length a → take r b ≡ bs
front {a} {b} {r} {bs} w h =
    let n : r ≡ length bs = omega (arith, w.count) in
    rw (n, w.bytes, sets-eq bs a 0 (omega arith), append_assoc (take 0 a) bs (drop (0 + length bs) a)) (take-append_seam bs (drop (0 + length bs) a))

-- `put_decimal`: one digit, or a digit after the others, for which there is room
pub small_ends : {a b : List ℕ} {at r n : ℕ} → n < 10 → Wrote a b at r ((48 + n) ∷ []) → (Wrote a b at r (decimal n)) × (r ≤ at + 10)
small_ends {a} {b} {at} {r} {n} h w = (said (sym (one_digit n h)) w, omega (arith, w.count))

pub more_ends : {a b c : List ℕ} {at m r n : ℕ} → 10 ≤ n → n < 2 ^ 32 → Wrote a b at m (decimal (n / 10)) → Wrote b c m r ((48 + n % 10) ∷ [])
    → (Wrote a c at r (decimal n)) × (r ≤ at + 10)
more_ends {a} {b} {c} {at} {m} {r} {n} h l v w =
    (said (sym (more_digits n h)) (then v w), omega (arith, v.count, w.count, length_9 (n / 10) (omega arith)))

pub room : {a b : List ℕ} {at m n : ℕ} → n < 2 ^ 32 → Wrote a b at m (decimal (n / 10)) → at + 10 ≤ length a → m < length b
room {a} {b} {at} {m} {n} l v h = omega (arith, v.count, kept v, length_9 (n / 10) (omega arith))

-- fields, more at the end
pub fields_append : (xs ys : List ℕ) → fields (xs ++ ys) ≡ fields xs ++ fields ys
unfolding fields
fields_append [] ys = refl
fields_append (x ∷ xs) ys = rw (fields_append xs ys) (sym (append_assoc (field x) (fields xs) (fields ys)))

pub one_field : (x : ℕ) → fields (x ∷ []) ≡ field x
unfolding fields
one_field x = append-nil (field x)

pub short_field : (x : ℕ) → x < 256 → length (field x) ≤ 4
unfolding field
short_field x h = omega (arith, length_3 x (omega arith))

pub word_field : (x : ℕ) → x < 2 ^ 16 → length (field x) ≤ 6
unfolding field
word_field x h = omega (arith, length_5 x (omega arith))

pub long_field : (x : ℕ) → x < 2 ^ 32 → length (field x) ≤ 11
unfolding field
long_field x h = omega (arith, length_10 x (omega arith))

-- nothing yet
pub nothing : {a : List ℕ} {at : ℕ} → Wrote a a at at []
nothing = record { count = omega arith; bytes = refl }

-- the loop of `put_fields`: one more, which shows the number n, and where it ends
pub fields_more : {A : Type 0} {a b c : List ℕ} {at m r : ℕ} (f : A → ℕ) (s : List A) (i n : ℕ) (x : A) → i < length s → x ≡ get_or s i x → n ≡ f x
    → Wrote a b at m (fields (map f (take i s))) → Wrote b c m r (field n) → Wrote a c at r (fields (map f (take (i + 1) s)))
fields_more f s i n x h is e v w =
    let more : map f (take (i + 1) s) ≡ map f (take i s) ++ (n ∷ []) =
    ap (map f) (take_more s i x h ∙ ap (λ (y : _). take i s ++ (y ∷ [])) (sym is)) ∙ map-append f (take i s) (x ∷ [])
    ∙ ap (λ (k : ℕ). map f (take i s) ++ (k ∷ [])) (sym e) in
    said (ap (λ (l : List ℕ). fields (map f (take i s)) ++ l) (sym (one_field n)) ∙ sym (fields_append (map f (take i s)) (n ∷ [])) ∙ ap fields (sym more)) (then v w)

pub fields_most : {b c : List ℕ} {m r : ℕ} (most n at i : ℕ) → length (field n) ≤ most → Wrote b c m r (field n) → m ≤ at + most * i → r ≤ at + most * (i + 1)
fields_most most n at i h w l = let e : most * (i + 1) ≡ most * i + most = rw (add-one) (mul-suc most i) in omega (arith, w.count)

-- numbers that are shown as they are
pub as_they_are : {a b : List ℕ} {at r : ℕ} (s : List ℕ) → Wrote a b at r (fields (map (λ (x : ℕ). x) s)) → Wrote a b at r (fields s)
as_they_are s w = said (ap fields (map-id s)) w

-- `put_text`: the part of the buffer that holds s now
pub text_put : (l s t : List ℕ) (at k : ℕ) → t ≡ s → k ≡ length s → at + length s ≤ length l → Wrote l (put_mid at k l t) at (at + length s) s
text_put l s t at k e n h = record {
  count = refl;
  bytes =
      (λ i. take at l ++ (e i ++ (drop-drop k at l ∙ ap (λ (m : ℕ). drop (at + m) l) n) i)) ∙ sym (append_assoc (take at l) s (drop (at + length s) l))
      ∙ sym (sets-eq s l at h);
}

pub three_fields : {a b c d : List ℕ} {at i j r : ℕ} (x y z : ℕ) → Wrote a b at i (field x) → Wrote b c i j (field y) → Wrote c d j r (field z)
    → Wrote a d at r (fields (x ∷ y ∷ z ∷ []))
unfolding fields
three_fields x y z u v w = said (append_assoc (field x) (field y) (field z) ∙ ap (λ (l : List ℕ). field x ++ (field y ++ l)) (sym (append-nil (field z)))) (then (then u v) w)
