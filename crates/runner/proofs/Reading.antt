-- What was read, and the report of all of it.
-- Assumes nothing.
use Rattle.std.specs.Prelude.{Option, Some, None, IfSome}
use Rattle.std.specs.Io.KnownBytes.{Appends, Consumes, IsAtEnd}
use Rattle.std.proofs.lemmas.Bool.{cases_lt}
use Prim.Native.Nat.{ℕ, ◌≤◌, ◌<◌}
use native.Mathlib.Omega.{arith}
use mathlib.Core.Path.{◌≡◌, refl, sym, ap, subst, ◌∙◌}
use mathlib.Core.Logic.{◌⊎◌, inl, inr}
use mathlib.Core.List.{List, ◌++◌, append-nil}
use borrow.Author.Tests.{lt-leb}
use lib.ListN.{length, take, drop, length-append, length-drop}
use lib.Seq.{take_all, take-append_seam, drop-append_seam, drop-drop}
use Rattle.record.specs.declared.Record.{Record}
use Rattle.detail_rules.specs.Given.{numbers_of, record_of}
use Rattle.report_rules.specs.Act.{State}
use Rattle.report_rules.specs.Report.{report_with, beginning}
use Rattle.runner.specs.Behind.{begun_behind}

-- A buffer has n bytes at its front that a reader had, which has the rest left; none where the buffer is not full.
pub record Filled (a b : Option (List ℕ)) (buf : List ℕ) (n : ℕ) : Type 0 where
  pub takes : Consumes a b (take n buf)
  pub count : n ≡ length (take n buf)
  pub end : n < length buf → IsAtEnd b

-- a report shows no more of a trace that is too long than that
alike : (u : State → ℕ → List ℕ) (x : State) (s t : List ℕ) → 65536 < length s → 65536 < length t → report_with u x s ≡ report_with u x t
unfolding report_with
alike u x s t p q = rw (lt-leb _ _ p, lt-leb _ _ q) refl

-- where there is enough, the buffer is full
filled : {xs ys buf : List ℕ} {n : ℕ} → Filled (Some xs) (Some ys) buf n → length buf ≤ length xs → (buf ≡ take (length buf) xs) × (ys ≡ drop (length buf) xs)
filled {xs} {ys} {buf} {n} r m =
    (sym (ap (take (length buf)) same ∙ take-append_seam buf ys), sym (ap (drop (length buf)) same ∙ drop-append_seam buf ys))
  where
    all : (n < length buf) ⊎ (length buf ≤ n) → length buf ≤ n
    all (inl i) = absurd (omega (arith, i, m, r.count, ap length r.takes, length-append (take n buf) ys, ap length (r.end i)))
    all (inr j) = j

    same : xs ≡ buf ++ ys
    same = r.takes ∙ ap (λ (l : List ℕ). l ++ ys) (take_all n buf (all (cases_lt n (length buf))))

-- of the report with u under each entry's line
module _ (u : State → ℕ → List ℕ) where
  abbrev pub rep : State → List ℕ → List ℕ
  rep = report_with u

  -- a buffer that is too long for a trace shows enough of what there is
  pub of_all : (x : State) (a b o w : Option (List ℕ)) (buf t : List ℕ) (n : ℕ) → Filled a b buf n → 65536 < length buf → t ≡ take n buf
      → Appends o w (rep x t) → IfSome a (λ xs. Appends o w (rep x xs))
  of_all x None b o w buf t n r m e h = tt
  of_all x (Some xs) None o w buf t n r m e h = absurd r.takes
  of_all x (Some xs) (Some ys) o w buf t n r m e h = subst (Appends o w) (go (cases_lt n (length buf))) h
    where
      same : xs ≡ t ++ ys
      same = r.takes ∙ ap (λ (l : List ℕ). l ++ ys) (sym e)

      go : (n < length buf) ⊎ (length buf ≤ n) → rep x t ≡ rep x xs
      go (inl i) = ap (rep x) (sym (same ∙ ap (λ (l : List ℕ). t ++ l) (r.end i) ∙ append-nil t))
      go (inr j) =
          let size : length t ≡ n = ap length e ∙ sym r.count in
          alike u x t xs (omega (arith, m, j, size)) (omega (arith, m, j, size, ap length same, length-append t ys))

  -- a head and FIFO memory that were read before the rest
  pub given_all : (a b c o w : Option (List ℕ)) (h f : List ℕ) (n m : ℕ) (k : Record) → Filled a b h n → Filled b c f m → length h ≡ 384 → length f ≡ 1664
      → k ≡ record_of (numbers_of h) → IfSome c (λ zs. Appends o w (rep (beginning k f) zs))
      → IfSome a (λ xs. 2048 ≤ length xs → Appends o w (rep (begun_behind xs) (drop 2048 xs)))
  given_all None b c o w h f n m k r q eh ef is p = tt
  given_all (Some xs) None c o w h f n m k r q eh ef is p = absurd r.takes
  given_all (Some xs) (Some ys) None o w h f n m k r q eh ef is p = absurd q.takes
  given_all (Some xs) (Some ys) (Some zs) o w h f n m k r q eh ef is p = λ big.
      let v = filled r (omega (arith, big, eh)) in
      let rest : ys ≡ drop 384 xs = v.1 ∙ ap (λ (j : ℕ). drop j xs) eh in
      let z = filled q (omega (arith, big, ef, ap length rest, length-drop 384 xs)) in
      let head : h ≡ take 384 xs = v.0 ∙ ap (λ (j : ℕ). take j xs) eh in
      let start : k ≡ record_of (numbers_of (take 384 xs)) = is ∙ ap (λ (l : List ℕ). record_of (numbers_of l)) head in
      let fifo : f ≡ take 1664 (drop 384 xs) = z.0 ∙ ap (λ (j : ℕ). take j ys) ef ∙ ap (take 1664) rest in
      let trace : zs ≡ drop 2048 xs = z.1 ∙ ap (λ (j : ℕ). drop j ys) ef ∙ ap (drop 1664) rest ∙ drop-drop 1664 384 xs in
      subst (Appends o w) (λ i. rep (beginning (start i) (fifo i)) (trace i)) p
