-- `read_full`: from turn to turn.
-- Assumes nothing.
use Rattle.std.proofs.Common.{◌≡◌, ℕ, ◌+◌, ◌≤◌, List, ◌++◌, rules, length, take, drop, sym, ap, ◌∙◌, subst, le_refl, drop_at, length-take-le}
use Rattle.std.proofs.lemmas.Slice.{take-put_mid_below}
use Rattle.std.specs.Io.KnownBytes.{Consumes}
use Rattle.std.proofs.KnownBytes.{Consumes-trans, Consumes-kept}
use borrow.Rule.Slice.PartMut.{put_mid, post_of}
use lib.Seq.{take-add, take-append-le}
use Rattle.input.proofs.read_full.Goals.{in-Ok, in-Err+else-ne}
use Rattle.input.proofs.read_full.Goals as goal

-- what is put at a place leaves what stands before it
before : (a k : ℕ) (xs ys : List ℕ) → a ≤ length xs → take a (put_mid a k xs ys) ≡ take a xs
before a k xs ys within = take-put_mid_below _ _ _ _ _ (le_refl _) within

-- what stands before a place, and what was put there: the front up to the end of that
joined : (a k n : ℕ) (xs ys : List ℕ) → a ≤ length xs → n ≤ length ys → take a xs ++ take n ys ≡ take (a + n) (put_mid a k xs ys)
joined a k n xs ys within fits =
    let after = post_of a k xs in
    let all = put_mid a k xs ys in
    sym (take-add a n all ∙ ap (λ l. l ++ take n (drop a all)) (before a k xs ys within) ∙ ap (λ l. take a xs ++ l) (ap (take n) (drop_at (take a xs) (ys ++ after) a (length-take-le a xs within)) ∙ take-append-le n ys after fits))

pub loop-preserved : goal.loop-preserved
loop-preserved g c =
    let i = c.loop.invariant in
    elim c.match-read.branch [
      | in-Ok w ↦ rw w.done-is (search rules, search rules, subst (Consumes _ _) (joined _ _ _ _ _ i.0 w.in-Ok.ensures.bound.0) (Consumes-trans _ _ _ _ _ i.2 w.in-Ok.ensures.bytes.0))
      | in-Err+else-ne w ↦ rw w.done-is (search rules, search rules, subst (Consumes _ _) (sym (before _ _ _ _ i.0)) (Consumes-kept _ _ _ _ i.2 w.in-Err.ensures.bytes))
    ]
