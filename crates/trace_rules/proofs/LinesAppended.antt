-- What is appended: a line's pieces, one after another.
-- Assumes nothing.
use Prim.Native.Nat.{ℕ}
use mathlib.Core.Path.{sym, ap, ◌∙◌}
use mathlib.Core.List.{List, [], ◌∷◌, ◌++◌, append_assoc}
use Rattle.trace_rules.specs.Text.{Wrote, decimal, field, fields}
use Rattle.trace_rules.specs.Lines.{numbers, line}
use Rattle.trace_rules.proofs.Appended.{then, said, fields_append, one_field}

-- a line, piece by piece
module _ {a b c : List ℕ} {at m r : ℕ} where
  pub begins : (x y : ℕ) → Wrote a b at m (decimal x) → Wrote b c m r (field y) → Wrote a c at r (numbers (x ∷ y ∷ []))
  unfolding numbers
  begins x y v w = said (ap (λ (l : List ℕ). decimal x ++ l) (sym (one_field y))) (then v w)

  pub with_fields : (n : ℕ) (ns xs : List ℕ) → Wrote a b at m (numbers (n ∷ ns)) → Wrote b c m r (fields xs) → Wrote a c at r (numbers (n ∷ (ns ++ xs)))
  unfolding numbers
  with_fields n ns xs v w =
      said (append_assoc (decimal n) (fields ns) (fields xs) ∙ ap (λ (l : List ℕ). decimal n ++ l) (sym (fields_append ns xs))) (then v w)

  pub with_field : (n : ℕ) (ns : List ℕ) (x : ℕ) → Wrote a b at m (numbers (n ∷ ns)) → Wrote b c m r (field x) → Wrote a c at r (numbers (n ∷ (ns ++ (x ∷ []))))
  with_field n ns x v w = with_fields n ns (x ∷ []) v (said (sym (one_field x)) w)

  pub ends : (ns : List ℕ) → Wrote a b at m (numbers ns) → Wrote b c m r (10 ∷ []) → Wrote a c at r (line ns)
  unfolding line
  ends ns v w = then v w
