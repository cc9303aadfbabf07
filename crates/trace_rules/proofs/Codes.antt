-- The code of an entry that was found is the number that stands at its place.
-- Assumes nothing.
use Rattle.std.specs.Prelude.{Option, Some, None}
use Prim.Native.Nat.{ℕ}
use mathlib.Core.Path.{◌≡◌, refl, ap, ◌∙◌}
use mathlib.Core.Bool.{Bool, true, false, cond}
use mathlib.Core.List.{List}
use lib.Dec.{leb, eqb}
use lib.ListN.{length}
use borrow.Author.Tests.{eqb-true}
use Rattle.trace_rules.specs.Groups.{number_at}
use Rattle.trace_rules.specs.declared.Entry.{Entry}
use Rattle.trace_rules.specs.declared.Parsed.TheVariants.{Found, End}
use Rattle.trace_rules.specs.Arguments.{arg_at, two_at}
use Rattle.trace_rules.specs.Entries.{allocate_at, read_at, stall_at, is_stalled_at, bus_at, code_at, parsed, with_code, entry_at, code_of}
use Rattle.trace_rules.specs.Steps.{◌>>=◌}
use Rattle.trace_rules.proofs.Stepping.{step}

-- an entry, if there is one, has the code c
pub data Coded (c : ℕ) : Option (Entry × ℕ) → Type 0 where
  found : (e : Entry) (past : ℕ) → c ≡ code_of e → Coded c (Some (e, past))
  none : Coded c None

out : {c : ℕ} {y : Option (Entry × ℕ)} (e : Entry) (past : ℕ) → Coded c y → parsed y ≡ Found e past → c ≡ code_of e
out e past (found f p h) q = let ee : f ≡ e = cc in h ∙ ap code_of ee
out e past none q = cc

module _ (c : ℕ) where
  of : {A : Type 0} (k : A → Option (Entry × ℕ)) → ((a : A) → Coded c (k a)) → (x : Option A) → Coded c (x >>= k)
  of k f x = step (Coded c) x k none (λ a is. f a)

  at : (k : ℕ) {x y : Option (Entry × ℕ)} → (c ≡ k → Coded c x) → Coded c y → Coded c (cond (eqb c k) x y)
  at k p q = go (eqb c k) refl p q
    where
      go : (t : Bool) {x y : Option (Entry × ℕ)} → eqb c k ≡ t → (c ≡ k → Coded c x) → Coded c y → Coded c (cond t x y)
      go true e p q = p (eqb-true c k e)
      go false e p q = q

code_coded : (s : List ℕ) (c i : ℕ) → Coded c (code_at s c i)
unfolding code_at allocate_at read_at stall_at is_stalled_at bus_at
code_coded s c i =
    at c 1 (λ h. of c _ (λ a. of c _ (λ b. found _ _ h) (two_at s a.2 3 65535)) (two_at s i 1 256))
    (at c 2 (λ h. found _ _ h)
    (at c 3 (λ h. found _ _ h)
    (at c 4 (λ h. of c _ (λ a. found _ _ h) _)
    (at c 5 (λ h. of c _ (λ a. found _ _ h) _)
    (at c 6 (λ h. of c _ (λ a. found _ _ h) _)
    (at c 7 (λ h. of c _ (λ a. of c _ (λ b. found _ _ h) (arg_at s a.2 1)) (two_at s i 255 1))
    (at c 8 (λ h. of c _ (λ a. found _ _ h) _)
    (at c 9 (λ h. found _ _ h)
    (at c 10 (λ h. found _ _ h)
    (at c 11 (λ h. found _ _ h)
    (at c 12 (λ h. of c _ (λ a. found _ _ h) _)
    (at c 13 (λ h. of c _ (λ a. found _ _ h) _)
    (at c 14 (λ h. of c _ (λ a. found _ _ h) _)
    (at c 15 (λ h. found _ _ h)
    (at c 16 (λ h. of c _ (λ a. found _ _ h) _)
    (at c 17 (λ h. of c _ (λ a. found _ _ h) _)
    none))))))))))))))))

-- the code that is read at a place is the code of the entry found there
pub code_is : (s : List ℕ) (i c mid : ℕ) (e : Entry) (past : ℕ) → number_at s i ≡ Some (c, mid) → entry_at s i ≡ Found e past → c ≡ code_of e
unfolding entry_at
code_is s i c mid e past v q = go (leb (length s) i) q
  where
    go : (t : Bool) → cond t End (with_code s (number_at s i)) ≡ Found e past → c ≡ code_of e
    go true q = cc
    go false q = out e past (code_coded s c mid) (rw v at q)
