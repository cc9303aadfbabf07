-- What an allocation changes: of the endpoint that is given its type and the asked direction's size and mark, and nothing else.
-- Assumes nothing.
use Rattle.std.specs.Prelude.{Err, Ok, Option, Result}
use mathlib.Core.Path.{◌≡◌, refl, ap, ◌∙◌}
use mathlib.Core.List.{List}
use Prim.Native.Nat.{ℕ, ◌≤◌, ◌<◌}
use native.Mathlib.Omega.{arith}
use lib.ListN.{length, get_or, length-set}
use lib.Seq.{get_or-set_same, get_or-set_other}
use Rattle.board.specs.declared.Row.{Row}
use Rattle.endpoints.specs.declared.EndpointData.{EndpointData}
use Rattle.endpoints.specs.declared.EndpointAllocError.{EndpointAllocError}
use Rattle.endpoints.specs.declared.Ask.{Ask}
use Rattle.endpoints.specs.Endpoints.{Granted, blank, granted}
use Rattle.endpoints.specs.Allocate.{answer_to, after, allocate}
use Rattle.endpoints.specs.Check.{given}
use Rattle.endpoints.proofs.Answers.{in_table}
use Rattle.endpoints.proofs.Marked.{by_way}

module _ (t : List Row) (es : List EndpointData) (q : Ask) (w : Option ℕ) where
  -- document 01: "A refusal returns its number and changes nothing"
  pub refused_keeps : (x : EndpointAllocError) → (allocate t es q w).answer ≡ Err x → (allocate t es q w).endpoints ≡ es
  unfolding allocate
  refused_keeps x e = ap (after es q) e

  pub same_length : length (allocate t es q w).endpoints ≡ length es
  unfolding allocate given
  same_length = go (answer_to t es q w)
    where
      go : (a : Result ℕ EndpointAllocError) → length (after es q a) ≡ length es
      go (Ok n) = simp length-set
      go (Err x) = refl

  module _ (n : ℕ) (done : (allocate t es q w).answer ≡ Ok n) where
    -- the other endpoints stay
    pub others_keep : (m : ℕ) → (m ≡ n → ⊥) → get_or (allocate t es q w).endpoints m blank ≡ get_or es m blank
    unfolding allocate given
    others_keep m other = ap (λ (a : Result ℕ EndpointAllocError). get_or (after es q a) m blank) done ∙ get_or-set_other es n m (granted (get_or es n blank) q) blank other

    pub given_changes : length t ≤ length es → Granted (get_or es n blank) (get_or (allocate t es q w).endpoints n blank) q
    unfolding allocate given
    given_changes fits =
        let h : n < length es = omega (arith, in_table t es q w n done) in
        rw (done, get_or-set_same es n (granted (get_or es n blank) q) blank h) (by_way (get_or es n blank) q q.way refl)
