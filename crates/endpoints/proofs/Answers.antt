-- What is answered: each reply is given exactly when its row of document 01's table says so; a search finds the lowest number that passes.
-- Assumes nothing.
use Rattle.std.specs.Prelude.{Err, None, Ok, Option, Result, Some}
use mathlib.Core.Path.{◌≡◌, refl, sym, subst, ap, ◌∙◌}
use mathlib.Core.Logic.{◌↔◌}
use mathlib.Core.Bool.{Bool, true, false, cond}
use mathlib.Core.List.{List}
use Prim.Native.Nat.{ℕ, zero, suc, ◌-◌, ◌<◌}
use native.Mathlib.Omega.{arith}
use native.Mathlib.Decide.{ℕ_discrete}
use lib.Dec.{eqb}
use lib.ListN.{length, get_or}
use borrow.Author.Tests.{leb-false, lt-leb}
use Rattle.laws.proofs.Tests.{clash}
use Rattle.board.specs.declared.Row.{Row}
use Rattle.board.specs.declared.Board.{Board}
use Rattle.board.specs.Table.{row_at}
use Rattle.board.specs.Boards.{rows, at_most_six}
use Rattle.endpoints.specs.declared.EndpointData.{EndpointData}
use Rattle.endpoints.specs.declared.EndpointAllocError.{EndpointAllocError}
use Rattle.endpoints.specs.declared.EndpointAllocError.TheVariants.{EndpointOverflow, InvalidEndpoint, EpDirNotSupported, EpUsed, MaxPacketSizeBiggerThanEpFifoSize}
use Rattle.endpoints.specs.declared.Ask.{Ask}
use Rattle.endpoints.specs.Endpoints.{blank}
use Rattle.endpoints.specs.Allocate.{beyond, check_at, passes_at, first_from, numbered, answer_to, allocate}
use Rattle.endpoints.specs.Check.{over_size, lacks, in_use, pick, checked}
use Rattle.endpoints.specs.Numbers.{error_number, answer_number}
use Rattle.endpoints.specs.Replies.{Given, NonePasses, Lowest, Gives}
use Rattle.endpoints.proofs.CheckAnswers.{tested, number_tells}

-- what a search can come to
data Search (f : ℕ → Bool) (i e : ℕ) : Result ℕ EndpointAllocError → Type 0 where
  found : (n : ℕ) → Lowest f i e n → Search f i e (Ok n)
  none : NonePasses f i e → Search f i e (Err EndpointOverflow)

none_found : {f : ℕ → Bool} {i e : ℕ} {a : Result ℕ EndpointAllocError} → Search f i e a → NonePasses f i e → a ≡ Err EndpointOverflow
none_found (found n l) all = clash (sym l.passing ∙ all n l.from l.below)
none_found (none _) all = refl

module _ (f : ℕ → Bool) (i : ℕ) where
  -- where the first number fails, what holds of the others holds of all
  all_fail : f i ≡ false → (e : ℕ) → NonePasses f (suc i) e → NonePasses f i e
  all_fail p e others n a b = go (ℕ_discrete n i)
    where
      go : Dec (n ≡ i) → f n ≡ false
      go (yes at) = ap f at ∙ p
      go (no at) = others n (omega arith) b

  later : f i ≡ false → (e : ℕ) (a : Result ℕ EndpointAllocError) → Search f (suc i) e a → Search f i e a
  later p e a (found n l) =
      found n (record { from = omega (arith, l.from); below = l.below; passing = l.passing; lower = all_fail p n l.lower })
  later p e a (none others) = none (all_fail p e others)

  step : (b : Bool) → f i ≡ b → (e : ℕ) → i < e → (a : Result ℕ EndpointAllocError) → Search f (suc i) e a → Search f i e (cond b (Ok i) a)
  step true p e h a s = found i (record { from = omega arith; below = h; passing = p; lower = λ m c d. absurd (omega arith) })
  step false p e h a s = later p e a s

module _ (t : List Row) (es : List EndpointData) (q : Ask) where
  search_from : (k i e : ℕ) → k ≡ e - i → Search (passes_at t es q) i e (first_from t es q i k)
  search_from zero i e h = none (λ n a b. absurd (omega arith))
  search_from (suc k) i e h =
      step (passes_at t es q) i (passes_at t es q i) refl e (omega arith) (first_from t es q (suc i) k) (search_from k (suc i) e (omega arith))

  data Outcome (w : Option ℕ) : Result ℕ EndpointAllocError → Type 0 where
    done : (n : ℕ) → Gives t es q w n → Outcome w (Ok n)
    refused : (x : EndpointAllocError) → Given t es q x w → Outcome w (Err x)

  searched : {a : Result ℕ EndpointAllocError} → Search (passes_at t es q) 1 (length t) a → Outcome None a
  searched (found n l) = done n l
  searched (none all) = refused EndpointOverflow (refl, all)

  asked : (n : ℕ) (p z a b c : Bool) → beyond t n ≡ p → eqb n 0 ≡ z → over_size (row_at t n) q ≡ a → lacks (row_at t n) q ≡ b
      → in_use (get_or es n blank) q.kind q.way ≡ c → Outcome (Some n) (numbered p z n (pick a b c))
  asked n true z a b c ep ez ea eb ec = refused InvalidEndpoint ep
  asked n false true a b c ep ez ea eb ec = done n (refl, leb-false _ _ ep)
  asked n false false true b c ep ez ea eb ec = refused MaxPacketSizeBiggerThanEpFifoSize (ep, rw (ez, ep, ea))
  asked n false false false true c ep ez ea eb ec = refused EpDirNotSupported (ep, rw (ez, ep, ea), rw (ez, ep, eb))
  asked n false false false false true ep ez ea eb ec = refused EpUsed (ep, rw (ez, ep, ea), rw (ez, ep, eb), rw (ez, ep, ec))
  asked n false false false false false ep ez ea eb ec = done n (refl, leb-false _ _ ep)

  outcome : (w : Option ℕ) → Outcome w (answer_to t es q w)
  unfolding answer_to check_at checked
  outcome None = searched (search_from (length t - 1) 1 (length t) refl)
  outcome (Some n) = asked n (beyond t n) (eqb n 0) _ _ _ refl refl refl refl refl

  to_row : (w : Option ℕ) (x : EndpointAllocError) {a : Result ℕ EndpointAllocError} → Outcome w a → a ≡ Err x → Given t es q x w
  to_row w x (done n g) e = let z : ◌≡◌ {A = ℕ} 0 1 = cc in absurd (omega arith)
  to_row w x (refused y g) e = let same : y ≡ x = cc in subst (λ (v : EndpointAllocError). Given t es q v w) same g

  from_row : (w : Option ℕ) (x : EndpointAllocError) → Given t es q x w → answer_to t es q w ≡ Err x
  unfolding answer_to check_at checked
  from_row None EndpointOverflow g = none_found (search_from (length t - 1) 1 (length t) refl) g.1
  from_row None InvalidEndpoint g = clash (sym g)
  from_row None MaxPacketSizeBiggerThanEpFifoSize g = clash (sym g.1)
  from_row None EpDirNotSupported g = clash (sym g.2)
  from_row None EpUsed g = clash (sym g.3)
  from_row (Some n) EndpointOverflow g = let z : ◌≡◌ {A = ℕ} 0 1 = cc in absurd (omega arith)
  from_row (Some n) InvalidEndpoint g = rw g
  from_row (Some n) MaxPacketSizeBiggerThanEpFifoSize g =
      let h = tested (eqb n 0) (beyond t n) (over_size (row_at t n) q) g.1 in
      rw (g.0, h.0, h.1)
  from_row (Some n) EpDirNotSupported g =
      let h = tested (eqb n 0) (beyond t n) (lacks (row_at t n) q) g.2 in
      rw (g.0, h.0, rw (g.0, h.0) at g.1, h.1)
  from_row (Some n) EpUsed g =
      let h = tested (eqb n 0) (beyond t n) (in_use (get_or es n blank) q.kind q.way) g.3 in
      rw (g.0, h.0, rw (g.0, h.0) at g.1, rw (g.0, h.0) at g.2, h.1)

  to_gives : (w : Option ℕ) (n : ℕ) {a : Result ℕ EndpointAllocError} → Outcome w a → a ≡ Ok n → Gives t es q w n
  to_gives w n (done m g) e = let same : m ≡ n = cc in subst (λ (k : ℕ). Gives t es q w k) same g
  to_gives w n (refused x g) e = let z : ◌≡◌ {A = ℕ} 0 1 = cc in absurd (omega arith)

  pub in_table : (w : Option ℕ) (n : ℕ) → answer_to t es q w ≡ Ok n → n < length t
  in_table None n e = (to_gives None n (outcome None) e).below
  in_table (Some m) n e = (to_gives (Some m) n (outcome (Some m)) e).1

  -- document 01, 'Reply numbers', 1 to 5: "Given exactly when"
  pub exactly : (w : Option ℕ) (x : EndpointAllocError) → answer_number (allocate t es q w).answer ≡ error_number x ↔ Given t es q x w
  unfolding allocate
  exactly w x =
      (λ e. to_row w x (outcome w) (number_tells (answer_to t es q w) x e), λ g. ap answer_number (from_row w x g))

  -- what is given where none of them is
  pub gives : (w : Option ℕ) (n : ℕ) → (allocate t es q w).answer ≡ Ok n → Gives t es q w n
  unfolding allocate
  gives w n e = to_gives w n (outcome w) e

  -- document 01: "wanted number 0 is never checked, any size, any number of times"
  pub zero_given : 0 < length t → (allocate t es q (Some 0)).answer ≡ Ok 0
  unfolding allocate answer_to
  zero_given h = rw (lt-leb (length t) 0 h)

-- an endpoint that is given on a board has its place in the record's array
pub in_array : (b : Board) (es : List EndpointData) (q : Ask) (w : Option ℕ) {a : Result ℕ EndpointAllocError} {n : ℕ} → a ≡ answer_to (rows b) es q w → a ≡ Ok n → n < 6
in_array b es q w {a} {n} is e = omega (arith, at_most_six b, in_table (rows b) es q w n (sym is ∙ e))
