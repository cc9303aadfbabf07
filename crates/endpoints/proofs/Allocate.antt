-- Each answer of the code from the tests that led there: the search, a wanted number, the outcome; over any table.
-- Assumes nothing.
use Rattle.std.specs.Prelude.{Err, Ok, Option, Result, Some}
use mathlib.Core.Path.{◌≡◌}
use mathlib.Core.Bool.{Bool, true, false, cond}
use mathlib.Core.List.{List}
use Prim.Native.Nat.{ℕ, suc, ◌+◌, ◌-◌, ◌≤◌, ◌<◌}
use native.Mathlib.Omega.{arith}
use lib.ListN.{length}
use borrow.Author.Tests.{le-leb, lt-leb, eq-eqb, ne_eqb}
use Rattle.board.specs.declared.Row.{Row}
use Rattle.endpoints.specs.declared.EndpointData.{EndpointData}
use Rattle.endpoints.specs.declared.EndpointAllocError.{EndpointAllocError}
use Rattle.endpoints.specs.declared.EndpointAllocError.TheVariants.{EndpointOverflow, InvalidEndpoint}
use Rattle.endpoints.specs.declared.Ask.{Ask}
use Rattle.endpoints.specs.Check.{passes, given}
use Rattle.endpoints.specs.Allocate.{check_at, first_from, answer_to, allocated, allocate}

-- the search at the number i of l, where a is its answer from there on: it stops at i, goes on past it, or is at the end
module _ (t : List Row) (es : List EndpointData) (q : Ask) (i l : ℕ) {a : Result ℕ EndpointAllocError} (rest : first_from t es q i (l - i) ≡ a) where
  pub at_end : l ≤ i → Err EndpointOverflow ≡ a
  at_end h =
      let none : l - i ≡ 0 = omega arith in
      rw none at rest

  module _ (within : i < l) {c : Result Unit EndpointAllocError} (is : c ≡ check_at t es q i) {b : Bool} (said : b ≡ passes c) where
    step : cond b (Ok i) (first_from t es q (i + 1) (l - (i + 1))) ≡ a
    step =
        let some : l - i ≡ suc (l - (i + 1)) = omega arith in
        let next : i + 1 ≡ suc i = omega arith in
        rw (next, said, is) (rw (some, next) at rest)

    pub stops : b ≡ true → Ok i ≡ a
    stops p = rw p at step

    pub goes_on : b ≡ false → first_from t es q (i + 1) (l - (i + 1)) ≡ a
    goes_on p = rw p at step

-- a wanted number n, where l is how many endpoints there are
module _ (t : List Row) (es : List EndpointData) (q : Ask) (n : ℕ) {l : ℕ} (all : l ≡ length t) where
  pub beyond_table : l ≤ n → Err InvalidEndpoint ≡ answer_to t es q (Some n)
  unfolding answer_to
  beyond_table h = rw (← all, le-leb l n h)

  module _ (within : n < l) where
    pub unchecked : n ≡ 0 → Ok 0 ≡ answer_to t es q (Some n)
    unfolding answer_to
    unchecked p = rw (← all, lt-leb l n within, eq-eqb n 0 p, p)

    module _ (other : n ≡ 0 → ⊥) {c : Result Unit EndpointAllocError} (is : c ≡ check_at t es q n) where
      pub as_passes : c ≡ (Ok tt) → Ok n ≡ answer_to t es q (Some n)
      unfolding answer_to
      as_passes p = rw (← all, lt-leb l n within, ne_eqb n 0 other, ← is, p)

      pub as_fails : {x : EndpointAllocError} → c ≡ Err x → Err x ≡ answer_to t es q (Some n)
      unfolding answer_to
      as_fails p = rw (← all, lt-leb l n within, ne_eqb n 0 other, ← is, p)

-- the outcome, by the answer that was chosen
module _ (t : List Row) (es : List EndpointData) (q : Ask) (w : Option ℕ) {a : Result ℕ EndpointAllocError} (is : a ≡ answer_to t es q w) where
  pub granting : {n : ℕ} {next : List EndpointData} → a ≡ Ok n → next ≡ given es q n → allocated (Ok n) next ≡ allocate t es q w
  unfolding allocate
  granting p e = rw (← is, p, e)

  pub refusing : {x : EndpointAllocError} → a ≡ Err x → allocated (Err x) es ≡ allocate t es q w
  unfolding allocate
  refusing p = rw (← is, p)
