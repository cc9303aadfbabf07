-- The detail lines, piece by piece. Assumes nothing.
use Prim.Native.Nat.{ℕ, zero, suc, ◌+◌, ◌*◌, ◌≤◌, ◌<◌}
use native.Mathlib.Omega.{arith}
use native.Mathlib.Numerals.{add-one}
use mathlib.Core.Path.{◌≡◌, refl, sym, ap, ◌∙◌}
use mathlib.Core.Bool.{cond}
use mathlib.Core.List.{List, [], ◌∷◌, ◌++◌, append_assoc}
use lib.ListN.{get_or}
use Rattle.trace_rules.specs.Text.{Wrote, decimal, field, fields}
use Rattle.trace_rules.proofs.Decimal.{length_5}
use Rattle.trace_rules.proofs.Appended.{then, said, fields_append, word_field}
use Rattle.board.specs.declared.Direction.TheVariants.{Out, In}
use Rattle.csr.specs.declared.Side.{Side}
use Rattle.csr.specs.Control.{txcsrl_of, rxcsrl_of, txcsrl_number, rxcsrl_number}
use Rattle.register_file.specs.Registers.{File, side_at}
use Rattle.endpoints.specs.declared.EndpointData.{EndpointData}
use Rattle.endpoints.specs.Endpoints.{blank}
use Rattle.detail_rules.specs.DetailLines.{store, stores}
use Rattle.detail_rules.specs.DetailNumbers.{txcsrl_at, rxcsrl_at, registers_at, shown_at, lengths_at, of_data, of_endpoint, of_endpoints}

-- a store's three numbers
pub store_ends : {a b c d e f : List ℕ} {at i j m n r : ℕ} (x y z : ℕ) {u v w : ℕ} → (u ≡ x) × (u < 65536) → (v ≡ y) × (v < 65536) → (w ≡ z) × (w < 65536)
    → Wrote a b at i (field u) → Wrote b c i j (44 ∷ []) → Wrote c d j m (decimal v) → Wrote d e m n (44 ∷ []) → Wrote e f n r (decimal w)
    → (Wrote a f at r (store x y z)) × (r ≤ at + 18)
unfolding store
store_ends x y z {u} {v} {w} eu ev ew p q s t k = (
  then (then (then (then (said (ap field eu.0) p) q) (said (ap decimal ev.0) s)) t) (said (ap decimal ew.0) k),
  omega (arith, p.count, q.count, s.count, t.count, k.count, word_field u eu.1, length_5 v (omega arith), length_5 w (omega arith)),
)

-- the loop of `put_stores`: none yet, one store more
pub stores_none : {a : List ℕ} {at : ℕ} (l : List ℕ) → Wrote a a at at (stores l 0)
unfolding stores
stores_none l = record { count = omega arith; bytes = refl }

pub stores_more : {a b c : List ℕ} {at m r : ℕ} (l : List ℕ) (i : ℕ) → Wrote a b at m (stores l i)
    → Wrote b c m r (store (get_or l (3 * i) 0) (get_or l (3 * i + 1) 0) (get_or l (3 * i + 2) 0)) → Wrote a c at r (stores l (i + 1))
unfolding stores
stores_more l i v w = said (ap (stores l) (sym (add-one i))) (then v w)

-- lists of fields, one after another
pub on : {a b c : List ℕ} {at m r : ℕ} (xs ys : List ℕ) → Wrote a b at m (fields xs) → Wrote b c m r (fields ys) → Wrote a c at r (fields (xs ++ ys))
on xs ys v w = said (sym (fields_append xs ys)) (then v w)

-- an endpoint's numbers, in two arrays
pub endpoint_ends : {a b c : List ℕ} {at m n : ℕ} {xs ys : List ℕ} (r : File) (d : EndpointData) (e : ℕ) → xs ≡ shown_at r e
    → Wrote a b at m (fields xs) → ys ≡ lengths_at r e ++ of_data d → Wrote b c m n (fields ys) → Wrote a c at n (fields (of_endpoint r d e))
unfolding of_endpoint
endpoint_ends r d e ex v ey w =
    said (ap fields (sym (append_assoc (shown_at r e) (lengths_at r e) (of_data d)))) (on _ _ (said (ap fields ex) v) (said (ap fields ey) w))

-- the loop of `put_endpoints`
pub endpoints_none : {a : List ℕ} {at : ℕ} (r : File) (ds : List EndpointData) → Wrote a a at at (fields (of_endpoints r ds 0))
unfolding fields of_endpoints
endpoints_none r ds = record { count = omega arith; bytes = refl }

pub endpoints_more : {a b c : List ℕ} {at m n : ℕ} (r : File) (ds : List EndpointData) (i : ℕ) → Wrote a b at m (fields (of_endpoints r ds i))
    → Wrote b c m n (fields (of_endpoint r (get_or ds i blank) i)) → Wrote a c at n (fields (of_endpoints r ds (i + 1)))
unfolding of_endpoints
endpoints_more r ds i v w = said (ap (λ (k : ℕ). fields (of_endpoints r ds k)) (sym (add-one i))) (on _ _ v w)

-- `shown_at`: endpoint 0, and the others
pub shown_zero : (r : File) (e : ℕ) → e ≡ 0 → 0 ∷ 0 ∷ 0 ∷ 0 ∷ 0 ∷ 0 ∷ [] ≡ shown_at r e
unfolding shown_at
shown_zero r e h = rw h refl

pub shown_other : {t x : Side} {a b i j m n : ℕ} (r : File) (e : ℕ) → (e ≡ 0 → ⊥) → t ≡ side_at r e In → x ≡ side_at r e Out
    → a ≡ txcsrl_number (txcsrl_of t) → b ≡ rxcsrl_number (rxcsrl_of x) → i ≡ cond t.iso 64 0 → j ≡ cond x.iso 64 0
    → m ≡ t.maxp → n ≡ x.maxp → a ∷ b ∷ i ∷ j ∷ m ∷ n ∷ [] ≡ shown_at r e
unfolding shown_at registers_at txcsrl_at rxcsrl_at
shown_other r zero h et ex ea eb ei ej em en = absurd (h refl)
shown_other r (suc e) h et ex ea eb ei ej em en =
    let a = ea ∙ ap (λ (s : Side). txcsrl_number (txcsrl_of s)) et in
    let b = eb ∙ ap (λ (s : Side). rxcsrl_number (rxcsrl_of s)) ex in
    let i = ei ∙ ap (λ (s : Side). cond s.iso 64 0) et in
    let j = ej ∙ ap (λ (s : Side). cond s.iso 64 0) ex in
    let m = em ∙ ap (λ (s : Side). s.maxp) et in
    let n = en ∙ ap (λ (s : Side). s.maxp) ex in
    λ k. a k ∷ b k ∷ i k ∷ j k ∷ m k ∷ n k ∷ []
