-- From a call's tests, made in their order, to the rows of document 01's table. Assumes nothing.
use Rattle.std.specs.Prelude.{Err, Ok}
use Prim.Native.Nat.{ℕ, ◌≤◌, ◌<◌}
use mathlib.Core.Path.{◌≡◌, refl, sym, subst, ◌∙◌}
use mathlib.Core.Logic.{◌↔◌, ◌⊎◌, inl, inr}
use mathlib.Core.Bool.{Bool, true, false, not, cond, ◌&&◌, ◌||◌}
use mathlib.Core.List.{List, [], ◌∷◌}
use native.Mathlib.Omega.{arith}
use borrow.Author.Tests.{ltb-true, lt-ltb, leb-true, le-leb, leb-false, lt-leb, eqb-true, eq-eqb, not-true}
use lib.Dec.{ltb, leb, eqb}
use Rattle.laws.proofs.Tests.{clash}
use Rattle.record.specs.declared.Record.{Record}
use Rattle.record.specs.declared.Refusal.{Refusal}
use Rattle.record.specs.Record.{reply_number, record_sound, SoundRecord, admission_by, Reply}
use Rattle.record.specs.Rows.{Row, row, Given, Replies}
use Rattle.record.proofs.Passing.{record_is_sound, sound_record_passes}

-- the rows give one number
decided : (rs : List Row) {m n : ℕ} → Given m rs → Given n rs → m ≡ n
unfolding Given
decided [] g h = g ∙ sym h
decided (r ∷ rs) (inl g) (inl h) = g.1 ∙ sym h.1
decided (r ∷ rs) (inl g) (inr h) = absurd (h.0 g.0)
decided (r ∷ rs) (inr g) (inl h) = absurd (g.0 h.0)
decided (r ∷ rs) (inr g) (inr h) = decided rs g.1 h.1

pub exactly : {m : ℕ} (rs : List Row) → Given m rs → Replies m rs
exactly rs g n = (λ e. subst (λ (i : ℕ). Given i rs) e g, λ h. decided rs g h)

-- where no row is left
pub none_left : Given 0 []
unfolding Given
none_left = refl

-- one test more in front of the others: b tells whether its row holds
pub tested : (m : ℕ) {A : Type 0} (n : ℕ) (rs : List Row) (b : Bool) → (b ≡ true ↔ A) → Given n rs → Given (cond b m n) (row m A ∷ rs)
unfolding Given
tested m n rs true t g = inl (t.0 refl, refl)
tested m n rs false t g = inr (λ a. clash (sym (t.1 a)), g)

-- what the tests tell
pub tells_not : {b : Bool} {A : Type 0} → (b ≡ true ↔ A) → not b ≡ true ↔ (A → ⊥)
tells_not {b} {A} t = (λ e a. clash (sym (t.1 a) ∙ not-true b e), λ n. go b refl n)
  where
    go : (c : Bool) → b ≡ c → (A → ⊥) → not c ≡ true
    go true e n = absurd (n (t.0 e))
    go false e n = refl

pub tells_under : (a b : ℕ) → ltb a b ≡ true ↔ a < b
tells_under a b = (ltb-true a b, lt-ltb a b)

pub tells_from : (a b : ℕ) → leb a b ≡ true ↔ a ≤ b
tells_from a b = (leb-true a b, le-leb a b)

pub tells_over : (a b : ℕ) → not (leb a b) ≡ true ↔ b < a
tells_over a b = (λ e. leb-false a b (not-true _ e), λ h. rw (lt-leb a b h))

pub tells_set : (b : Bool) → b ≡ true ↔ b ≡ true
tells_set b = (λ e. e, λ e. e)

pub tells_clear : (b : Bool) → not b ≡ true ↔ b ≡ false
tells_clear b = (not-true b, λ e. rw e)

pub tells_bad : (k : Record) → not (record_sound k) ≡ true ↔ (SoundRecord k → ⊥)
tells_bad k = tells_not (record_is_sound k, sound_record_passes k)

-- two tests joined
pub tells_either : (a b : Bool) {A B : Type 0} → (a ≡ true ↔ A) → (b ≡ true ↔ B) → (a || b) ≡ true ↔ (A ⊎ B)
tells_either true b s t = (λ e. inl (s.0 refl), λ u. refl)
tells_either false b {A} {B} s t = (λ e. inr (t.0 e), from)
  where
    from : A ⊎ B → b ≡ true
    from (inl x) = clash (sym (s.1 x))
    from (inr y) = t.1 y

pub tells_both : (a b : Bool) {A B : Type 0} → (a ≡ true ↔ A) → (b ≡ true ↔ B) → (a && b) ≡ true ↔ (A × B)
tells_both true b s t = (λ e. (s.0 refl, t.0 e), λ u. t.1 u.1)
tells_both false b s t = (λ e. clash (sym e), λ u. clash (sym (s.1 u.0)))

pub tells_is : (a b : ℕ) → eqb a b ≡ true ↔ a ≡ b
tells_is a b = (eqb-true a b, eq-eqb a b)

-- "Order: 15, 16, 8"
pub numbered : (short passes beyond : Bool) → reply_number (admission_by short passes beyond) ≡ cond short 15 (cond (not passes) 16 (cond beyond 8 0))
numbered true p b = refl
numbered false false b = refl
numbered false true true = refl
numbered false true false = refl

-- the first tests alone: where memory is lent and an endpoint is named; where memory is lent; where an endpoint is named; where neither
module _ (k : Record) where
  pub first_all : (short beyond : Bool) {A B : Type 0} → (short ≡ true ↔ A) → (beyond ≡ true ↔ B)
      → Given (reply_number (admission_by short (record_sound k) beyond)) (row 15 A ∷ row 16 (SoundRecord k → ⊥) ∷ row 8 B ∷ [])
  first_all short beyond s b = rw (numbered short (record_sound k) beyond) (tested 15 _ _ short s (tested 16 _ _ _ (tells_bad k) (tested 8 _ _ beyond b none_left)))

  pub first_lent : (short : Bool) {A : Type 0} → (short ≡ true ↔ A)
      → Given (reply_number (admission_by short (record_sound k) false)) (row 15 A ∷ row 16 (SoundRecord k → ⊥) ∷ [])
  first_lent short s = rw (numbered short (record_sound k) false) (tested 15 _ _ short s (tested 16 _ _ _ (tells_bad k) none_left))

  pub first_named : (beyond : Bool) {B : Type 0} → (beyond ≡ true ↔ B)
      → Given (reply_number (admission_by false (record_sound k) beyond)) (row 16 (SoundRecord k → ⊥) ∷ row 8 B ∷ [])
  first_named beyond b = rw (numbered false (record_sound k) beyond) (tested 16 _ _ _ (tells_bad k) (tested 8 _ _ beyond b none_left))

  pub first_plain : Given (reply_number (admission_by false (record_sound k) false)) (row 16 (SoundRecord k → ⊥) ∷ [])
  first_plain = rw (numbered false (record_sound k) false) (tested 16 _ _ _ (tells_bad k) none_left)

-- what is refused is not let through
pub unlike {ℓ} : {A : Type ℓ} {x : Refusal} → ◌≡◌ {A = Reply Unit} (Err x) (Ok tt) → A
unlike e = let z : ◌≡◌ {A = ℕ} 0 1 = cc in absurd (omega arith)

-- where the first tests refuse nothing, none of them holds
pub none_refused : (s p b : Bool) → admission_by s p b ≡ (Ok tt) → (s ≡ false) × (p ≡ true) × (b ≡ false)
none_refused true p b e = unlike e
none_refused false false b e = unlike e
none_refused false true true e = unlike e
none_refused false true false e = (refl, refl, refl)
