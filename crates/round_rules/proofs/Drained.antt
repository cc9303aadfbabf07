-- Which receive flags the walk leaves, whatever the ready bits are: of the drained flags the highest goes, every other stays.
-- Assumes nothing.
use mathlib.Core.Path.{◌≡◌, refl, sym, ap, subst, ◌∙◌}
use mathlib.Core.Logic.{◌⊎◌, inl, inr}
use mathlib.Core.Bool.{Bool, true, false, not, ◌&&◌, cond, and-false, and-true}
use mathlib.Core.List.{List, [], ◌∷◌, foldl}
use Prim.Native.Nat.{ℕ, zero, suc, ◌<◌}
use native.Mathlib.Nat.{not-suc-le-zero}
use native.Mathlib.Omega.{arith}
use native.Mathlib.Decide.{ℕ_discrete, dec_lt}
use lib.Dec.{T, T_not, eqb, eqb_refl}
use borrow.Author.Tests.{ne_eqb}
use Rattle.laws.specs.Words.{bit, clear, bits_below, set_bits}
use Rattle.laws.proofs.Words.{bit_clear}
use Rattle.store_rules.specs.Stores.{Log, write_index}
use Rattle.round_rules.specs.Walk.{Walk, ready_at, drained, visit, walked}
use Rattle.round_rules.specs.Cleared.{ClearsHighest}

-- the walk over any ready bits, without its stores
abbrev pub drained_by : ℕ → (ℕ → Bool) → ℕ → ℕ → ℕ
drained_by flags ready out e = cond (ready e) out (clear flags e)

unfoldable pub left_by : ℕ → (ℕ → Bool) → ℕ
left_by flags ready = foldl (drained_by flags ready) flags (set_bits flags)

-- the walk of a poll is that walk, where its index stores keep something that tells the ready bits
module _ (flags : ℕ) (ready : ℕ → Bool) (Known : Log → Type 0) (keeps : (e : ℕ) (h : Log) → Known h → Known (write_index e h))
    (reads : (e : ℕ) (h : Log) → Known h → ready_at e (write_index e h).regs ≡ ready e) where
  follows : (es : List ℕ) (o : Walk) → Known o.log → (foldl (visit flags) o es).out ≡ foldl (drained_by flags ready) o.out es
  unfolding visit drained
  follows [] o i = refl
  follows (e ∷ es) o i =
      follows es (visit flags o e) (keeps e o.log i)
      ∙ ap (λ (b : Bool). foldl (drained_by flags ready) (cond b o.out (clear flags e)) es) (reads e o.log i)

  pub walked_left : (g : Log) → Known g → (walked flags g).out ≡ left_by flags ready
  unfolding walked left_by
  walked_left g i = follows (set_bits flags) _ i

-- on Bools
and_left : (a b : Bool) → T (a && b) → T a
and_left true b t = tt
and_left false b t = t

and_right : (a b : Bool) → T (a && b) → T b
and_right true b t = t
and_right false b t = absurd t

and_both : (a b : Bool) → T a → T b → T (a && b)
and_both true b t u = u
and_both false b t u = t

holds : (b : Bool) → T b → b ≡ true
holds true t = refl
holds false t = absurd t

held : {b : Bool} → b ≡ true → T b
held p = subst T (sym p) tt

fails : (b : Bool) → T (not b) → b ≡ false
fails true t = absurd t
fails false t = refl

apart : (a b : ℕ) → (a ≡ b → ⊥) → T (not (eqb a b))
apart a b n = subst (λ (x : Bool). T (not x)) (sym (ne_eqb a b n)) tt

order : (k i : ℕ) → (k < i) ⊎ ((k ≡ i) ⊎ (i < k))
order k i = go (ℕ_discrete k i) (dec_lt k i)
  where
    go : Dec (k ≡ i) → Dec (k < i) → (k < i) ⊎ ((k ≡ i) ⊎ (i < k))
    go (yes e) d = inr (inl e)
    go (no e) (yes d) = inl d
    go (no e) (no d) = inr (inr (omega arith))

module _ (flags : ℕ) (ready : ℕ → Bool) where
  -- the flags once the places below n have been visited
  abbrev up_to : ℕ → ℕ
  up_to zero = flags
  up_to (suc n) = cond (bit flags n && not (ready n)) (clear flags n) (up_to n)

  drains : (r : Bool) (n out : ℕ) → ready n ≡ r → drained_by flags ready out n ≡ cond (not r) (clear flags n) out
  drains true n out e = rw e
  drains false n out e = rw e

  one : (b : Bool) (n out : ℕ) (l : List ℕ)
      → foldl (drained_by flags ready) out (cond b (n ∷ l) l) ≡ foldl (drained_by flags ready) (cond (b && not (ready n)) (clear flags n) out) l
  one true n out l = ap (λ (x : ℕ). foldl (drained_by flags ready) x l) (drains (ready n) n out refl)
  one false n out l = refl

  below : (n : ℕ) (l : List ℕ) → foldl (drained_by flags ready) flags (bits_below flags n l) ≡ foldl (drained_by flags ready) (up_to n) l
  unfolding bits_below
  below zero l = refl
  below (suc n) l = below n (cond (bit flags n) (n ∷ l) l) ∙ one (bit flags n) n (up_to n) l

  by_places : left_by flags ready ≡ up_to 6
  unfolding left_by set_bits
  by_places = below 6 []

  -- k is the highest drained flag below n
  record Highest (n k : ℕ) : Type 0 where
    low : k < n
    set : T (bit flags k)
    empty : T (not (ready k))
    above : (i : ℕ) → k < i → i < n → T (bit flags i) → T (ready i)

  abbrev Left : ℕ → ℕ → Type 0
  Left n w = ((w ≡ flags) × ((i : ℕ) → i < n → T (bit flags i) → T (ready i))) ⊎ ((k : ℕ) × (w ≡ clear flags k) × Highest n k)

  next : (n i : ℕ) → (T (bit flags n) → T (ready n)) → (i < n → T (bit flags i) → T (ready i)) → i < suc n → T (bit flags i) → T (ready i)
  next n i f old h t = go (ℕ_discrete i n)
    where
      go : Dec (i ≡ n) → T (ready i)
      go (yes e) = subst (λ (m : ℕ). T (ready m)) (sym e) (f (subst (λ (m : ℕ). T (bit flags m)) e t))
      go (no e) = old (omega arith) t

  more : (n w : ℕ) → (T (bit flags n) → T (ready n)) → Left n w → Left (suc n) w
  more n w f (inl x) = inl (x.0, λ i. next n i f (x.1 i))
  more n w f (inr x) =
      let t = x.2 in
      inr (x.0, x.1, record { low = omega arith; set = t.set; empty = t.empty; above = λ i a. next n i f (t.above i a) })

  left : (n : ℕ) → Left n (up_to n)
  left zero = inl (refl, λ i h. absurd (not-suc-le-zero h))
  left (suc n) = go (bit flags n) (ready n) refl refl (left n)
    where
      go : (b r : Bool) → bit flags n ≡ b → ready n ≡ r → Left n (up_to n) → Left (suc n) (cond (b && not r) (clear flags n) (up_to n))
      go true true eb er x = more n (up_to n) (λ _. subst T (sym er) tt) x
      go true false eb er x =
          inr (n, refl, record { low = omega arith; set = subst T (sym eb) tt; empty = subst (λ (b : Bool). T (not b)) (sym er) tt; above = λ i a b. absurd (omega arith) })
      go false r eb er x = more n (up_to n) (λ t. absurd (subst T eb t)) x

  module _ (small : flags < 64) where
    gone : (k j : ℕ) → k < 6 → j < 6 → bit (clear flags k) j ≡ (bit flags j && not (eqb j k))
    gone k j hk hj = bit_clear flags k j small hk hj

    none : (w : ℕ) → Left 6 w → (j : ℕ) → j < 6 → T (bit w j) → T (bit flags j)
    none w (inl x) j h t = subst (λ (m : ℕ). T (bit m j)) x.0 t
    none w (inr x) j h t = and_left (bit flags j) _ (subst T (ap (λ (m : ℕ). bit m j) x.1 ∙ gone x.0 j x.2.low h) t)

    stay : (w : ℕ) → Left 6 w → (j : ℕ) → j < 6 → T (ready j) → T (bit flags j) → T (bit w j)
    stay w (inl x) j h r t = subst (λ (m : ℕ). T (bit m j)) (sym x.0) t
    stay w (inr x) j h r t =
        subst T (sym (ap (λ (m : ℕ). bit m j) x.1 ∙ gone x.0 j x.2.low h))
        (and_both (bit flags j) _ t (apart j x.0 (λ e. T_not (ready x.0) x.2.empty (subst (λ (m : ℕ). T (ready m)) e r))))

    -- what stands above a flag that is left though nothing waits there
    abbrev Higher : ℕ → ℕ → Type 0
    Higher w i = (j : ℕ) × (i < j) × (j < 6) × T (bit flags j) × (T (bit w j) → ⊥)

    falsely : (w : ℕ) → Left 6 w → (i : ℕ) → i < 6 → T (bit w i) → T (not (ready i)) → Higher w i
    falsely w (inl x) i h t r = absurd (T_not (ready i) r (x.1 i h (subst (λ (m : ℕ). T (bit m i)) x.0 t)))
    falsely w (inr x) i h t r = go (order x.0 i)
      where
        cleared : T (bit w x.0) → ⊥
        cleared u =
            T_not (eqb x.0 x.0) (and_right (bit flags x.0) _ (subst T (ap (λ (m : ℕ). bit m x.0) x.1 ∙ gone x.0 x.0 x.2.low x.2.low) u)) (eqb_refl x.0)

        go : (x.0 < i) ⊎ ((x.0 ≡ i) ⊎ (i < x.0)) → Higher w i
        go (inl a) = absurd (T_not (ready i) r (x.2.above i a h (none w (inr x) i h t)))
        go (inr (inl e)) = absurd (cleared (subst (λ (m : ℕ). T (bit w m)) (sym e) t))
        go (inr (inr a)) = (x.0, a, x.2.low, x.2.set, cleared)

    whole : Left 6 (left_by flags ready)
    whole = subst (Left 6) (sym by_places) (left 6)

    -- the walk never sets a new flag
    pub none_new : (j : ℕ) → j < 6 → T (bit (left_by flags ready) j) → T (bit flags j)
    none_new = none _ whole

    -- a flag whose endpoint is ready stays
    pub ready_stays : (j : ℕ) → j < 6 → T (ready j) → T (bit flags j) → T (bit (left_by flags ready) j)
    ready_stays = stay _ whole

    -- a false naming, a flag that stays though its endpoint is not ready, means that a higher flag was cleared
    pub false_naming : (i : ℕ) → i < 6 → T (bit (left_by flags ready) i) → T (not (ready i))
        → (j : ℕ) × (i < j) × (j < 6) × T (bit flags j) × (T (bit (left_by flags ready) j) → ⊥)
    false_naming = falsely _ whole

    -- document 01's own words: the highest drained flag goes, and no other
    said : (w : ℕ) → Left 6 w → ClearsHighest flags ready w
    said w (inl x) = inl (x.0, λ i h p. holds (ready i) (x.1 i h (held p)))
    said w (inr x) =
        let k = x.0 in
        let t = x.2 in
        let at : (j : ℕ) → j < 6 → bit w j ≡ (bit flags j && not (eqb j k)) = λ j h. ap (λ (m : ℕ). bit m j) x.1 ∙ gone k j t.low h in
        inr (
          k,
          record { low = t.low; set = holds (bit flags k) t.set; drained = fails (ready k) t.empty; above = λ i a h p. holds (ready i) (t.above i a h (held p)) },
          record {
            gone = at k t.low ∙ ap (λ (b : Bool). bit flags k && not b) (holds (eqb k k) (eqb_refl k)) ∙ and-false (bit flags k);
            others = λ j h n. at j h ∙ ap (λ (b : Bool). bit flags j && not b) (ne_eqb j k n) ∙ and-true (bit flags j);
          },
        )

    pub clears_highest : ClearsHighest flags ready (left_by flags ready)
    clears_highest = said _ whole
