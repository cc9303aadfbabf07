-- What arrived waits until it is taken: so it waits after every operation, as long as none takes it, and its length stays.
-- Assumes nothing.
use mathlib.Core.Path.{◌≡◌, refl, sym, subst, ◌∙◌}
use mathlib.Core.Bool.{not}
use mathlib.Core.List.{List, [], ◌∷◌, ◌++◌}
use Prim.Native.Nat.{ℕ}
use lib.Dec.{T}
use Rattle.rounds.specs.Machine.{Machine, arrives_at, run, after, Stays, taken}
use Rattle.rounds.specs.Sentences.{Endpoint, UntilTaken, StillThere, SameLength, StillAsLong}
use Rattle.rounds.proofs.Tests.{neither, or_left, or_right, and_both}

module _ {M : Machine} (U : UntilTaken M) (e : ℕ) (ep : Endpoint M e) where
  -- the state after h and one operation more is that of a longer history
  one_more : (s : M.State) (h : List M.Op) (o : M.Op) → run M s (h ++ o ∷ []) ≡ M.step (run M s h) o
  one_more s [] o = refl
  one_more s (p ∷ h) o = one_more (M.step s p) h o

  comes : (h : List M.Op) (a : M.Op) → T (arrives_at e (M.event (after M h) a)) → T (M.waiting (M.step (after M h) a) e)
  comes h a t = subst T (sym (U.each e ep h a)) (or_left (arrives_at e (M.event (after M h) a)) _ t)

  waits : (h : List M.Op) (o : M.Op) → T (M.waiting (after M h) e) → T (not (M.takes (after M h) o e)) → T (M.waiting (M.step (after M h) o) e)
  waits h o w n =
      subst T (sym (U.each e ep h o))
      (or_right (arrives_at e (M.event (after M h) o)) _ (and_both (M.waiting (after M h) e) (not (M.takes (after M h) o e)) w n))

  stays : (h k : List M.Op) → T (M.waiting (after M h) e) → T (not (taken M e (after M h) k)) → Stays M e (after M h) k
  stays h [] w n = w
  stays h (o ∷ k) w n =
      let c = neither (M.takes (after M h) o e) (taken M e (M.step (after M h) o) k) n in
      let next = one_more M.fresh h o in (
        w,
        subst (λ (s : M.State). Stays M e s k) next
            (stays (h ++ o ∷ []) k (subst (λ (s : M.State). T (M.waiting s e)) (sym next) (waits h o w c.0))
            (subst (λ (s : M.State). T (not (taken M e s k))) (sym next) c.1)),
      )

  -- what waits, and is not taken, is as long at the end
  lasts : SameLength M → (h k : List M.Op) → T (M.waiting (after M h) e) → T (not (taken M e (after M h) k))
      → M.length (run M (after M h) k) e ≡ M.length (after M h) e
  lasts L h [] w n = refl
  lasts L h (o ∷ k) w n =
      let c = neither (M.takes (after M h) o e) (taken M e (M.step (after M h) o) k) n in
      let next = one_more M.fresh h o in
      subst (λ (s : M.State). M.length (run M s k) e ≡ M.length s e) next
      (lasts L (h ++ o ∷ []) k (subst (λ (s : M.State). T (M.waiting s e)) (sym next) (waits h o w c.0))
      (subst (λ (s : M.State). T (not (taken M e s k))) (sym next) c.1))
      ∙ L.waits e ep h o w c.0

pub still_there_lem : {M : Machine} → UntilTaken M → StillThere M
still_there_lem {M} U e ep h a k t n =
    let next = one_more U e ep M.fresh h a in
    subst (λ (s : M.State). Stays M e s k) next
    (stays U e ep (h ++ a ∷ []) k (subst (λ (s : M.State). T (M.waiting s e)) (sym next) (comes U e ep h a t))
    (subst (λ (s : M.State). T (not (taken M e s k))) (sym next) n))

pub still_as_long_lem : {M : Machine} → UntilTaken M → SameLength M → StillAsLong M
still_as_long_lem {M} U L e ep h a k t n =
    let next = one_more U e ep M.fresh h a in
    subst (λ (s : M.State). M.length (run M s k) e ≡ M.length s e) next
    (lasts U e ep L (h ++ a ∷ []) k (subst (λ (s : M.State). T (M.waiting s e)) (sym next) (comes U e ep h a t))
    (subst (λ (s : M.State). T (not (taken M e s k))) (sym next) n))
    ∙ L.arrived e ep h a t
