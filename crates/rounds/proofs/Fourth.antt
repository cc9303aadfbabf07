-- Sentence 4: each answered poll that is no round puts down one of the flags that are reported first, and these are so many at most.
-- Assumes nothing.
use mathlib.Core.Path.{◌≡◌}
use mathlib.Core.Logic.{◌⊎◌, inl, inr}
use mathlib.Core.Bool.{not}
use mathlib.Core.List.{List, [], ◌∷◌}
use Prim.Native.Nat.{ℕ, suc, ◌+◌, ◌≤◌, ◌<◌}
use native.Mathlib.Omega.{arith}
use lib.Dec.{T}
use Rattle.rounds.specs.Machine.{Event, arrival, interrupt, round, pause, quiet, Machine, is_round, is_answered_poll, is_interrupt, run, after, some}
use Rattle.rounds.specs.Sentences.{Polls, none, more, RoundAfter}
use Rattle.rounds.specs.Laws.{Look, Falls, Does, Lawful}
use Rattle.rounds.proofs.Events.{at_poll}
use Rattle.rounds.proofs.Tests.{neither}
use Rattle.rounds.proofs.Lawful.{good_run, good_after}

-- a poll more: with n of them before, none is up or n have been put down
one_more : (a b c d n : ℕ) → (b ≡ 0) ⊎ (b + n ≤ a) → (c ≡ 0) ⊎ (c < b) → d ≤ c → (d ≡ 0) ⊎ (d + suc n ≤ a)
one_more a b c d n p (inl y) f = inl (omega arith)
one_more a b c d n (inl x) (inr y) f = absurd (omega arith)
one_more a b c d n (inr x) (inr y) f = inr (omega arith)

none_left : (a b n : ℕ) → a ≤ n → (b ≡ 0) ⊎ (b + n ≤ a) → b ≡ 0
none_left a b n h (inl x) = x
none_left a b n h (inr x) = omega arith

module _ {M : Machine} {Good : M.State → Type 0} {L : Look M} (W : Lawful M Good L) where
  -- with no interrupt taken the flags that are reported first only fall
  falls : (s t : M.State) (v : Event) → Does L s v t → T (not (is_interrupt v)) → Falls L s t
  falls s t (arrival e) d n = d.bus
  falls s t (interrupt reads) d n = absurd n
  falls s t (round out complete) d n = d.bus
  falls s t pause d n = let l = d.less in omega arith
  falls s t quiet d n = d.bus

  fallen : (s : M.State) (k : List M.Op) → Good s → T (not (some M is_interrupt s k)) → Falls L s (run M s k)
  fallen s [] g n = omega arith
  fallen s (o ∷ k) g n =
      let c = neither (is_interrupt (M.event s o)) (some M is_interrupt (M.step s o) k) n in
      let a = falls s (M.step s o) (M.event s o) (W.does s o g) c.0 in
      let b = fallen (M.step s o) k (W.good_step s o g) c.1 in
      omega arith

  -- an answered poll leaves none of them up, or one less
  poll : (s t : M.State) (v : Event) → Does L s v t → T (is_answered_poll v) → (L.up t ≡ 0) ⊎ (L.up t < L.up s)
  poll s t v d p =
      at_poll (λ v. Does L s v t → (L.up t ≡ 0) ⊎ (L.up t < L.up s))
      (λ out complete d. let u = d.bus in inl (omega (arith, u, d.none_up))) (λ d. inr d.less) v p d

  -- and is a round where none was up
  is_round_lem : (s t : M.State) (v : Event) → Does L s v t → T (is_answered_poll v) → L.up s ≡ 0 → T (is_round v)
  is_round_lem s t v d p zero_up =
      at_poll (λ v. Does L s v t → T (is_round v)) (λ out complete d. tt) (λ d. let u = d.less in absurd (omega (arith, u, zero_up))) v p d

  -- with none of them up, and no interrupt taken since, an answered poll is a round
  pub round_with_none : (s : M.State) (k : List M.Op) (p : M.Op) → Good s → L.up s ≡ 0
      → T (not (some M is_interrupt s k)) → T (is_answered_poll (M.event (run M s k) p)) → T (is_round (M.event (run M s k) p))
  round_with_none s k p g zero_up n answered =
      let t = run M s k in
      is_round_lem t (M.step t p) (M.event t p) (W.does t p (good_run W s k g)) answered (omega (arith, fallen s k g n, zero_up))

  -- after n answered polls
  pub record Polled (s : M.State) (n : ℕ) (t : M.State) : Type 0 where
    pub good : Good t
    pub down : (L.up t ≡ 0) ⊎ (L.up t + n ≤ L.up s)

  polled : {s t : M.State} {n : ℕ} → Good s → Polls M s n t → Polled s n t
  polled g none = record { good = g; down = inr (omega arith) }
  polled {s} g (more {n} {t} r p k answered between) =
      let i = polled g r in
      let u = M.step t p in
      let q = poll t u (M.event t p) (W.does t p i.good) answered in
      let f = fallen u k (W.good_step t p i.good) between in
      record { good = good_run W t (p ∷ k) i.good; down = one_more (L.up s) (L.up t) (L.up u) (L.up (run M u k)) n i.down q f }

  pub round_after : RoundAfter M L.most
  round_after h t p polls answered =
      let i = polled (good_after W h) polls in
      round_with_none t [] p i.good (none_left (L.up (after M h)) (L.up t) L.most (W.most (after M h)) i.down) tt answered
