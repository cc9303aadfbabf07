-- Sentence 3: a round names as sent what was read since the round before.
-- Assumes nothing.
use mathlib.Core.Path.{◌≡◌, sym, ap, ◌∙◌}
use mathlib.Core.Bool.{Bool, true, false, not, ◌||◌, or-false, or_assoc}
use mathlib.Core.List.{List, [], ◌∷◌}
use Prim.Native.Nat.{ℕ}
use lib.Dec.{T}
use Rattle.rounds.specs.Machine.{Event, arrival, interrupt, round, pause, quiet, Machine, is_round, reads_sent, names_sent, run, after, some, ends_in_round}
use Rattle.rounds.specs.Sentences.{Endpoint, SentExactly}
use Rattle.rounds.specs.Laws.{Look, Does, Lawful}
use Rattle.rounds.proofs.Events.{at_round}
use Rattle.rounds.proofs.Tests.{neither}
use Rattle.rounds.proofs.Lawful.{good_run, good_after}

module _ {M : Machine} {Good : M.State → Type 0} {L : Look M} (W : Lawful M Good L) where
  module _ (e : ℕ) (ep : Endpoint M e) where
    -- one step: a round names the flag and puts it down, and anything else adds what it read
    round_says : (s t : M.State) (v : Event) → Does L s v t → T (is_round v) → names_sent e v ≡ L.sent s e
    round_says s t v d r = at_round (λ v. Does L s v t → names_sent e v ≡ L.sent s e) (λ out complete d. d.sent e ep) v r d

    round_wipes : (s t : M.State) (v : Event) → Does L s v t → T (is_round v) → L.sent t e ≡ false
    round_wipes s t v d r = at_round (λ v. Does L s v t → L.sent t e ≡ false) (λ out complete d. d.wiped e ep) v r d

    gathers : (s t : M.State) (v : Event) → Does L s v t → T (not (is_round v)) → L.sent t e ≡ (L.sent s e || reads_sent e v)
    gathers s t (arrival a) d n = d.sent e ep ∙ sym (or-false (L.sent s e))
    gathers s t (interrupt reads) d n = d.sent e ep
    gathers s t (round out complete) d n = absurd n
    gathers s t pause d n = d.sent e ep ∙ sym (or-false (L.sent s e))
    gathers s t quiet d n = d.sent e ep ∙ sym (or-false (L.sent s e))

    -- over the operations since the round before, and up to it
    gathered : (s : M.State) (k : List M.Op) → Good s → T (not (some M is_round s k))
        → L.sent (run M s k) e ≡ (L.sent s e || some M (reads_sent e) s k)
    gathered s [] g n = sym (or-false (L.sent s e))
    gathered s (o ∷ k) g n =
        let v = M.event s o in
        let c = neither (is_round v) (some M is_round (M.step s o) k) n in
        gathered (M.step s o) k (W.good_step s o g) c.1
        ∙ ap (λ (b : Bool). b || some M (reads_sent e) (M.step s o) k) (gathers s (M.step s o) v (W.does s o g) c.0)
        ∙ or_assoc (L.sent s e) (reads_sent e v) (some M (reads_sent e) (M.step s o) k)

    wiped : (first : Bool) (s : M.State) (k : List M.Op) → Good s → (T first → L.sent s e ≡ false)
        → T (ends_in_round M first s k) → L.sent (run M s k) e ≡ false
    wiped first s [] g down r = down r
    wiped first s (o ∷ k) g down r =
        wiped (is_round (M.event s o)) (M.step s o) k (W.good_step s o g) (round_wipes s (M.step s o) (M.event s o) (W.does s o g)) r

  pub sent_exactly_lem : SentExactly M
  sent_exactly_lem e ep h k p c =
      let s = after M h in
      let z = run M s k in
      round_says e ep z (M.step z p) (M.event z p) (W.does z p (good_run W s k (good_after W h))) c.polled
      ∙ gathered e ep s k (good_after W h) c.between
      ∙ ap (λ (b : Bool). b || some M (reads_sent e) s k) (wiped e ep true M.fresh h W.good_fresh (λ _. W.sent_fresh e ep) c.since)
