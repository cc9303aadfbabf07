-- Sentence 1: a packet that waits is named, and it is the same packet.
-- Assumes nothing.
use mathlib.Core.Path.{◌≡◌, sym, subst}
use mathlib.Core.Logic.{◌⊎◌, inl, inr}
use mathlib.Core.Bool.{Bool, not, ◌||◌}
use mathlib.Core.List.{List, [], ◌∷◌}
use Prim.Native.Nat.{ℕ}
use lib.Dec.{T, eqb, eqb→eq, eqb_refl}
use Rattle.rounds.specs.Machine.{Event, arrival, interrupt, round, pause, quiet, Machine, is_round, is_interrupt, names, arrives_at, run, after, some, Stays}
use Rattle.rounds.specs.Sentences.{Endpoint, Named, SamePacket}
use Rattle.rounds.specs.Laws.{Look, Does, Lawful}
use Rattle.rounds.proofs.Events.{at_round, at_interrupt, at_arrival}
use Rattle.rounds.proofs.Tests.{or_cases, or_left, or_right, nor}
use Rattle.rounds.proofs.Lawful.{good_run, good_after}

-- a test that is equal to one that passes
back : {a b : Bool} → a ≡ b → T b → T a
back p t = subst T (sym p) t

module _ {M : Machine} {Good : M.State → Type 0} {L : Look M} (W : Lawful M Good L) where
  module _ (e : ℕ) (ep : Endpoint M e) where
    -- its interrupt is due, or its flag is up
    abbrev Owed : M.State → Type 0
    Owed s = T (L.flag s e) ⊎ T (L.due s e)

    -- one step: the flag of a waiting packet stays, and what is due stays due or is flagged
    flag_stays : (s t : M.State) (v : Event) → Does L s v t → T (M.waiting s e) → T (L.flag s e) → T (L.flag t e)
    flag_stays s t (arrival a) d w x = back (d.flag e ep) x
    flag_stays s t (interrupt reads) d w x = back (d.flag e ep) (or_left (L.flag s e) (L.due s e) x)
    flag_stays s t (round out complete) d w x = d.kept e ep w x
    flag_stays s t pause d w x = back (d.receive.flag e ep) x
    flag_stays s t quiet d w x = back (d.receive.flag e ep) x

    due_stays : (s t : M.State) (v : Event) → Does L s v t → T (L.due s e) → Owed t
    due_stays s t (arrival a) d x = inr (back (d.due e ep) (or_right (eqb e a) (L.due s e) x))
    due_stays s t (interrupt reads) d x = inl (back (d.flag e ep) (or_right (L.flag s e) (L.due s e) x))
    due_stays s t (round out complete) d x = inr (back (d.due e ep) x)
    due_stays s t pause d x = inr (back (d.receive.due e ep) x)
    due_stays s t quiet d x = inr (back (d.receive.due e ep) x)

    owed_stays : (s : M.State) (o : M.Op) → Good s → T (M.waiting s e) → Owed s → Owed (M.step s o)
    owed_stays s o g w (inl x) = inl (flag_stays s (M.step s o) (M.event s o) (W.does s o g) w x)
    owed_stays s o g w (inr x) = due_stays s (M.step s o) (M.event s o) (W.does s o g) x

    -- an arrival makes it due, an interrupt flags what is due, a round names what waits and is flagged
    arrival_due : (s t : M.State) (v : Event) → Does L s v t → T (arrives_at e v) → T (L.due t e)
    arrival_due s t v d at =
        at_arrival (λ v. Does L s v t → T (L.due t e)) (λ a. eqb a e)
        (λ a same d. back (d.due e ep) (or_left (eqb e a) (L.due s e) (subst (λ (m : ℕ). T (eqb e m)) (sym (eqb→eq a e same)) (eqb_refl e)))) v at d

    taken_flags : (s t : M.State) (v : Event) → Does L s v t → T (is_interrupt v) → Owed s → T (L.flag t e)
    taken_flags s t v d i x = at_interrupt (λ v. Does L s v t → T (L.flag t e)) (λ reads d. back (d.flag e ep) (either x)) v i d
      where
        either : Owed s → T (L.flag s e || L.due s e)
        either (inl y) = or_left (L.flag s e) (L.due s e) y
        either (inr y) = or_right (L.flag s e) (L.due s e) y

    round_names : (s t : M.State) (v : Event) → Does L s v t → T (is_round v) → T (M.waiting s e) → T (L.flag s e) → T (names e v)
    round_names s t v d r w x =
        at_round (λ v. Does L s v t → T (names e v)) (λ out complete d. back (d.named e ep.high) (d.kept e ep w x)) v r d

    -- over the operations while it waits
    waits_at_end : (s : M.State) (k : List M.Op) → Stays M e s k → T (M.waiting (run M s k) e)
    waits_at_end s [] w = w
    waits_at_end s (o ∷ k) w = waits_at_end (M.step s o) k w.1

    flag_at_end : (s : M.State) (k : List M.Op) → Good s → Stays M e s k → T (L.flag s e) → T (L.flag (run M s k) e)
    flag_at_end s [] g w x = x
    flag_at_end s (o ∷ k) g w x =
        flag_at_end (M.step s o) k (W.good_step s o g) w.1 (flag_stays s (M.step s o) (M.event s o) (W.does s o g) w.0 x)

    taken_at_end : (s : M.State) (k : List M.Op) → Good s → Stays M e s k → Owed s → T (some M is_interrupt s k) → T (L.flag (run M s k) e)
    taken_at_end s [] g w x t = absurd t
    taken_at_end s (o ∷ k) g w x t =
        go (or_cases (is_interrupt (M.event s o)) (some M is_interrupt (M.step s o) k) t)
        (taken_at_end (M.step s o) k (W.good_step s o g) w.1 (owed_stays s o g w.0 x))
      where
        go : T (is_interrupt (M.event s o)) ⊎ T (some M is_interrupt (M.step s o) k)
            → (T (some M is_interrupt (M.step s o) k) → T (L.flag (run M (M.step s o) k) e)) → T (L.flag (run M (M.step s o) k) e)
        go (inl now) later =
            flag_at_end (M.step s o) k (W.good_step s o g) w.1 (taken_flags s (M.step s o) (M.event s o) (W.does s o g) now x)
        go (inr t) later = later t

  pub named : Named M
  named e ep h a k p c =
      let s = M.step (after M h) a in
      let g = W.good_step (after M h) a (good_after W h) in
      let z = run M s k in
      let due = arrival_due e ep (after M h) s (M.event (after M h) a) (W.does (after M h) a (good_after W h)) c.arrived in
      round_names e ep z (M.step z p) (M.event z p) (W.does z p (good_run W s k g)) c.polled (waits_at_end e ep s k c.still)
      (taken_at_end e ep s k g c.still (inr due) c.taken)

  no_other : (e : ℕ) (s : M.State) (k : List M.Op) → Good s → Stays M e s k → T (not (some M (arrives_at e) s k))
  no_other e s [] g w = tt
  no_other e s (o ∷ k) g w =
      nor (arrives_at e (M.event s o)) (some M (arrives_at e) (M.step s o) k) (W.one_place s o e g w.0)
      (no_other e (M.step s o) k (W.good_step s o g) w.1)

  pub same_packet_lem : SamePacket M
  same_packet_lem e h k w = no_other e (after M h) k (good_after W h) w
