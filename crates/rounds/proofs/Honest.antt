-- The small machine is lawful with the honest poll, so all four sentences can be kept, and what arrives waits as it came until it is taken. It
-- is lawful too where its poll or its interrupt throws every packet away, where its poll leaves no byte of one, and with a poll that refuses
-- always, so the four say little without `NotEmpty`.
-- Assumes nothing.
use mathlib.Core.Path.{◌≡◌, refl, sym, ap, subst, ◌∙◌}
use mathlib.Core.Bool.{Bool, true, false, not, cond, ◌&&◌, ◌||◌, and-true}
use Prim.Native.Nat.{ℕ, suc, ◌+◌, ◌≤◌, ◌<◌}
use native.Mathlib.Omega.{arith}
use native.Mathlib.Decide.{ℕ_discrete}
use lib.Dec.{T, T_not, not_T, leb, le→leb, eqb, eqb→eq, eqb_refl}
use borrow.Author.Tests.{eq-eqb, ne_eqb}
use Rattle.rounds.specs.Machine.{arrival, interrupt, round, quiet, count, arrives_at, is_answered_poll, is_interrupt, after}
use Rattle.rounds.specs.Sentences.{Sentences, UntilTaken, SameLength, NotEmpty}
use Rattle.rounds.specs.Laws.{Look, Quiet, PutDown, Rounds, Pauses, Does, Lawful}
use Rattle.rounds.specs.Shams.{Bus, State, Op, arrive, collect, take, raise, irq, poll, Polled, none, arrived, taken, thrown, hollowed, with_flags, with_bus, brings, accepts, step, event, takes, machine, small, calls, in_order, walked, honest, throws_away, throws_taken, empties_waiting, refuses}
use Rattle.rounds.proofs.Counts.{count_at_most}
use Rattle.rounds.proofs.Tests.{and_right, and_both, is_down}
use Rattle.rounds.proofs.Lawful.{unchanged}
use Rattle.rounds.proofs.Fourth.{round_after}
use Rattle.rounds.proofs.Sentences.{sentences}
use Rattle.rounds.proofs.Walk.{Down, none_new, kept, mistaken}

-- how many of the bus flags are up, and they are three at most
abbrev up : Bus → ℕ
up b = count b.reset + count b.resume + count b.suspend

few : (b : Bus) → up b ≤ 3
few b = omega (arith, count_at_most b.reset, count_at_most b.resume, count_at_most b.suspend)

-- two states that differ at most in what waits
record Alike (s t : State) : Type 0 where
  flag : t.flag ≡ s.flag
  due : t.due ≡ s.due
  sent : t.sent ≡ s.sent
  bus : t.bus ≡ s.bus

same : (s : State) → Alike s s
same s = record { flag = refl; due = refl; sent = refl; bus = refl }

throws : (s : State) → Alike s (thrown s)
throws s = record { flag = refl; due = refl; sent = refl; bus = refl }

hollows : (s : State) → Alike s (hollowed s)
hollows s = record { flag = refl; due = refl; sent = refl; bus = refl }

at : {a b : ℕ → Bool} → a ≡ b → (j : ℕ) → a j ≡ b j
at p j = ap (λ (w : ℕ → Bool). w j) p

module _ (top : ℕ) (on : State → State) (ask : State → Polled) where
  abbrev look : Look (machine top on ask)
  look =
      record {
        flag = λ s. s.flag;
        due = λ s. s.due;
        sent = λ s. s.sent;
        up = λ s. up s.bus;
        most = 3;
      }

  idle : (s : State) → Quiet look s s
  idle s = unchanged look s s refl refl refl refl

  arrive_does : (s : State) (e n : ℕ) (b : Bool) → Does look s (cond b (arrival e) quiet) (cond b (arrived s e n) s)
  arrive_does s e n true =
      record { flag = λ j ep. refl; due = λ j ep. refl; sent = λ j ep. refl; bus = omega arith }
  arrive_does s e n false = idle s

  one_arrival : (s : State) (e i : ℕ) (b : Bool) → accepts top s i ≡ b → T (s.ready e) → T (not (arrives_at e (cond b (arrival i) quiet)))
  one_arrival s e i true p w =
      not_T (eqb i e)
      (λ here. T_not (s.ready i) (and_right (leb i top) (not (s.ready i)) (subst T (sym p) tt)) (subst (λ (m : ℕ). T (s.ready m)) (sym (eqb→eq i e here)) w))
  one_arrival s e i false p w = tt

  -- the interrupt takes what is due, whatever it does to what waits
  takes_all : (s : State) → Alike (taken s) (on s) → Does look s (interrupt s.gone) (on s)
  takes_all s a =
      record { flag = λ j ep. at a.flag j; due = λ j ep. at a.due j; sent = λ j ep. at a.sent j }

  module _
      (taking : (s : State) → Alike (taken s) (on s))
      (asked : (s : State) → Does look s (ask s).event (ask s).state)
      (no_arrival : (s : State) (e : ℕ) → T (not (arrives_at e (ask s).event)))
    where
      does : (s : State) (o : Op) → Does look s (event top on ask s o) (step top on ask s o)
      does s (arrive e n) = arrive_does s e n (accepts top s e)
      does s (collect e) = unchanged look s (step top on ask s (collect e)) refl refl refl refl
      does s (take e) = unchanged look s (step top on ask s (take e)) refl refl refl refl
      does s (raise b) = unchanged look s (step top on ask s (raise b)) refl refl refl refl
      does s irq = takes_all s (taking s)
      does s poll = asked s

      one_place : (s : State) (o : Op) (e : ℕ) → T (s.ready e) → T (not (arrives_at e (event top on ask s o)))
      one_place s (arrive i n) e w = one_arrival s e i (accepts top s i) refl w
      one_place s (collect i) e w = tt
      one_place s (take i) e w = tt
      one_place s (raise b) e w = tt
      one_place s irq e w = tt
      one_place s poll e w = no_arrival s e

      lawful : Lawful (machine top on ask) (λ s. T true) look
      lawful =
          record {
            good_fresh = tt;
            good_step = λ s o g. tt;
            does = λ s o g. does s o;
            one_place = λ s o e g. one_place s o e;
            most = λ s. few s.bus;
            flag_fresh = λ j ep. refl;
            due_fresh = λ j ep. refl;
            sent_fresh = λ j ep. refl;
          }

-- a poll that is honest but for what it leaves waiting
module _ (top : ℕ) (on : State → State) (ask : State → Polled) where
  abbrev L : Look (machine top on ask)
  L = look top on ask

  -- one of the flags put down
  paused : (s : State) (b : Bus) (t : State) → Alike (with_bus s b) t → up b < up s.bus → Pauses L s t
  paused s b t a less =
      record {
        receive = record { flag = λ j ep. at a.flag j; due = λ j ep. at a.due j };
        sent = λ j ep. at a.sent j;
        less = subst (λ (x : Bus). up x < up s.bus) (sym a.bus) less;
      }

  rounded : (s t : State) → Alike (with_flags s (walked top s) none) t → up s.bus ≡ 0 → Rounds L (walked top s) s.sent s t
  rounded s t a none_up =
      record {
        named = λ i high. sym (at a.flag i);
        none_new = λ j ep x. none_new s.flag s.ready (suc top) j (subst T (at a.flag j) x);
        kept = λ j ep w x. subst T (sym (at a.flag j)) (kept s.flag s.ready (suc top) j w x);
        mistaken = λ i high x w. higher i (mistaken s.flag s.ready (suc top) i (omega arith) (subst T (at a.flag i) x) w);
        due = λ j ep. at a.due j;
        sent = λ j ep. refl;
        wiped = λ j ep. at a.sent j;
        none_up = none_up;
        bus = subst (λ (x : Bus). up x ≤ up s.bus) (sym a.bus) (omega arith);
      }
    where
      higher : (i : ℕ) → Down s.flag (walked top s) i (suc top) → PutDown L i s t
      higher i x =
          record {
            at = x.at;
            above = x.above;
            high = omega (arith, x.below);
            was = x.was;
            down = subst (λ (b : Bool). T (not b)) (sym (at a.flag x.at)) x.down;
          }

-- the answer of the honest poll, with its three tests taken apart
module _ (top : ℕ) where
  abbrev asked : State → Bool → Bool → Bool → Polled
  asked s r m u = in_order r m u s (record { event = round (walked top s) s.sent; state = with_flags s (walked top s) none })

  module _ (on : State → State) (ask : State → Polled) (leave : State → State) (alike : (t : State) → Alike t (leave t)) where
    polled : (s : State) (r m u : Bool) → s.bus.reset ≡ r → s.bus.resume ≡ m → s.bus.suspend ≡ u
        → Does (look top on ask) s (asked s r m u).event (leave (asked s r m u).state)
    polled s true m u er em eu = let c = ap count er in paused top on ask s _ _ (alike _) (omega (arith, c))
    polled s false true u er em eu = let c = ap count em in paused top on ask s _ _ (alike _) (omega (arith, c))
    polled s false false true er em eu = let c = ap count eu in paused top on ask s _ _ (alike _) (omega (arith, c))
    polled s false false false er em eu = rounded top on ask s _ (alike _) (omega (arith, ap count er, ap count em, ap count eu))

    polls_honestly : (s : State) → Does (look top on ask) s (honest top s).event (leave (honest top s).state)
    polls_honestly s = polled s s.bus.reset s.bus.resume s.bus.suspend refl refl refl

  no_arrival : (s : State) (r m u : Bool) (e : ℕ) → T (not (arrives_at e (asked s r m u).event))
  no_arrival s true m u e = tt
  no_arrival s false true u e = tt
  no_arrival s false false true e = tt
  no_arrival s false false false e = tt

  none_comes : (s : State) (e : ℕ) → T (not (arrives_at e (honest top s).event))
  none_comes s e = no_arrival s s.bus.reset s.bus.resume s.bus.suspend e

  answered : (s : State) (r m u : Bool) → T (is_answered_poll (asked s r m u).event)
  answered s true m u = tt
  answered s false true u = tt
  answered s false false true = tt
  answered s false false false = tt

  all_wait : (s : State) (r m u : Bool) → (asked s r m u).state.ready ≡ s.ready
  all_wait s true m u = refl
  all_wait s false true u = refl
  all_wait s false false true = refl
  all_wait s false false false = refl

  as_long : (s : State) (r m u : Bool) → (asked s r m u).state.length ≡ s.length
  as_long s true m u = refl
  as_long s false true u = refl
  as_long s false false true = refl
  as_long s false false false = refl

  honest_lawful : Lawful (small top (honest top)) (λ s. T true) (look top taken (honest top))
  honest_lawful = lawful top taken (honest top) (λ s. same (taken s)) (polls_honestly taken (honest top) (λ s. s) same) none_comes

  pub honest_sentences : Sentences (small top (honest top))
  honest_sentences = sentences honest_lawful (round_after honest_lawful)

  -- the two machines that throw packets away keep the four sentences as well
  thrower_lawful : Lawful (small top (throws_away top)) (λ s. T true) (look top taken (throws_away top))
  thrower_lawful = lawful top taken (throws_away top) (λ s. same (taken s)) (polls_honestly taken (throws_away top) thrown throws) none_comes

  pub throws_away_sentences : Sentences (small top (throws_away top))
  throws_away_sentences = sentences thrower_lawful (round_after thrower_lawful)

  taker_lawful : Lawful (throws_taken top) (λ s. T true) (look top (λ s. thrown (taken s)) (honest top))
  taker_lawful =
      lawful top (λ s. thrown (taken s)) (honest top) (λ s. throws (taken s))
      (polls_honestly (λ s. thrown (taken s)) (honest top) (λ s. s) same) none_comes

  pub throws_taken_sentences : Sentences (throws_taken top)
  throws_taken_sentences = sentences taker_lawful (round_after taker_lawful)

  -- and so does the one that leaves no byte of a packet
  emptier_lawful : Lawful (small top (empties_waiting top)) (λ s. T true) (look top taken (empties_waiting top))
  emptier_lawful =
      lawful top taken (empties_waiting top) (λ s. same (taken s)) (polls_honestly taken (empties_waiting top) hollowed hollows) none_comes

  pub empties_waiting_sentences : Sentences (small top (empties_waiting top))
  empties_waiting_sentences = sentences emptier_lawful (round_after emptier_lawful)

  -- what arrives waits until it is taken
  swapped : (e i : ℕ) → eqb e i ≡ eqb i e
  swapped e i = go (ℕ_discrete e i)
    where
      go : Dec (e ≡ i) → eqb e i ≡ eqb i e
      go (yes p) = eq-eqb e i p ∙ sym (eq-eqb i e (sym p))
      go (no n) = ne_eqb e i n ∙ sym (ne_eqb i e (λ p. n (sym p)))

  comes_in : (s : State) (i n e : ℕ) (b : Bool)
      → (cond b (arrived s i n) s).ready e ≡ (arrives_at e (cond b (arrival i) quiet) || (s.ready e && true))
  comes_in s i n e true = λ x. swapped e i x || sym (and-true (s.ready e)) x
  comes_in s i n e false = sym (and-true (s.ready e))

  -- with any poll that leaves the ready bits
  module _
      (ask : State → Polled)
      (stay : (s : State) → (ask s).state.ready ≡ s.ready)
      (brings-none : (s : State) (e : ℕ) → T (not (arrives_at e (ask s).event)))
    where
      lasts : (s : State) (o : Op) (e : ℕ)
          → (step top taken ask s o).ready e ≡ (arrives_at e (event top taken ask s o) || (s.ready e && not (takes top taken ask s o e)))
      lasts s (arrive i n) e = comes_in s i n e (accepts top s i)
      lasts s (collect i) e = sym (and-true (s.ready e))
      lasts s (take i) e = refl
      lasts s (raise b) e = sym (and-true (s.ready e))
      lasts s irq e = sym (and-true (s.ready e))
      lasts s poll e = at (stay s) e ∙ (λ x. sym (is_down (arrives_at e (ask s).event) (brings-none s e)) x || sym (and-true (s.ready e)) x)

      -- only a read takes
      reads_take : (s : State) (o : Op) (e : ℕ) → T (takes top taken ask s o e) → event top taken ask s o ≡ quiet
      reads_take s (arrive i n) e t = absurd t
      reads_take s (collect i) e t = absurd t
      reads_take s (take i) e t = refl
      reads_take s (raise b) e t = absurd t
      reads_take s irq e t = absurd t
      reads_take s poll e t = absurd t

      until_taken_lem : UntilTaken (small top ask)
      until_taken_lem =
          record {
            first = λ e ep. refl;
            each = λ e ep h o. lasts (after (small top ask) h) o e;
            takers = λ e ep h o. reads_take (after (small top ask) h) o e;
          }

  pub honest_until_taken : UntilTaken (small top (honest top))
  honest_until_taken = until_taken_lem (honest top) (λ s. all_wait s s.bus.reset s.bus.resume s.bus.suspend) none_comes

  pub empties_waiting_until_taken : UntilTaken (small top (empties_waiting top))
  empties_waiting_until_taken = until_taken_lem (empties_waiting top) (λ s. all_wait s s.bus.reset s.bus.resume s.bus.suspend) none_comes

  -- and it is as long as it was
  brought : (s : State) (i n e : ℕ) (b : Bool) → T (arrives_at e (cond b (arrival i) quiet)) → (cond b (arrived s i n) s).length e ≡ n
  brought s i n e true t = ap (λ (b : Bool). cond b n (s.length e)) (eq-eqb e i (sym (eqb→eq i e t)))
  brought s i n e false t = absurd t

  -- no other comes where it waits
  not_over : (s : State) (i n e : ℕ) (b : Bool) → accepts top s i ≡ b → T (s.ready e) → (cond b (arrived s i n) s).length e ≡ s.length e
  not_over s i n e true p w =
      ap (λ (b : Bool). cond b n (s.length e))
      (ne_eqb e i (λ here. T_not (s.ready i) (and_right (leb i top) (not (s.ready i)) (subst T (sym p) tt)) (subst (λ (m : ℕ). T (s.ready m)) here w)))
  not_over s i n e false p w = refl

  comes_long : (s : State) (o : Op) (e : ℕ) → T (arrives_at e (event top taken (honest top) s o)) → (step top taken (honest top) s o).length e ≡ brings o
  comes_long s (arrive i n) e t = brought s i n e (accepts top s i) t
  comes_long s (collect i) e t = absurd t
  comes_long s (take i) e t = absurd t
  comes_long s (raise b) e t = absurd t
  comes_long s irq e t = absurd t
  comes_long s poll e t = absurd (T_not (arrives_at e (honest top s).event) (none_comes s e) t)

  stays_long : (s : State) (o : Op) (e : ℕ) → T (s.ready e) → (step top taken (honest top) s o).length e ≡ s.length e
  stays_long s (arrive i n) e w = not_over s i n e (accepts top s i) refl w
  stays_long s (collect i) e w = refl
  stays_long s (take i) e w = refl
  stays_long s (raise b) e w = refl
  stays_long s irq e w = refl
  stays_long s poll e w = ap (λ (l : ℕ → ℕ). l e) (as_long s s.bus.reset s.bus.resume s.bus.suspend)

  pub honest_same_length : SameLength (small top (honest top))
  honest_same_length =
      record {
        arrived = λ e ep h o t. comes_long (after (small top (honest top)) h) o e t;
        waits = λ e ep h o w n. stays_long (after (small top (honest top)) h) o e w;
      }

  comes : (e : ℕ) (b : Bool) → T b → T (arrives_at e (cond b (arrival e) quiet))
  comes e true t = eqb_refl e
  comes e false t = absurd t

  pub honest_not_empty : NotEmpty (small top (honest top)) (calls top taken (honest top))
  honest_not_empty =
      record {
        until_taken = honest_until_taken;
        same_length = honest_same_length;
        good = λ h. tt;
        polled = λ h o q. let s = after (small top (honest top)) h in
            subst (λ (o : Op). T (is_answered_poll (event top taken (honest top) s o))) (sym q) (answered s s.bus.reset s.bus.resume s.bus.suspend);
        taken = λ h o q. subst (λ (o : Op). T (is_interrupt (event top taken (honest top) (after (small top (honest top)) h) o))) (sym q) tt;
        arrived = λ h e o q w. let s = after (small top (honest top)) h in
            subst (λ (o : Op). T (arrives_at e (event top taken (honest top) s o))) (sym q.2) (comes e (accepts top s e) (and_both (leb e top) (not (s.ready e)) (le→leb e top q.0) w));
        read = λ h e ep o q w. subst (λ (o : Op). T (takes top taken (honest top) (after (small top (honest top)) h) o e)) (sym q) (eqb_refl e);
      }

  refuser_lawful : Lawful (small top (refuses top)) (λ s. T true) (look top taken (refuses top))
  refuser_lawful = lawful top taken (refuses top) (λ s. same (taken s)) (idle top taken (refuses top)) (λ s e. tt)

  pub refuses_sentences : Sentences (small top (refuses top))
  refuses_sentences = sentences refuser_lawful (round_after refuser_lawful)
