-- Demand 3's four sentences over any machine, that a packet waits as it came until it is taken, and that the sentences are not empty.
-- Assumes nothing.
use Rattle.std.specs.Prelude.{◌≡◌, true, false, not, ◌&&◌, ◌||◌, List, ◌∷◌, ℕ, suc, ◌≤◌, T}
use Rattle.rounds.specs.Machine.{quiet, Machine, is_round, is_answered_poll, is_interrupt, reads_sent, names, names_sent, arrives_at, run, after, some, Stays, taken, false_namings, arrivals_above, ends_in_round}

module _ (M : Machine) where
  abbrev History : Type 0
  History = List M.Op

  -- "For endpoints 1 to 5, over any history from a fresh record": the highest endpoint is the machine's own.
  pub record Endpoint (e : ℕ) : Type 0 where
    pub low : 1 ≤ e
    pub high : e ≤ M.top

  -- 1. "a packet still waiting, whose receive interrupt was taken after it arrived, is named for reading in every round from then on"

  -- After h a packet arrived by a, an interrupt was taken somewhere in k, the packet is still waiting, and then p is a round.
  pub record StillWaits (e : ℕ) (h : History) (a : M.Op) (k : History) (p : M.Op) : Type 0 where
    pub arrived : T (arrives_at e (M.event (after M h) a))
    pub still : Stays M e (M.step (after M h) a) k
    pub taken : T (some M is_interrupt (M.step (after M h) a) k)
    pub polled : T (is_round (M.event (run M (after M h) (a ∷ k)) p))

  abbrev pub Named : Type 0
  Named =
      (e : ℕ) → Endpoint e → (h : History) (a : M.Op) (k : History) (p : M.Op)
      → StillWaits e h a k p → T (names e (M.event (run M (after M h) (a ∷ k)) p))

  -- Beside it: while a packet waits no other arrives there, so what waits at p is the packet that a brought.
  abbrev pub SamePacket : Type 0
  SamePacket = (e : ℕ) (h k : History) → Stays M e (after M h) k → T (not (some M (arrives_at e) (after M h) k))

  -- 2. "For each endpoint, rounds that name it for reading with nothing waiting number at most the packets that arrived at higher
  -- endpoints." Endpoint 0 too.
  abbrev pub FewFalse : Type 0
  FewFalse = (e : ℕ) → e ≤ M.top → (h : History) → false_namings M e M.fresh h ≤ arrivals_above M e M.fresh h

  -- 3. "A round names one of 1 to 5 as sent exactly when an interrupt taken since the round before, or the start, read its transmit
  -- bit as set."

  -- h is empty or ends in a round, k has no round, and then p is a round.
  pub record NextRound (h k : History) (p : M.Op) : Type 0 where
    pub since : T (ends_in_round M true M.fresh h)
    pub between : T (not (some M is_round (after M h) k))
    pub polled : T (is_round (M.event (run M (after M h) k) p))

  abbrev pub SentExactly : Type 0
  SentExactly =
      (e : ℕ) → Endpoint e → (h k : History) (p : M.Op)
      → NextRound h k p → names_sent e (M.event (run M (after M h) k) p) ≡ some M (reads_sent e) (after M h) k

  -- 4. "of [four] answered polls with no interrupt taken between them the [fourth] is a round" (document 02, T-06: the customer's sentence, of three
  -- polls, "drops its premise about suspend and says the fourth of four polls is a round")

  -- From s on there are n answered polls, each with more operations after it in which no interrupt is taken, and they lead to the last state.
  pub data Polls (s : M.State) : ℕ → M.State → Type 0 where
    none : Polls s 0 s
    more : {n : ℕ} {t : M.State} → Polls s n t → (p : M.Op) (k : History)
        → T (is_answered_poll (M.event t p)) → T (not (some M is_interrupt (M.step t p) k)) → Polls s (suc n) (run M t (p ∷ k))

  -- After n answered polls with no interrupt taken between them, or since the last, an answered poll is a round.
  abbrev pub RoundAfter : ℕ → Type 0
  RoundAfter n =
      (h : History) (t : M.State) (p : M.Op) → Polls (after M h) n t → T (is_answered_poll (M.event t p)) → T (is_round (M.event t p))

  abbrev pub FourthIsRound : Type 0
  FourthIsRound = RoundAfter 3

  -- Beside the four, or a driver that names every packet and throws it away would keep them: at first nothing waits, and then there
  -- waits at each endpoint what arrives there, until an answered operation takes it. No packet comes or goes in any other way.
  pub record UntilTaken : Type 0 where
    pub first : (e : ℕ) → Endpoint e → M.waiting M.fresh e ≡ false
    pub each :
        (e : ℕ) → Endpoint e → (h : History) (o : M.Op)
        → M.waiting (M.step (after M h) o) e
        ≡ (arrives_at e (M.event (after M h) o) || (M.waiting (after M h) e && not (M.takes (after M h) o e)))
    -- What takes is no poll, no interrupt and no arrival, or a machine could call its polls takers.
    pub takers : (e : ℕ) → Endpoint e → (h : History) (o : M.Op) → T (M.takes (after M h) o e) → M.event (after M h) o ≡ quiet

  -- So a packet that arrived, and that nothing has taken since, is still waiting: sentence 1's premise `still` holds of it.
  abbrev pub StillThere : Type 0
  StillThere =
      (e : ℕ) → Endpoint e → (h : History) (a : M.Op) (k : History)
      → T (arrives_at e (M.event (after M h) a)) → T (not (taken M e (M.step (after M h) a) k)) → Stays M e (M.step (after M h) a) k

  -- And beside that, or a driver that leaves nothing of a waiting packet but its ready bit would keep all of the above: what waits has the
  -- length that it arrived with, until it is taken.
  pub record SameLength : Type 0 where
    pub arrived :
        (e : ℕ) → Endpoint e → (h : History) (o : M.Op)
        → T (arrives_at e (M.event (after M h) o)) → M.length (M.step (after M h) o) e ≡ M.brings o
    pub waits :
        (e : ℕ) → Endpoint e → (h : History) (o : M.Op)
        → T (M.waiting (after M h) e) → T (not (M.takes (after M h) o e)) → M.length (M.step (after M h) o) e ≡ M.length (after M h) e

  -- So a packet that arrived, and that nothing has taken since, is as long as it was.
  abbrev pub StillAsLong : Type 0
  StillAsLong =
      (e : ℕ) → Endpoint e → (h : History) (a : M.Op) (k : History)
      → T (arrives_at e (M.event (after M h) a)) → T (not (taken M e (M.step (after M h) a) k)) → M.length (run M (after M h) (a ∷ k)) e ≡ M.brings a

  pub record Sentences : Type 0 where
    pub named : Named
    pub same_packet : SamePacket
    pub few_false : FewFalse
    pub sent_exactly : SentExactly
    pub fourth_is_round : FourthIsRound

-- That the sentences are not empty. Which operations are lent enough, and which states are good, is for each machine to say.
pub record Calls (M : Machine) : Type 1 where
  pub Good : M.State → Type 0  -- the record passes the test of reply 16
  pub Poll : M.Op → Type 0  -- a poll that is lent enough
  pub Interrupt : M.Op → Type 0  -- an interrupt
  pub Arrival : M.State → ℕ → M.Op → Type 0  -- an arrival at an endpoint, of a packet that fits there, lent enough
  pub Read : M.State → ℕ → M.Op → Type 0  -- a read at an endpoint, lent enough

module _ (M : Machine) (C : Calls M) where
  pub record NotEmpty : Type 0 where
    -- what arrived waits until it is taken, and is as long as it was
    pub until_taken : UntilTaken M
    pub same_length : SameLength M
    -- every record of a history is good
    pub good : (h : List M.Op) → C.Good (after M h)
    -- a poll that is lent enough is answered
    pub polled : (h : List M.Op) (o : M.Op) → C.Poll o → T (is_answered_poll (M.event (after M h) o))
    -- every interrupt is answered
    pub taken : (h : List M.Op) (o : M.Op) → C.Interrupt o → T (is_interrupt (M.event (after M h) o))
    -- an arrival that fits, where none waits, lent enough, is answered
    pub arrived : (h : List M.Op) (e : ℕ) (o : M.Op) → C.Arrival (after M h) e o → T (not (M.waiting (after M h) e)) → T (arrives_at e (M.event (after M h) o))
    -- a read where a packet waits, lent enough, is answered, and takes it
    pub read : (h : List M.Op) (e : ℕ) → Endpoint M e → (o : M.Op) → C.Read (after M h) e o → T (M.waiting (after M h) e) → T (M.takes (after M h) o e)
