-- The step laws: what each kind of event may change. All that the four sentences rest on: a machine that keeps them keeps the sentences.
-- Assumes nothing.
use Rattle.std.specs.Prelude.{◌≡◌, Bool, false, not, ◌||◌, ℕ, ◌≤◌, ◌<◌, T, eqb}
use Rattle.rounds.specs.Machine.{Event, arrival, interrupt, round, pause, quiet, Machine, arrives_at}
use Rattle.rounds.specs.Sentences.{Endpoint}

-- What the laws look at in a state, and the parameter of the last sentence: how many answered polls in a row may be no round.
pub record Look (M : Machine) : Type 0 where
  pub flag : M.State → ℕ → Bool  -- the endpoint's receive flag is up
  pub due : M.State → ℕ → Bool  -- its receive interrupt was raised and is not yet taken
  pub sent : M.State → ℕ → Bool  -- its transmit flag is up
  pub up : M.State → ℕ  -- how many flags are up that an answered poll reports and puts down before a round: of the driver, reset, resume and suspend
  pub most : ℕ  -- how many such flags there are

module _ {M : Machine} (L : Look M) where
  -- what holds at each of the endpoints 1 to the highest
  abbrev pub Each : (ℕ → Type 0) → Type 0
  Each P = (j : ℕ) → Endpoint M j → P j

  pub record SameReceive (s t : M.State) : Type 0 where
    pub flag : Each (λ j. L.flag t j ≡ L.flag s j)
    pub due : Each (λ j. L.due t j ≡ L.due s j)

  -- no more of the flags that are reported first are up than before
  abbrev pub Falls : M.State → M.State → Type 0
  Falls s t = L.up t ≤ L.up s

  pub record Quiet (s t : M.State) : Type 0 where
    pub receive : SameReceive s t
    pub sent : Each (λ j. L.sent t j ≡ L.sent s j)
    pub bus : Falls s t

  pub record Arrives (e : ℕ) (s t : M.State) : Type 0 where
    pub flag : Each (λ j. L.flag t j ≡ L.flag s j)
    pub due : Each (λ j. L.due t j ≡ (eqb j e || L.due s j))
    pub sent : Each (λ j. L.sent t j ≡ L.sent s j)
    pub bus : Falls s t

  pub record Takes (reads : ℕ → Bool) (s t : M.State) : Type 0 where
    pub flag : Each (λ j. L.flag t j ≡ (L.flag s j || L.due s j))
    pub due : Each (λ j. L.due t j ≡ false)
    pub sent : Each (λ j. L.sent t j ≡ (L.sent s j || reads j))

  -- a flag above i that was put down
  pub record PutDown (i : ℕ) (s t : M.State) : Type 0 where
    pub at : ℕ
    pub above : i < at
    pub high : at ≤ M.top
    pub was : T (L.flag s at)
    pub down : T (not (L.flag t at))

  pub record Rounds (out complete : ℕ → Bool) (s t : M.State) : Type 0 where
    -- it names what is still flagged, endpoint 0 too; no flag rises; that of a waiting packet stays; a flag that stays with
    -- nothing waiting means that a higher one was put down
    pub named : (i : ℕ) → i ≤ M.top → out i ≡ L.flag t i
    pub none_new : Each (λ j. T (L.flag t j) → T (L.flag s j))
    pub kept : Each (λ j. T (M.waiting s j) → T (L.flag s j) → T (L.flag t j))
    pub mistaken : (i : ℕ) → i ≤ M.top → T (L.flag t i) → T (not (M.waiting s i)) → PutDown i s t
    pub due : Each (λ j. L.due t j ≡ L.due s j)
    -- it names all that was flagged as sent, and puts those flags down
    pub sent : Each (λ j. complete j ≡ L.sent s j)
    pub wiped : Each (λ j. L.sent t j ≡ false)
    -- no flag was up that is reported first
    pub none_up : L.up s ≡ 0
    pub bus : Falls s t

  pub record Pauses (s t : M.State) : Type 0 where
    pub receive : SameReceive s t
    pub sent : Each (λ j. L.sent t j ≡ L.sent s j)
    -- it puts down one of the flags that are reported first
    pub less : L.up t < L.up s

  abbrev pub Does : M.State → Event → M.State → Type 0
  Does s (arrival e) t = Arrives e s t
  Does s (interrupt sent) t = Takes sent s t
  Does s (round named sent) t = Rounds named sent s t
  Does s pause t = Pauses s t
  Does s quiet t = Quiet s t

-- Good: what is kept through every history; the laws need hold of good states only.
pub record Lawful (M : Machine) (Good : M.State → Type 0) (L : Look M) : Type 0 where
  pub good_fresh : Good M.fresh
  pub good_step : (s : M.State) (o : M.Op) → Good s → Good (M.step s o)
  pub does : (s : M.State) (o : M.Op) → Good s → Does L s (M.event s o) (M.step s o)
  -- while a packet waits, no other arrives there
  pub one_place : (s : M.State) (o : M.Op) (e : ℕ) → Good s → T (M.waiting s e) → T (not (arrives_at e (M.event s o)))
  pub most : (s : M.State) → L.up s ≤ L.most
  -- a fresh state has every flag down and nothing due
  pub flag_fresh : (j : ℕ) → Endpoint M j → L.flag M.fresh j ≡ false
  pub due_fresh : (j : ℕ) → Endpoint M j → L.due M.fresh j ≡ false
  pub sent_fresh : (j : ℕ) → Endpoint M j → L.sent M.fresh j ≡ false
