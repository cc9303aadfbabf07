-- Machines that are polled, their histories, and the words in which demand 3 speaks of them.
-- Assumes nothing.
use Rattle.std.specs.Prelude.{Bool, true, false, not, ◌&&◌, ◌||◌, ℕ, ◌+◌, T, ltb, eqb}
use mathlib.Core.List.{List, [], ◌∷◌, foldl}

-- What happened in one step of a history. A refused poll, interrupt or arrival is nothing: `quiet`.
pub data Event : Type 0 where
  arrival : ℕ → Event  -- a packet arrived at an endpoint
  interrupt : (ℕ → Bool) → Event  -- an interrupt was taken: the transmit bits that it read
  round : (ℕ → Bool) → (ℕ → Bool) → Event  -- a poll was answered None or Data: the endpoints named for reading, and as sent
  pause : Event  -- a poll was answered Reset, Resume or Suspend
  quiet : Event  -- anything else

-- A history is a list of operations: calls and host events, with whatever they are lent.
pub record Machine : Type 1 where
  pub top : ℕ  -- the highest endpoint; demand 3 speaks of 1 to this one
  pub State : Type 0
  pub Op : Type 0
  pub fresh : State
  pub step : State → Op → State
  pub event : State → Op → Event
  pub waiting : State → ℕ → Bool  -- the endpoint's RxPktRdy is set: a packet waits there, an empty one too
  pub length : State → ℕ → ℕ  -- how many bytes the packet has that waits there
  pub takes : State → Op → ℕ → Bool  -- the operation is answered, and takes what waits at the endpoint
  pub brings : Op → ℕ  -- how many bytes an arrival carries

-- a round: "an answered poll that is neither Reset, Resume nor Suspend"
abbrev pub is_round : Event → Bool
is_round (arrival e) = false
is_round (interrupt sent) = false
is_round (round named sent) = true
is_round pause = false
is_round quiet = false

abbrev pub is_answered_poll : Event → Bool
is_answered_poll (arrival e) = false
is_answered_poll (interrupt sent) = false
is_answered_poll (round named sent) = true
is_answered_poll pause = true
is_answered_poll quiet = false

-- an interrupt was taken
abbrev pub is_interrupt : Event → Bool
is_interrupt (arrival e) = false
is_interrupt (interrupt sent) = true
is_interrupt (round named sent) = false
is_interrupt pause = false
is_interrupt quiet = false

-- an interrupt that read e's transmit bit as set
abbrev pub reads_sent : ℕ → Event → Bool
reads_sent e (arrival a) = false
reads_sent e (interrupt sent) = sent e
reads_sent e (round named sent) = false
reads_sent e pause = false
reads_sent e quiet = false

-- a round that names e for reading, and one that names e as sent
abbrev pub names : ℕ → Event → Bool
names e (arrival a) = false
names e (interrupt sent) = false
names e (round named sent) = named e
names e pause = false
names e quiet = false

abbrev pub names_sent : ℕ → Event → Bool
names_sent e (arrival a) = false
names_sent e (interrupt sent) = false
names_sent e (round named sent) = sent e
names_sent e pause = false
names_sent e quiet = false

-- a packet arrived whose endpoint passes a test
abbrev pub arrives : (ℕ → Bool) → Event → Bool
arrives which (arrival a) = which a
arrives which (interrupt sent) = false
arrives which (round named sent) = false
arrives which pause = false
arrives which quiet = false

abbrev pub arrives_at : ℕ → Event → Bool
arrives_at e = arrives (λ a. eqb a e)

abbrev pub arrives_above : ℕ → Event → Bool
arrives_above e = arrives (λ a. ltb e a)

abbrev pub count : Bool → ℕ
count true = 1
count false = 0

module _ (M : Machine) where
  -- the state after more operations, and after a whole history
  abbrev pub run : M.State → List M.Op → M.State
  run = foldl M.step

  abbrev pub after : List M.Op → M.State
  after = run M.fresh

  -- some event of the operations k from s on passes a test
  abbrev pub some : (Event → Bool) → M.State → List M.Op → Bool
  some test s [] = false
  some test s (o ∷ k) = test (M.event s o) || some test (M.step s o) k

  -- a packet waits at e in s and after every operation of k
  abbrev pub Stays : ℕ → M.State → List M.Op → Type 0
  Stays e s [] = T (M.waiting s e)
  Stays e s (o ∷ k) = T (M.waiting s e) × Stays e (M.step s o) k

  -- some operation of k from s on takes what waits at e
  abbrev pub taken : ℕ → M.State → List M.Op → Bool
  taken e s [] = false
  taken e s (o ∷ k) = M.takes s o e || taken e (M.step s o) k

  -- how many rounds name e for reading with nothing waiting there just before
  abbrev pub false_namings : ℕ → M.State → List M.Op → ℕ
  false_namings e s [] = 0
  false_namings e s (o ∷ k) = count (names e (M.event s o) && not (M.waiting s e)) + false_namings e (M.step s o) k

  -- how many packets arrived at endpoints above e
  abbrev pub arrivals_above : ℕ → M.State → List M.Op → ℕ
  arrivals_above e s [] = 0
  arrivals_above e s (o ∷ k) = count (arrives_above e (M.event s o)) + arrivals_above e (M.step s o) k

  -- the last of the operations k from s on was a round; of no operations, what `first` says
  abbrev pub ends_in_round : Bool → M.State → List M.Op → Bool
  ends_in_round first s [] = first
  ends_in_round first s (o ∷ k) = ends_in_round (is_round (M.event s o)) (M.step s o) k
