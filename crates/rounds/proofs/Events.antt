-- Which event it was: what is shown of that kind holds of an event that passes its test.
-- Assumes nothing.
use mathlib.Core.Bool.{Bool}
use Prim.Native.Nat.{ℕ}
use lib.Dec.{T}
use Rattle.rounds.specs.Machine.{Event, arrival, interrupt, round, pause, quiet, is_round, is_interrupt, is_answered_poll, arrives}

module _ (P : Event → Type 0) where
  pub at_round : ((out complete : ℕ → Bool) → P (round out complete)) → (v : Event) → T (is_round v) → P v
  at_round f (arrival e) t = absurd t
  at_round f (interrupt reads) t = absurd t
  at_round f (round out complete) t = f out complete
  at_round f pause t = absurd t
  at_round f quiet t = absurd t

  pub at_interrupt : ((reads : ℕ → Bool) → P (interrupt reads)) → (v : Event) → T (is_interrupt v) → P v
  at_interrupt f (arrival e) t = absurd t
  at_interrupt f (interrupt reads) t = f reads
  at_interrupt f (round out complete) t = absurd t
  at_interrupt f pause t = absurd t
  at_interrupt f quiet t = absurd t

  pub at_poll : ((out complete : ℕ → Bool) → P (round out complete)) → P pause → (v : Event) → T (is_answered_poll v) → P v
  at_poll f g (arrival e) t = absurd t
  at_poll f g (interrupt reads) t = absurd t
  at_poll f g (round out complete) t = f out complete
  at_poll f g pause t = g
  at_poll f g quiet t = absurd t

  pub at_arrival : (which : ℕ → Bool) → ((e : ℕ) → T (which e) → P (arrival e)) → (v : Event) → T (arrives which v) → P v
  at_arrival which f (arrival e) t = f e t
  at_arrival which f (interrupt reads) t = absurd t
  at_arrival which f (round out complete) t = absurd t
  at_arrival which f pause t = absurd t
  at_arrival which f quiet t = absurd t
