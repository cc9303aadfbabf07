-- Document 02, T-11: the display team "joins interrupts when the drawing loop is busy and wants to know it costs nothing", in the words of demand 3, over any history of
-- any board.
-- Assumes nothing.
use Rattle.std.specs.Prelude.{◌≡◌, cond, List, [], ◌∷◌, ℕ}
use Rattle.board.specs.declared.Board.{Board}
use Rattle.round_rules.specs.Poll.{poll_call}
use Rattle.calls.specs.Calls.{Op}
use Rattle.calls.specs.Late.{Joined}
use Rattle.rounds.specs.Machine as rounds
use Rattle.rounds.specs.Machine.{Event, Machine, is_round, run}
use Rattle.history.specs.Driver.{event, driver}

-- the rounds of the operations h from s on, in their order: each with the endpoints that it names for reading, and those that it names as sent
abbrev pub rounds_from : (M : Machine) → M.State → List M.Op → List Event
rounds_from M s [] = []
rounds_from M s (o ∷ h) = cond (is_round (M.event s o)) (M.event s o ∷ rounds_from M (M.step s o) h) (rounds_from M (M.step s o) h)

-- g is the history h with interrupts joined
pub record JoinedCostsNothing (b : Board) (h g : List Op) : Type 0 where
  -- Joining interrupts changes no round that comes after the last of them: whatever operations k come next, p is the same round after both, or after neither a round
  pub after : (k : List Op) (p : Op) → event (run (driver b) (rounds.after (driver b) h) k) p ≡ event (run (driver b) (rounds.after (driver b) g) k) p
  -- nor any other part of a poll's answer, Reset, Resume, Suspend and the Setup mask among them
  pub answer :
      (k : List Op) (l : List ℕ)
      → (poll_call (run (driver b) (rounds.after (driver b) h) k) l).result.answer ≡ (poll_call (run (driver b) (rounds.after (driver b) g) k) l).result.answer
  -- nor any round on the way: both histories have the same rounds, one by one
  pub on_the_way : rounds_from (driver b) (driver b).fresh h ≡ rounds_from (driver b) (driver b).fresh g

abbrev pub LateCostsNothing : Board → Type 0
LateCostsNothing b = (h g : List Op) → Joined h g → JoinedCostsNothing b h g
