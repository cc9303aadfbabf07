-- The customer's demands over the driver in one place, each under the customer's own words: who wants to know what is promised begins here.
-- Demand 2, "same answers, same records, same register stores in the same order as the Rust", can't name the Rust: each call's contract holds the code to its
-- definition, laws hold the definitions to the papers, and that they are what the Rust does, but for what document 02 changes, is compared, not proved (docs/PROMISES.md, 'Demand 2').
-- Assumes nothing.
use Rattle.std.specs.Prelude.{◌≡◌, not, List, [], ◌∷◌, ℕ, T, Ok}
use Rattle.board.specs.declared.Board.{Board}
use Rattle.board.specs.declared.Board.TheVariants.{Display}
use Rattle.record.specs.declared.Record.{Record}
use Rattle.round_rules.specs.declared.PollResult.TheVariants.{Suspend}
use Rattle.round_rules.specs.Poll.{poll_call}
use Rattle.calls.specs.Calls.{Op, poll}
use Rattle.calls.specs.Demand.{Answers}
use Rattle.rounds.specs.Machine.{is_round, is_answered_poll, is_interrupt, run, after, some}
use Rattle.rounds.specs.Sentences.{Sentences, StillThere, StillAsLong, NotEmpty}
use Rattle.history.specs.Driver.{event, driver, calls}

-- 1. "No input can stop it. Every public call takes any numbers and any lent memory, finishes, and refuses by a number from document 01. A refused call
-- leaves all as it was, except that WouldBlock has selected the endpoint and listed that store."
-- Of any record, and any call or event with any numbers and any lent memory. (That each finishes is its contract, which asks for nothing.)
abbrev pub Demand1 : Type 0
Demand1 = (k : Record) (o : Op) → Answers k o

-- 3. "Call an answered poll that is neither Reset, Resume nor Suspend a round. For endpoints 1 to 5, over any history from a fresh record: a packet still waiting,
-- whose receive interrupt was taken after it arrived, is named for reading in every round from then on. For each endpoint, rounds that name it for reading with
-- nothing waiting number at most the packets that arrived at higher endpoints. A round names one of 1 to 5 as sent exactly when an interrupt taken since the round
-- before, or the start, read its transmit bit as set. [..] of [four] answered polls with no interrupt taken between them the [fourth] is a round." (The last sentence as
-- document 02, T-06, has it: it "drops its premise about suspend and says the fourth of four polls is a round".)
pub record Demand3 (b : Board) : Type 0 where
  pub sentences : Sentences (driver b)
  -- beside them, so that no driver keeps them by refusing, or by throwing packets away: what must be answered is answered, and what arrived waits, as long as it
  -- was, until it is taken
  pub not_empty : NotEmpty (driver b) (calls b)
  pub still_there : StillThere (driver b)
  pub still_as_long : StillAsLong (driver b)

-- Document 02, T-06: "Mend it: reporting Suspend puts down the suspend flag [..]. Technicians close the lid between cranes and expect the download to go on when they open
-- it." So Suspend is told once: after a poll that says it, and until another interrupt is taken, every answered poll is a round. Over any history, for any board.
pub record Slept (b : Board) (h : List Op) (l : List ℕ) (k : List Op) (p : Op) : Type 0 where
  pub told : (poll_call (after (driver b) h) l).result.answer ≡ Ok Suspend
  pub between : T (not (some (driver b) is_interrupt (run (driver b) (after (driver b) h) (poll l ∷ [])) k))
  pub polled : T (is_answered_poll (event (run (driver b) (after (driver b) h) (poll l ∷ k)) p))

abbrev pub SuspendOnce : Board → Type 0
SuspendOnce b =
    (h : List Op) (l : List ℕ) (k : List Op) (p : Op) → Slept b h l k p → T (is_round (event (run (driver b) (after (driver b) h) (poll l ∷ k)) p))

-- "endpoints 1 to 5" are the display's
abbrev pub OneToFive : Type 0
OneToFive = (driver Display).top ≡ 5
