-- Document 02, T-11, "Late interrupts", over any operations: "The display team joins interrupts when the drawing loop is busy and wants to know it costs nothing."
-- Which interrupts may be left out, and that the record at the end and every answer on the way are the same without them.
-- Assumes nothing.
use Rattle.std.specs.Prelude.{◌≡◌, Bool, true, false, not, ◌&&◌, List, [], ◌∷◌, ◌++◌, ℕ, T}
use Rattle.register_file.specs.Registers.{Whole}
use Rattle.record.specs.declared.Record.{Record}
use Rattle.calls.specs.Calls.{Op, on_interrupt, Outcome, outcome, step, runs}
use Rattle.calls.specs.Kept.{Kind, stalling, polling, interrupting, plain, hosted, kind}

-- all that an operation answers and leaves in lent memory: its outcome without the record
pub record Answer : Type 0 where
  pub reply : ℕ
  pub values : List ℕ
  pub stores : ℕ
  pub fifo : List ℕ
  pub list : List ℕ
  pub buf : List ℕ

abbrev pub answer_of : Outcome → Answer
answer_of o = record { reply = o.reply; values = o.values; stores = o.stores; fifo = o.fifo; list = o.list; buf = o.buf }

-- a list that goes on with x, but for an interrupt's
abbrev pub unless_interrupt : {A : Type 0} → Kind → A → List A → List A
unless_interrupt interrupting x l = l
unless_interrupt stalling x l = x ∷ l
unless_interrupt polling x l = x ∷ l
unless_interrupt plain x l = x ∷ l
unless_interrupt hosted x l = x ∷ l

-- the answers from the record k on, but for those of interrupts, which say nothing of what came
abbrev pub answers : Record → List Op → List Answer
answers k [] = []
answers k (o ∷ h) = unless_interrupt (kind o) (answer_of (outcome k o)) (answers (step k o) h)

-- another interrupt comes, and no poll before it
abbrev pub soon_by : Kind → Bool → Bool
soon_by interrupting later = true
soon_by polling later = false
soon_by stalling later = later
soon_by plain later = later
soon_by hosted later = later

abbrev pub soon : List Op → Bool
soon [] = false
soon (o ∷ h) = soon_by (kind o) (soon h)

-- g is h with interrupts joined: some are left out, each where another still comes before any poll. Any calls and events may stand between.
pub data Joined : List Op → List Op → Type 0 where
  end : Joined [] []
  kept : {h g : List Op} (o : Op) → Joined h g → Joined (o ∷ h) (o ∷ g)
  out : {h g : List Op} → T (soon h) → Joined h g → Joined (on_interrupt ∷ h) g

-- from the record k on, h and g come to the same record, and every call and every event answers the same on the way
pub record Alike (k : Record) (h g : List Op) : Type 0 where
  pub «record» : runs k h ≡ runs k g
  pub answered : answers k h ≡ answers k g

-- So joining costs nothing: of every record, also of one that is refused with 16. (Every record of the code has a whole register file.)
abbrev pub CostsNothing : Type 0
CostsNothing = (k : Record) → Whole k.regs.words → (h g : List Op) → Joined h g → Alike k h g

-- What the display team does.

abbrev pub is_event : Kind → Bool
is_event hosted = true
is_event stalling = false
is_event polling = false
is_event interrupting = false
is_event plain = false

abbrev pub is_poll : Kind → Bool
is_poll polling = true
is_poll stalling = false
is_poll interrupting = false
is_poll plain = false
is_poll hosted = false

abbrev pub all : (Kind → Bool) → List Op → Bool
all test [] = true
all test (o ∷ h) = test (kind o) && all test h

-- Any host events, an interrupt, any host events, an interrupt leave the same record as all the events and one interrupt. (What comes before the first of them may be
-- anything: the sentence is of every record.)
abbrev pub TwoTurns : Type 0
TwoTurns =
    (k : Record) → Whole k.regs.words → (a b : List Op) → T (all is_event a) → T (all is_event b)
    → runs k (a ++ on_interrupt ∷ (b ++ on_interrupt ∷ [])) ≡ runs k (a ++ (b ++ on_interrupt ∷ []))

-- Any number of interrupts, any call but poll between them: the last alone leaves the same record as all.
abbrev pub without : List Op → List Op
without [] = []
without (o ∷ h) = unless_interrupt (kind o) o (without h)

abbrev pub LastAlone : Type 0
LastAlone =
    (k : Record) → Whole k.regs.words → (h : List Op) → T (all (λ x. not (is_poll x)) h) → runs k (h ++ on_interrupt ∷ []) ≡ runs k (without h ++ on_interrupt ∷ [])
