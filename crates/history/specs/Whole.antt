-- Document 02, T-02: "A chart row was cut and we were told it was whole." What a fitter is promised in its place: a read that is done has given the whole
-- packet, and a packet that was too long for one buffer is there, whole, for the next. Proved in proofs/Whole.antt.
-- Assumes nothing.
use Rattle.std.specs.Prelude.{ℕ, ◌≤◌, ◌≡◌, not, List, ◌∷◌, ◌++◌, T, length, take, drop}
use Rattle.board.specs.declared.Direction.TheVariants.{Out}
use Rattle.record.specs.declared.Record.{Record}
use Rattle.record.specs.Record.{area_of}
use Rattle.calls.specs.Calls.{Op, read, arrival, Outcome, outcome, runs}
use Rattle.calls.specs.Kept.{Good}
use Rattle.calls.specs.Memory.{OneFifo, fifo_after_all}
use Rattle.rounds.specs.Machine.{Stays, taken}
use Rattle.rounds.specs.Sentences.{Endpoint}
use Rattle.control_state.specs.declared.ControlStateEnum.TheVariants.{DataOut}
use Rattle.history.specs.Driver.{length_at, driver}

-- the packet that waits at an endpoint: its length's bytes, from the start of the endpoint's own receive area in FIFO memory f
abbrev pub packet_at : Record → ℕ → List ℕ → List ℕ
packet_at k e f = take (length_at k e) (drop (area_of k e Out).start f)

-- what a read into the buffer x leaves where it gives a packet whole: it is done, says the packet's length and bytes, and has put them at the front of the
-- buffer; the rest of the buffer is as it was
pub record GivesWhole (packet x : List ℕ) (o : Outcome) : Type 0 where
  pub done : o.reply ≡ 0
  pub says : o.values ≡ length packet ∷ packet
  pub buffer : o.buf ≡ packet ++ drop (length packet) x

-- the packet is the one that waits at e, and FIFO memory holds every byte of it
pub record ReadsWhole (k : Record) (e : ℕ) (f x : List ℕ) (o : Outcome) : Type 0 where
  pub gives : GivesWhole (packet_at k e f) x o
  pub all : length (packet_at k e f) ≡ length_at k e

-- 1. "we were told it was whole": a read that is done gives all of the packet that waits. Of any record, at any endpoint, lent anything.
abbrev pub DoneIsWhole : Type 0
DoneIsWhole = (k : Record) (e : ℕ) (x f l : List ℕ) → (outcome k (read e x f l)).reply ≡ 0 → ReadsWhole k e f x (outcome k (read e x f l))

-- the next read at e, lent the buffer y, the list m, and FIFO memory as the operations h have left it
abbrev pub next_read : Record → ℕ → List ℕ → List Op → List ℕ → List ℕ → Outcome
next_read k e f h y m = outcome (runs k h) (read e y (fifo_after_all k f h) m)

-- 2. "refuse, keep the packet waiting, touch nothing, so that a second read with room gets all of it". At an endpoint of 1 to 5 (to the board's own last one) a
-- read is refused by 18; then come any calls and events, h, over one FIFO memory, none of which takes what waits at e; and then a read with room for the packet,
-- lent 128 stores. (That FIFO memory is long enough is known: the first read was not refused by 15.)
pub record TooShort (k : Record) (e : ℕ) (x f l : List ℕ) (h : List Op) (y m : List ℕ) : Type 0 where
  pub good : Good k
  pub endpoint : Endpoint (driver k.regs.board) e
  pub refused : (outcome k (read e x f l)).reply ≡ 18
  pub memory : OneFifo k f (read e x f l ∷ h)
  pub kept : T (not (taken (driver k.regs.board) e k (read e x f l ∷ h)))
  pub room : length_at k e ≤ length y
  pub list : 384 ≤ length m

abbrev pub SecondRead : Type 0
SecondRead =
    (k : Record) (e : ℕ) (x f l : List ℕ) (h : List Op) (y m : List ℕ) → TooShort k e x f l h y m
    → ReadsWhole k e f y (next_read k e f (read e x f l ∷ h) y m)

-- At endpoint 0, where 18 is given in DataOut: the packet waits in every record between, and the state is DataOut at the second read.
pub record TooShortAtZero (k : Record) (x f l : List ℕ) (h : List Op) (y m : List ℕ) : Type 0 where
  pub good : Good k
  pub refused : (outcome k (read 0 x f l)).reply ≡ 18
  pub memory : OneFifo k f (read 0 x f l ∷ h)
  pub still : Stays (driver k.regs.board) 0 k (read 0 x f l ∷ h)
  pub state : (runs k (read 0 x f l ∷ h)).control_state.state ≡ DataOut
  pub room : length_at k 0 ≤ length y
  pub list : 384 ≤ length m

abbrev pub SecondReadAtZero : Type 0
SecondReadAtZero =
    (k : Record) (x f l : List ℕ) (h : List Op) (y m : List ℕ) → TooShortAtZero k x f l h y m
    → ReadsWhole k 0 f y (next_read k 0 f (read 0 x f l ∷ h) y m)

-- 3. And the packet is what the host sent: the bytes b of an answered arrival, however many reads without room came between.
pub record Sent (k : Record) (e : ℕ) (b f : List ℕ) (h : List Op) (y m : List ℕ) : Type 0 where
  pub good : Good k
  pub endpoint : Endpoint (driver k.regs.board) e
  pub arrived : (outcome k (arrival e b f)).reply ≡ 0
  pub memory : OneFifo k f (arrival e b f ∷ h)
  pub kept : T (not (taken (driver k.regs.board) e k (arrival e b f ∷ h)))
  pub room : length b ≤ length y
  pub list : 384 ≤ length m

abbrev pub AsSent : Type 0
AsSent =
    (k : Record) (e : ℕ) (b f : List ℕ) (h : List Op) (y m : List ℕ) → Sent k e b f h y m
    → GivesWhole b y (next_read k e f (arrival e b f ∷ h) y m)
