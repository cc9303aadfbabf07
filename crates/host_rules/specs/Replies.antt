-- Document 01's table of replies, the rows of the host's events, and what is promised of their answers.
-- Assumes nothing.
use Rattle.std.specs.Prelude.{ℕ, ◌≤◌, ◌<◌, ◌≡◌, ◌⊎◌, true, false, List, [], ◌∷◌, Ok}
use Rattle.board.specs.declared.Span.{Span}
use Rattle.record.specs.declared.Answered.{Answered}
use Rattle.board.specs.declared.Direction.TheVariants.{Out, In}
use Rattle.register_file.specs.Registers.{side_at}
use Rattle.record.specs.declared.Record.{Record}
use Rattle.record.specs.Record.{endpoints_of, area_of, need_of, SoundRecord, reply_number, Reply}
use Rattle.record.specs.Rows.{Row, row, Replies}
use Rattle.host_rules.specs.Host.{Arrival, collect_number}

-- the rows of each event, in document 01's order, "15, 16, 8, then .. arrival 9, 17". What is not at an endpoint:
abbrev pub plain_rows : Record → List Row
plain_rows k = row 16 (SoundRecord k → ⊥) ∷ []

-- "endpoint 6 or more .. (underrun, overrun: also 0)": the board's own last endpoint is the highest
abbrev pub miss_rows : Record → ℕ → List Row
miss_rows k e = row 16 (SoundRecord k → ⊥) ∷ row 8 ((e ≡ 0) ⊎ (endpoints_of k ≤ e)) ∷ []

-- n bytes arrive, and m bytes of FIFO memory are lent: "FIFO buffer under 1,664 bytes" (what the board needs), "arrival longer than its area",
-- "arrival while one waits"
abbrev pub arrival_rows : Record → ℕ → ℕ → ℕ → List Row
arrival_rows k e n m =
    row 15 (m < need_of k)
    ∷ row 16 (SoundRecord k → ⊥)
    ∷ row 8 (endpoints_of k ≤ e)
    ∷ row 9 ((area_of k e Out).size < n)
    ∷ row 17 ((side_at k.regs.words e Out).ready ≡ true)
    ∷ []

-- "collection with none"
abbrev pub collection_rows : Record → ℕ → ℕ → List Row
collection_rows k e m =
    row 15 (m < need_of k)
    ∷ row 16 (SoundRecord k → ⊥)
    ∷ row 8 (endpoints_of k ≤ e)
    ∷ row 17 ((side_at k.regs.words e In).ready ≡ false)
    ∷ []

-- an event's answer: its number is given exactly when its row is the first that holds, 0 where none does; a refused event leaves the record as
-- it was
pub record Answers (a : Answered (Reply Unit)) (k : Record) (rs : List Row) : Type 0 where
  pub replies : Replies (reply_number a.answer) rs
  pub unchanged : (reply_number a.answer ≡ 0 → ⊥) → a.«record» ≡ k

-- arrival: its event answers as the others do, and the FIFO buffer of a refused one stays
pub record Arrives (o : Arrival) (k : Record) (f : List ℕ) (rs : List Row) : Type 0 where
  pub event : Answers o.event k rs
  pub kept : (reply_number o.event.answer ≡ 0 → ⊥) → o.fifo ≡ f

-- collection, whose answer has values: "the packet's place in the FIFO buffer and its length"
pub record Collects (a : Answered (Reply Span)) (k : Record) (rs : List Row) (start len : ℕ) : Type 0 where
  pub replies : Replies (collect_number a.answer) rs
  pub value : collect_number a.answer ≡ 0 → a.answer ≡ Ok (record { start = start; size = len })
  pub unchanged : (collect_number a.answer ≡ 0 → ⊥) → a.«record» ≡ k
