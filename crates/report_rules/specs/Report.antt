-- The report of a whole trace, and one step of it. Document 01, 'Event trace'.
-- Assumes nothing.
use Rattle.std.specs.Prelude.{ℕ, zero, suc, ◌-◌, ◌≤◌, ◌<◌, List, [], ◌∷◌, ◌++◌, cond, leb, length, replicate}
use Rattle.std.proofs.lemmas.List.Edits.{sets}
use Rattle.record.specs.declared.Record.{Record}
use Rattle.record.specs.Record.{need_of}
use Rattle.trace_rules.specs.Lines.{line, header, end_line, bad_line}
use Rattle.trace_rules.specs.declared.Entry.{Entry}
use Rattle.trace_rules.specs.declared.Parsed.{Parsed}
use Rattle.trace_rules.specs.declared.Parsed.TheVariants as parsed
use Rattle.trace_rules.specs.Entries.{code_of, entry_at}
use Rattle.report_rules.specs.Act.{State, state, EntryOutcome, acted}
use Rattle.report_rules.specs.declared.Came.{Came}
use Rattle.report_rules.specs.declared.Came.TheVariants.{Line, End, Bad}
use Rattle.report_rules.specs.declared.Stepped.{Stepped}

-- "per entry its code, reply and values in decimal"; "A refused entry prints code and reply only"
unfoldable pub line_of : Entry → EntryOutcome → List ℕ
line_of e o = line (code_of e ∷ o.reply ∷ o.values)

-- What stands under an entry's line, by the state after the entry and the count of its stores: in the report nothing, in the detailed report
-- (trace_reporter Detailed.`under`) its stores and its record.
abbrev pub nothing : State → ℕ → List ℕ
nothing y stores = []

-- The report from a place on, by what stands there. n entries came before, and `rest` is the report after this one.
-- "An entry cut short, .. prints `bad` and the offset of its first byte, and nothing after it".
abbrev pub report_by : (State → ℕ → List ℕ) → (ℕ → State → List ℕ) → List ℕ → ℕ → ℕ → State → Parsed → List ℕ
report_by u rest s at n x (parsed.Found e past) =
    line_of e (acted s e x) ++ (u (acted s e x).state (acted s e x).stores ++ rest past (acted s e x).state)
report_by u rest s at n x parsed.End = end_line n
report_by u rest s at n x parsed.Bad = bad_line at

-- at most so many entries
unfoldable pub report_from : (State → ℕ → List ℕ) → ℕ → List ℕ → ℕ → ℕ → State → List ℕ
report_from u zero s at n x = []
report_from u (suc most) s at n x = report_by u (λ past y. report_from u most s past (suc n) y) s at n x (entry_at s at)

-- an entry has at least one byte, so that the bytes that are left bound the entries
unfoldable pub rest_with : (State → ℕ → List ℕ) → List ℕ → ℕ → ℕ → State → List ℕ
rest_with u s at n x = report_from u (suc (length s - at)) s at n x

abbrev pub rest_of : List ℕ → ℕ → ℕ → State → List ℕ
rest_of s at n x = rest_with nothing s at n x

-- "at most 65,536 bytes"; "input too long prints the header and `bad 65536`"
unfoldable pub report_with : (State → ℕ → List ℕ) → State → List ℕ → List ℕ
report_with u x s = header ++ cond (leb (length s) 65536) (rest_with u s 0 0 x) (bad_line 65536)

abbrev pub report_for : State → List ℕ → List ℕ
report_for x s = report_with nothing x s

-- where a trace begins: a record and FIFO memory, with a store list of zeros
abbrev pub beginning : Record → List ℕ → State
beginning k f = state k f (replicate 384 0)

-- .. and where nothing else is told, FIFO memory of zeros
abbrev pub begun : Record → State
begun k = beginning k (replicate (need_of k) 0)

-- the report of a trace from a record on
abbrev pub report_of : Record → List ℕ → List ℕ
report_of k s = report_for (begun k) s

-- all that a step leaves: what it gives back, the FIFO buffer, the store list, and the buffer with the line
pub record StepOutcome : Type 0 where
  pub result : Stepped
  pub fifo : List ℕ
  pub list : List ℕ
  pub line : List ℕ

abbrev pub stepped : Stepped → List ℕ → List ℕ → List ℕ → StepOutcome
stepped r f l b = record { result = r; fifo = f; list = l; line = b }

abbrev pub leaving : State → Came → ℕ → List ℕ → StepOutcome
leaving x c n b = stepped (record { «record» = x.«record»; came = c; stores = n }) x.fifo x.list b

-- an entry's line stands at the front of the buffer; the end and a bad entry leave all as it was
abbrev pub step_by : List ℕ → State → List ℕ → Parsed → StepOutcome
step_by s x b (parsed.Found e past) =
    leaving (acted s e x).state (Line (length (line_of e (acted s e x))) past) (acted s e x).stores (sets b 0 (line_of e (acted s e x)))
step_by s x b parsed.End = leaving x End 0 b
step_by s x b parsed.Bad = leaving x Bad 0 b

unfoldable pub step_of : List ℕ → ℕ → State → List ℕ → StepOutcome
step_of s at x b = step_by s x b (entry_at s at)

-- what a program needs to go on: the line lies in its buffer, and the next place is past this one and inside the trace
abbrev pub Moves : List ℕ → ℕ → List ℕ → Came → Type 0
Moves s at b (Line len past) = (len ≤ length b) × (at < past) × (past ≤ length s)
Moves s at b End = Unit
Moves s at b Bad = Unit
