-- An entry's line, as it stands in the lent buffer, with what its call gave.
-- Assumes nothing.
use Rattle.std.specs.Prelude.{ℕ, ◌<◌, ◌≤◌, ◌^◌, ◌≡◌, List, ◌∷◌, length, Err, Ok}
use Rattle.record.specs.Record.{Reply}
use Rattle.trace_rules.specs.Text.{Wrote}
use Rattle.trace_rules.specs.Lines.{line}
use Rattle.record.specs.declared.Record.{Record}
use Rattle.report_rules.specs.declared.Acted.{Acted}

-- "per entry its code, reply and values": r bytes at the front of the buffer, and all else as it was
pub record Shows (before after : List ℕ) (r code reply : ℕ) (values : List ℕ) : Type 0 where
  pub text : Wrote before after 0 r (line (code ∷ reply ∷ values))
  pub fits : r ≤ length before

-- what the program has of a call: its record, its count of stores, and its line
pub record Gives (before after : List ℕ) (r : Acted) (code : ℕ) (k : Record) (stores reply : ℕ) (values : List ℕ) : Type 0 where
  pub kept : r.«record» ≡ k
  pub counted : r.stores ≡ stores
  pub shown : Shows before after r.len code reply values

-- a length that is printed is one that the decimal writer takes
abbrev pub WriteFits : Reply ℕ → Type 0
WriteFits (Ok n) = n < 2 ^ 32
WriteFits (Err x) = Unit

-- and a read's is within its buffer
abbrev pub ReadFits : Reply ℕ → List ℕ → Type 0
ReadFits (Ok n) buf = (n ≤ length buf) × (n < 2 ^ 32)
ReadFits (Err x) buf = Unit
