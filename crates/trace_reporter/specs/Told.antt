-- What a writer has got of a report.
-- Assumes nothing.
use Rattle.std.specs.Prelude.{ℕ, ◌≤◌, List, Option, length, take, drop, slice_range}
use Rattle.std.specs.Io.KnownBytes.{Appends}
use Rattle.report_rules.specs.Act.{State}
use Rattle.report_rules.specs.Report.{report_for}

-- Its bytes, where they are known, have grown by the report's from one place of it to another.
abbrev pub Told : State → List ℕ → Option (List ℕ) → Option (List ℕ) → ℕ → ℕ → Type 0
Told x s old new from past = Appends old new (slice_range (report_for x s) from past)

-- Known bytes have grown by a front part of bs: by all, some or none of it.
abbrev pub AppendsFront : Option (List ℕ) → Option (List ℕ) → List ℕ → Type 0
AppendsFront old new bs = (k : ℕ) × (k ≤ length bs) × Appends old new (take k bs)

-- .. by a front part of what the report has from a place of it on
abbrev pub LeftAt : State → List ℕ → Option (List ℕ) → Option (List ℕ) → ℕ → Type 0
LeftAt x s old new from = AppendsFront old new (drop from (report_for x s))
