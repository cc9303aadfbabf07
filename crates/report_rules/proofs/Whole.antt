-- The header, the steps' lines, each with what stands under it, and the last line, joined, are the report.
-- Assumes nothing.
use Prim.Native.Nat.{ℕ, zero, suc, ◌+◌, ◌-◌, ◌≤◌, ◌<◌}
use native.Mathlib.Omega.{arith}
use mathlib.Core.Path.{◌≡◌, refl, sym, ap, ◌∙◌}
use mathlib.Core.List.{List, [], ◌++◌, append-nil, append_assoc}
use borrow.Author.Tests.{le-leb, lt-leb}
use lib.ListN.{length, take, drop, length-append}
use lib.Seq.{take-append_seam, drop_at}
use Rattle.trace_rules.specs.Lines.{header, end_line, bad_line}
use Rattle.trace_rules.proofs.Appended.{front}
use Rattle.trace_rules.specs.declared.Entry.{Entry}
use Rattle.trace_rules.specs.declared.Parsed.{Parsed}
use Rattle.trace_rules.specs.declared.Parsed.TheVariants.{Found, End, Bad}
use Rattle.trace_rules.specs.Entries.{entry_at}
use Rattle.trace_rules.proofs.Inside.{moves}
use Rattle.report_rules.specs.Act.{State, state, acted}
use Rattle.report_rules.specs.declared.Came.{Came}
use Rattle.report_rules.specs.declared.Came.TheVariants as came
use Rattle.report_rules.specs.declared.Stepped.{Stepped}
use Rattle.report_rules.specs.Report.{line_of, nothing, report_by, report_from, rest_with, rest_of, report_with, report_for, StepOutcome, stepped, step_by, step_of}
use Rattle.report_rules.specs.Runs.{Took, Reached, begins, goes, Has, Completes}

-- how many entries are allowed does not matter where the bytes that are left are fewer
enough : (u : State → ℕ → List ℕ) (m m' : ℕ) (s : List ℕ) (at n : ℕ) (x : State) → at ≤ length s → length s < m + at → length s < m' + at → report_from u m s at n x ≡ report_from u m' s at n x
unfolding report_from
enough u zero m' s at n x h i j = absurd (omega arith)
enough u (suc m) zero s at n x h i j = absurd (omega arith)
enough u (suc m) (suc m') s at n x h i j = go (entry_at s at) refl (λ past y p q r. enough u m m' s past (suc n) y p q r)
  where
    go : (p : Parsed) → p ≡ entry_at s at
        → ((past : ℕ) (y : State) → past ≤ length s → length s < m + past → length s < m' + past → report_from u m s past (suc n) y ≡ report_from u m' s past (suc n) y)
        → report_by u (λ past y. report_from u m s past (suc n) y) s at n x p ≡ report_by u (λ past y. report_from u m' s past (suc n) y) s at n x p
    go (Found e past) is rec =
        let o = moves s at (Found e past) is e past refl in
        let a = acted s e x in
        ap (λ (t : List ℕ). line_of e a ++ (u a.state a.stores ++ t)) (rec past a.state o.1 (omega (arith, i, o.0)) (omega (arith, j, o.0)))
    go End is rec = refl
    go Bad is rec = refl

module _ (u : State → ℕ → List ℕ) (s : List ℕ) (at n : ℕ) (x : State) where
  -- an entry's line with what stands under it, and the report from the next place on
  pub goes_on : (e : Entry) (past : ℕ) → entry_at s at ≡ Found e past
      → rest_with u s at n x ≡ line_of e (acted s e x) ++ (u (acted s e x).state (acted s e x).stores ++ rest_with u s past (suc n) (acted s e x).state)
  unfolding rest_with report_from
  goes_on e past is =
      let o = moves s at (entry_at s at) refl e past is in
      let a = acted s e x in
      ap (report_by u (λ next y. report_from u (length s - at) s next (suc n) y) s at n x) is
      ∙ ap (λ (t : List ℕ). line_of e a ++ (u a.state a.stores ++ t))
      (enough u (length s - at) (suc (length s - past)) s past (suc n) a.state o.1 (omega (arith, o.0, o.1)) (omega (arith, o.1)))

  pub ends : entry_at s at ≡ End → rest_with u s at n x ≡ end_line n
  unfolding rest_with report_from
  ends is = ap (report_by u (λ next y. report_from u (length s - at) s next (suc n) y) s at n x) is

  pub stops : entry_at s at ≡ Bad → rest_with u s at n x ≡ bad_line at
  unfolding rest_with report_from
  stops is = ap (report_by u (λ next y. report_from u (length s - at) s next (suc n) y) s at n x) is

pub line_not_end : {len past : ℕ} → came.Line len past ≡ came.End → ⊥
line_not_end e = let z : ◌≡◌ {A = ℕ} 0 1 = cc in omega arith

pub line_not_bad : {len past : ℕ} → came.Line len past ≡ came.Bad → ⊥
line_not_bad e = let z : ◌≡◌ {A = ℕ} 0 1 = cc in omega arith

end_not_bad : came.End ≡ came.Bad → ⊥
end_not_bad e = let z : ◌≡◌ {A = ℕ} 0 1 = cc in omega arith

-- what a step says of the report: by what stood at its place
module _ (u : State → ℕ → List ℕ) (s : List ℕ) (at n : ℕ) (x : State) (r : Stepped) (f l before after : List ℕ) (is : stepped r f l after ≡ step_of s at x before) where
  came_is : (p : Parsed) {c : Came} → stepped r f l after ≡ step_by s x before p → r.came ≡ c → c ≡ (step_by s x before p).result.came
  came_is p w c = sym c ∙ ap (λ (o : StepOutcome). o.result.came) w

  pub step_line : (len past : ℕ) → r.came ≡ came.Line len past → len ≤ length before
      → rest_with u s at n x ≡ take len after ++ (u (state r.«record» f l) r.stores ++ rest_with u s past (suc n) (state r.«record» f l))
  unfolding step_of
  step_line len past c h = go (entry_at s at) refl is
    where
      go : (p : Parsed) → entry_at s at ≡ p → stepped r f l after ≡ step_by s x before p
          → rest_with u s at n x ≡ take len after ++ (u (state r.«record» f l) r.stores ++ rest_with u s past (suc n) (state r.«record» f l))
      go (Found e next) q w =
          let t = line_of e (acted s e x) in
          let same : came.Line len past ≡ came.Line (length t) next = came_is (Found e next) w c in
          let size : len ≡ length t = cc in
          let place : past ≡ next = cc in
          let text : take len after ≡ t = front (record { count = size ∙ omega arith; bytes = ap (λ (o : StepOutcome). o.line) w }) h in
          goes_on u s at n x e next q
          ∙ (λ i. sym text i ++ (sym (λ j. u (state (w j).result.«record» (w j).fifo (w j).list) (w j).result.stores) i
          ++ rest_with u s (sym place i) (suc n) (sym (λ j. state (w j).result.«record» (w j).fifo (w j).list) i)))
      go End q w = absurd (line_not_end (came_is End w c))
      go Bad q w = absurd (line_not_bad (came_is Bad w c))

  pub step_end : r.came ≡ came.End → rest_with u s at n x ≡ end_line n
  unfolding step_of
  step_end c = go (entry_at s at) refl is
    where
      go : (p : Parsed) → entry_at s at ≡ p → stepped r f l after ≡ step_by s x before p → rest_with u s at n x ≡ end_line n
      go (Found e next) q w = absurd (line_not_end (sym (came_is (Found e next) w c)))
      go End q w = ends u s at n x q
      go Bad q w = absurd (end_not_bad (came_is Bad w c))

  pub step_bad : r.came ≡ came.Bad → rest_with u s at n x ≡ bad_line at
  unfolding step_of
  step_bad c = go (entry_at s at) refl is
    where
      go : (p : Parsed) → entry_at s at ≡ p → stepped r f l after ≡ step_by s x before p → rest_with u s at n x ≡ bad_line at
      go (Found e next) q w = absurd (line_not_bad (sym (came_is (Found e next) w c)))
      go End q w = absurd (end_not_bad (sym (came_is End w c)))
      go Bad q w = stops u s at n x q

-- the lines that are written, and the report from here on
pub reached : {s : List ℕ} {x₀ : State} {text : List ℕ} {at n : ℕ} {x : State} → Reached s x₀ text at n x → rest_of s 0 0 x₀ ≡ text ++ rest_of s at n x
reached begins = refl
reached {s} (goes text at n x r f l after len past p t c) =
    reached p ∙ ap (λ (u : List ℕ). text ++ u) (step_line nothing s at n x r f l t.before after t.outcome len past c (t.fits len past c))
    ∙ sym (append_assoc text (take len after) (rest_of s past (suc n) (state r.«record» f l)))

-- bytes of the report that stand after others
there : (x : State) (s before bytes rest : List ℕ) {place : ℕ} → place ≡ length before → before ++ (bytes ++ rest) ≡ report_for x s → Has x s place bytes
there x s before bytes rest {place} n e = record {
  stands = ap (λ (r : List ℕ). take (length bytes) (drop place r)) (sym e) ∙ ap (take (length bytes)) (drop_at before (bytes ++ rest) place (sym n))
      ∙ take-append_seam bytes rest;
}

last_there : (x : State) (s before last : List ℕ) {place : ℕ} → place ≡ length before → before ++ last ≡ report_for x s → Completes x s place last
last_there x s before last {place} n e = record {
  has = there x s before last [] n (ap (λ (t : List ℕ). before ++ t) (append-nil last) ∙ e);
  whole = ap (λ (m : ℕ). m + length last) n ∙ sym (length-append before last) ∙ ap length e;
}

-- every report begins with the header
pub begins_with : (x : State) (s : List ℕ) → Has x s 0 header
unfolding report_with
begins_with x s = there x s [] header _ refl refl

-- Every input of at most 65,536 bytes: a step's line is the report's next, after the header and the lines that were written; and so is the last.
module _ (x₀ : State) (s : List ℕ) (short : length s ≤ 65536) {text : List ℕ} {at n : ℕ} {x : State} (p : Reached s x₀ text at n x) {place : ℕ} (here : place ≡ length (header ++ text)) where
  so_far : (header ++ text) ++ rest_of s at n x ≡ report_for x₀ s
  unfolding report_with
  so_far = append_assoc header text (rest_of s at n x) ∙ rw (le-leb _ _ short) (ap (λ (t : List ℕ). header ++ t) (sym (reached p)))

  module _ {r : Stepped} {f l after : List ℕ} (t : Took s at x r f l after) where
    pub lined : (len past : ℕ) → r.came ≡ came.Line len past → Has x₀ s place (take len after)
    lined len past c =
        there x₀ s (header ++ text) (take len after) (rest_of s past (suc n) (state r.«record» f l)) here
        (ap (λ (u : List ℕ). (header ++ text) ++ u) (sym (step_line nothing s at n x r f l t.before after t.outcome len past c (t.fits len past c))) ∙ so_far)

    pub ended : r.came ≡ came.End → Completes x₀ s place (end_line n)
    ended c = last_there x₀ s (header ++ text) (end_line n) here
        (ap (λ (u : List ℕ). (header ++ text) ++ u) (sym (step_end nothing s at n x r f l t.before after t.outcome c)) ∙ so_far)

    pub stopped : r.came ≡ came.Bad → Completes x₀ s place (bad_line at)
    stopped c = last_there x₀ s (header ++ text) (bad_line at) here
        (ap (λ (u : List ℕ). (header ++ text) ++ u) (sym (step_bad nothing s at n x r f l t.before after t.outcome c)) ∙ so_far)

-- and every longer one
pub too_long : (x : State) (s : List ℕ) → 65536 < length s → Completes x s (length header) (bad_line 65536)
unfolding report_with
too_long x s h = last_there x s header (bad_line 65536) refl (rw (lt-leb _ _ h) refl)
