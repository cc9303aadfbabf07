-- A trace is a history of operations: what the demands say of every history they say of what the program does.
-- Assumes nothing.
use Prim.Native.Nat.{ℕ, zero, suc, ◌+◌, ◌-◌, ◌≤◌}
use native.Mathlib.Omega.{arith}
use mathlib.Core.Path.{◌≡◌, refl, sym, ap, ◌∙◌}
use mathlib.Core.List.{List, [], ◌∷◌, ◌++◌, foldl, foldl-append, append-nil, append_assoc}
use borrow.Author.Tests.{le-leb}
use lib.ListN.{length, take, length-append}
use lib.Seq.{take_at}
use Rattle.trace_rules.specs.declared.Entry.{Entry}
use Rattle.trace_rules.specs.declared.Parsed.{Parsed}
use Rattle.trace_rules.specs.declared.Parsed.TheVariants.{Found, End, Bad}
use Rattle.trace_rules.specs.Entries.{entry_at}
use Rattle.trace_rules.proofs.Inside.{moves}
use Rattle.calls.specs.Calls as calls
use Rattle.trace_rules.specs.Lines.{line, header}
use Rattle.trace_rules.proofs.Appended.{front}
use Rattle.report_rules.specs.Act.{State, state, operation, acted}
use Rattle.report_rules.specs.declared.Came.TheVariants.{Line}
use Rattle.report_rules.specs.declared.Stepped.{Stepped}
use Rattle.report_rules.specs.Report.{line_of, nothing, report_by, report_from, rest_with, report_with, report_for, StepOutcome, stepped, step_by, step_of}
use Rattle.report_rules.specs.Runs.{Took, Reached, begins, goes}
use Rattle.report_rules.proofs.Act.{code_is}
use Rattle.report_rules.proofs.Whole.{line_not_end, line_not_bad}
use Rattle.trace_history.specs.History.{entries_by, entries_from, entries_of, after, operations_from, operations_of, line_for, lines_of, last_by, last_from, last_of, Along}

-- an entry's operation, and its line
abbrev its : List ℕ → Entry → State → calls.Op
its s e x = operation s e x.fifo x.list

module _ (s : List ℕ) (e : Entry) (x : State) where
  leads_on : (acted s e x).state ≡ after x (its s e x)
  unfolding acted
  leads_on = refl

  prints : line_of e (acted s e x) ≡ line_for x (its s e x)
  unfolding acted line_of
  prints = λ i. line (code_is s e x.fifo x.list i ∷ (acted s e x).reply ∷ (acted s e x).values)

-- The report is the lines of the trace's operations, and the last line.
reports : (m : ℕ) (s : List ℕ) (at n : ℕ) (x : State) → report_from nothing m s at n x ≡ lines_of x (operations_from s (entries_from m s at) x) ++ last_from m s at n
unfolding report_from entries_from last_from operations_from lines_of
reports zero s at n x = refl
reports (suc m) s at n x = go (entry_at s at) (λ past y. reports m s past (suc n) y)
  where
    go : (p : Parsed) → ((past : ℕ) (y : State) → report_from nothing m s past (suc n) y ≡ lines_of y (operations_from s (entries_from m s past) y) ++ last_from m s past (suc n))
        → report_by nothing (λ past y. report_from nothing m s past (suc n) y) s at n x p
        ≡ lines_of x (operations_from s (entries_by (λ past. entries_from m s past) p) x) ++ last_by (λ past. last_from m s past (suc n)) at n p
    go (Found e past) rec =
        (λ i. prints s e x i ++ report_from nothing m s past (suc n) (leads_on s e x i))
        ∙ ap (λ (t : List ℕ). line_for x (its s e x) ++ t) (rec past (after x (its s e x)))
        ∙ sym (append_assoc (line_for x (its s e x)) (lines_of (after x (its s e x)) (operations_from s (entries_from m s past) (after x (its s e x)))) (last_from m s past (suc n)))
    go End rec = refl
    go Bad rec = refl

pub report_is : (x : State) (s : List ℕ) → length s ≤ 65536 → report_for x s ≡ header ++ (lines_of x (operations_of x s) ++ last_of s)
unfolding report_with rest_with entries_of last_of
report_is x s short =
    let all : length s - 0 ≡ length s = omega arith in
    rw (le-leb _ _ short) (ap (λ (m : ℕ). header ++ report_from nothing (suc m) s 0 0 x) all ∙ ap (λ (t : List ℕ). header ++ t) (reports (suc (length s)) s 0 0 x))

-- the record that operations lead to, and their lines, one list after another
records : (x : State) (os : List calls.Op) → (foldl after x os).«record» ≡ foldl calls.step x.«record» os
records x [] = refl
records x (o ∷ os) = records (after x o) os

lines_append : (x : State) (os qs : List calls.Op) → lines_of x (os ++ qs) ≡ lines_of x os ++ lines_of (foldl after x os) qs
unfolding lines_of
lines_append x [] qs = refl
lines_append x (o ∷ os) qs = ap (λ (t : List ℕ). line_for x o ++ t) (lines_append (after x o) os qs) ∙ sym (append_assoc (line_for x o) (lines_of (after x o) os) (lines_of (foldl after (after x o) os) qs))

-- a step that wrote a line carried the entry out that stands there
record CarriedOut (s : List ℕ) (at : ℕ) (x : State) (past : ℕ) (y : State) (text : List ℕ) : Type 0 where
  entry : Entry
  found : entry_at s at ≡ Found entry past
  leaves : y ≡ (acted s entry x).state
  shows : text ≡ line_of entry (acted s entry x)

carried_out : (s : List ℕ) (at : ℕ) (x : State) (r : Stepped) (f l b : List ℕ) (len past : ℕ) → Took s at x r f l b → r.came ≡ Line len past
    → CarriedOut s at x past (state r.«record» f l) (take len b)
unfolding step_of
carried_out s at x r f l b len past t c = go (entry_at s at) refl t.outcome
  where
    go : (p : Parsed) → entry_at s at ≡ p → stepped r f l b ≡ step_by s x t.before p → CarriedOut s at x past (state r.«record» f l) (take len b)
    go (Found e next) q w =
        let u = line_of e (acted s e x) in
        let is : Line len past ≡ Line (length u) next = sym c ∙ ap (λ (o : StepOutcome). o.result.came) w in
        let size : len ≡ length u = cc in
        let place : next ≡ past = cc in
        record {
          entry = e;
          found = q ∙ ap (Found e) place;
          leaves = λ j. state (w j).result.«record» (w j).fifo (w j).list;
          shows = front (record { count = size ∙ omega arith; bytes = ap (λ (o : StepOutcome). o.line) w }) (t.fits len past c);
        }
    go End q w = absurd (line_not_end (sym c ∙ ap (λ (o : StepOutcome). o.result.came) w))
    go Bad q w = absurd (line_not_bad (sym c ∙ ap (λ (o : StepOutcome). o.result.came) w))

-- the operations behind a program that stands at a place, and those before it
record Between (s : List ℕ) (x₀ : State) (text : List ℕ) (at n : ℕ) (x : State) : Type 0 where
  most : ℕ
  fuel : most + n ≡ suc (length s)
  behind : n ≤ at
  inside : at ≤ length s
  done : List calls.Op
  all : operations_of x₀ s ≡ done ++ operations_from s (entries_from most s at) x
  count : length done ≡ n
  leads : foldl after x₀ done ≡ x
  lines : lines_of x₀ done ≡ text

one_more : (s : List ℕ) (x₀ : State) (text : List ℕ) (at n : ℕ) (x : State) (past : ℕ) (y : State) (more : List ℕ) → Between s x₀ text at n x → CarriedOut s at x past y more
    → Between s x₀ (text ++ more) past (suc n) y
unfolding entries_from operations_from lines_of
one_more s x₀ text at n x past y more b o = go b.most b.fuel b.all
  where
    op : calls.Op
    op = its s o.entry x

    to : y ≡ after x op
    to = o.leaves ∙ leads_on s o.entry x

    at_once : lines_of x (op ∷ []) ≡ more
    at_once = append-nil (line_for x op) ∙ sym (prints s o.entry x) ∙ sym o.shows

    go : (m : ℕ) → m + n ≡ suc (length s) → operations_of x₀ s ≡ b.done ++ operations_from s (entries_from m s at) x → Between s x₀ (text ++ more) past (suc n) y
    go zero h e = absurd (omega (arith, h, b.behind, b.inside))
    go (suc m) h e =
        let v = moves s at (entry_at s at) refl o.entry past o.found in
        record {
          most = m;
          fuel = omega (arith, h);
          behind = omega (arith, b.behind, v.0);
          inside = v.1;
          done = b.done ++ (op ∷ []);
          all = e ∙ (λ i. b.done ++ operations_from s (entries_by (λ p. entries_from m s p) (o.found i)) x)
              ∙ (λ i. b.done ++ (op ∷ operations_from s (entries_from m s past) (sym to i)))
              ∙ sym (append_assoc b.done (op ∷ []) (operations_from s (entries_from m s past) y));
          count = length-append b.done (op ∷ []) ∙ omega (arith, b.count);
          leads = foldl-append after x₀ b.done (op ∷ []) ∙ ap (λ (z : State). after z op) b.leads ∙ sym to;
          lines = lines_append x₀ b.done (op ∷ []) ∙ (λ i. b.lines i ++ lines_of (b.leads i) (op ∷ [])) ∙ ap (λ (t : List ℕ). text ++ t) at_once;
        }

between : {s : List ℕ} {x₀ : State} {text : List ℕ} {at n : ℕ} {x : State} → Reached s x₀ text at n x → Between s x₀ text at n x
unfolding entries_of lines_of
between {s} begins = record {
  most = suc (length s);
  fuel = omega arith;
  behind = omega arith;
  inside = omega arith;
  done = [];
  all = refl;
  count = refl;
  leads = refl;
  lines = refl;
}
between {s} {x₀} (goes text at n x r f l b len past p t c) =
    one_more s x₀ text at n x past (state r.«record» f l) (take len b) (between p) (carried_out s at x r f l b len past t c)

-- Whatever the program has reached, the trace's own operations lead there, in order, and have printed what it wrote.
pub along : {s : List ℕ} {x₀ : State} {text : List ℕ} {at n : ℕ} {x : State} → Reached s x₀ text at n x → Along s x₀ text n x
along {s} {x₀} {text} {at} {n} {x} p =
    let b = between p in
    let first : take n (operations_of x₀ s) ≡ b.done = ap (take n) b.all ∙ take_at b.done _ n b.count in
    record {
      count = ap length first ∙ b.count;
      leads = ap (foldl after x₀) first ∙ b.leads;
      lines = ap (lines_of x₀) first ∙ b.lines;
      history = sym (records x₀ (take n (operations_of x₀ s))) ∙ ap (λ (y : State). y.«record») (ap (foldl after x₀) first ∙ b.leads);
    }
