-- What the loop over the entries has reached, from step to step.
-- Assumes nothing.
use Rattle.std.specs.Prelude.{Option, Result, Ok, Err, OnErr, slice_range}
use Rattle.std.specs.Io.KnownBytes.{Appends}
use Rattle.std.proofs.lemmas.List.{take_rest}
use Rattle.std.proofs.KnownBytes.{Appends-nil, Appends-trans}
use Prim.Native.Nat.{ℕ, ◌+◌, ◌-◌, ◌*◌, ◌≤◌, ◌<◌}
use native.Mathlib.Omega.{arith}
use native.Mathlib.Decide.{dec_lt}
use native.Mathlib.Numerals.{add-one}
use mathlib.Core.Path.{◌≡◌, sym, ap, subst, ◌∙◌}
use mathlib.Core.List.{List, [], ◌++◌, append-nil}
use lib.ListN.{length, take, drop, replicate, length-append}
use lib.Seq.{length-take-le, take-add, take_all, drop-drop}
use Rattle.board.specs.declared.Board.{Board}
use Rattle.board.specs.declared.Board.TheVariants.{Display}
use Rattle.board.specs.Table.{total}
use Rattle.board.specs.Boards.{rows, rows_display}
use Rattle.board.proofs.Areas.{display_total}
use Rattle.register_file.proofs.Sides.{fresh_words}
use Rattle.record.specs.declared.Record.{Record}
use Rattle.record.specs.Record.{fresh_record, need_in, need_of}
use Rattle.trace_rules.specs.Text.{Wrote}
use Rattle.trace_rules.proofs.Appended.{front}
use Rattle.trace_rules.specs.Lines.{header, end_line, bad_line}
use Rattle.report_rules.specs.Act.{State, state}
use Rattle.report_rules.specs.declared.Came.{Came}
use Rattle.report_rules.specs.declared.Came.TheVariants.{Line, End, Bad}
use Rattle.report_rules.specs.declared.Stepped.{Stepped}
use Rattle.report_rules.specs.Report.{report_for, report_of, stepped, step_of, beginning, begun, Moves}
use Rattle.report_rules.specs.Runs.{Took, Reached, begins, goes, Has, Completes}
use Rattle.report_rules.proofs.Whole as whole
use Rattle.trace_reporter.specs.Told.{Told, AppendsFront, LeftAt}
use Rattle.trace_reporter.specs.Detailed.{detailed_for}

-- the display's FIFO memory: a fresh display begins as `begun` says
need : need_of (fresh_record Display) ≡ 1664
unfolding need_in need_of fresh_record
need = ap (λ (b : Board). total (rows b)) (fresh_words Display).1 ∙ ap total rows_display ∙ display_total

fresh_begins : beginning (fresh_record Display) (replicate 1664 0) ≡ begun (fresh_record Display)
fresh_begins = ap (λ (n : ℕ). beginning (fresh_record Display) (replicate n 0)) (sym need)

header_short : length header ≤ 100
unfolding header
header_short = omega arith

-- some lines are written, and the loop that began with the state x₀ stands here, at the place `done` of the report
pub record Stands (x₀ : State) (s : List ℕ) (k : Record) (f l : List ℕ) (at n done : ℕ) : Type 0 where
  pub text : List ℕ
  pub run : Reached s x₀ text at n (state k f l)
  pub written : done ≡ length (header ++ text)
  pub small : done ≤ 100 + 8192 * n

pub stands_first : (s : List ℕ) (k : Record) (f : List ℕ) {l : List ℕ} {done : ℕ} → l ≡ replicate 384 0 → done ≡ length header → Stands (beginning k f) s k f l 0 0 done
stands_first s k f {l} {done} e d = record {
  text = [];
  run = subst (λ (x : State). Reached s (beginning k f) [] 0 0 x) (λ i. state k f (sym e i)) begins;
  written = d ∙ ap length (sym (append-nil header));
  small = omega (arith, d, header_short);
}

module _ (x₀ : State) (s : List ℕ) (k : Record) (f l : List ℕ) (at n done : ℕ) (here : Stands x₀ s k f l at n done) (before : List ℕ) {r : Stepped} {f' l' after : List ℕ}
    (step : stepped r f' l' after ≡ step_of s at (state k f l) before) (moves : Moves s at before r.came) where
  took : Took s at (state k f l) r f' l' after
  took = record { before = before; outcome = step; fits = λ len past c. (subst (Moves s at before) c moves).0 }

  pub line_here : length s ≤ 65536 → (len past : ℕ) → r.came ≡ Line len past → Has x₀ s done (take len after)
  line_here h len past c = whole.lined x₀ s h here.run here.written took len past c

  pub stands_next : (len past : ℕ) {done' : ℕ} → r.came ≡ Line len past → len ≤ length after → len ≤ 8192 → done' ≡ done + len → Stands x₀ s r.«record» f' l' past (n + 1) done'
  stands_next len past {done'} c fits most e =
      let t = take len after in
      record {
        text = here.text ++ t;
        run = subst (λ (m : ℕ). Reached s x₀ (here.text ++ t) past m (state r.«record» f' l')) (sym (add-one n))
            (goes here.text at n (state k f l) r f' l' after len past here.run took c);
        written = omega (arith, e, here.written, length-append header here.text, length-append here.text t, length-append header (here.text ++ t), length-take-le len after fits);
        small = omega (arith, e, here.small, most);
      }

  pub ends_here : length s ≤ 65536 → r.came ≡ End → Completes x₀ s done (end_line n)
  ends_here h c = whole.ended x₀ s h here.run here.written took c

  pub stops_here : length s ≤ 65536 → r.came ≡ Bad → Completes x₀ s done (bad_line at)
  stops_here h c = whole.stopped x₀ s h here.run here.written took c

-- a line was found
pub moved : (s : List ℕ) (at : ℕ) (before : List ℕ) {c : Came} {len past : ℕ} → Moves s at before c → c ≡ Line len past → (len ≤ length before) × (at < past) × (past ≤ length s)
moved s at before m e = subst (Moves s at before) e m

-- a line that stands at the front of its buffer is written from there
pub from_front : (x : State) (s : List ℕ) (done : ℕ) {b a : List ℕ} {r : ℕ} {bs : List ℕ} → Wrote b a 0 r bs → r ≤ length b → Has x s done bs → Has x s done (take r a)
from_front x s done w h p = subst (Has x s done) (sym (front w h)) p

pub too_long_here : (x : State) (s : List ℕ) {b a : List ℕ} {r done : ℕ} → Wrote b a 0 r header → done ≡ 0 + r → 65536 < length s → Completes x s done (bad_line 65536)
too_long_here x s {done = done} w e h =
    let d : length header ≡ done = omega (arith, e, w.count) in
    subst (λ (n : ℕ). Completes x s n (bad_line 65536)) d (whole.too_long x s h)

-- where a fresh display begins, and the report of a trace from there on
fresh_state : (k : Record) → k ≡ fresh_record Display → beginning k (replicate 1664 0) ≡ begun (fresh_record Display)
fresh_state k e = ap (λ (j : Record). beginning j (replicate 1664 0)) e ∙ fresh_begins

pub fresh_report : (k : Record) (s : List ℕ) → k ≡ fresh_record Display → report_for (beginning k (replicate 1664 0)) s ≡ report_of (fresh_record Display) s
fresh_report k s e = ap (λ (x : State). report_for x s) (fresh_state k e)

pub fresh_detailed : (k : Record) (s : List ℕ) → k ≡ fresh_record Display → detailed_for (beginning k (replicate 1664 0)) s ≡ detailed_for (begun (fresh_record Display)) s
fresh_detailed k s e = ap (λ (x : State). detailed_for x s) (fresh_state k e)

pub fresh_whole : (k : Record) (s : List ℕ) {r : ℕ} → k ≡ fresh_record Display → r ≡ length (report_for (beginning k (replicate 1664 0)) s) → r ≡ length (report_of (fresh_record Display) s)
fresh_whole k s e p = p ∙ ap length (fresh_report k s e)

-- one part of a report and the next one
joined : (r : List ℕ) (i j k : ℕ) → i ≤ j → j ≤ k → slice_range r i j ++ slice_range r j k ≡ slice_range r i k
joined r i j k p q =
    let parts : k - i ≡ (j - i) + (k - j) = omega arith in
    let place : i + (j - i) ≡ j = omega arith in
    let rest : drop (j - i) (drop i r) ≡ drop j r = drop-drop (j - i) i r ∙ ap (λ (n : ℕ). drop n r) place in
    sym (ap (λ (n : ℕ). take n (drop i r)) parts ∙ take-add (j - i) (k - j) (drop i r) ∙ ap (λ (t : List ℕ). take (j - i) (drop i r) ++ take (k - j) t) rest)

pub told_nothing : (x : State) (s : List ℕ) (a : Option (List ℕ)) (i : ℕ) → Told x s a a i i
told_nothing x s a i =
    let none : i - i ≡ 0 = omega arith in
    subst (Appends a a) (sym (ap (λ (n : ℕ). take n (drop i (report_for x s))) none)) (Appends-nil a)

-- what has been told up to a place, and from there on
pub told_on : (x : State) (s : List ℕ) (a b c : Option (List ℕ)) (i j k : ℕ) → i ≤ j → j ≤ k → Told x s a b i j → Told x s b c j k → Told x s a c i k
told_on x s a b c i j k p q t u = subst (Appends a c) (joined (report_for x s) i j k p q) (Appends-trans a b c _ _ t u)

-- a line under an entry's, where none is asked for, tells nothing
pub told_no_more : (x : State) (s : List ℕ) (a b c : Option (List ℕ)) (i j : ℕ) → Told x s a b i j → Appends b c [] → Told x s a c i j
told_no_more x s a b c i j t u = subst (Appends a c) (append-nil (slice_range (report_for x s) i j)) (Appends-trans a b c _ _ t u)

-- a front part with a count that may be beyond the end
front_part : (a b : Option (List ℕ)) (bs : List ℕ) (k : ℕ) → Appends a b (take k bs) → AppendsFront a b bs
front_part a b bs k t = go (dec_lt k (length bs))
  where
    go : Dec (k < length bs) → AppendsFront a b bs
    go (yes h) = (k, omega (arith, h), t)
    go (no h) = (length bs, omega arith, subst (Appends a b) (take_all k bs (omega (arith, h)) ∙ sym (take_all (length bs) bs (omega arith))) t)

-- what has been told up to a place is left
pub told_is_left : (x : State) (s : List ℕ) (a b : Option (List ℕ)) (i j : ℕ) → Told x s a b i j → LeftAt x s a b i
told_is_left x s a b i j t = front_part a b (drop i (report_for x s)) (j - i) t

-- .. and what was left from there on
pub left_on : (x : State) (s : List ℕ) (a b c : Option (List ℕ)) (i j : ℕ) → i ≤ j → Told x s a b i j → LeftAt x s b c j → LeftAt x s a c i
left_on x s a b c i j p t (k, h, u) =
    let r = report_for x s in
    let place : i + (j - i) ≡ j = omega arith in
    let rest : drop (j - i) (drop i r) ≡ drop j r = drop-drop (j - i) i r ∙ ap (λ (n : ℕ). drop n r) place in
    let both : take (j - i) (drop i r) ++ take k (drop j r) ≡ take ((j - i) + k) (drop i r) =
    sym (take-add (j - i) k (drop i r) ∙ ap (λ (l : List ℕ). take (j - i) (drop i r) ++ take k l) rest) in
    front_part a c (drop i r) ((j - i) + k) (subst (Appends a c) both (Appends-trans a b c _ _ t u))

-- what holds anyway holds of an error
pub of_error : {T E P : Type 0} (r : Result T E) → P → OnErr r P
of_error (Ok v) p = tt
of_error (Err e) p = p

-- a writer that had got the first m bytes took n of the rest
pub took_more : (a b c : Option (List ℕ)) (bs : List ℕ) (m n : ℕ) → Appends a b (take m bs) → Appends b c (take n (slice_range bs m (length bs))) → Appends a c (take (m + n) bs)
took_more a b c bs m n t u =
    let rest = ap (take n) (take_rest bs m) in
    subst (Appends a c) (ap (λ (l : List ℕ). take m bs ++ l) rest ∙ sym (take-add m n bs)) (Appends-trans a b c _ _ t u)
