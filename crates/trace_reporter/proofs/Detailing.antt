-- The lines of the steps, each with the two under it, and the last line are the detailed report.
-- Assumes nothing.
use Rattle.std.specs.Prelude.{Option}
use Rattle.std.specs.Io.KnownBytes.{Appends}
use Rattle.std.proofs.KnownBytes.{Appends-nil, Appends-trans}
use Prim.Native.Nat.{ℕ, zero, suc, ◌+◌, ◌≤◌, ◌<◌}
use native.Mathlib.Numerals.{add-one}
use mathlib.Core.Path.{◌≡◌, refl, sym, ap, subst, ◌∙◌}
use mathlib.Core.List.{List, [], ◌++◌, append_assoc}
use borrow.Author.Tests.{le-leb, lt-leb}
use lib.ListN.{length, take}
use Rattle.trace_rules.specs.Lines.{header, end_line, bad_line}
use Rattle.trace_rules.specs.declared.Entry.{Entry}
use Rattle.trace_rules.specs.declared.Parsed.{Parsed}
use Rattle.trace_rules.specs.declared.Parsed.TheVariants.{Found, End, Bad}
use Rattle.trace_rules.specs.Entries.{entry_at}
use Rattle.report_rules.specs.Act.{State, state, acted}
use Rattle.report_rules.specs.declared.Came.TheVariants as came
use Rattle.report_rules.specs.declared.Stepped.{Stepped}
use Rattle.report_rules.specs.Report.{line_of, nothing, report_by, report_from, report_with, stepped, step_of}
use Rattle.report_rules.proofs.Whole.{step_line, step_end, step_bad}
use Rattle.trace_reporter.specs.Detailed.{details, under, detailed_rest, detailed_for}

-- with nothing under the lines, whatever puts nothing there, it is the report: after an entry's line stands the report from the next place on
pub bare : (u : State → ℕ → List ℕ) → ((y : State) (stores : ℕ) → u y stores ≡ []) → (most : ℕ) (s : List ℕ) (at n : ℕ) (x : State)
    → report_from u most s at n x ≡ report_from nothing most s at n x
unfolding report_from
bare u none zero s at n x = refl
bare u none (suc most) s at n x = go (λ past y. bare u none most s past (suc n) y) (entry_at s at)
  where
    go : ((past : ℕ) (y : State) → report_from u most s past (suc n) y ≡ report_from nothing most s past (suc n) y) → (p : Parsed)
        → report_by u (λ past y. report_from u most s past (suc n) y) s at n x p ≡ report_by nothing (λ past y. report_from nothing most s past (suc n) y) s at n x p
    go rest (Found e past) =
        let o = acted s e x in
        ap (λ (l : List ℕ). line_of e o ++ l) (ap (λ (l : List ℕ). l ++ report_from u most s past (suc n) o.state) (none o.state o.stores) ∙ rest past o.state)
    go rest End = refl
    go rest Bad = refl

pub bare_line : (rest : ℕ → State → List ℕ) (s : List ℕ) (at n : ℕ) (x : State) (e : Entry) (past : ℕ)
    → report_by nothing rest s at n x (Found e past) ≡ line_of e (acted s e x) ++ rest past (acted s e x).state
bare_line rest s at n x e past = refl

-- A loop that began with the state x₀ stands at a place with n entries behind it, and a writer's known bytes have grown by what came before.
pub record Shown (x₀ : State) (s : List ℕ) (old new : Option (List ℕ)) (x : State) (at n : ℕ) : Type 0 where
  pub text : List ℕ
  pub so_far : detailed_rest s 0 0 x₀ ≡ text ++ detailed_rest s at n x
  pub got : Appends old new text

pub shown_first : (x₀ : State) (s : List ℕ) (a : Option (List ℕ)) {x : State} → x ≡ x₀ → Shown x₀ s a a x 0 0
shown_first x₀ s a e = record { text = []; so_far = ap (detailed_rest s 0 0) (sym e); got = Appends-nil a }

module _ (x₀ : State) (s : List ℕ) (a b : Option (List ℕ)) (x : State) (at n : ℕ) (here : Shown x₀ s a b x at n) (before : List ℕ) {r : Stepped} {f l after : List ℕ}
    (is : stepped r f l after ≡ step_of s at x before) where
  -- an entry's line, and the two under it
  pub shown_next : (c d : Option (List ℕ)) (len past : ℕ) → r.came ≡ came.Line len past → len ≤ length before → Appends b c (take len after)
      → Appends c d (details l r.stores r.«record») → Shown x₀ s a d (state r.«record» f l) past (n + 1)
  shown_next c d len past k h p q =
      let t = take len after in
      let u = details l r.stores r.«record» in
      let y = state r.«record» f l in
      record {
        text = here.text ++ (t ++ u);
        so_far = here.so_far ∙ ap (λ (v : List ℕ). here.text ++ v) (step_line under s at n x r f l before after is len past k h ∙ sym (append_assoc t u (detailed_rest s past (suc n) y)))
            ∙ sym (append_assoc here.text (t ++ u) (detailed_rest s past (suc n) y)) ∙ ap (λ (m : ℕ). (here.text ++ (t ++ u)) ++ detailed_rest s past m y) (sym (add-one n));
        got = Appends-trans a b d here.text (t ++ u) here.got (Appends-trans b c d t u p q);
      }

  last : (c : Option (List ℕ)) (bytes : List ℕ) → detailed_rest s at n x ≡ bytes → Appends b c bytes → Appends a c (detailed_rest s 0 0 x₀)
  last c bytes e p = subst (Appends a c) (ap (λ (v : List ℕ). here.text ++ v) (sym e) ∙ sym here.so_far) (Appends-trans a b c here.text bytes here.got p)

  pub shown_end : (c : Option (List ℕ)) → r.came ≡ came.End → Appends b c (end_line n) → Appends a c (detailed_rest s 0 0 x₀)
  shown_end c k p = last c (end_line n) (step_end under s at n x r f l before after is k) p

  pub shown_bad : (c : Option (List ℕ)) → r.came ≡ came.Bad → Appends b c (bad_line at) → Appends a c (detailed_rest s 0 0 x₀)
  shown_bad c k p = last c (bad_line at) (step_bad under s at n x r f l before after is k) p

pub detailed_short : (x : State) (s : List ℕ) (a b c : Option (List ℕ)) → length s ≤ 65536 → Appends a b header → Appends b c (detailed_rest s 0 0 x) → Appends a c (detailed_for x s)
unfolding report_with
detailed_short x s a b c h p q = rw (le-leb _ _ h) (Appends-trans a b c header (detailed_rest s 0 0 x) p q)

pub detailed_long : (x : State) (s : List ℕ) (a b c : Option (List ℕ)) → 65536 < length s → Appends a b header → Appends b c (bad_line 65536) → Appends a c (detailed_for x s)
unfolding report_with
detailed_long x s a b c h p q = rw (lt-leb _ _ h) (Appends-trans a b c header (bad_line 65536) p q)
