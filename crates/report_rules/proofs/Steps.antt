-- From what stands at a place and what was done there to a step's outcome.
-- Assumes nothing.
use Prim.Native.Nat.{ℕ, ◌≤◌}
use native.Mathlib.Nat.{zero-add}
use mathlib.Core.Path.{◌≡◌, sym, ap, ◌∙◌}
use mathlib.Core.List.{List, ◌∷◌}
use lib.ListN.{length}
use Rattle.record.specs.declared.Record.{Record}
use Rattle.trace_rules.specs.Lines.{line}
use Rattle.trace_rules.specs.declared.Entry.{Entry}
use Rattle.trace_rules.specs.declared.Parsed.{Parsed}
use Rattle.trace_rules.specs.declared.Parsed.TheVariants.{Found, End, Bad}
use Rattle.trace_rules.specs.Entries.{code_of, entry_at}
use Rattle.trace_rules.proofs.Inside.{moves}
use Rattle.report_rules.specs.declared.Acted.{Acted}
use Rattle.report_rules.specs.Act.{state, acted, Acts}
use Rattle.report_rules.specs.declared.Came.TheVariants as came
use Rattle.report_rules.specs.Report.{line_of, stepped, leaving, step_by, step_of, Moves}

module _ (s : List ℕ) (at : ℕ) (k : Record) (f l b : List ℕ) (p : Parsed) (is : p ≡ entry_at s at) where
  pub carried_out : {e : Entry} {past : ℕ} {a : Acted} {f' l' b' : List ℕ} → p ≡ Found e past → Acts b b' a f' l' (code_of e) (acted s e (state k f l))
      → stepped (record { «record» = a.«record»; came = came.Line a.len past; stores = a.stores }) f' l' b' ≡ step_of s at (state k f l) b
  unfolding step_of line_of
  carried_out {e} {past} {a} v w =
      let t = line (code_of e ∷ (acted s e (state k f l)).reply ∷ (acted s e (state k f l)).values) in
      let n : a.len ≡ length t = w.shown.text.count ∙ zero-add (length t) in
      (λ i. leaving (w.kept i) (came.Line (n i) past) (w.counted i) (w.shown.text.bytes i)) ∙ ap (step_by s (state k f l) b) (sym v ∙ is)

  pub at_end : p ≡ End → leaving (state k f l) came.End 0 b ≡ step_of s at (state k f l) b
  unfolding step_of
  at_end v = ap (step_by s (state k f l) b) (sym v ∙ is)

  pub at_bad : p ≡ Bad → leaving (state k f l) came.Bad 0 b ≡ step_of s at (state k f l) b
  unfolding step_of
  at_bad v = ap (step_by s (state k f l) b) (sym v ∙ is)

pub moves_on : (s : List ℕ) (at : ℕ) (b : List ℕ) (p : Parsed) {e : Entry} {past len : ℕ} → p ≡ entry_at s at → p ≡ Found e past → len ≤ length b
    → Moves s at b (came.Line len past)
moves_on s at b p {e} {past} is v h = let m = moves s at p is e past v in (h, m.0, m.1)
