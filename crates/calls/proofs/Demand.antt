-- Demand 1, of any record and any operation. Assumes nothing.
use Prim.Native.Nat.{ℕ}
use mathlib.Core.Path.{◌≡◌, sym, ap, ◌∙◌}
use mathlib.Core.Bool.{false}
use native.Mathlib.Omega.{arith}
use borrow.Author.Tests.{eq-eqb}
use lib.Dec.{eqb}
use Rattle.record.specs.declared.Record.{Record}
use Rattle.calls.specs.Calls.{Op, Outcome, outcome}
use Rattle.calls.specs.Demand.{lent, unchanged, Answers}
use Rattle.laws.proofs.Tests.{clash}
use Rattle.calls.proofs.Ends.{Ends, done, refused, blocked, ends}

module _ (k : Record) (o : Op) where
  not_six : {A : Type 0} (n : ℕ) → eqb n 6 ≡ false → n ≡ 6 → A
  not_six n p e = clash (sym (eq-eqb n 6 e) ∙ p)

  answers_of : Ends k o (outcome k o) → Answers k o
  answers_of (done a p) = record {
    number = rw p a;
    kept = λ zero six. absurd (zero p);
    six = λ e. absurd (omega (arith, p, e));
  }
  answers_of (refused n x a p) =
      let r : (outcome k o).reply ≡ n = ap (λ (y : Outcome). y.reply) p in
      record {
        number = rw r a;
        kept = λ zero six. p ∙ ap (λ (m : ℕ). unchanged m k (lent o)) (sym r);
        six = λ e. not_six n x (sym r ∙ e);
      }
  answers_of (blocked e b a p) =
      let r : (outcome k o).reply ≡ 6 = ap (λ (y : Outcome). y.reply) p in
      record { number = rw r a; kept = λ zero six. absurd (six r); six = λ _. (e, b, p) }

  pub demand_1 : Answers k o
  demand_1 = answers_of (ends k o)
