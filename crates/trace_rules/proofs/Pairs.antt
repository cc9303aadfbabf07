-- Where two results that were found are the same, so are their parts.
-- Assumes nothing.
use Rattle.std.specs.Prelude.{Some}
use mathlib.Core.Path.{◌≡◌}

pub same : {A : Type 0} {x y : A} → Some x ≡ Some y → x ≡ y
same e = cc

module _ {A B : Type 0} {p q : A × B} where
  pub first_is : Some p ≡ Some q → p.0 ≡ q.0
  first_is e = λ i. (same e i).0

  pub second_is : Some p ≡ Some q → p.1 ≡ q.1
  second_is e = λ i. (same e i).1
