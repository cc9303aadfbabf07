-- The type that a number stands for, from the tests of the code; whether two types are one. Assumes nothing.
use Prim.Native.Nat.{ℕ}
use mathlib.Core.Path.{◌≡◌, refl}
use denote.Enum.Bare.{sameb}
use borrow.Author.Tests.{ne_eqb}
use Rattle.endpoints.specs.declared.EndpointType.{EndpointType}
use Rattle.endpoints.specs.declared.EndpointType.TheVariants.{Control, Isochronous, Bulk, Interrupt}
use Rattle.endpoints.specs.contracts.EndpointType.{the_type}
use Rattle.endpoints.specs.Endpoints.{type_of, same_type}

module _ (n : ℕ) where
  pub is_control : n ≡ 0 → Control ≡ type_of n
  is_control e = rw e

  pub is_isochronous : n ≡ 1 → Isochronous ≡ type_of n
  is_isochronous e = rw e

  pub is_bulk : n ≡ 2 → Bulk ≡ type_of n
  is_bulk e = rw e

  pub is_interrupt_lem : (n ≡ 0 → ⊥) → (n ≡ 1 → ⊥) → (n ≡ 2 → ⊥) → Interrupt ≡ type_of n
  is_interrupt_lem z o t = rw (ne_eqb n 0 z, ne_eqb n 1 o, ne_eqb n 2 t)

-- the derived `==` of two types says whether they are one
pub is_same : (a b : EndpointType) → sameb the_type a b ≡ same_type a b
is_same Control Control = refl
is_same Control Isochronous = refl
is_same Control Bulk = refl
is_same Control Interrupt = refl
is_same Isochronous Control = refl
is_same Isochronous Isochronous = refl
is_same Isochronous Bulk = refl
is_same Isochronous Interrupt = refl
is_same Bulk Control = refl
is_same Bulk Isochronous = refl
is_same Bulk Bulk = refl
is_same Bulk Interrupt = refl
is_same Interrupt Control = refl
is_same Interrupt Isochronous = refl
is_same Interrupt Bulk = refl
is_same Interrupt Interrupt = refl
