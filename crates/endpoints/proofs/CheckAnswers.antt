-- What the check of an endpoint comes to, and that the number of an error tells which error it was.
-- Assumes nothing.
use Rattle.std.specs.Prelude.{Err, Ok, Result}
use mathlib.Core.Path.{◌≡◌, refl, sym, ap, ◌∙◌}
use mathlib.Core.Bool.{Bool, true, false, not, ◌&&◌}
use mathlib.Core.List.{List, [], ◌∷◌}
use Prim.Native.Nat.{ℕ, ◌<◌}
use native.Mathlib.Omega.{arith}
use lib.ListN.{get_or}
use Rattle.laws.proofs.Tests.{clash}
use Rattle.endpoints.specs.declared.EndpointAllocError.{EndpointAllocError}
use Rattle.endpoints.specs.declared.EndpointAllocError.TheVariants.{EndpointOverflow, InvalidEndpoint, EpDirNotSupported, EpUsed, MaxPacketSizeBiggerThanEpFifoSize}
use Rattle.endpoints.specs.Numbers.{error_number, answer_number}

-- the wanted number is not 0, and what is tested of it holds
pub tested : (z p a : Bool) → (not z && (not p && a)) ≡ true → (z ≡ false) × (a ≡ true)
tested true p a h = (sym h, clash (sym h))
tested false true a h = (refl, clash (sym h))
tested false false a h = (refl, h)

-- an answer with the number of an error is that refusal
errors : List EndpointAllocError
errors = EndpointOverflow ∷ EndpointOverflow ∷ InvalidEndpoint ∷ EpDirNotSupported ∷ EpUsed ∷ MaxPacketSizeBiggerThanEpFifoSize ∷ []

numbered_error : (x : EndpointAllocError) → (0 < error_number x) × (get_or errors (error_number x) EndpointOverflow ≡ x)
unfolding errors
numbered_error EndpointOverflow = (omega arith, refl)
numbered_error InvalidEndpoint = (omega arith, refl)
numbered_error EpDirNotSupported = (omega arith, refl)
numbered_error EpUsed = (omega arith, refl)
numbered_error MaxPacketSizeBiggerThanEpFifoSize = (omega arith, refl)

pub number_tells : (a : Result ℕ EndpointAllocError) (x : EndpointAllocError) → answer_number a ≡ error_number x → a ≡ Err x
number_tells (Ok n) x e = absurd (omega (arith, (numbered_error x).0))
number_tells (Err y) x e =
    ap Err (sym (numbered_error y).1 ∙ ap (λ (n : ℕ). get_or errors n EndpointOverflow) e ∙ (numbered_error x).1)
