-- Each refusal has its own number, and none has 0. Assumes nothing.
use Prim.Native.Nat.{ℕ, ◌<◌}
use mathlib.Core.Path.{◌≡◌, refl, sym, ap, ◌∙◌}
use mathlib.Core.List.{List, [], ◌∷◌}
use native.Mathlib.Omega.{arith}
use lib.ListN.{get_or}
use Rattle.record.specs.declared.Refusal.{Refusal}
use Rattle.record.specs.declared.Refusal.TheVariants.{WouldBlock, Unsupported, NoSuchEndpoint, TooLong, NotWritable, NotReadable, NotSetup, BadAddress, TooLittleLent, BadRecord, OutOfTurn, BufferOverflow}
use Rattle.record.specs.Record.{refusal_number}

-- document 01's table from 6 on, then document 02's 18; 10 is no reply
table : List Refusal
table =
    WouldBlock ∷ WouldBlock ∷ WouldBlock ∷ WouldBlock ∷ WouldBlock ∷ WouldBlock
    ∷ WouldBlock ∷ Unsupported ∷ NoSuchEndpoint ∷ TooLong ∷ TooLong ∷ NotWritable ∷ NotReadable ∷ NotSetup ∷ BadAddress ∷ TooLittleLent ∷ BadRecord ∷ OutOfTurn
    ∷ BufferOverflow ∷ []

stands : (x : Refusal) → (0 < refusal_number x) × (get_or table (refusal_number x) WouldBlock ≡ x)
unfolding table
stands WouldBlock = (omega arith, refl)
stands Unsupported = (omega arith, refl)
stands NoSuchEndpoint = (omega arith, refl)
stands TooLong = (omega arith, refl)
stands NotWritable = (omega arith, refl)
stands NotReadable = (omega arith, refl)
stands NotSetup = (omega arith, refl)
stands BadAddress = (omega arith, refl)
stands TooLittleLent = (omega arith, refl)
stands BadRecord = (omega arith, refl)
stands OutOfTurn = (omega arith, refl)
stands BufferOverflow = (omega arith, refl)

pub not_zero : (x : Refusal) → refusal_number x ≡ 0 → ⊥
not_zero x e = omega (arith, (stands x).0)

pub number_tells : (x y : Refusal) → refusal_number x ≡ refusal_number y → x ≡ y
number_tells x y e = sym (stands x).1 ∙ ap (λ (n : ℕ). get_or table n WouldBlock) e ∙ (stands y).1
