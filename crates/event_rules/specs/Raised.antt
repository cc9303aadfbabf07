-- Bits raised in the pending interrupt registers: each stands beside those that stand there, as when a host event raises one.
-- Assumes nothing.
use Rattle.std.specs.Prelude.{ℕ, ◌≡◌, ◌||◌, length, get_or}
use Rattle.std.specs.Int.Bits.{bit_or}
use Rattle.laws.specs.Words.{bit}
use Rattle.board.specs.declared.Direction.{Direction}
use Rattle.board.specs.declared.Direction.TheVariants.{Out, In}
use Rattle.register_file.specs.Registers.{File, intrusb, with_intrusb, intr_of, with_intr}

-- in the bus's register, and in that of a direction: transmit bits for In, receive bits for Out
unfoldable pub bus_bits_raised : ℕ → File → File
bus_bits_raised v r = with_intrusb r (bit_or (intrusb r) v)

unfoldable pub word_raised : Direction → ℕ → File → File
word_raised d v r = with_intr r d (bit_or (intr_of r d) v)

-- in all three
unfoldable pub bits_raised : ℕ → ℕ → ℕ → File → File
bits_raised usb tx rx r = word_raised Out rx (word_raised In tx (bus_bits_raised usb r))

-- what that leaves, beside its definition and apart from it: a bit is pending that was, or that was raised, and nothing else of the file changes
pub record Raises (usb tx rx : ℕ) (r q : File) : Type 0 where
  pub bus : (j : ℕ) → bit (intrusb q) j ≡ (bit (intrusb r) j || bit usb j)
  pub transmit : (j : ℕ) → bit (intr_of q In) j ≡ (bit (intr_of r In) j || bit tx j)
  pub receive : (j : ℕ) → bit (intr_of q Out) j ≡ (bit (intr_of r Out) j || bit rx j)
  pub others : (i : ℕ) → (i ≡ 6 → ⊥) → (i ≡ 7 → ⊥) → (i ≡ 8 → ⊥) → get_or q i 0 ≡ get_or r i 0
  pub whole : length q ≡ length r
