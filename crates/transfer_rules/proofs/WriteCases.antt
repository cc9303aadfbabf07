-- The tests of a write and which reply they give, as cases to go by: for proofs; the statement is specs WriteReplies.`write_rows`.
-- Assumes nothing.
use Prim.Native.Nat.{ℕ}
use mathlib.Core.Path.{◌≡◌}
use mathlib.Core.Bool.{Bool, true, false}
use lib.Dec.{leb}
use Rattle.record.specs.declared.Record.{Record}
use Rattle.record.specs.Record.{record_sound, endpoints_of}
use Rattle.transfer_rules.specs.Peek.{short, has_tx_pkt_rdy}
use Rattle.transfer_rules.specs.WriteTests as write
use Rattle.transfer_rules.proofs.Lent.{Admitted}

-- reply 6: "write: TxPktRdy set"
abbrev pub uncollected : Record → ℕ → Bool
uncollected k ep = has_tx_pkt_rdy ep k.regs.words

-- replies 9 and 11, of the record
abbrev pub too_long : Record → ℕ → ℕ → Bool
too_long k ep n = write.too_long k.regs.board ep n

abbrev pub not_writable : Record → ℕ → ℕ → Bool
not_writable k ep n = write.not_writable k.control_state ep n

-- a reply's row holds, and in the order 15, 16, 8, 6, 9, 11 none before it. No other number is a reply of write's.
pub data WriteCase (k : Record) (ep n fifo list : ℕ) : ℕ → Type 0 where
  done : Admitted k ep fifo list → uncollected k ep ≡ false → too_long k ep n ≡ false → not_writable k ep n ≡ false → WriteCase k ep n fifo list 0
  blocks : Admitted k ep fifo list → uncollected k ep ≡ true → WriteCase k ep n fifo list 6
  beyond : short k fifo list ≡ false → record_sound k ≡ true → leb (endpoints_of k) ep ≡ true → WriteCase k ep n fifo list 8
  long : Admitted k ep fifo list → uncollected k ep ≡ false → too_long k ep n ≡ true → WriteCase k ep n fifo list 9
  untaken : Admitted k ep fifo list → uncollected k ep ≡ false → too_long k ep n ≡ false → not_writable k ep n ≡ true → WriteCase k ep n fifo list 11
  little : short k fifo list ≡ true → WriteCase k ep n fifo list 15
  unsound : short k fifo list ≡ false → record_sound k ≡ false → WriteCase k ep n fifo list 16
