-- The tests of a read and which reply they give, as cases to go by: for proofs; the statement is specs ReadReplies.`read_rows`.
-- Assumes nothing.
use Prim.Native.Nat.{ℕ}
use mathlib.Core.Path.{◌≡◌}
use mathlib.Core.Bool.{Bool, true, false, not}
use lib.Dec.{leb}
use Rattle.record.specs.declared.Record.{Record}
use Rattle.record.specs.Record.{record_sound, endpoints_of}
use Rattle.transfer_rules.specs.Peek.{short, has_rx_pkt_rdy}
use Rattle.transfer_rules.specs.ReadTests as tests
use Rattle.transfer_rules.proofs.Lent.{Admitted}

-- reply 6: "read: RxPktRdy clear"
abbrev pub nothing_waits : Record → ℕ → Bool
nothing_waits k ep = not (has_rx_pkt_rdy ep k.regs.words)

-- replies 12 and 13
abbrev pub not_readable : Record → ℕ → Bool
not_readable k ep = tests.not_readable k.control_state ep

abbrev pub not_setup : Record → ℕ → ℕ → Bool
not_setup k ep room = tests.not_setup k.regs.words k.control_state ep room

-- reply 18
abbrev pub overflows : Record → ℕ → ℕ → Bool
overflows k ep room = tests.overflows k.regs.words ep room

-- a reply's row holds, and in the order 15, 16, 8, 6, 12, 13, 18 none before it. No other number is a reply of read's.
pub data ReadCase (k : Record) (ep room fifo list : ℕ) : ℕ → Type 0 where
  done : Admitted k ep fifo list → nothing_waits k ep ≡ false → not_readable k ep ≡ false → not_setup k ep room ≡ false → overflows k ep room ≡ false → ReadCase k ep room fifo list 0
  blocks : Admitted k ep fifo list → nothing_waits k ep ≡ true → ReadCase k ep room fifo list 6
  beyond : short k fifo list ≡ false → record_sound k ≡ true → leb (endpoints_of k) ep ≡ true → ReadCase k ep room fifo list 8
  unreadable : Admitted k ep fifo list → nothing_waits k ep ≡ false → not_readable k ep ≡ true → ReadCase k ep room fifo list 12
  unset : Admitted k ep fifo list → nothing_waits k ep ≡ false → not_readable k ep ≡ false → not_setup k ep room ≡ true → ReadCase k ep room fifo list 13
  cut : Admitted k ep fifo list → nothing_waits k ep ≡ false → not_readable k ep ≡ false → not_setup k ep room ≡ false → overflows k ep room ≡ true → ReadCase k ep room fifo list 18
  little : short k fifo list ≡ true → ReadCase k ep room fifo list 15
  unsound : short k fifo list ≡ false → record_sound k ≡ false → ReadCase k ep room fifo list 16
