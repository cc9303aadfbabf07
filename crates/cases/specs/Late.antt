-- Document 02, T-11, on one record, computed: two snapshots in turn, joined, turned round and twice; and of a record that is refused with 16, where they stay pending.
-- Assumes nothing.
use Rattle.std.specs.Prelude.{◌≡◌, true, false, ℕ, set}
use Rattle.board.specs.declared.Board.TheVariants.{Display}
use Rattle.record.specs.declared.Flags.{Flags}
use Rattle.record.specs.declared.Record.{Record}
use Rattle.record.specs.Record.{fresh_record, with_regs, with_irq}
use Rattle.call_rules.specs.declared.Snapshot.{Snapshot}
use Rattle.call_rules.specs.Late.{joined, take}

abbrev pub fresh : Record
fresh = fresh_record Display

-- the bus was reset; transmit bits 0 and 1
abbrev pub first : Snapshot
first = record { usb = 4; tx = 3; rx = 0 }

-- the bus was reset again, and suspended; transmit bit 1 again; receive bit 0, which is no endpoint's, and bit 5
abbrev pub second : Snapshot
second = record { usb = 5; tx = 2; rx = 33 }

abbrev pub after_first : Flags
after_first = record { reset = true; suspend = false; resume = false; ep0 = true; ep_tx = 2; ep_rx = 0 }

abbrev pub after_both : Flags
after_both = record { reset = true; suspend = true; resume = false; ep0 = true; ep_tx = 2; ep_rx = 32 }

-- an address over 127, and the three pending registers
abbrev pub refused : ℕ → ℕ → ℕ → Record
refused usb tx rx = with_regs fresh (set (set (set (set fresh.regs.words 1 200) 6 usb) 7 tx) 8 rx)

pub record LateCases : Type 0 where
  pub one : take fresh first ≡ with_irq fresh after_first
  pub two : take (take fresh first) second ≡ with_irq fresh after_both
  pub joint : take fresh (joined first second) ≡ with_irq fresh after_both
  pub turned : take (take fresh second) first ≡ with_irq fresh after_both
  pub again : take (take fresh first) first ≡ with_irq fresh after_first
  -- refused with 16: nothing is taken, and the bits stay raised beside each other
  pub two_refused : take (take (refused 0 0 0) first) second ≡ refused 5 3 33
  pub joint_refused : take (refused 0 0 0) (joined first second) ≡ refused 5 3 33
