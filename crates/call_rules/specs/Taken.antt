-- What an interrupt that is taken does to the flags: it adds what the interrupt registers held, at every endpoint of the board.
-- Assumes nothing.
use Rattle.std.specs.Prelude.{ℕ, ◌≤◌, ◌<◌, ◌≡◌, ◌||◌}
use Rattle.laws.specs.Words.{bit}
use Rattle.board.specs.declared.Direction.TheVariants.{Out, In}
use Rattle.register_file.specs.Registers.{File, intrusb, intr_of}
use Rattle.event_rules.specs.declared.BusEvent.TheVariants.{Suspend, Resume, Reset}
use Rattle.event_rules.specs.Events.{bus_bit}
use Rattle.record.specs.declared.Flags.{Flags}

-- g are the flags of a board with so many endpoints, once the registers r were read where the flags were f
pub record Takes (count : ℕ) (r : File) (f g : Flags) : Type 0 where
  pub tx : (j : ℕ) → 1 ≤ j → j < count → bit g.ep_tx j ≡ (bit f.ep_tx j || bit (intr_of r In) j)
  pub rx : (j : ℕ) → 1 ≤ j → j < count → bit g.ep_rx j ≡ (bit f.ep_rx j || bit (intr_of r Out) j)
  pub reset : g.reset ≡ (f.reset || bit (intrusb r) (bus_bit Reset))
  pub suspend : g.suspend ≡ (f.suspend || bit (intrusb r) (bus_bit Suspend))
  pub resume : g.resume ≡ (f.resume || bit (intrusb r) (bus_bit Resume))
  -- endpoint 0 has one transmit bit, and a flag of its own: receive bit 0 is no flag, and neither word's bit 0 is touched
  pub zero : g.ep0 ≡ (f.ep0 || bit (intr_of r In) 0)
  pub tx_zero : bit g.ep_tx 0 ≡ bit f.ep_tx 0
  pub rx_zero : bit g.ep_rx 0 ≡ bit f.ep_rx 0
