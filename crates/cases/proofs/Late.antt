-- T-11's snapshots on one record, computed: as proofs/Rounds.antt does, with the display's table written out. Assumes nothing.
use mathlib.Core.Path.{◌≡◌, refl, ap, ◌∙◌}
use mathlib.Core.Bool.{true, false}
use Rattle.laws.specs.Tests.{◌also◌}
use Rattle.laws.specs.Words.{bit, raised}
use Rattle.laws.specs.Lists.{numbers}
use Rattle.board.specs.declared.Board.TheVariants.{Display}
use Rattle.board.specs.Boards.{display}
use Rattle.board.specs.Table as table
use Rattle.csr.specs.Sound.{side_sound}
use Rattle.register_file.specs.Registers.{fresh_file, fresh_regs, index, faddr, intrusb, with_intrusb, intr_of, with_intr, side_of, side_in}
use Rattle.register_file.specs.Sound.{words_below, sides_below, regs_sound}
use Rattle.event_rules.specs.Events.{intrusb_cleared, intr_cleared}
use Rattle.event_rules.specs.Raised.{bus_bits_raised, word_raised, bits_raised}
use Rattle.record.specs.declared.Flags.{Flags}
use Rattle.record.specs.declared.Record.{Record}
use Rattle.record.specs.Record.{fresh_record, with_irq}
use Rattle.call_rules.specs.declared.Snapshot.{Snapshot}
use Rattle.call_rules.specs.Interrupt.{snapshot_of, cleared, bus_taken, raised_if, endpoint_taken, endpoints_taken, taken}
use Rattle.call_rules.specs.Late.{joined, raised_in, take}
use Rattle.call_rules.proofs.Late.{is_refused}
use Rattle.cases.specs.Late.{fresh, first, second, after_first, after_both, refused, LateCases}
use Rattle.cases.proofs.Rounds.{passes_in, tested, short_taken, taken_short}

-- one snapshot, taken on the display: its record is on that board and passes, and what it then leaves
record Taken (k : Record) (s : Snapshot) (q : Record) : Type 0 where
  board : (raised_in k s).regs.board ≡ Display
  passes : passes_in display (raised_in k s) ≡ true
  leaves : short_taken (raised_in k s) ≡ q

takes : (k : Record) (s : Snapshot) (q : Record) → Taken k s q → take k s ≡ q
takes k s q t = taken_short (raised_in k s) t.board t.passes ∙ t.leaves

-- and one that is refused: it does not pass, and its bits are raised
record Refused (k : Record) (s : Snapshot) (q : Record) : Type 0 where
  board : (raised_in k s).regs.board ≡ Display
  fails : passes_in display (raised_in k s) ≡ false
  leaves : raised_in k s ≡ q

refuses : (k : Record) (s : Snapshot) (q : Record) → Refused k s q → take k s ≡ q
refuses k s q t = is_refused (raised_in k s) (tested (raised_in k s) t.board ∙ t.fails) ∙ t.leaves

after_second : Flags
after_second = record { reset = true; suspend = true; resume = false; ep0 = false; ep_tx = 2; ep_rx = 32 }

record Computed : Type 0 where
  one : Taken fresh first (with_irq fresh after_first)
  then_second : Taken (with_irq fresh after_first) second (with_irq fresh after_both)
  joint : Taken fresh (joined first second) (with_irq fresh after_both)
  other : Taken fresh second (with_irq fresh after_second)
  then_first : Taken (with_irq fresh after_second) first (with_irq fresh after_both)
  again : Taken (with_irq fresh after_first) first (with_irq fresh after_first)
  refused_one : Refused (refused 0 0 0) first (refused 4 3 0)
  refused_second : Refused (refused 4 3 0) second (refused 5 3 33)
  refused_joint : Refused (refused 0 0 0) (joined first second) (refused 5 3 33)

computed : Computed
unfolding joined after_second raised_in bits_raised word_raised bus_bits_raised fresh_record fresh_file fresh_regs index faddr intrusb with_intrusb intr_of with_intr side_of side_in table.sizes_of regs_sound sides_below words_below side_sound ◌also◌ snapshot_of cleared intrusb_cleared intr_cleared taken endpoints_taken endpoint_taken raised_if bus_taken numbers raised bit
computed = record {
  one = record { board = refl; passes = refl; leaves = refl };
  then_second = record { board = refl; passes = refl; leaves = refl };
  joint = record { board = refl; passes = refl; leaves = refl };
  other = record { board = refl; passes = refl; leaves = refl };
  then_first = record { board = refl; passes = refl; leaves = refl };
  again = record { board = refl; passes = refl; leaves = refl };
  refused_one = record { board = refl; fails = refl; leaves = refl };
  refused_second = record { board = refl; fails = refl; leaves = refl };
  refused_joint = record { board = refl; fails = refl; leaves = refl };
}

-- one after another
then : {j k l : Record} (s : Snapshot) → j ≡ k → take k s ≡ l → take j s ≡ l
then s p q = ap (λ (j : Record). take j s) p ∙ q

pub late_cases : LateCases
late_cases =
    let one = takes _ _ _ computed.one in
    record {
      one = one;
      two = then second one (takes _ _ _ computed.then_second);
      joint = takes _ _ _ computed.joint;
      turned = then first (takes _ _ _ computed.other) (takes _ _ _ computed.then_first);
      again = then first one (takes _ _ _ computed.again);
      two_refused = then second (refuses _ _ _ computed.refused_one) (refuses _ _ _ computed.refused_second);
      joint_refused = refuses _ _ _ computed.refused_joint;
    }
