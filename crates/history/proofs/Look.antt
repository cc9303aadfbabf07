-- What the step laws look at in the driver's record, and what every record of a history is. Assumes nothing.
use mathlib.Core.Path.{◌≡◌, ap}
use Prim.Native.Nat.{ℕ, ◌+◌, ◌^◌, ◌<◌}
use native.Mathlib.Nat.{le_trans}
use native.Mathlib.Omega.{arith}
use lib.Pow.{pow_mono}
use lib.ListN.{length}
use Rattle.laws.specs.Words.{bit}
use Rattle.board.specs.declared.Board.{Board}
use Rattle.board.specs.Boards.{rows, at_most_six, at_least_one}
use Rattle.board.specs.declared.Direction.TheVariants.{Out}
use Rattle.register_file.specs.Registers.{intr_of}
use Rattle.record.specs.declared.Record.{Record}
use Rattle.calls.specs.Kept.{Good}
use Rattle.rounds.specs.Machine.{count}
use Rattle.rounds.specs.Sentences.{Endpoint}
use Rattle.rounds.specs.Laws.{Look, Quiet}
use Rattle.history.specs.Driver.{driver}
use Rattle.history.proofs.Flags.{Alike}

module _ (b : Board) where
  abbrev pub look : Look (driver b)
  look =
      record {
        flag = λ k. bit k.irq.ep_rx;
        due = λ k. bit (intr_of k.regs.words Out);
        sent = λ k. bit k.irq.ep_tx;
        up = λ k. count k.irq.reset + count k.irq.resume + count k.irq.suspend;
        most = 3;
      }

  -- it passes reply 16's test, has a whole register file, and is of the board that it was made for
  pub record Kept (k : Record) : Type 0 where
    pub good : Good k
    pub board : k.regs.board ≡ b

  -- an endpoint of the board has its bit in a word of six
  pub below : (j : ℕ) → Endpoint (driver b) j → j < length (rows b)
  below j ep = omega (arith, ep.high, at_least_one b)

  pub low : (j : ℕ) → Endpoint (driver b) j → j < 6
  low j ep = le_trans (below j ep) (at_most_six b)

  module _ (k : Record) (g : Kept k) where
    pub receive_bound : k.irq.ep_rx < 2 ^ length (rows b)
    receive_bound = rw (← g.board) g.good.sound.rx

    pub small : k.irq.ep_rx < 64
    small = le_trans receive_bound (pow_mono (at_most_six b))

  -- a step that changes no flag but endpoint 0's and takes no receive interrupt
  pub calm : (k t : Record) → Alike k.irq t.irq → intr_of t.regs.words Out ≡ intr_of k.regs.words Out → Quiet look k t
  calm k t a due =
      record {
        receive = record { flag = λ j ep. a.rx j ep.low (low j ep); due = λ j ep. ap (λ (w : ℕ). bit w j) due };
        sent = λ j ep. a.tx j ep.low (low j ep);
        bus = omega (arith, ap count a.reset, ap count a.resume, ap count a.suspend);
      }
