-- What an arrival, a collection, an underrun and an overrun do to their side, as document 01 has it. Assumes nothing.
use Prim.Native.Nat.{ℕ, ◌<◌}
use mathlib.Core.Path.{refl}
use mathlib.Core.Bool.{true}
use borrow.Author.Tests.{eq-eqb}
use native.Mathlib.Omega.{arith}
use Rattle.board.specs.declared.Direction.{Direction}
use Rattle.board.specs.declared.Direction.TheVariants.{Out, In}
use Rattle.csr.proofs.AsWritten.{drops}
use Rattle.csr.proofs.Stored.{dropped_rest}
use Rattle.register_file.specs.Registers.{File, Whole, side_at}
use Rattle.event_rules.specs.Events.{arrived, collected, missing}
use Rattle.event_rules.specs.Promise.{arrival, collection, miss}
use Rattle.event_rules.specs.AsWritten.{Arrives, Unstalls, Collects, Misses}
use Rattle.event_rules.proofs.Promises.{sides}

pub arrives : (r : File) (e n : ℕ) → Whole r → e < 6 → Arrives n (side_at r e Out) (side_at (arrived r e n) e Out)
arrives r e n six h =
    rw (sides (arrival e n) r e Out six h, eq-eqb e e refl)
    (record { ready = refl; len = refl; missed = refl; stall = refl; rest = record { stalled = refl; iso = refl; maxp = refl } })

pub unstalls : (r : File) (n : ℕ) → Whole r → Unstalls (side_at r 0 In) (side_at (arrived r 0 n) 0 In)
unstalls r n six =
    rw (sides (arrival 0 n) r 0 In six (omega arith))
    (record { stall = refl; ready = refl; len = refl; missed = refl; rest = record { stalled = refl; iso = refl; maxp = refl } })

pub collects : (r : File) (e : ℕ) → Whole r → e < 6 → Collects (side_at r e In) (side_at (collected r e) e In)
collects r e six h =
    rw (sides (collection e) r e In six h, eq-eqb e e refl)
    (let k = dropped_rest true (side_at r e In) in
    record {
      ready = (drops _).0;
      len = (drops _).1;
      missed = k.missed;
      stall = k.stall;
      rest = record { stalled = k.stalled; iso = k.iso; maxp = k.maxp };
    })

pub misses : (r : File) (e : ℕ) (d : Direction) → Whole r → e < 6 → Misses (side_at r e d) (side_at (missing r e d) e d)
misses r e Out six h =
    rw (sides (miss e Out) r e Out six h, eq-eqb e e refl)
    (record { missed = refl; ready = refl; len = refl; stall = refl; rest = record { stalled = refl; iso = refl; maxp = refl } })
misses r e In six h =
    rw (sides (miss e In) r e In six h, eq-eqb e e refl)
    (record { missed = refl; ready = refl; len = refl; stall = refl; rest = record { stalled = refl; iso = refl; maxp = refl } })
