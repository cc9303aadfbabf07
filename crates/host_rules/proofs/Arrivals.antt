-- An answered arrival puts its bytes into the first bytes of the endpoint's own receive area, and changes no other byte of FIFO memory.
-- Assumes nothing.
use Rattle.std.specs.Prelude.{Err, Ok}
use Prim.Native.Nat.{ℕ}
use mathlib.Core.Path.{◌≡◌, refl}
use mathlib.Core.List.{List}
use native.Mathlib.Omega.{arith}
use borrow.Author.Tests.{ltb-false}
use lib.Dec.{ltb}
use lib.ListN.{length}
use Rattle.laws.specs.Lists.{pasted}
use Rattle.board.specs.declared.Direction.TheVariants.{Out}
use Rattle.register_file.specs.Registers.{side_at}
use Rattle.record.specs.declared.Record.{Record}
use Rattle.record.specs.Record.{area_in, area_of, reply_number, Reply}
use Rattle.record.specs.Bytes.{Fills}
use Rattle.record.proofs.Areas.{area_within}
use Rattle.record.proofs.Bytes.{pasted_fills}
use Rattle.record.proofs.Numbers.{not_zero}
use Rattle.host_rules.specs.Host.{entry_at, arrival_refusal_in, arrival_refusal, Arrival, unless_arrived, arrival_call}
use Rattle.host_rules.proofs.Host.{admitted, arrival_passed}

module _ (k : Record) (e : ℕ) (b f : List ℕ) where
  pub fills_clear : arrival_refusal k e (length b) (length f) ≡ (Ok tt) → Fills (area_of k e Out) b f (pasted f (area_of k e Out).start b)
  unfolding arrival_refusal arrival_refusal_in area_of
  fills_clear c =
      let (p, short, _) = arrival_passed (entry_at k e (length f)) (ltb (area_in k.regs.board e Out).size (length b)) (side_at k.regs.words e Out).ready c in
      pasted_fills (area_of k e Out) b f (ltb-false _ _ short) (omega (arith, area_within k e Out, (admitted k e (length f) p).enough))

  pub fills : reply_number (arrival_call k e b f).event.answer ≡ 0 → Fills (area_of k e Out) b f (arrival_call k e b f).fifo
  unfolding arrival_call
  fills z = go (arrival_refusal k e (length b) (length f)) _ fills_clear z
    where
      go : (t : Reply Unit) (a : Arrival) → (t ≡ (Ok tt) → Fills (area_of k e Out) b f a.fifo) → reply_number (unless_arrived t k f a).event.answer ≡ 0
          → Fills (area_of k e Out) b f (unless_arrived t k f a).fifo
      go (Ok tt) a h z = h refl
      go (Err x) a h z = absurd (not_zero x z)
