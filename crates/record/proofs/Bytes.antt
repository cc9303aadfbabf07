-- Bytes that are pasted into an area fill its first bytes, and nothing else changes. Assumes nothing.
use Prim.Native.Nat.{ℕ, ◌+◌, ◌≤◌}
use mathlib.Core.List.{List}
use native.Mathlib.Omega.{arith}
use lib.ListN.{length}
use Rattle.laws.specs.Lists.{pasted}
use Rattle.laws.proofs.Lists.{byte_inside, byte_before, byte_after, length_pasted}
use Rattle.board.specs.declared.Span.{Span}
use Rattle.record.specs.Bytes.{Fills}

pub pasted_fills : (a : Span) (b f : List ℕ) → length b ≤ a.size → a.start + a.size ≤ length f → Fills a b f (pasted f a.start b)
pasted_fills a b f n m =
    let start : a.start ≤ length f = omega arith in
    record {
      fits = n;
      within = m;
      bytes = λ i h. byte_inside f a.start b start i 0 h;
      before = λ i h. byte_before f a.start b start i 0 h;
      past = λ i h. byte_after f a.start b start i 0 h;
      whole = length_pasted f a.start b (omega arith);
    }
