-- What the first tests of a write or a read let through. Where reply 15 is not given, the FIFO buffer holds every area and the list 128 stores.
-- Assumes nothing.
use Prim.Native.Nat.{ℕ, ◌≤◌, ◌<◌}
use mathlib.Core.Path.{◌≡◌}
use mathlib.Core.Logic.{◌↔◌, ◌⊎◌}
use mathlib.Core.Bool.{true, false}
use borrow.Author.Tests.{ltb-false}
use lib.Dec.{leb, ltb}
use Rattle.laws.proofs.Tests.{neither}
use Rattle.board.specs.declared.Board.{Board}
use Rattle.record.specs.declared.Record.{Record}
use Rattle.record.specs.Record.{need_in, need_of, endpoints_of, record_sound}
use Rattle.record.proofs.Rows.{tells_under, tells_either}
use Rattle.transfer_rules.specs.Peek.{short_in, short}

pub enough : (b : Board) (f l : ℕ) → short_in b f l ≡ false → (need_in b ≤ f) × (384 ≤ l)
unfolding short_in
enough b f l p = let q = neither (ltb f (need_in b)) (ltb l 384) p in (ltb-false _ _ q.0, ltb-false _ _ q.1)

pub lent_enough : (k : Record) (f l : ℕ) → short k f l ≡ false → (need_of k ≤ f) × (384 ≤ l)
unfolding short need_of
lent_enough k f l p = enough k.regs.board f l p

-- the three tests that come first, passed: enough is lent, the record passes, the endpoint is there
pub record Admitted (k : Record) (ep fifo list : ℕ) : Type 0 where
  pub lent : short k fifo list ≡ false
  pub passes : record_sound k ≡ true
  pub there : leb (endpoints_of k) ep ≡ false

-- reply 15's row and its test
pub says_short : (k : Record) (f l : ℕ) → short k f l ≡ true ↔ ((f < need_of k) ⊎ (l < 384))
unfolding short short_in need_of
says_short k f l = tells_either (ltb f (need_of k)) (ltb l 384) (tells_under f (need_of k)) (tells_under l 384)
