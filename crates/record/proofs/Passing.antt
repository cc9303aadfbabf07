-- Reply 16's test, taken apart and put together, and what a record that passes it says of its areas. Assumes nothing.
use Prim.Native.Nat.{ℕ, ◌≤◌}
use mathlib.Core.Path.{◌≡◌}
use mathlib.Core.Bool.{true}
use lib.Dec.{lit≤}
use lib.Pow.{pow_pos}
use borrow.Author.Tests.{ltb-true, lt-ltb}
use Rattle.laws.proofs.Tests.{also_left, also_right, also_both}
use Rattle.board.specs.declared.Board.{Board}
use Rattle.board.specs.declared.Direction.{Direction}
use Rattle.board.specs.Boards.{at_least_one}
use Rattle.register_file.specs.Registers.{side_at, index, faddr}
use Rattle.register_file.proofs.Sides.{fresh_side, fresh_zero, fresh_words}
use Rattle.register_file.proofs.Soundness.{is_sound, sound_passes, fresh_clean}
use Rattle.csr.proofs.Soundness.{none_ok}
use Rattle.record.specs.declared.Record.{Record}
use Rattle.record.specs.Record.{fresh_record, area_of, sizes_of, flags_sound, passes, record_sound, SoundRecord}
use Rattle.record.proofs.Areas.{size_at}

pub record_is_sound : (k : Record) → record_sound k ≡ true → SoundRecord k
unfolding record_sound passes flags_sound
record_is_sound k p = record {
  regs = is_sound (sizes_of k) _ k.regs.words (also_left _ _ p);
  tx = ltb-true _ _ (also_left _ _ (also_right _ _ p));
  rx = ltb-true _ _ (also_right _ _ (also_right _ _ p));
}

pub sound_record_passes : (k : Record) → SoundRecord k → record_sound k ≡ true
unfolding record_sound passes flags_sound
sound_record_passes k s = also_both (sound_passes (sizes_of k) _ k.regs.words s.regs) (also_both (lt-ltb _ _ s.tx) (lt-ltb _ _ s.rx))

-- a waiting packet fits its area
pub waiting_fits : (k : Record) → SoundRecord k → (e : ℕ) (d : Direction) → (side_at k.regs.words e d).len ≤ (area_of k e d).size
waiting_fits k s e d = rw (size_at k e d) at (s.regs.side e d).fits

-- a fresh record passes
pub fresh_passes : (b : Board) → SoundRecord (fresh_record b)
unfolding fresh_record index faddr
fresh_passes b = record {
  regs = record {
    selected = rw ((fresh_words b).0, fresh_zero 0, (fresh_words b).1) (at_least_one b);
    address = rw ((fresh_words b).0, fresh_zero 1) (lit≤ tt);
    clean = rw (fresh_words b).0 fresh_clean;
    side = λ (e : ℕ) (d : Direction). rw ((fresh_words b).0, fresh_side e d) (none_ok _);
  };
  tx = pow_pos _;
  rx = pow_pos _;
}
