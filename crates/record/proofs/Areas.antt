-- Where an endpoint's area lies: it ends within the buffer that is asked for, and shares no byte with another. Assumes nothing.
use Prim.Native.Nat.{ℕ, ◌+◌, ◌≤◌, ◌<◌}
use mathlib.Core.Bool.{false}
use borrow.Author.Tests.{leb-false}
use lib.Dec.{leb}
use mathlib.Core.Path.{◌≡◌, ap, ◌∙◌}
use native.Mathlib.Omega.{arith}
use lib.ListN.{length, get_or}
use Rattle.board.specs.declared.Board.{Board}
use Rattle.board.specs.declared.Board.TheVariants.{Display}
use Rattle.board.specs.declared.Direction.{Direction}
use Rattle.board.specs.Table as table
use Rattle.board.specs.Table.{place, Disjoint}
use Rattle.board.specs.Boards.{rows, rows_if_display, at_most_six}
use Rattle.board.proofs.Areas.{room_at, sizes_all, within, share_none, display_total}
use Rattle.record.specs.declared.Record.{Record}
use Rattle.record.specs.Record.{area_in, area_of, need_in, need_of, endpoints_in, endpoints_of, sizes_of}

pub area_within : (k : Record) (e : ℕ) (d : Direction) → (area_of k e d).start + (area_of k e d).size ≤ need_of k
unfolding area_in area_of need_in need_of
area_within k e d = within (rows k.regs.board) e d

pub areas_apart : (k : Record) (e f : ℕ) (d c : Direction) → (place e d ≡ place f c → ⊥) → Disjoint (area_of k e d) (area_of k f c)
unfolding area_in area_of
areas_apart k e f d c n = share_none (rows k.regs.board) e f d c n

-- document 01's numbers: "endpoint 6 or more" and "FIFO buffer under 1,664 bytes" are those of this board
pub six_endpoints : (k : Record) → k.regs.board ≡ Display → endpoints_of k ≡ 6
unfolding endpoints_in endpoints_of
six_endpoints k e = ap length (rows_if_display k.regs.board e)

pub need_1664 : (k : Record) → k.regs.board ≡ Display → need_of k ≡ 1664
unfolding need_in need_of
need_1664 k e = ap table.total (rows_if_display k.regs.board e) ∙ display_total

-- an endpoint that is not refused is one of six
pub below_six : (b : Board) (e : ℕ) → leb (endpoints_in b) e ≡ false → e < 6
unfolding endpoints_in
below_six b e p = omega (arith, leb-false (length (rows b)) e p, at_most_six b)

-- the list of sizes has each area's at its place
pub size_at : (k : Record) (e : ℕ) (d : Direction) → get_or (sizes_of k) (place e d) 0 ≡ (area_of k e d).size
unfolding area_in area_of
size_at k e d = sizes_all (rows k.regs.board) (place e d) (at_most_six k.regs.board) ∙ room_at (rows k.regs.board) e d
