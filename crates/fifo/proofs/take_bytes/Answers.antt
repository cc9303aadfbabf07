use Rattle.std.proofs.Common.{◌≡◌, ℕ, ◌+◌, ◌-◌, ◌≤◌, List, ◌++◌, take, drop, length, length-drop, zero-add, arith}
use Rattle.std.proofs.Math.Seq.{length-take-le}
use Rattle.laws.specs.Lists.{pasted}
use Rattle.fifo.proofs.take_bytes.Goals as goal

-- the front of d that holds n bytes of f from s on when it is back
whole : (d f front : List ℕ) (s n : ℕ) → s + n ≤ length f → front ≡ take (s + n - s) (drop s f) → front ++ drop n d ≡ pasted d 0 (take n (drop s f))
unfolding pasted
whole d f front s n h e =
    let k : s + n - s ≡ n = omega arith in
    let l : length (take n (drop s f)) ≡ n = length-take-le n (drop s f) (simp length-drop (omega arith)) in
    rw (e, k, l, zero-add)

pub returns : goal.returns
returns c = let a = c.args in whole a.buf.now a.fifo.now c.copy_from_slice.new.self a.area.start a.n (omega arith) c.copy_from_slice.ensures.after
