use Rattle.std.proofs.Common.{◌≡◌, ℕ, ◌+◌, ◌-◌, List, ◌++◌, length, take, drop, append_assoc, drop-drop, arith}
use Rattle.laws.specs.Lists.{pasted}
use Rattle.fifo.proofs.put_bytes.Goals as goal

-- a part of d that holds b when it is back
whole : (d b part : List ℕ) (s : ℕ) → part ≡ b → take s d ++ (part ++ drop (s + length b - s) (drop s d)) ≡ pasted d s b
unfolding pasted
whole d b part s e =
    let k : s + length b - s ≡ length b = omega arith in
    rw (e, k) (simp (drop-drop, append_assoc))

pub returns : goal.returns
returns c = let a = c.args in whole a.fifo.now a.bytes.now c.copy_from_slice.new.self a.area.start c.copy_from_slice.ensures.after
