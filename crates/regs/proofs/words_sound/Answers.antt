use Rattle.std.proofs.Common.{◌<◌, drop, length-take, sym, arith}
use Rattle.std.proofs.Math.Seq.{get_or-take, get_or-drop}
use Rattle.laws.specs.Tests.{◌also◌}
use Rattle.register_file.proofs.Soundness.{words_next, words_none}
use Rattle.regs.proofs.words_sound.Goals as goal

pub loop-c-init : goal.loop-c-init
loop-c-init c = sym (words_none _)

pub loop-c-preserved : goal.loop-c-preserved
unfolding ◌also◌
loop-c-preserved c = let w = c.args.w.now in let i = c.loop-c.c-index in
    let h : i < 12 = omega (arith, simp length-take at c.loop-c-test.true) in
    cc (words_next w i, get_or-take 12 (drop 10 w) i 0 h, get_or-drop 10 w i 0)
