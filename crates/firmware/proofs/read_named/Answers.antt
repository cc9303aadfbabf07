-- `firmware::read_named` does not fail: a read that is done has its whole packet in the buffer.
-- Assumes nothing.
use Prim.Native.Nat.{ℕ, ◌≤◌}
use native.Mathlib.Omega.{arith}
use mathlib.Core.Path.{◌≡◌, sym, ap, ◌∙◌}
use mathlib.Core.List.{List}
use lib.ListN.{length}
use lib.Seq.{length-take-le}
use Rattle.std.specs.Prelude.{Ok}
use Rattle.board.specs.declared.Direction.TheVariants.{Out}
use Rattle.register_file.specs.Registers.{side_at}
use Rattle.record.specs.declared.Called.{Called}
use Rattle.record.specs.declared.Record.{Record}
use Rattle.record.specs.Record.{Reply}
use Rattle.transfer_rules.specs.Read.{ReadOutcome, read_call}
use Rattle.transfer_rules.specs.ReadZero.{read_number}
use Rattle.transfer_rules.proofs.Transfers.{copies}
use Rattle.firmware.proofs.read_named.Goals as goal

fits : (k : Record) (ep : ℕ) (buf f l : List ℕ) {x : Called (Reply ℕ)} {l' buf' : List ℕ} {n : ℕ}
    → record { result = x; list = l'; buf = buf' } ≡ read_call k ep buf f l → x.answer ≡ Ok n → n ≤ length buf'
fits k ep buf f l {x} {l'} {buf'} {n} e done =
    let told : Ok n ≡ (read_call k ep buf f l).result.answer = sym done ∙ ap (λ (o : ReadOutcome). o.result.answer) e in
    let c = copies k ep buf f l (ap read_number (sym told)) in
    let said = c.said in
    let is : n ≡ (side_at k.regs.words ep Out).len = cc in
    let whole : length buf' ≡ length buf = ap (λ (o : ReadOutcome). length o.buf) e ∙ c.whole in omega (arith, is, c.room, whole)

pub slice_bounds-received-end : goal.slice_bounds-received-end
slice_bounds-received-end c = fits _ _ _ _ _ c.read-r.ensures c.in-Ok.is

pub slice_bounds-received-end-in-Ok : goal.slice_bounds-received-end-in-Ok
slice_bounds-received-end-in-Ok c = sym (length-take-le _ _ (fits _ _ _ _ _ c.read-r.ensures c.in-Ok.is))
