use Rattle.store_rules.proofs.Promises.{packet_none, packet_some}
use Rattle.store_rules.specs.Stores.{log}
use native.Mathlib.Omega.{arith}
use Rattle.register_file.specs.Registers.{index}
use Rattle.stores.proofs.write_packet.Goals as goal

pub returns-then-len-eq0 : goal.returns-then-len-eq0
returns-then-len-eq0 c = let a = c.args in (packet_none a.len (log a.w.now a.list.now a.n) c.if-len-eq0.true, omega arith)

pub returns : goal.returns
unfolding index
returns c = let a = c.args in (cc (packet_some a.len (log a.w.now a.list.now a.n) c.if-len-eq0.false), omega arith)
