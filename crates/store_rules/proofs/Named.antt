-- The registers that no side holds, by their names, after every store. Assumes nothing.
use Prim.Native.Nat.{ℕ}
use mathlib.Core.Path.{◌≡◌}
use native.Mathlib.Omega.{arith}
use Rattle.board.specs.declared.Direction.{Direction}
use Rattle.board.specs.declared.Direction.TheVariants.{Out, In}
use Rattle.register_file.specs.Registers as file
use Rattle.register_file.specs.Registers.{Whole}
use Rattle.store_rules.specs.Stores.{Log}
use Rattle.store_rules.specs.Promise.{Store, does, writes}
use Rattle.store_rules.proofs.Promises.{number}

-- intrtxe and intrrxe in the account
abbrev pub enable_place : Direction → ℕ
enable_place Out = 5
enable_place In = 4

module _ (o : Store) (g : Log) (six : Whole g.regs) where
  pub named_faddr : file.faddr (does o g).regs ≡ writes o 1 (file.faddr g.regs)
  unfolding file.faddr
  named_faddr = number o g 1 six (omega arith)

  pub named_power : file.power (does o g).regs ≡ writes o 2 (file.power g.regs)
  unfolding file.power
  named_power = number o g 2 six (omega arith)

  pub named_intrusbe : file.intrusbe (does o g).regs ≡ writes o 3 (file.intrusbe g.regs)
  unfolding file.intrusbe
  named_intrusbe = number o g 3 six (omega arith)

  pub named_enabled : (d : Direction) → file.enabled_of d (does o g).regs ≡ writes o (enable_place d) (file.enabled_of d g.regs)
  unfolding file.enabled_of
  named_enabled Out = number o g 5 six (omega arith)
  named_enabled In = number o g 4 six (omega arith)
