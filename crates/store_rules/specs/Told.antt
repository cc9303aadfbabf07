-- What stands in the list tells the store.
-- Assumes nothing.
use Rattle.std.specs.Prelude.{◌≡◌}
use Rattle.store_rules.specs.Promise.{Store, register, value}

-- two stores that list the same register and the same value are one store. Of a packet that is its length: no store has the bytes.
abbrev pub Told : Type 0
Told = (o p : Store) → register o ≡ register p → value o ≡ value p → o ≡ p
