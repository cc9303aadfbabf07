-- What a snapshot does to the flags: which bits of the words it raises, and that no flag comes above the last endpoint's. Assumes nothing.
use mathlib.Core.Bool.{Bool, true, false, cond}
use mathlib.Core.List.{foldl}
use Prim.Native.Nat.{ℕ, zero, suc, ◌+◌, ◌-◌, ◌^◌, ◌≤◌, ◌<◌}
use native.Mathlib.Omega.{arith}
use Rattle.laws.specs.Words.{bit, raised}
use Rattle.laws.proofs.Words.{raised_lt}
use Rattle.laws.specs.Lists.{numbers}
use Rattle.record.specs.declared.Flags.{Flags}
use Rattle.call_rules.specs.declared.Snapshot.{Snapshot}
use Rattle.call_rules.specs.Interrupt.{bus_taken, raised_if, endpoint_taken, endpoints_taken, taken}

raised_if_low : (n read w e : ℕ) → w < 2 ^ n → e < n → raised_if read w e < 2 ^ n
unfolding raised_if
raised_if_low n read w e hw he = go (bit read e)
  where
    go : (b : Bool) → cond b (raised w e) w < 2 ^ n
    go true = raised_lt n w e hw he
    go false = hw

abbrev Low : ℕ → Flags → Type 0
Low n f = (f.ep_tx < 2 ^ n) × (f.ep_rx < 2 ^ n)

walk_low : (n : ℕ) (s : Snapshot) (m i : ℕ) (f : Flags) → i + m ≤ n → Low n f → Low n (foldl (endpoint_taken s) f (numbers i m))
unfolding numbers endpoint_taken
walk_low n s zero i f h l = l
walk_low n s (suc m) i f h l =
    walk_low n s m (suc i) (endpoint_taken s f i) (omega arith)
    (raised_if_low n s.tx f.ep_tx i l.0 (omega arith), raised_if_low n s.rx f.ep_rx i l.1 (omega arith))

-- document 01's "flag above bit 5" never comes of an interrupt
pub taken_low : (n : ℕ) (s : Snapshot) (f : Flags) → 1 ≤ n → f.ep_tx < 2 ^ n → f.ep_rx < 2 ^ n
    → ((taken n s f).ep_tx < 2 ^ n) × ((taken n s f).ep_rx < 2 ^ n)
unfolding taken endpoints_taken bus_taken
taken_low n s f h tx rx = walk_low n s (n - 1) 1 (bus_taken s f) (omega arith) (tx, rx)
