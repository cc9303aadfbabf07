-- Document 01's sentences about what an event does to a side, bit by bit, in words of their own: the account of Promise shares its words with
-- the definitions, and these do not.
-- Assumes nothing.
use Rattle.std.specs.Prelude.{ℕ, ◌≡◌, true, false}
use Rattle.csr.specs.declared.Side.{Side}

-- what no event touches of a side
pub record SameRest (s t : Side) : Type 0 where
  pub stalled : t.stalled ≡ s.stalled
  pub iso : t.iso ≡ s.iso
  pub maxp : t.maxp ≡ s.maxp

-- "arrival (sets RxPktRdy ..": a packet of n bytes waits
pub record Arrives (n : ℕ) (s t : Side) : Type 0 where
  pub ready : t.ready ≡ true
  pub len : t.len ≡ n
  pub missed : t.missed ≡ s.missed
  pub stall : t.stall ≡ s.stall
  pub rest : SameRest s t

-- ".. and drops its SendStall)": endpoint 0's transmit side
pub record Unstalls (s t : Side) : Type 0 where
  pub stall : t.stall ≡ false
  pub ready : t.ready ≡ s.ready
  pub len : t.len ≡ s.len
  pub missed : t.missed ≡ s.missed
  pub rest : SameRest s t

-- "collection (.. then drops it, clears TxPktRdy ..)"
pub record Collects (s t : Side) : Type 0 where
  pub ready : t.ready ≡ false
  pub len : t.len ≡ 0
  pub missed : t.missed ≡ s.missed
  pub stall : t.stall ≡ s.stall
  pub rest : SameRest s t

-- "underrun, overrun (set UnderRun or OverRun ..)"
pub record Misses (s t : Side) : Type 0 where
  pub missed : t.missed ≡ true
  pub ready : t.ready ≡ s.ready
  pub len : t.len ≡ s.len
  pub stall : t.stall ≡ s.stall
  pub rest : SameRest s t
