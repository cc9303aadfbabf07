-- Words for what a step leaves of a side: its packet, and all but its packet.
-- Assumes nothing.
use Rattle.std.specs.Prelude.{◌≡◌, false}
use Rattle.csr.specs.declared.Side.{Side}

-- no packet waits at the side: "A drop makes its length 0"
pub record NoPacket (s : Side) : Type 0 where
  pub ready : s.ready ≡ false
  pub length : s.len ≡ 0

-- the packet that waits at the side is the one that waited, or none did and none does
pub record SamePacket (s t : Side) : Type 0 where
  pub ready : t.ready ≡ s.ready
  pub length : t.len ≡ s.len

-- all of the side but its packet
pub record SameBits (s t : Side) : Type 0 where
  pub missed : t.missed ≡ s.missed
  pub stall : t.stall ≡ s.stall
  pub stalled : t.stalled ≡ s.stalled
  pub iso : t.iso ≡ s.iso
  pub maxp : t.maxp ≡ s.maxp
