-- What stalling and unstalling leave, beside their definitions and apart from them. Document 01 calls it a near miss to use "`modify` in
-- stalling (the source's `write` also drops a waiting packet at 1 to 5)".
-- Assumes nothing.
use Rattle.std.specs.Prelude.{ℕ, ◌≡◌, Bool, true, false, cond, [], ◌∷◌}
use Rattle.board.specs.declared.Direction.{Direction}
use Rattle.board.specs.declared.Direction.TheVariants.{Out, In}
use Rattle.csr.specs.declared.Side.{Side}
use Rattle.register_file.specs.Registers.{side_at, index, setupend, enabled_of}
use Rattle.store_list.specs.Stores.{INDEX, CSR0L, TXCSRL, RXCSRL}
use Rattle.store_rules.specs.Stores.{Log}
use Rattle.common_rules.specs.Kept.{SameRest, to, Lists}
use Rattle.csr.specs.Kept.{NoPacket, SamePacket}

-- at 1 to 5, stalled or unstalled: out drops the packet that was received, in keeps the packet that waits to be sent
abbrev pub Packet : Direction → Side → Side → Type 0
Packet Out s t = NoPacket t
Packet In s t = SamePacket s t

-- the register and the two values: SendStall, `if !stalled { .. w.set_clr_data_tog(true) }`
abbrev pub csrl : Direction → ℕ
csrl Out = RXCSRL
csrl In = TXCSRL

abbrev pub stall_value : Direction → Bool → ℕ
stall_value Out stalled = cond stalled 32 128
stall_value In stalled = cond stalled 16 64

-- endpoint e of 1 to 5, stalled or unstalled in direction d
pub record Stalls (d : Direction) (e : ℕ) (stalled : Bool) (g h : Log) : Type 0 where
  pub packet : Packet d (side_at g.regs e d) (side_at h.regs e d)
  pub halt : (side_at h.regs e d).stall ≡ stalled
  pub sent : (side_at h.regs e d).stalled ≡ false
  pub missed : (side_at h.regs e d).missed ≡ false
  pub iso : (side_at h.regs e d).iso ≡ (side_at g.regs e d).iso
  pub size : (side_at h.regs e d).maxp ≡ (side_at g.regs e d).maxp
  pub others : (f : ℕ) (c : Direction) → (f ≡ e → c ≡ d → ⊥) → side_at h.regs f c ≡ side_at g.regs f c
  pub ended : setupend h.regs ≡ setupend g.regs
  pub enabled : (c : Direction) → enabled_of c h.regs ≡ enabled_of c g.regs
  pub rest : SameRest g.regs h.regs
  pub selected : index h.regs ≡ e
  pub lists : Lists g h e (to INDEX e ∷ to (csrl d) (stall_value d stalled) ∷ [])

-- at endpoint 0 stalling out answers the packet that was received, `if stalled { w.set_serviced_rx_pkt_rdy(true) }`, and so drops it; all
-- else leaves it
abbrev pub Received : Direction → Bool → Side → Side → Type 0
Received Out true s t = NoPacket t
Received Out false s t = t ≡ s
Received In stalled s t = t ≡ s

abbrev pub zero_value : Direction → Bool → ℕ
zero_value Out stalled = cond stalled 96 0
zero_value In stalled = cond stalled 32 0

-- endpoint 0, stalled or unstalled in direction d: one SendStall for both, and SetupEnd stays
pub record StallsZero (d : Direction) (stalled : Bool) (g h : Log) : Type 0 where
  pub sending : SamePacket (side_at g.regs 0 In) (side_at h.regs 0 In)
  pub received : Received d stalled (side_at g.regs 0 Out) (side_at h.regs 0 Out)
  pub halt : (side_at h.regs 0 In).stall ≡ stalled
  pub sent : (side_at h.regs 0 In).stalled ≡ false
  pub others : (f : ℕ) (c : Direction) → (f ≡ 0 → ⊥) → side_at h.regs f c ≡ side_at g.regs f c
  pub ended : setupend h.regs ≡ setupend g.regs
  pub enabled : (c : Direction) → enabled_of c h.regs ≡ enabled_of c g.regs
  pub rest : SameRest g.regs h.regs
  pub selected : index h.regs ≡ 0
  pub lists : Lists g h 0 (to INDEX 0 ∷ to CSR0L (zero_value d stalled) ∷ [])
