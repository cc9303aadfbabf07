-- What enabling an endpoint in one direction leaves, beside its definition and apart from it, in the order of the source's `ep_tx_enable` and
-- `ep_rx_enable`.
-- Assumes nothing.
use Rattle.std.specs.Prelude.{ℕ, ◌+◌, ◌<◌, ◌≡◌, Bool, true, false, ◌||◌, cond, List, [], ◌∷◌, ◌++◌}
use Rattle.laws.specs.Words.{bit}
use Rattle.board.specs.declared.Direction.{Direction}
use Rattle.board.specs.declared.Direction.TheVariants.{Out, In}
use Rattle.csr.specs.declared.Side.{Side}
use Rattle.csr.specs.Control.{csr0l_number}
use Rattle.register_file.specs.Registers.{side_at, index, setupend, enabled_of}
use Rattle.register_file.specs.Control.{csr0l_read}
use Rattle.store_list.specs.Stores.{INDEX, CSR0L, CSR0H, TXCSRL, RXCSRL, TXCSRH, RXCSRH, TXMAXP, RXMAXP, INTRTXE, INTRRXE}
use Rattle.store_rules.specs.Stores.{Log}
use Rattle.common_rules.specs.Kept.{SameRest, Stored, to, Lists}
use Rattle.csr.specs.Kept.{NoPacket, SameBits}

-- `modify(|w| w.set_ep_txe(index, true))`: the endpoint's bit is set, every other of the sixteen is as it was
pub record Raised (e : ℕ) (before after : ℕ) : Type 0 where
  pub set : bit after e ≡ true
  pub others : (j : ℕ) → j < 16 → (j ≡ e → ⊥) → bit after j ≡ bit before j

-- what is stored, in order: index, intrtxe, txmaxp, ClrDataTog alone (bit 6 of TXCSRL, bit 7 of RXCSRL), ISO (bit 6) if isochronous; and, if a
-- packet waited to be sent, the flush twice (bit 3, the first time with TxPktRdy and FIFONotEmpty as they read). The received packet is gone
-- with the store of ClrDataTog, so that `ep_rx_enable` flushes nothing.
abbrev pub enable_stores : Direction → ℕ → ℕ → ℕ → Bool → Bool → List Stored
enable_stores Out e word size iso waits = to INDEX e ∷ to INTRRXE word ∷ to RXMAXP size ∷ to RXCSRL 128 ∷ cond iso (to RXCSRH 64 ∷ []) []
enable_stores In e word size iso waits =
    to INDEX e ∷ to INTRTXE word ∷ to TXMAXP size ∷ to TXCSRL 64 ∷ (cond iso (to TXCSRH 64 ∷ []) [] ++ cond waits (to TXCSRL 11 ∷ to TXCSRL 8 ∷ []) [])

-- the side t of what was s: the size stands in MAXP, ISO is set where it is asked and never put down, no packet waits (where none waited the
-- length was 0, as reply 16 asks), and SendStall, SentStall and UnderRun or OverRun are down
pub record Ready (iso : Bool) (size : ℕ) (s t : Side) : Type 0 where
  pub maxp : t.maxp ≡ size
  pub isochronous : t.iso ≡ (iso || s.iso)
  pub empty : (s.ready ≡ false → s.len ≡ 0) → NoPacket t
  pub halt : t.stall ≡ false
  pub sent : t.stalled ≡ false
  pub missed : t.missed ≡ false

-- endpoint e of 1 to 5, in direction d
pub record Enables (d : Direction) (e : ℕ) (iso : Bool) (size : ℕ) (g h : Log) : Type 0 where
  pub interrupt : Raised e (enabled_of d g.regs) (enabled_of d h.regs)
  pub other_word : (c : Direction) → (c ≡ d → ⊥) → enabled_of c h.regs ≡ enabled_of c g.regs
  pub side : Ready iso size (side_at g.regs e d) (side_at h.regs e d)
  pub others : (f : ℕ) (c : Direction) → (f ≡ e → c ≡ d → ⊥) → side_at h.regs f c ≡ side_at g.regs f c
  pub ended : setupend h.regs ≡ setupend g.regs
  pub rest : SameRest g.regs h.regs
  pub selected : index h.regs ≡ e
  pub lists : Lists g h e (enable_stores d e (enabled_of d h.regs) size iso (side_at g.regs e d).ready)

-- endpoint 0, in either direction: "EP0 has only one interrupt enable register"; both packets and SetupEnd go, and nothing else of its sides
pub record EnablesZero (g h : Log) : Type 0 where
  pub interrupt : Raised 0 (enabled_of In g.regs) (enabled_of In h.regs)
  pub other_word : enabled_of Out h.regs ≡ enabled_of Out g.regs
  pub empty : (d : Direction) → NoPacket (side_at h.regs 0 d)
  pub bits : (d : Direction) → SameBits (side_at g.regs 0 d) (side_at h.regs 0 d)
  pub ended : setupend h.regs ≡ false
  pub others : (f : ℕ) (c : Direction) → (f ≡ 0 → ⊥) → side_at h.regs f c ≡ side_at g.regs f c
  pub rest : SameRest g.regs h.regs
  pub selected : index h.regs ≡ 0
  pub lists : Lists g h 0 (to INDEX 0 ∷ to INTRTXE (enabled_of In h.regs) ∷ to CSR0L (csr0l_number (csr0l_read g.regs) + 192) ∷ to CSR0H 1 ∷ [])
