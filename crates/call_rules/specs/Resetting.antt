-- What `reset` leaves where it is answered, beside its definition and apart from it: which sides it enables, and what it leaves alone.
-- Assumes nothing.
use Rattle.std.specs.Prelude.{ℕ, ◌<◌, ◌≡◌, true, false, get_or}
use Rattle.laws.specs.Words.{bit}
use Rattle.board.specs.declared.Direction.{Direction}
use Rattle.board.specs.declared.Direction.TheVariants.{In}
use Rattle.register_file.specs.Registers.{side_at, faddr, enabled_of}
use Rattle.control_state.specs.declared.ControlStateEnum.TheVariants.{Idle}
use Rattle.endpoints.specs.declared.EndpointData.{EndpointData}
use Rattle.endpoints.specs.Endpoints.{blank, kind_of, size_in, used_in, used}
use Rattle.common_rules.specs.Enable.{isochronous}
use Rattle.common_rules.specs.Enabling.{Ready}
use Rattle.record.specs.declared.Record.{Record}
use Rattle.record.specs.Record.{endpoints_of}
use Rattle.csr.specs.Kept.{NoPacket}

abbrev pub data_of : Record → ℕ → EndpointData
data_of k e = get_or k.endpoints e blank

pub record Resets (k q : Record) : Type 0 where
  -- `if ep.used_tx { .. ep_tx_enable .. }`, `if ep.used_rx { .. ep_rx_enable .. }`
  pub enabled : (e : ℕ) (d : Direction) → (e ≡ 0 → ⊥) → e < endpoints_of k → used_in (data_of k e) d ≡ true
      → Ready (isochronous (kind_of (data_of k e))) (size_in (data_of k e) d) (side_at k.regs.words e d) (side_at q.regs.words e d)
  pub empty : (e : ℕ) (d : Direction) → (e ≡ 0 → ⊥) → e < endpoints_of k → used_in (data_of k e) d ≡ true → NoPacket (side_at q.regs.words e d)
  pub interrupt : (e : ℕ) (d : Direction) → (e ≡ 0 → ⊥) → e < endpoints_of k → used_in (data_of k e) d ≡ true → bit (enabled_of d q.regs.words) e ≡ true
  pub unused : (e : ℕ) (d : Direction) → (e ≡ 0 → ⊥) → (e < endpoints_of k → used_in (data_of k e) d ≡ false)
      → side_at q.regs.words e d ≡ side_at k.regs.words e d
  -- endpoint 0, where either direction is used, and where none is
  pub zero : 0 < endpoints_of k → used (data_of k 0) ≡ true → (d : Direction) → NoPacket (side_at q.regs.words 0 d)
  pub zero_interrupt : 0 < endpoints_of k → used (data_of k 0) ≡ true → bit (enabled_of In q.regs.words) 0 ≡ true
  pub zero_unused : used (data_of k 0) ≡ false → (d : Direction) → side_at q.regs.words 0 d ≡ side_at k.regs.words 0 d
  -- `set_state(ControlStateEnum::Idle)`, `reset_tx_len()`
  pub idle : q.control_state.state ≡ Idle
  pub remaining : q.control_state.tx_len ≡ 0
  -- and the address, the flags and the endpoints' records stay
  pub address : faddr q.regs.words ≡ faddr k.regs.words
  pub flags : q.irq ≡ k.irq
  pub endpoints : q.endpoints ≡ k.endpoints
  pub board : q.regs.board ≡ k.regs.board
