-- Endpoint 0 and the Accepted step by what is read and by the control state. Assumes nothing.
use mathlib.Core.Path.{◌≡◌, refl, sym, ap, ◌∙◌}
use mathlib.Core.Bool.{Bool, false}
use Rattle.csr.specs.declared.Csr0l.{Csr0l}
use Rattle.register_file.specs.Control.{csr0l_read}
use Rattle.store_rules.specs.Stores.{Log}
use Rattle.control_state.specs.declared.ControlState.{ControlState}
use Rattle.control_state.specs.declared.ControlStateEnum.{ControlStateEnum}
use Rattle.control_state.specs.declared.ControlStateEnum.TheVariants.{Idle, Setup, DataIn, DataOut, Accepted, NodataPhase}
use Rattle.record.specs.declared.Flags.{Flags}
use Rattle.record.specs.Record.{with_ep0}
use Rattle.round_rules.specs.Zero.{Round, round, received_by, sent_by, zero_by, zero_served, accepted_by, accept_step}

module _ (g : Log) (c : ControlState) (f : Flags) where
  -- `match (rx_pkt_rdy, tx_pkt_rdy)`
  zero_by_lem : {w : Csr0l} {rx tx : Bool} {o : Round} → w ≡ csr0l_read g.regs → w.rx_pkt_rdy ≡ rx → w.tx_pkt_rdy ≡ tx
      → o ≡ zero_by rx tx g c (with_ep0 f false) → o ≡ zero_served g c f
  unfolding zero_served
  zero_by_lem p r t q = rw (sym (ap (λ (w : Csr0l). w.rx_pkt_rdy) p) ∙ r, sym (ap (λ (w : Csr0l). w.tx_pkt_rdy) p) ∙ t) q

-- what a match leaves for its last arm `_`: the states that the arms before it take are not met there
pub sent_other_lem : (s : ControlStateEnum) (f : Flags) → (s ≡ DataIn → ⊥) → f ≡ sent_by s f
unfolding sent_by
sent_other_lem Idle f k = refl
sent_other_lem Setup f k = refl
sent_other_lem DataIn f k = absurd (k refl)
sent_other_lem DataOut f k = refl
sent_other_lem Accepted f k = refl
sent_other_lem NodataPhase f k = refl

pub received_other : (s : ControlStateEnum) (g : Log) (c : ControlState) (f : Flags) → (s ≡ Idle → ⊥) → (s ≡ DataOut → ⊥) → (s ≡ DataIn → ⊥) → round g c f false ≡ received_by s g c f
unfolding received_by
received_other Idle g c f i o d = absurd (i refl)
received_other Setup g c f i o d = refl
received_other DataIn g c f i o d = absurd (d refl)
received_other DataOut g c f i o d = absurd (o refl)
received_other Accepted g c f i o d = refl
received_other NodataPhase g c f i o d = refl

accepted_other : (s : ControlStateEnum) (c : ControlState) (f : Flags) → (s ≡ Accepted → ⊥)
    → record { control_state = c; irq = f } ≡ accepted_by s c f
unfolding accepted_by
accepted_other Idle c f k = refl
accepted_other Setup c f k = refl
accepted_other DataIn c f k = refl
accepted_other DataOut c f k = refl
accepted_other Accepted c f k = absurd (k refl)
accepted_other NodataPhase c f k = refl

pub not_accepted : (s : ControlStateEnum) (c : ControlState) (f : Flags) → (s ≡ Accepted → ⊥) → s ≡ c.state
    → record { control_state = c; irq = f } ≡ accept_step c f
unfolding accept_step
not_accepted s c f k e = accepted_other s c f k ∙ ap (λ (x : ControlStateEnum). accepted_by x c f) e
