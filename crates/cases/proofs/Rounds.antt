-- P14 to P16 of document 01, computed: the one place here that unfolds the register model. Assumes nothing.
use mathlib.Core.Path.{◌≡◌, refl, ap, ap₂, ◌∙◌}
use mathlib.Core.Bool.{Bool, true, false}
use mathlib.Core.List.{List, [], ◌∷◌}
use Prim.Native.Nat.{ℕ, zero, suc, ◌^◌}
use lib.Dec.{ltb}
use lib.ListN.{length}
use Rattle.laws.specs.Tests.{◌also◌}
use Rattle.laws.specs.Words.{bit, raised, clear, bits_below, set_bits}
use Rattle.board.specs.declared.Board.TheVariants.{Display}
use Rattle.board.specs.Boards.{rows, display, rows_display}
use Rattle.board.specs.Table as table
use Rattle.board.specs.declared.Board.{Board}
use Rattle.board.specs.declared.Row.{Row}
use Rattle.register_file.specs.Registers.{fresh_file, fresh_regs, index, with_index, faddr, intrusb, with_intrusb, intr_of, with_intr, side_word, side_of, side_in, with_side_in, side_at, with_side}
use Rattle.register_file.specs.Control.{csr0l_read}
use Rattle.csr.specs.Control.{txcsrl_of, rxcsrl_of}
use Rattle.csr.specs.Sound.{side_sound}
use Rattle.register_file.specs.Sound.{words_below, sides_below, regs_sound}
use Rattle.store_rules.specs.Stores.{Log, log, write_index}
use Rattle.store_list.specs.Stores.{listed}
use Rattle.event_rules.specs.Events.{waiting_at, bus_raised, bus_reset, bus_resume, intrusb_cleared, intr_cleared}
use Rattle.common_rules.specs.Overrun.{under_run_cleared, over_run_cleared, repaired, repaired_below, check_overrun}
use Rattle.laws.specs.Lists.{numbers}
use Rattle.cases.specs.Allocations.{Hold}
use Rattle.record.specs.declared.Record.{Record}
use Rattle.record.specs.Record.{fresh_record, flags_sound, passes, record_sound, endpoints_in, endpoints_of, with_regs, admission_by}
use Rattle.call_rules.specs.Interrupt.{snapshot_of, cleared, bus_taken, raised_if, endpoint_taken, endpoints_taken, taken, interrupted, interrupt_by, interrupt_call}
use Rattle.round_rules.specs.Zero.{endpoint_zero, accepted_by, accept_step}
use Rattle.round_rules.specs.Walk.{ready_at, drained, visit, walked}
use Rattle.round_rules.specs.Round.{told}
use Rattle.round_rules.specs.Poll.{PollOutcome, outcome_of, ended, walked_on, accepted_on, round_out, poll_logged, poll_served, poll_when, poll_admitted, poll_call}
use Rattle.cases.specs.Rounds.{says, run, space, fresh, flagged, five_waits, both_taken, rounds}

-- reply 16's test with the table as an argument, so that it computes
abbrev pub passes_in : List Row → Record → Bool
passes_in t k =
    regs_sound (table.sizes_of t) (length t) k.regs.words
    also (ltb k.irq.ep_tx (2 ^ length t) also ltb k.irq.ep_rx (2 ^ length t))

-- whether it passes
pub tested : (k : Record) → k.regs.board ≡ Display → record_sound k ≡ passes_in display k
unfolding record_sound passes flags_sound
tested k b = ap (λ (t : List Row). passes_in t k) (ap rows b ∙ rows_display)

sound : (k : Record) → k.regs.board ≡ Display → passes_in display k ≡ true → record_sound k ≡ true
sound k b p = tested k b ∙ p

-- a poll that is served, on a board of six endpoints
abbrev short : Record → List ℕ → PollOutcome
short k l = outcome_of k (poll_logged (repaired_below 6 (log k.regs.words l 0)) k.control_state k.irq)

six : (b : Board) (g : Log) → b ≡ Display → check_overrun (endpoints_in b) g ≡ repaired_below 6 g
unfolding check_overrun endpoints_in
six b g p = rw (p, rows_display)

poll_short : (k : Record) (l : List ℕ) → k.regs.board ≡ Display → passes_in display k ≡ true → ltb (length l) 384 ≡ false → poll_call k l ≡ short k l
unfolding poll_call poll_admitted poll_served record_sound
poll_short k l b p q =
    (λ i. outcome_of k (poll_when (admission_by (q i) (sound k b p i) false) k.regs.board (log k.regs.words l 0) k.control_state k.irq))
    ∙ ap (λ (g : Log). outcome_of k (poll_logged g k.control_state k.irq)) (six k.regs.board (log k.regs.words l 0) b)

-- every poll of a run is served, and what they then say
abbrev Served : ℕ → Record → List ℕ → Type 0
Served zero k l = Unit
Served (suc n) k l = (k.regs.board ≡ Display) × (passes_in display k ≡ true) × (ltb (length l) 384 ≡ false) × Served n (short k l).result.«record» (short k l).list

abbrev short_run : ℕ → Record → List ℕ → List (List ℕ)
short_run zero k l = []
short_run (suc n) k l = says (short k l) ∷ short_run n (short k l).result.«record» (short k l).list

runs : (n : ℕ) (k : Record) (l : List ℕ) → Served n k l → run n k l ≡ short_run n k l
runs zero k l s = refl
runs (suc n) k l s =
    ap (λ (o : PollOutcome). says o ∷ run n o.result.«record» o.list) (poll_short k l s.0 s.1 s.2)
    ∙ ap (λ (x : List (List ℕ)). says (short k l) ∷ x) (runs n (short k l).result.«record» (short k l).list s.3)

-- an interrupt that is served, likewise
abbrev pub short_taken : Record → Record
short_taken k = record {
  regs = record { board = k.regs.board; words = cleared k.regs.words };
  endpoints = k.endpoints;
  control_state = k.control_state;
  irq = taken 6 (snapshot_of k.regs.words) k.irq;
}

pub taken_short : (k : Record) → k.regs.board ≡ Display → passes_in display k ≡ true → (interrupt_call k).«record» ≡ short_taken k
unfolding interrupt_call interrupted endpoints_in endpoints_of
taken_short k b p = (λ i. (interrupt_by (sound k b p i) k).«record») ∙ rw (b, rows_display)

abbrev both_raised : Record
both_raised = with_regs fresh (bus_resume (bus_reset fresh.regs.words))

raised_display : both_raised.regs.board ≡ Display
unfolding fresh_record fresh_file fresh_regs index with_index faddr side_of side_in bit
raised_display = refl

sound_raised : passes_in display both_raised ≡ true
unfolding fresh_record fresh_file fresh_regs index with_index faddr side_of side_in bus_reset bus_resume bus_raised raised intrusb with_intrusb table.sizes_of regs_sound sides_below words_below side_sound ◌also◌ bit
sound_raised = refl

served_14 : Served 2 (flagged fresh) space
unfolding fresh_record fresh_file fresh_regs index with_index faddr side_of side_in table.sizes_of regs_sound sides_below words_below side_sound ◌also◌ poll_logged round_out accepted_on walked_on ended told walked visit drained ready_at accept_step accepted_by endpoint_zero repaired_below numbers repaired over_run_cleared under_run_cleared write_index listed csr0l_read txcsrl_of rxcsrl_of side_at set_bits bits_below clear bit
served_14 = (refl, refl, refl, (refl, refl, refl, tt))

said_14 : short_run 2 (flagged fresh) space ≡ ((0 ∷ 1 ∷ 2 ∷ 0 ∷ 0 ∷ []) ∷ (0 ∷ 0 ∷ []) ∷ [])
unfolding fresh_record fresh_file fresh_regs index with_index faddr side_of side_in poll_logged round_out accepted_on walked_on ended told walked visit drained ready_at accept_step accepted_by endpoint_zero repaired_below numbers repaired over_run_cleared under_run_cleared write_index listed csr0l_read txcsrl_of rxcsrl_of side_at set_bits bits_below clear bit
said_14 = refl

served_15 : Served 1 (flagged five_waits) space
unfolding fresh_record fresh_file fresh_regs index with_index faddr side_of side_in waiting_at side_word with_side_in with_side table.sizes_of regs_sound sides_below words_below side_sound ◌also◌ poll_logged round_out accepted_on walked_on ended told walked visit drained ready_at accept_step accepted_by endpoint_zero repaired_below numbers repaired over_run_cleared under_run_cleared write_index listed csr0l_read txcsrl_of rxcsrl_of side_at set_bits bits_below clear bit
served_15 = (refl, refl, refl, tt)

said_15 : short_run 1 (flagged five_waits) space ≡ ((0 ∷ 1 ∷ 32 ∷ 0 ∷ 0 ∷ []) ∷ [])
unfolding fresh_record fresh_file fresh_regs index with_index faddr side_of side_in waiting_at side_word with_side_in with_side poll_logged round_out accepted_on walked_on ended told walked visit drained ready_at accept_step accepted_by endpoint_zero repaired_below numbers repaired over_run_cleared under_run_cleared write_index listed csr0l_read txcsrl_of rxcsrl_of side_at set_bits bits_below clear bit
said_15 = refl

served_16 : Served 3 (short_taken both_raised) space
unfolding fresh_record fresh_file fresh_regs index with_index faddr side_of side_in bus_reset bus_resume bus_raised raised intrusb with_intrusb cleared intrusb_cleared intr_cleared intr_of with_intr snapshot_of taken endpoints_taken endpoint_taken raised_if bus_taken table.sizes_of regs_sound sides_below words_below side_sound ◌also◌ poll_logged round_out accepted_on walked_on ended told walked visit drained ready_at accept_step accepted_by endpoint_zero repaired_below numbers repaired over_run_cleared under_run_cleared write_index listed csr0l_read txcsrl_of rxcsrl_of side_at set_bits bits_below clear bit
served_16 = (refl, refl, refl, (refl, refl, refl, (refl, refl, refl, tt)))

said_16 : short_run 3 (short_taken both_raised) space ≡ ((0 ∷ 2 ∷ []) ∷ (0 ∷ 3 ∷ []) ∷ (0 ∷ 0 ∷ []) ∷ [])
unfolding fresh_record fresh_file fresh_regs index with_index faddr side_of side_in bus_reset bus_resume bus_raised raised intrusb with_intrusb cleared intrusb_cleared intr_cleared intr_of with_intr snapshot_of taken endpoints_taken endpoint_taken raised_if bus_taken poll_logged round_out accepted_on walked_on ended told walked visit drained ready_at accept_step accepted_by endpoint_zero repaired_below numbers repaired over_run_cleared under_run_cleared write_index listed csr0l_read txcsrl_of rxcsrl_of side_at set_bits bits_below clear bit
said_16 = refl

p14 : run 2 (flagged fresh) space ≡ ((0 ∷ 1 ∷ 2 ∷ 0 ∷ 0 ∷ []) ∷ (0 ∷ 0 ∷ []) ∷ [])
p14 = runs 2 (flagged fresh) space served_14 ∙ said_14

p15 : run 1 (flagged five_waits) space ≡ ((0 ∷ 1 ∷ 32 ∷ 0 ∷ 0 ∷ []) ∷ [])
p15 = runs 1 (flagged five_waits) space served_15 ∙ said_15

p16 : run 3 both_taken space ≡ ((0 ∷ 2 ∷ []) ∷ (0 ∷ 3 ∷ []) ∷ (0 ∷ 0 ∷ []) ∷ [])
p16 = ap (λ (k : Record). run 3 k space) (taken_short both_raised raised_display sound_raised) ∙ runs 3 (short_taken both_raised) space served_16 ∙ said_16

pub p14_to_p16 : Hold rounds
p14_to_p16 = ap₂ ◌∷◌ p14 (ap₂ ◌∷◌ p15 (ap₂ ◌∷◌ p16 refl))
