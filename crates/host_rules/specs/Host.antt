-- What each host event gives back on the whole record, refused ones too.
-- Assumes nothing.
use Rattle.std.specs.Prelude.{ℕ, ◌+◌, ◌≤◌, ◌<◌, Bool, true, false, ◌||◌, List, [], ◌≡◌, eqb, leb, ltb, length, take, drop, Err, Ok}
use Rattle.board.specs.declared.Span.{Span}
use Rattle.record.specs.declared.Answered.{Answered}
use Rattle.laws.specs.Lists.{pasted}
use Rattle.board.specs.declared.Board.{Board}
use Rattle.board.specs.declared.Direction.{Direction}
use Rattle.board.specs.declared.Direction.TheVariants.{Out, In}
use Rattle.register_file.specs.Registers.{File, side_at}
use Rattle.event_rules.specs.Events.{arrived, collected, bus_raised, bus_reset, bus_suspend, bus_resume, setup_ended, missing}
use Rattle.record.specs.declared.Flags.{Flags}
use Rattle.record.specs.declared.Record.{Record}
use Rattle.record.specs.declared.Refusal.{Refusal}
use Rattle.record.specs.declared.Refusal.TheVariants.{TooLong, OutOfTurn}
use Rattle.record.specs.Record.{passes, record_sound, admission_by, endpoints_in, area_in, area_of, need_in, need_of, refusal_number, with_regs, Reply}
use Rattle.host_rules.specs.declared.Signal.{Signal}
use Rattle.host_rules.specs.declared.Signal.TheVariants.{Bus, SetupEnd}

-- document 01: "A refusal returns its number and changes nothing"
abbrev pub refused : Record → Refusal → Answered (Reply Unit)
refused k x = record { answer = Err x; «record» = k }

-- the registers are all that an event changes
abbrev pub done : Record → File → Answered (Reply Unit)
done k r = record { answer = (Ok tt); «record» = with_regs k r }

-- the tests decide first: what is answered,
abbrev pub answer_by : Reply Unit → Reply Unit
answer_by (Err x) = Err x
answer_by (Ok tt) = Ok tt

-- what is left of a lent list of numbers, the registers or the FIFO buffer, that was r and becomes q,
abbrev pub left_by : Reply Unit → List ℕ → List ℕ → List ℕ
left_by (Err x) r q = r
left_by (Ok tt) r q = q

-- and both, on the whole record
abbrev pub unless : Reply Unit → Record → File → Answered (Reply Unit)
unless (Err x) k r = refused k x
unless (Ok tt) k r = done k r

-- what happens at no endpoint: "bus reset, suspend, resume", "setup end"
abbrev pub signalled : Signal → File → File
signalled (Bus o) r = bus_raised o r
signalled SetupEnd r = setup_ended r

-- 16 alone can refuse them
unfoldable pub bus_reset_call : Record → Answered (Reply Unit)
bus_reset_call k = unless (admission_by false (record_sound k) false) k (bus_reset k.regs.words)

unfoldable pub suspend_call : Record → Answered (Reply Unit)
suspend_call k = unless (admission_by false (record_sound k) false) k (bus_suspend k.regs.words)

unfoldable pub resume_call : Record → Answered (Reply Unit)
resume_call k = unless (admission_by false (record_sound k) false) k (bus_resume k.regs.words)

unfoldable pub setup_end_call : Record → Answered (Reply Unit)
setup_end_call k = unless (admission_by false (record_sound k) false) k (setup_ended k.regs.words)

-- reply 8: "endpoint 6 or more", the board's own last endpoint being the highest, "(underrun, overrun: also 0)"
abbrev pub miss_refusal_in : Board → File → Flags → ℕ → Reply Unit
miss_refusal_in b w f e = admission_by false (passes b w f) (eqb e 0 || leb (endpoints_in b) e)

abbrev pub miss_refusal : Record → ℕ → Reply Unit
miss_refusal k e = miss_refusal_in k.regs.board k.regs.words k.irq e

unfoldable pub miss_call : Record → ℕ → Direction → Answered (Reply Unit)
miss_call k e d = unless (miss_refusal k e) k (missing k.regs.words e d)

-- "underrun, overrun (set UnderRun or OverRun, raise nothing)"
unfoldable pub underrun_call : Record → ℕ → Answered (Reply Unit)
underrun_call k e = miss_call k e In

unfoldable pub overrun_call : Record → ℕ → Answered (Reply Unit)
overrun_call k e = miss_call k e Out

-- the first tests of an event at an endpoint that is lent m bytes of FIFO memory: 15, 16, 8
abbrev pub entry_in : Board → File → Flags → ℕ → ℕ → Reply Unit
entry_in b w f e m = admission_by (ltb m (need_in b)) (passes b w f) (leb (endpoints_in b) e)

abbrev pub entry_at : Record → ℕ → ℕ → Reply Unit
entry_at k e m = entry_in k.regs.board k.regs.words k.irq e m

-- what they let through
pub record Admitted (k : Record) (e m : ℕ) : Type 0 where
  pub enough : need_of k ≤ m
  pub sound : record_sound k ≡ true
  pub below : e < 6

-- "arrival 9, 17": longer than its area, while one waits
abbrev pub arrival_by : Reply Unit → Bool → Bool → Reply Unit
arrival_by (Err x) long waits = Err x
arrival_by (Ok tt) true waits = Err TooLong
arrival_by (Ok tt) false true = Err OutOfTurn
arrival_by (Ok tt) false false = Ok tt

unfoldable pub arrival_refusal_in : Board → File → Flags → ℕ → ℕ → ℕ → Reply Unit
arrival_refusal_in b w f e n m = arrival_by (entry_in b w f e m) (ltb (area_in b e Out).size n) (side_at w e Out).ready

unfoldable pub arrival_refusal : Record → ℕ → ℕ → ℕ → Reply Unit
arrival_refusal k e n m = arrival_refusal_in k.regs.board k.regs.words k.irq e n m

-- all that an arrival leaves: what it gives back, and the lent FIFO buffer
pub record Arrival : Type 0 where
  pub event : Answered (Reply Unit)
  pub fifo : List ℕ

abbrev pub unless_arrived : Reply Unit → Record → List ℕ → Arrival → Arrival
unless_arrived (Err x) k f a = record { event = refused k x; fifo = f }
unless_arrived (Ok tt) k f a = a

-- "a write or arrival changes only the first bytes of its area"
unfoldable pub arrival_call : Record → ℕ → List ℕ → List ℕ → Arrival
arrival_call k e b f =
    unless_arrived (arrival_refusal k e (length b) (length f)) k f
    (record { event = done k (arrived k.regs.words e (length b)); fifo = pasted f (area_of k e Out).start b })

-- "collection with none"
abbrev pub collection_by : Reply Unit → Bool → Reply Unit
collection_by (Err x) waits = Err x
collection_by (Ok tt) true = Ok tt
collection_by (Ok tt) false = Err OutOfTurn

unfoldable pub collection_refusal_in : Board → File → Flags → ℕ → ℕ → Reply Unit
collection_refusal_in b w f e m = collection_by (entry_in b w f e m) (side_at w e In).ready

unfoldable pub collection_refusal : Record → ℕ → ℕ → Reply Unit
collection_refusal k e m = collection_refusal_in k.regs.board k.regs.words k.irq e m

-- "collection (gives the packet's place in the FIFO buffer and its length, then drops it, ..)"
abbrev pub packet_in : Board → File → ℕ → Reply Span
packet_in b w e = Ok (record { start = (area_in b e In).start; size = (side_at w e In).len })

unfoldable pub collected_from : Record → ℕ → Answered (Reply Span)
collected_from k e = record { answer = packet_in k.regs.board k.regs.words e; «record» = with_regs k (collected k.regs.words e) }

-- what is answered, the tests first
abbrev pub collect_by : Reply Unit → Reply Span → Reply Span
collect_by (Err x) a = Err x
collect_by (Ok tt) a = a

abbrev pub unless_collected : Reply Unit → Record → Answered (Reply Span) → Answered (Reply Span)
unless_collected (Err x) k a = record { answer = Err x; «record» = k }
unless_collected (Ok tt) k a = a

unfoldable pub collection_call : Record → ℕ → List ℕ → Answered (Reply Span)
collection_call k e f = unless_collected (collection_refusal k e (length f)) k (collected_from k e)

-- the place that is given lies in the buffer
abbrev pub InBuffer : Reply Span → List ℕ → Type 0
InBuffer (Ok s) f = s.start + s.size ≤ length f
InBuffer (Err x) f = Unit

-- document 01's number of a collection's answer, and its values, the bytes
abbrev pub collect_number : Reply Span → ℕ
collect_number (Ok s) = 0
collect_number (Err x) = refusal_number x

abbrev pub collect_values : Reply Span → List ℕ → List ℕ
collect_values (Ok s) f = take s.size (drop s.start f)
collect_values (Err x) f = []
