-- The entries of a trace. Document 01: "Codes and arguments", each argument's range as it stands there.
-- Assumes nothing.
use Rattle.std.specs.Prelude.{ℕ, ◌+◌, ◌≤◌, List, Option, Some, None, cond, leb, eqb, length}
use Rattle.trace_rules.specs.Steps.{◌>>=◌}
use Rattle.trace_rules.specs.Groups.{number_at}
use Rattle.trace_rules.specs.declared.Entry.{Entry}
use Rattle.trace_rules.specs.declared.Entry.TheVariants.{Allocate, Init, Reset, Address, Write, Read, Stall, IsStalled, Poll, Interrupt, Enable, Arrival, Collect, Bus, SetupEnd, Underrun, Overrun}
use Rattle.trace_rules.specs.declared.Parsed.{Parsed}
use Rattle.trace_rules.specs.declared.Parsed.TheVariants.{Found, End, Bad}
use Rattle.trace_rules.specs.Arguments.{arg_at, two_at, direction_of, wanted_of, bus_of, flag_of}
use Rattle.trace_rules.specs.Packets.{packet_at}
use Rattle.endpoints.specs.Endpoints.{type_of}

-- "1 allocate (direction 0 out 1 in; 0 or wanted+1; type ..; size)", "wanted+1 to 256"
unfoldable pub allocate_at : List ℕ → ℕ → Option (Entry × ℕ)
allocate_at s at = do
  (d, w, mid) ← two_at s at 1 256
  (t, n, past) ← two_at s mid 3 65535
  Some (Allocate (direction_of d) (wanted_of w) (type_of t) n, past)

-- "5 write (endpoint, length, bytes)", "Endpoints to 255"
abbrev pub write_at : List ℕ → ℕ → Option (Entry × ℕ)
write_at s at = do
  (p, past) ← packet_at s at
  Some (Write p, past)

-- "6 read (endpoint, buffer length to 512)"
unfoldable pub read_at : List ℕ → ℕ → Option (Entry × ℕ)
read_at s at = do
  (e, n, past) ← two_at s at 255 512
  Some (Read e n, past)

-- "7 stall (endpoint, direction, 0 or 1)"
unfoldable pub stall_at : List ℕ → ℕ → Option (Entry × ℕ)
stall_at s at = do
  (e, d, mid) ← two_at s at 255 1
  (a, past) ← arg_at s mid 1
  Some (Stall e (direction_of d) (flag_of a), past)

-- "8 is stalled (endpoint, direction)"
unfoldable pub is_stalled_at : List ℕ → ℕ → Option (Entry × ℕ)
is_stalled_at s at = do
  (e, d, past) ← two_at s at 255 1
  Some (IsStalled e (direction_of d), past)

-- "12 arrival (as 5)"
abbrev pub arrival_at : List ℕ → ℕ → Option (Entry × ℕ)
arrival_at s at = do
  (p, past) ← packet_at s at
  Some (Arrival p, past)

-- "14 bus (0 reset 1 suspend 2 resume)"
unfoldable pub bus_at : List ℕ → ℕ → Option (Entry × ℕ)
bus_at s at = do
  (a, past) ← arg_at s at 2
  Some (Bus (bus_of a), past)

-- "4 address", "13 collect (endpoint)", "16 underrun, 17 overrun (endpoint)": "Endpoints to 255, addresses to 255"
abbrev pub one_at : (ℕ → Entry) → List ℕ → ℕ → Option (Entry × ℕ)
one_at entry s at = do
  (a, past) ← arg_at s at 255
  Some (entry a, past)

-- the entry of code c whose arguments begin at a place; "an unknown code" has none
unfoldable pub code_at : List ℕ → ℕ → ℕ → Option (Entry × ℕ)
code_at s c at =
    cond (eqb c 1) (allocate_at s at) (
    cond (eqb c 2) (Some (Init, at)) (
    cond (eqb c 3) (Some (Reset, at)) (
    cond (eqb c 4) (one_at Address s at) (
    cond (eqb c 5) (write_at s at) (
    cond (eqb c 6) (read_at s at) (
    cond (eqb c 7) (stall_at s at) (
    cond (eqb c 8) (is_stalled_at s at) (
    cond (eqb c 9) (Some (Poll, at)) (
    cond (eqb c 10) (Some (Interrupt, at)) (
    cond (eqb c 11) (Some (Enable, at)) (
    cond (eqb c 12) (arrival_at s at) (
    cond (eqb c 13) (one_at Collect s at) (
    cond (eqb c 14) (bus_at s at) (
    cond (eqb c 15) (Some (SetupEnd, at)) (
    cond (eqb c 16) (one_at Underrun s at) (
    cond (eqb c 17) (one_at Overrun s at) (
    None)))))))))))))))))

-- an entry, or bad where there is none
abbrev pub parsed : Option (Entry × ℕ) → Parsed
parsed (Some (e, past)) = Found e past
parsed None = Bad

abbrev pub with_code : List ℕ → Option (ℕ × ℕ) → Parsed
with_code s (Some (c, past)) = parsed (code_at s c past)
with_code s None = Bad

-- what stands at a place of a trace. The code is a number in the same form.
unfoldable pub entry_at : List ℕ → ℕ → Parsed
entry_at s at = cond (leb (length s) at) End (with_code s (number_at s at))

-- the code of an entry
abbrev pub code_of : Entry → ℕ
code_of (Allocate a b c d) = 1
code_of Init = 2
code_of Reset = 3
code_of (Address a) = 4
code_of (Write a) = 5
code_of (Read a b) = 6
code_of (Stall a b c) = 7
code_of (IsStalled a b) = 8
code_of Poll = 9
code_of Interrupt = 10
code_of Enable = 11
code_of (Arrival a) = 12
code_of (Collect a) = 13
code_of (Bus a) = 14
code_of SetupEnd = 15
code_of (Underrun a) = 16
code_of (Overrun a) = 17

-- an entry as `entry_at` finds it: its packet lies inside the trace, and a read's buffer has at most 512 bytes
abbrev pub Within : List ℕ → Entry → Type 0
Within s (Allocate d w t n) = Unit {0}
Within s Init = Unit {0}
Within s Reset = Unit {0}
Within s (Address a) = Unit {0}
Within s (Write p) = p.start + p.len ≤ length s
Within s (Read e n) = n ≤ 512
Within s (Stall e d on) = Unit {0}
Within s (IsStalled e d) = Unit {0}
Within s Poll = Unit {0}
Within s Interrupt = Unit {0}
Within s Enable = Unit {0}
Within s (Arrival p) = p.start + p.len ≤ length s
Within s (Collect e) = Unit {0}
Within s (Bus b) = Unit {0}
Within s SetupEnd = Unit {0}
Within s (Underrun e) = Unit {0}
Within s (Overrun e) = Unit {0}
