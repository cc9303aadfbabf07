-- The laws of an entry that was found: the next one begins past it and inside the trace, and its packet's bytes lie inside the trace.
-- Assumes nothing.
use Rattle.std.specs.Prelude.{Option, Some, None}
use Prim.Native.Nat.{ℕ, ◌+◌, ◌<◌, ◌≤◌}
use native.Mathlib.Omega.{arith}
use mathlib.Core.Path.{◌≡◌, refl, sym, subst, ◌∙◌}
use mathlib.Core.Bool.{Bool, true, false, cond}
use mathlib.Core.List.{List}
use lib.Dec.{leb, eqb}
use lib.ListN.{length}
use borrow.Author.Tests.{leb-true}
use Rattle.trace_rules.specs.Groups.{number_at}
use Rattle.trace_rules.specs.declared.Packet.{Packet}
use Rattle.trace_rules.specs.declared.Entry.{Entry}
use Rattle.trace_rules.specs.declared.Entry.TheVariants.{Allocate, Init, Reset, Address, Write, Read, Stall, IsStalled, Poll, Interrupt, Enable, Arrival, Collect, Bus, SetupEnd, Underrun, Overrun}
use Rattle.trace_rules.specs.declared.Parsed.{Parsed}
use Rattle.trace_rules.specs.declared.Parsed.TheVariants.{Found, End}
use Rattle.trace_rules.specs.Arguments.{arg_at, two_at}
use Rattle.trace_rules.specs.Entries.{allocate_at, read_at, stall_at, is_stalled_at, bus_at, code_at, parsed, with_code, entry_at}
use Rattle.trace_rules.specs.Packets.{held_in, packet_at}
use Rattle.trace_rules.specs.Steps.{◌>>=◌}
use Rattle.trace_rules.proofs.Numbers.{moves_on}
use Rattle.trace_rules.proofs.ArgumentRanges.{ranged, ranged_two}
use Rattle.trace_rules.proofs.Stepping.{step, either}

-- a packet's bytes end where the next entry begins
abbrev pub Ends : ℕ → Entry → Type 0
Ends past (Allocate d w t n) = Unit {0}
Ends past Init = Unit {0}
Ends past Reset = Unit {0}
Ends past (Address a) = Unit {0}
Ends past (Write p) = p.start + p.len ≡ past
Ends past (Read e n) = Unit {0}
Ends past (Stall e d on) = Unit {0}
Ends past (IsStalled e d) = Unit {0}
Ends past Poll = Unit {0}
Ends past Interrupt = Unit {0}
Ends past Enable = Unit {0}
Ends past (Arrival p) = p.start + p.len ≡ past
Ends past (Collect e) = Unit {0}
Ends past (Bus b) = Unit {0}
Ends past SetupEnd = Unit {0}
Ends past (Underrun e) = Unit {0}
Ends past (Overrun e) = Unit {0}

-- the next entry begins at `at` or later
pub data Good (s : List ℕ) (at : ℕ) : Option (Entry × ℕ) → Type 0 where
  found : (e : Entry) (past : ℕ) → at ≤ past → past ≤ length s → Ends past e → Good s at (Some (e, past))
  none : Good s at None

module _ (s : List ℕ) (b : ℕ) where
  out : {y : Option (Entry × ℕ)} (e : Entry) (past : ℕ) → Good s b y → parsed y ≡ Found e past → (b ≤ past) × (past ≤ length s) × Ends past e
  out e past (found f p i j z) q =
      let ee : f ≡ e = cc in
      let ep : p ≡ past = cc in
      (rw ep at i, rw ep at j, subst (λ (g : Entry). Ends past g) ee (subst (λ (n : ℕ). Ends n f) ep z))
  out e past none q = cc

  arg_good : (at m : ℕ) (k : ℕ × ℕ → Option (Entry × ℕ)) → b ≤ at
      → ((r : ℕ × ℕ) → b ≤ r.1 → r.1 ≤ length s → Good s b (k r)) → Good s b (arg_at s at m >>= k)
  arg_good at m k h f =
      step (Good s b) (arg_at s at m) k none (λ r is. let l = ranged s at m r.0 r.1 is in f r (omega (arith, l.on)) l.inside)

  two_good : (at m n : ℕ) (k : ℕ × ℕ × ℕ → Option (Entry × ℕ)) → b ≤ at
      → ((r : ℕ × ℕ × ℕ) → b ≤ r.2 → r.2 ≤ length s → Good s b (k r)) → Good s b (two_at s at m n >>= k)
  two_good at m n k h f =
      step (Good s b) (two_at s at m n) k none (λ r is. let l = ranged_two s at m n r.0 r.1 r.2 is in f r (omega (arith, l.on)) l.inside)

  -- a packet's bytes begin past its arguments, and end where the next entry begins
  held_good : (e n start : ℕ) (k : Packet × ℕ → Option (Entry × ℕ)) → b ≤ start
      → ((r : Packet × ℕ) → b ≤ r.1 → r.1 ≤ length s → r.0.start + r.0.len ≡ r.1 → Good s b (k r)) → Good s b (held_in s e n start >>= k)
  unfolding held_in
  held_good e n start k h f = go (leb (start + n) (length s)) refl
    where
      go : (t : Bool) → leb (start + n) (length s) ≡ t
          → Good s b (cond {A = Option (Packet × ℕ)} t (Some (record { endpoint = e; start = start; len = n }, start + n)) None >>= k)
      go true q = f _ (omega arith) (leb-true _ _ q) refl
      go false q = none

  packet_good : (at : ℕ) (entry : Packet → Entry) → b ≤ at → ((p : Packet) (past : ℕ) → p.start + p.len ≡ past → Ends past (entry p))
      → Good s b (packet_at s at >>= (λ r. Some (entry r.0, r.1)))
  unfolding packet_at
  packet_good at entry h f = go (two_at s at 255 65535) refl
    where
      go : (x : Option (ℕ × ℕ × ℕ)) → two_at s at 255 65535 ≡ x → Good s b ((x >>= (λ r. held_in s r.0 r.1 r.2)) >>= (λ r. Some (entry r.0, r.1)))
      go (Some r) q = held_good r.0 r.1 r.2 _ (omega (arith, (ranged_two s at 255 65535 r.0 r.1 r.2 q).on)) (λ p i j z. found _ _ i j (f p.0 p.1 z))
      go None q = none

  code_good : (c at : ℕ) → b ≤ at → at ≤ length s → Good s b (code_at s c at)
  unfolding code_at allocate_at read_at stall_at is_stalled_at bus_at
  code_good c at h l =
      either (Good s b) (eqb c 1) (two_good at 1 256 _ h (λ a p q. two_good a.2 3 65535 _ p (λ r i j. found _ _ i j tt)))
      (either (Good s b) (eqb c 2) (found _ _ h l tt)
      (either (Good s b) (eqb c 3) (found _ _ h l tt)
      (either (Good s b) (eqb c 4) (arg_good at 255 _ h (λ r i j. found _ _ i j tt))
      (either (Good s b) (eqb c 5) (packet_good at Write h (λ p past z. z))
      (either (Good s b) (eqb c 6) (two_good at 255 _ _ h (λ r i j. found _ _ i j tt))
      (either (Good s b) (eqb c 7) (two_good at 255 1 _ h (λ a p q. arg_good a.2 1 _ p (λ r i j. found _ _ i j tt)))
      (either (Good s b) (eqb c 8) (two_good at 255 1 _ h (λ r i j. found _ _ i j tt))
      (either (Good s b) (eqb c 9) (found _ _ h l tt)
      (either (Good s b) (eqb c 10) (found _ _ h l tt)
      (either (Good s b) (eqb c 11) (found _ _ h l tt)
      (either (Good s b) (eqb c 12) (packet_good at Arrival h (λ p past z. z))
      (either (Good s b) (eqb c 13) (arg_good at 255 _ h (λ r i j. found _ _ i j tt))
      (either (Good s b) (eqb c 14) (arg_good at 2 _ h (λ r i j. found _ _ i j tt))
      (either (Good s b) (eqb c 15) (found _ _ h l tt)
      (either (Good s b) (eqb c 16) (arg_good at 255 _ h (λ r i j. found _ _ i j tt))
      (either (Good s b) (eqb c 17) (arg_good at 255 _ h (λ r i j. found _ _ i j tt))
      none))))))))))))))))

-- x is what `entry_at` gave
module _ (s : List ℕ) (at : ℕ) (x : Parsed) (is : x ≡ entry_at s at) where
  good : (e : Entry) (past : ℕ) → x ≡ Found e past → (at + 1 ≤ past) × (past ≤ length s) × Ends past e
  unfolding entry_at
  good e past v = either_way (leb (length s) at) (sym is ∙ v)
    where
      coded : (n : Option (ℕ × ℕ)) → number_at s at ≡ n → with_code s n ≡ Found e past → (at + 1 ≤ past) × (past ≤ length s) × Ends past e
      coded (Some (c, mid)) q w = let m = moves_on s at c mid q in out s (at + 1) e past (code_good s (at + 1) c mid (omega (arith, m.0)) m.1) w
      coded None q w = cc

      either_way : (t : Bool) → cond t End (with_code s (number_at s at)) ≡ Found e past → (at + 1 ≤ past) × (past ≤ length s) × Ends past e
      either_way true w = cc
      either_way false w = coded (number_at s at) refl w

  pub moves : (e : Entry) (past : ℕ) → x ≡ Found e past → (at < past) × (past ≤ length s)
  moves e past v = let g = good e past v in omega (arith, g.0, g.1)

  pub write_inside : (p : Packet) (past : ℕ) → x ≡ Found (Write p) past → p.start + p.len ≤ length s
  write_inside p past v = let g = good (Write p) past v in omega (arith, g.1, g.2)

  pub arrival_inside : (p : Packet) (past : ℕ) → x ≡ Found (Arrival p) past → p.start + p.len ≤ length s
  arrival_inside p past v = let g = good (Arrival p) past v in omega (arith, g.1, g.2)
