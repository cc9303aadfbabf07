-- What `entry_at` finds: an entry's packet lies inside the trace, a read's buffer has at most 512 bytes, and the end is found only at the
-- trace's end.
-- Assumes nothing.
use Rattle.std.specs.Prelude.{Option, Some, None}
use Prim.Native.Nat.{ℕ, ◌+◌, ◌≤◌}
use mathlib.Core.Path.{◌≡◌, refl, sym, subst, ◌∙◌}
use mathlib.Core.Bool.{Bool, true, false, cond}
use mathlib.Core.List.{List}
use lib.Dec.{leb, eqb}
use lib.ListN.{length}
use borrow.Author.Tests.{leb-true}
use Rattle.trace_rules.specs.Groups.{number_at}
use Rattle.trace_rules.specs.declared.Packet.{Packet}
use Rattle.trace_rules.specs.declared.Entry.{Entry}
use Rattle.trace_rules.specs.declared.Parsed.{Parsed}
use Rattle.trace_rules.specs.declared.Parsed.TheVariants.{Found, End}
use Rattle.trace_rules.specs.Arguments.{arg_at, two_at}
use Rattle.trace_rules.specs.Entries.{allocate_at, read_at, stall_at, is_stalled_at, bus_at, code_at, parsed, with_code, entry_at, Within}
use Rattle.trace_rules.specs.Packets.{held_in, packet_at}
use Rattle.trace_rules.specs.Steps.{◌>>=◌}
use Rattle.trace_rules.proofs.ArgumentRanges.{ranged_two}
use Rattle.trace_rules.proofs.Stepping.{step, either}

-- an entry that is as it should be, or none
pub data Sure (s : List ℕ) : Option (Entry × ℕ) → Type 0 where
  found : (e : Entry) (past : ℕ) → Within s e → Sure s (Some (e, past))
  none : Sure s None

within_of : {s : List ℕ} {y : Option (Entry × ℕ)} (e : Entry) (past : ℕ) → Sure s y → parsed y ≡ Found e past → Within s e
within_of {s} e past (found f p h) q = let same : f ≡ e = cc in subst (Within s) same h
within_of e past none q = cc

-- a packet that was found lies inside
pub data Lies (s : List ℕ) : Option (Packet × ℕ) → Type 0 where
  lies : (p : Packet) (past : ℕ) → p.start + p.len ≤ length s → Lies s (Some (p, past))
  cut : Lies s None

module _ (s : List ℕ) where
  held : (e n start : ℕ) → Lies s (held_in s e n start)
  unfolding held_in
  held e n start = go (leb (start + n) (length s)) refl
    where
      go : (t : Bool) → leb (start + n) (length s) ≡ t → Lies s (cond t (Some (record { endpoint = e; start = start; len = n }, start + n)) None)
      go true q = lies _ _ (leb-true _ _ q)
      go false q = cut

  pub packet_lies : (at : ℕ) → Lies s (packet_at s at)
  unfolding packet_at
  packet_lies at = step (Lies s) (two_at s at 255 65535) _ cut (λ r is. held r.0 r.1 r.2)

  of : {A : Type 0} (k : A → Option (Entry × ℕ)) → ((a : A) → Sure s (k a)) → (x : Option A) → Sure s (x >>= k)
  of k f x = step (Sure s) x k none (λ a is. f a)

  of_read : (at : ℕ) → Sure s (read_at s at)
  unfolding read_at
  of_read at = step (Sure s) (two_at s at 255 512) _ none (λ r is. found _ _ (ranged_two s at 255 512 r.0 r.1 r.2 is).second)

  of_packet : (entry : Packet → Entry) → ((p : Packet) → p.start + p.len ≤ length s → Within s (entry p))
      → (x : Option (Packet × ℕ)) → Lies s x → Sure s (x >>= (λ r. Some (entry r.0, r.1)))
  of_packet entry f x (lies p past h) = found _ _ (f p h)
  of_packet entry f x cut = none

  code_sure : (c at : ℕ) → Sure s (code_at s c at)
  unfolding code_at allocate_at stall_at is_stalled_at bus_at
  code_sure c at =
      either (Sure s) (eqb c 1) (of _ (λ a. of _ (λ b. found _ _ tt) (two_at s a.2 3 65535)) (two_at s at 1 256))
      (either (Sure s) (eqb c 2) (found _ _ tt)
      (either (Sure s) (eqb c 3) (found _ _ tt)
      (either (Sure s) (eqb c 4) (of _ (λ a. found _ _ tt) (arg_at s at 255))
      (either (Sure s) (eqb c 5) (of_packet _ (λ p h. h) (packet_at s at) (packet_lies at))
      (either (Sure s) (eqb c 6) (of_read at)
      (either (Sure s) (eqb c 7) (of _ (λ a. of _ (λ b. found _ _ tt) (arg_at s a.2 1)) (two_at s at 255 1))
      (either (Sure s) (eqb c 8) (of _ (λ a. found _ _ tt) (two_at s at 255 1))
      (either (Sure s) (eqb c 9) (found _ _ tt)
      (either (Sure s) (eqb c 10) (found _ _ tt)
      (either (Sure s) (eqb c 11) (found _ _ tt)
      (either (Sure s) (eqb c 12) (of_packet _ (λ p h. h) (packet_at s at) (packet_lies at))
      (either (Sure s) (eqb c 13) (of _ (λ a. found _ _ tt) (arg_at s at 255))
      (either (Sure s) (eqb c 14) (of _ (λ a. found _ _ tt) (arg_at s at 2))
      (either (Sure s) (eqb c 15) (found _ _ tt)
      (either (Sure s) (eqb c 16) (of _ (λ a. found _ _ tt) (arg_at s at 255))
      (either (Sure s) (eqb c 17) (of _ (λ a. found _ _ tt) (arg_at s at 255))
      none))))))))))))))))

  -- a code's entry is as it should be, and something bad is not the end
  with_sure : (x : Option (ℕ × ℕ)) {e : Entry} {past : ℕ} → with_code s x ≡ Found e past → Within s e
  with_sure (Some (c, at)) q = within_of _ _ (code_sure c at) q
  with_sure None q = cc

  parsed_not_end : (y : Option (Entry × ℕ)) → parsed y ≡ End → ⊥
  parsed_not_end (Some (e, past)) q = cc
  parsed_not_end None q = cc

  never_end : (x : Option (ℕ × ℕ)) → with_code s x ≡ End → ⊥
  never_end (Some (c, at)) q = parsed_not_end (code_at s c at) q
  never_end None q = cc

module _ (s : List ℕ) (at : ℕ) where
  pub within : (x : Parsed) (e : Entry) (past : ℕ) → x ≡ entry_at s at → x ≡ Found e past → Within s e
  unfolding entry_at
  within x e past is v = go (leb (length s) at) (sym is ∙ v)
    where
      go : (t : Bool) → cond t End (with_code s (number_at s at)) ≡ Found e past → Within s e
      go true q = cc
      go false q = with_sure s (number_at s at) q

  -- the end comes only at the trace's end
  pub only_at_the_end : entry_at s at ≡ End → length s ≤ at
  unfolding entry_at
  only_at_the_end is = go (leb (length s) at) refl is
    where
      go : (t : Bool) → leb (length s) at ≡ t → cond t End (with_code s (number_at s at)) ≡ End → length s ≤ at
      go true h q = leb-true _ _ h
      go false h q = absurd (never_end s (number_at s at) q)
