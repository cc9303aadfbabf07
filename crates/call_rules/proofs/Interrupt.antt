-- From the promises of a function's steps to its definition, and what holds at each turn of the loop. Assumes nothing.
use Rattle.std.specs.Prelude.{Err, Ok}
use Rattle.record.specs.declared.Answered.{Answered}
use Prim.Native.Nat.{ℕ, ◌+◌, ◌-◌, ◌≤◌, ◌<◌}
use mathlib.Core.Path.{◌≡◌, refl, sym, ap, ◌∙◌}
use mathlib.Core.Bool.{Bool, true, false}
use mathlib.Core.List.{foldl}
use native.Mathlib.Omega.{arith}
use Rattle.laws.specs.Lists.{numbers}
use Rattle.laws.proofs.Lists.{numbers_next, numbers_none}
use Rattle.register_file.specs.Registers.{File}
use Rattle.record.specs.declared.Flags.{Flags}
use Rattle.record.specs.declared.Record.{Record}
use Rattle.record.specs.declared.Refusal.{Refusal}
use Rattle.record.specs.Record.{passes, record_sound, admission_by, endpoints_in, endpoints_of, Reply}
use Rattle.record.proofs.Rows.{none_refused, unlike}
use Rattle.call_rules.specs.declared.Snapshot.{Snapshot}
use Rattle.call_rules.specs.Interrupt.{snapshot_of, cleared, endpoint_taken, endpoints_taken, taken, interrupted, interrupt_by, interrupt_call}

-- from the flags f on, of b endpoints, with the flags o when endpoint i comes: the walk over what is left, from here, is the whole
pub record Taking (s : Snapshot) (f : Flags) (b : ℕ) (o : Flags) (i : ℕ) : Type 0 where
  pub six : b ≤ 6
  pub within : i ≤ 6
  pub rest : foldl (endpoint_taken s) o (numbers i (b - i)) ≡ endpoints_taken b s f

module _ (s : Snapshot) (f : Flags) (b : ℕ) where
  pub begin : b ≤ 6 → Taking s f b f 1
  unfolding endpoints_taken
  begin h = record { six = h; within = omega arith; rest = refl }

  pub turn : (o p : Flags) (i : ℕ) → Taking s f b o i → i < b → p ≡ endpoint_taken s o i → Taking s f b p (i + 1)
  turn o p i w lt e = record {
    six = w.six;
    within = omega arith;
    rest = ap (λ (x : Flags). foldl (endpoint_taken s) x (numbers (i + 1) (b - (i + 1)))) e ∙ ap (foldl (endpoint_taken s) o) (sym (numbers_next i b lt)) ∙ w.rest;
  }

  pub done : (o : Flags) (i : ℕ) → Taking s f b o i → b ≤ i → o ≡ endpoints_taken b s f
  done o i w le = ap (foldl (endpoint_taken s) o) (sym (numbers_none i b le)) ∙ w.rest

-- the whole call, by what its test says: a record that does not pass is left alone, and one that passes is served
module _ (k : Record) {t : Reply Unit} (is : t ≡ admission_by false (passes k.regs.board k.regs.words k.irq) false) where
  pub left_alone : {x : Refusal} → t ≡ Err x → record { answer = Err x; «record» = k } ≡ interrupt_call k
  unfolding interrupt_call record_sound
  left_alone {x} e = go (passes k.regs.board k.regs.words k.irq) (sym is ∙ e)
    where
      go : (b : Bool) → admission_by false b false ≡ Err x → record { answer = Err x; «record» = k } ≡ interrupt_by b k
      go true p = unlike (sym p)
      go false p = ap (λ (a : Reply Unit). record { answer = a; «record» = k }) (sym p)

  pub served : {f : Flags} {w : File} → t ≡ Ok tt → f ≡ taken (endpoints_in k.regs.board) (snapshot_of k.regs.words) k.irq → w ≡ cleared k.regs.words
      → record { answer = Ok tt; «record» = record { regs = record { board = k.regs.board; words = w }; endpoints = k.endpoints; control_state = k.control_state; irq = f } } ≡ interrupt_call k
  unfolding interrupt_call interrupted record_sound endpoints_of
  served e flags file = rw ((none_refused false (passes k.regs.board k.regs.words k.irq) false (sym is ∙ e)).1) (λ i. made (file i) (flags i))
    where
      made : File → Flags → Answered (Reply Unit)
      made w f = record { answer = Ok tt; «record» = record { regs = record { board = k.regs.board; words = w }; endpoints = k.endpoints; control_state = k.control_state; irq = f } }
