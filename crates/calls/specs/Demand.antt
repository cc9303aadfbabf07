-- Demand 1: "No input can stop it. Every public call takes any numbers and any lent memory, finishes, and refuses by a number from document
-- 01. A refused call leaves all as it was, except that WouldBlock has selected the endpoint and listed that store."
-- That each call takes any numbers and finishes is its contract, which asks for nothing and whose outcome is the one of `outcome`; the rest
-- of the demand is here, of any record and any operation.
-- Assumes nothing.
use Rattle.std.specs.Prelude.{ℕ, zero, suc, ◌≡◌, Bool, true, false, ◌||◌, List, [], ◌∷◌, eqb, drop, None, Option, Some}
use Rattle.register_file.specs.Registers.{with_index}
use Rattle.record.specs.declared.Record.{Record}
use Rattle.record.specs.Record.{with_regs}
use Rattle.calls.specs.Calls.{Op, alloc_ep, bus_init, enable, reset, set_device_address, write, read, set_stalled, is_stalled, poll, on_interrupt, force_reset, arrival, collection, bus_reset, suspend, resume, setup_end, underrun, overrun, Outcome, outcome}

-- document 01's table and document 02's, by operation: the refusals in the order of their tests, and 0 where none is given.
-- "Order: 15, 16, 8, then write 6, 9, 11; read 6, 12, 13; arrival 9, 17; address 14; allocation 2, 5, 3, 4." Document 02, T-02: "reply 18, after
-- 13 in a read".
-- "wanted number 0 is never checked"; reply 1 is given where no number is wanted.
-- The list is a bound: exactly when each number is given is said by the laws of the call's own crate.
abbrev pub alloc_replies : Option ℕ → List ℕ
alloc_replies None = 16 ∷ 1 ∷ 0 ∷ []
alloc_replies (Some zero) = 16 ∷ 0 ∷ []
alloc_replies (Some (suc n)) = 16 ∷ 2 ∷ 5 ∷ 3 ∷ 4 ∷ 0 ∷ []

abbrev pub replies : Op → List ℕ
replies (alloc_ep q w) = alloc_replies w
replies (bus_init l) = 15 ∷ 16 ∷ 0 ∷ []
replies (enable l) = 15 ∷ 16 ∷ 0 ∷ []
replies (reset l) = 15 ∷ 16 ∷ 0 ∷ []
replies (set_device_address a l) = 15 ∷ 16 ∷ 14 ∷ 0 ∷ []
replies (write e b f l) = 15 ∷ 16 ∷ 8 ∷ 6 ∷ 9 ∷ 11 ∷ 0 ∷ []
replies (read e b f l) = 15 ∷ 16 ∷ 8 ∷ 6 ∷ 12 ∷ 13 ∷ 18 ∷ 0 ∷ []
replies (set_stalled e d s l) = 15 ∷ 16 ∷ 8 ∷ 0 ∷ []
replies (is_stalled e d l) = 15 ∷ 16 ∷ 8 ∷ 0 ∷ []
replies (poll l) = 15 ∷ 16 ∷ 0 ∷ []
replies on_interrupt = 16 ∷ 0 ∷ []
replies force_reset = 7 ∷ []
replies (arrival e b f) = 15 ∷ 16 ∷ 8 ∷ 9 ∷ 17 ∷ 0 ∷ []
replies (collection e f) = 15 ∷ 16 ∷ 8 ∷ 17 ∷ 0 ∷ []
replies bus_reset = 16 ∷ 0 ∷ []
replies suspend = 16 ∷ 0 ∷ []
replies resume = 16 ∷ 0 ∷ []
replies setup_end = 16 ∷ 0 ∷ []
replies (underrun e) = 16 ∷ 8 ∷ 0 ∷ []
replies (overrun e) = 16 ∷ 8 ∷ 0 ∷ []

abbrev pub among : ℕ → List ℕ → Bool
among n [] = false
among n (m ∷ ms) = eqb n m || among n ms

-- what an operation is lent to write: FIFO buffer, list, the caller's buffer
pub record Lent : Type 0 where
  pub fifo : List ℕ
  pub list : List ℕ
  pub buf : List ℕ

abbrev pub none_lent : Lent
none_lent = record { fifo = []; list = []; buf = [] }

abbrev pub list_lent : List ℕ → Lent
list_lent l = record { fifo = []; list = l; buf = [] }

abbrev pub lent : Op → Lent
lent (alloc_ep q w) = none_lent
lent (bus_init l) = list_lent l
lent (enable l) = list_lent l
lent (reset l) = list_lent l
lent (set_device_address a l) = list_lent l
lent (write e b f l) = record { fifo = f; list = l; buf = [] }
lent (read e b f l) = record { fifo = []; list = l; buf = b }
lent (set_stalled e d s l) = list_lent l
lent (is_stalled e d l) = list_lent l
lent (poll l) = list_lent l
lent on_interrupt = none_lent
lent force_reset = none_lent
lent (arrival e b f) = record { fifo = f; list = []; buf = [] }
lent (collection e f) = none_lent
lent bus_reset = none_lent
lent suspend = none_lent
lent resume = none_lent
lent setup_end = none_lent
lent (underrun e) = none_lent
lent (overrun e) = none_lent

-- "A refusal returns its number and changes nothing: record, FIFOs, list, caller's buffer." It has no values: "A refused entry prints code and
-- reply only".
abbrev pub unchanged : ℕ → Record → Lent → Outcome
unchanged n k b = record { reply = n; values = []; «record» = k; stores = 0; fifo = b.fifo; list = b.list; buf = b.buf }

-- "The one exception is 6, which has selected the endpoint and listed that store": register 3, with "the new number in both places"
abbrev pub selected : ℕ → Record → Lent → Outcome
selected e k b = record {
  reply = 6;
  values = [];
  «record» = with_regs k (with_index k.regs.words e);
  stores = 1;
  fifo = b.fifo;
  list = 3 ∷ e ∷ e ∷ drop 3 b.list;
  buf = b.buf;
}

-- write and read alone give reply 6, of the endpoint that they are asked for
pub data Blocking : Op → ℕ → Type 0 where
  writing : (e : ℕ) (b f l : List ℕ) → Blocking (write e b f l) e
  reading : (e : ℕ) (b f l : List ℕ) → Blocking (read e b f l) e

pub record Answers (k : Record) (o : Op) : Type 0 where
  pub number : among (outcome k o).reply (replies o) ≡ true
  pub kept : ((outcome k o).reply ≡ 0 → ⊥) → ((outcome k o).reply ≡ 6 → ⊥) → outcome k o ≡ unchanged (outcome k o).reply k (lent o)
  pub six : (outcome k o).reply ≡ 6 → (e : ℕ) × Blocking o e × (outcome k o ≡ selected e k (lent o))
