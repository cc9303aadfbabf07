-- Document 02, T-12, "Every download ends once": a control read of endpoint 0, over any operations.
-- Assumes nothing.
use Rattle.std.specs.Prelude.{ℕ, ◌+◌, ◌≤◌, ◌<◌, ◌≡◌, Bool, true, false, not, ◌&&◌, ◌||◌, List, [], ◌∷◌, ◌++◌, T, leb, ltb, length}
use Rattle.board.specs.declared.Direction.TheVariants.{In}
use Rattle.register_file.specs.Registers.{Whole, side_at}
use Rattle.control_state.specs.declared.ControlStateEnum.TheVariants.{Setup, DataIn}
use Rattle.record.specs.declared.Record.{Record}
use Rattle.record.specs.Record.{area_of, need_of}
use Rattle.transfer_rules.specs.WriteZero.{tx_size}
use Rattle.transfer_rules.specs.ReadZero.{w_length, way_in}
use Rattle.calls.specs.Calls.{Op, write, read, poll, outcome, step, runs}
use Rattle.calls.specs.Control.{answered, state, remaining, Part, sending, reading, reporting, polling, halting, cutting, beside, part, Idles}
use Rattle.calls.specs.DataEnd.{NoDataEnd, DataEndOnce}

-- The words of the sentence ------------------------------------------------------------------------------------------------------

-- "stall of endpoint 0, reset or setup end": the stall call with on, of either direction, and the driver's reset call, answered; and the host's setup end. A bus
-- reset does not disturb, nor does a poll that reports Reset.
abbrev pub disturbs : Part → Bool
disturbs halting = true
disturbs cutting = true
disturbs (sending n) = false
disturbs reading = false
disturbs reporting = false
disturbs polling = false
disturbs beside = false

-- how many bytes an operation adds to the running total. "Refused writes don't count": they are `beside`.
abbrev pub sent : Part → ℕ
sent (sending n) = n
sent reading = 0
sent reporting = 0
sent polling = 0
sent halting = 0
sent cutting = 0
sent beside = 0

-- the running total of operations from the record k on
abbrev pub total : Record → List Op → ℕ
total k [] = 0
total k (o ∷ h) = sent (part k o) + total (step k o) h

-- a "write whose running total reaches N or whose packet is shorter than the recorded transmit size": t bytes were sent before it, and the size is that at the write
abbrev pub finishes : ℕ → ℕ → ℕ → Part → Bool
finishes n t size (sending m) = leb n (t + m) || ltb m size
finishes n t size reading = false
finishes n t size reporting = false
finishes n t size polling = false
finishes n t size halting = false
finishes n t size cutting = false
finishes n t size beside = false

-- there is one among the operations from the record k on, before which t bytes were sent
abbrev pub finished : ℕ → ℕ → Record → List Op → Bool
finished n t k [] = false
finished n t k (o ∷ h) = finishes n t (tx_size k) (part k o) || finished n (t + sent (part k o)) (step k o) h

abbrev pub is_reading : Part → Bool
is_reading reading = true
is_reading (sending n) = false
is_reading reporting = false
is_reading polling = false
is_reading halting = false
is_reading cutting = false
is_reading beside = false

abbrev pub is_reporting : Part → Bool
is_reporting reporting = true
is_reporting (sending n) = false
is_reporting reading = false
is_reporting polling = false
is_reporting halting = false
is_reporting cutting = false
is_reporting beside = false

-- none of the operations from the record k on is such a part
abbrev pub none : (Part → Bool) → Record → List Op → Bool
none test k [] = true
none test k (o ∷ h) = not (test (part k o)) && none test (step k o) h

-- no other Setup is reported and then read: told says whether one was reported already
abbrev pub none_anew : Bool → Record → List Op → Bool
none_anew told k [] = true
none_anew told k (o ∷ h) = not (told && is_reading (part k o)) && none_anew (told || is_reporting (part k o)) (step k o) h

-- none of them stores DataEnd
abbrev pub Silent : Record → List Op → Type 0
Silent k [] = Unit
Silent k (o ∷ h) = NoDataEnd (outcome k o) × Silent (step k o) h

-- A control read -----------------------------------------------------------------------------------------------------------------

-- From any record (every record of the code has a whole register file): a poll reports Setup, and then come any operations a that do not disturb it, with no
-- answered read at endpoint 0 among them.
pub record Reported (k : Record) (l : List ℕ) (a : List Op) : Type 0 where
  pub whole : Whole k.regs.words
  pub reported : part k (poll l) ≡ reporting
  pub calm : T (none disturbs (step k (poll l)) a)
  pub unread : T (none is_reading (step k (poll l)) a)

-- And then a read at endpoint 0 gives the eight bytes, which ask n bytes in, n over 0.
pub record Asked (k : Record) (l : List ℕ) (a : List Op) (b f m : List ℕ) (n : ℕ) : Type 0 where
  pub before : Reported k l a
  pub given : answered (runs k (poll l ∷ a)) (read 0 b f m) ≡ true
  pub way : way_in (outcome (runs k (poll l ∷ a)) (read 0 b f m)).buf ≡ true
  pub asks : w_length (outcome (runs k (poll l ∷ a)) (read 0 b f m)).buf ≡ n
  pub some : 0 < n

-- all of them, from the poll to the read
abbrev pub opening : List ℕ → List Op → List ℕ → List ℕ → List ℕ → List Op
opening l a b f m = poll l ∷ (a ++ read 0 b f m ∷ [])

-- Until the read the state is Setup, every write at endpoint 0 is refused, and DataEnd is not stored.
pub record Waits (k : Record) (l : List ℕ) (a : List Op) : Type 0 where
  pub setup : state (runs k (poll l ∷ a)) ≡ Setup
  pub unsent : (b f m : List ℕ) → answered (runs k (poll l ∷ a)) (write 0 b f m) ≡ false
  pub silent : Silent k (poll l ∷ a)

-- DataIn, and what was not sent remains
pub record InData (n t : ℕ) (k : Record) : Type 0 where
  pub still : state k ≡ DataIn
  pub left : t + remaining k ≡ n
  pub more : t < n

-- a write at endpoint 0 that the driver has no ground to refuse: the packet before it was collected, it fits the area, and enough is lent
pub record Sendable (k : Record) (b f m : List ℕ) : Type 0 where
  pub collected : (side_at k.regs.words 0 In).ready ≡ false
  pub fits : length b ≤ (area_of k 0 In).size
  pub fifo : need_of k ≤ length f
  pub list : 384 ≤ length m

-- n bytes were asked; s is the record after the read, and h are operations that come next, none of which disturbs and none of which is a write that finishes
pub record Download (n : ℕ) (s : Record) (h : List Op) : Type 0 where
  -- "and not earlier": it is in DataIn, DataEnd was not stored, and the next packet is taken
  pub lasts : InData n (total s h) (runs s h)
  pub silent : Silent s h
  pub taken : (b f m : List ℕ) → Sendable (runs s h) b f m → part (runs s h) (write 0 b f m) ≡ sending (length b)
  -- "the transfer leaves DataIn at the first write ..", in that call, with nothing remaining; "DataEnd is stored in that write", once, as its last store
  pub leaves : (o : Op) → T (finishes n (total s h) (tx_size (runs s h)) (part (runs s h) o)) → Idles (step (runs s h) o) × DataEndOnce (outcome (runs s h) o)
  -- ".. and in no other": whatever operations c come then, also those that would have disturbed it, none stores DataEnd and DataIn is not entered again before
  -- another Setup is reported and read
  pub over :
      (o : Op) → T (finishes n (total s h) (tx_size (runs s h)) (part (runs s h) o)) → (c : List Op) → T (none_anew false (step (runs s h) o) c)
      → Silent (step (runs s h) o) c × (state (runs (step (runs s h) o) c) ≡ DataIn → ⊥)

-- The sentence. A Setup that was reported waits for its read. The read stores no DataEnd either, and after it the transfer goes as `Download` says: as long as nothing disturbs it
-- and no write finishes it it is in DataIn, and the first write that finishes it ends it.
pub record EveryDownloadEndsOnce : Type 0 where
  pub waits : (k : Record) (l : List ℕ) (a : List Op) → Reported k l a → Waits k l a
  pub opened : (k : Record) (l : List ℕ) (a : List Op) (b f m : List ℕ) (n : ℕ) → Asked k l a b f m n → Silent k (opening l a b f m)
  pub ends :
      (k : Record) (l : List ℕ) (a : List Op) (b f m : List ℕ) (n : ℕ) → Asked k l a b f m n → (h : List Op) → T (none disturbs (runs k (opening l a b f m)) h)
      → T (not (finished n 0 (runs k (opening l a b f m)) h)) → Download n (runs k (opening l a b f m)) h
