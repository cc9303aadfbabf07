-- From the promises of an event's steps to its definition, a law for each way through it.
-- Assumes nothing.
use Rattle.std.specs.Prelude.{Err, Ok}
use Rattle.record.specs.declared.Answered.{Answered}
use Prim.Native.Nat.{ℕ, ◌+◌, ◌≤◌, ◌<◌}
use mathlib.Core.Path.{◌≡◌, refl, sym, ◌∙◌}
use mathlib.Core.Bool.{Bool, true, false}
use mathlib.Core.List.{List}
use native.Mathlib.Omega.{arith}
use borrow.Author.Tests.{ltb-false, lt-ltb, le-ltb}
use lib.Dec.{ltb}
use lib.ListN.{length}
use Rattle.laws.specs.Lists.{pasted}
use Rattle.board.specs.declared.Board.{Board}
use Rattle.board.specs.declared.Direction.TheVariants.{Out, In}
use Rattle.board.specs.declared.Span.{Span}
use Rattle.register_file.specs.Registers.{File, side_at}
use Rattle.event_rules.specs.Events.{arrived, collected}
use Rattle.record.specs.declared.Flags.{Flags}
use Rattle.record.specs.declared.Record.{Record}
use Rattle.record.specs.declared.Refusal.{Refusal}
use Rattle.record.specs.declared.Refusal.TheVariants.{TooLong, OutOfTurn}
use Rattle.record.specs.Record.{passes, record_sound, area_in, area_of, need_in, need_of, with_regs, Reply}
use Rattle.record.proofs.Areas.{area_within, below_six}
use Rattle.record.proofs.Rows.{none_refused, unlike}
use Rattle.record.proofs.Passing.{record_is_sound, waiting_fits}
use Rattle.host_rules.specs.Host.{answer_by, left_by, unless, entry_in, entry_at, Admitted, arrival_by, arrival_refusal_in, arrival_refusal, done, unless_arrived, arrival_call, collection_by, collection_refusal_in, collection_refusal, packet_in, collected_from, collect_by, unless_collected, collection_call, InBuffer}

-- what the first tests let through
entering : (b : Board) (w : File) (f : Flags) (e m : ℕ) → entry_in b w f e m ≡ (Ok tt) → (need_in b ≤ m) × (passes b w f ≡ true) × (e < 6)
entering b w f e m p =
    let c = none_refused _ _ _ p in
    (ltb-false m (need_in b) c.0, c.1, below_six b e c.2)

pub admitted : (k : Record) (e m : ℕ) → entry_at k e m ≡ (Ok tt) → Admitted k e m
unfolding need_of record_sound
admitted k e m p =
    let c = entering k.regs.board k.regs.words k.irq e m p in
    record { enough = c.0; sound = c.1; below = c.2 }

-- the two answers of an event that gives no value, and what each leaves of what was lent
module _ {t u : Reply Unit} where
  pub refusing : {x : Refusal} → t ≡ u → t ≡ Err x → Err x ≡ answer_by u
  refusing is e = rw (sym is ∙ e)

  pub doing : t ≡ u → t ≡ (Ok tt) → (Ok tt) ≡ answer_by u
  doing is e = rw (sym is ∙ e)

  pub leaving : {x : Refusal} (r q : List ℕ) → t ≡ u → t ≡ Err x → r ≡ left_by u r q
  leaving r q is e = rw (sym is ∙ e)

  pub changing : (r : List ℕ) {p q : List ℕ} → t ≡ u → t ≡ (Ok tt) → p ≡ q → p ≡ left_by u r q
  changing r is e s = rw (sym is ∙ e) s

  pub pasting : (f b : List ℕ) {s a : Span} {p : List ℕ} → t ≡ u → t ≡ (Ok tt) → s ≡ a → p ≡ pasted f s.start b
      → p ≡ left_by u f (pasted f a.start b)
  pasting f b is e q v = rw (sym is ∙ e, ← q) v

-- the record put together
pub together : (k : Record) (t : Reply Unit) (q : File) {a : Reply Unit} {w : File} → a ≡ answer_by t → w ≡ left_by t k.regs.words q
    → record { answer = a; «record» = with_regs k w } ≡ unless t k q
together k t q says left = (λ i. record { answer = says i; «record» = with_regs k (left i) }) ∙ by t
  where
    by : (t : Reply Unit) → record { answer = answer_by t; «record» = with_regs k (left_by t k.regs.words q) } ≡ unless t k q
    by (Err x) = refl
    by (Ok tt) = refl

-- the tests of an arrival, after the first ones
pub arrival_passed : (t : Reply Unit) (long waits : Bool) → arrival_by t long waits ≡ (Ok tt) → (t ≡ (Ok tt)) × (long ≡ false) × (waits ≡ false)
arrival_passed (Err x) l v d = unlike d
arrival_passed (Ok tt) true v d = unlike d
arrival_passed (Ok tt) false true d = unlike d
arrival_passed (Ok tt) false false d = (refl, refl, refl)

module _ (b : Board) (w : File) (f : Flags) (e n m : ℕ) where
  pub arrival_first : {t : Reply Unit} {x : Refusal} → t ≡ entry_in b w f e m → t ≡ Err x → Err x ≡ arrival_refusal_in b w f e n m
  unfolding arrival_refusal_in
  arrival_first is p = rw (sym is ∙ p)

  pub arrival_long : {t : Reply Unit} {s : Span} → t ≡ entry_in b w f e m → t ≡ (Ok tt) → s ≡ area_in b e Out → s.size < n
      → Err TooLong ≡ arrival_refusal_in b w f e n m
  unfolding arrival_refusal_in
  arrival_long {s = s} is p q h = rw (sym is ∙ p, ← q, lt-ltb s.size n h)

  pub arrival_early : {t : Reply Unit} {s : Span} {v : Bool} → t ≡ entry_in b w f e m → t ≡ (Ok tt) → s ≡ area_in b e Out → n ≤ s.size
      → v ≡ (side_at w e Out).ready → v ≡ true → Err OutOfTurn ≡ arrival_refusal_in b w f e n m
  unfolding arrival_refusal_in
  arrival_early {s = s} is p q h r y = rw (sym is ∙ p, ← q, le-ltb s.size n h, sym r ∙ y)

  pub arrival_clear : {t : Reply Unit} {s : Span} {v : Bool} → t ≡ entry_in b w f e m → t ≡ (Ok tt) → s ≡ area_in b e Out → n ≤ s.size
      → v ≡ (side_at w e Out).ready → v ≡ false → (Ok tt) ≡ arrival_refusal_in b w f e n m
  unfolding arrival_refusal_in
  arrival_clear {s = s} is p q h r y = rw (sym is ∙ p, ← q, le-ltb s.size n h, sym r ∙ y)

  -- what they let through
  pub arriving_fits : {s : Span} {t : Reply Unit} → t ≡ arrival_refusal_in b w f e n m → t ≡ (Ok tt) → s ≡ area_in b e Out → s.start + s.size ≤ need_in b
      → s.size < 65536 → (e < 16) × (n < 65536) × (n ≤ s.size) × (s.start + s.size ≤ m)
  unfolding arrival_refusal_in
  arriving_fits {s} is c q h l =
      let (p, long, _) = arrival_passed (entry_in b w f e m) (ltb (area_in b e Out).size n) (side_at w e Out).ready (sym is ∙ c) in
      let (enough, _, below) = entering b w f e m p in
      let fits : n ≤ s.size = rw q (ltb-false (area_in b e Out).size n long) in
      (omega (arith, below), omega (arith, fits, l), fits, omega (arith, h, enough))

pub arriving : (k : Record) (e : ℕ) (b f : List ℕ) {a : Reply Unit} {w : File} {g : List ℕ}
    → a ≡ answer_by (arrival_refusal_in k.regs.board k.regs.words k.irq e (length b) (length f))
    → w ≡ left_by (arrival_refusal_in k.regs.board k.regs.words k.irq e (length b) (length f)) k.regs.words (arrived k.regs.words e (length b))
    → g ≡ left_by (arrival_refusal_in k.regs.board k.regs.words k.irq e (length b) (length f)) f (pasted f (area_in k.regs.board e Out).start b)
    → record { event = record { answer = a; «record» = with_regs k w }; fifo = g } ≡ arrival_call k e b f
unfolding arrival_call arrival_refusal area_of
arriving k e b f says left bytes =
    (λ i. record { event = record { answer = says i; «record» = with_regs k (left i) }; fifo = bytes i })
    ∙ by (arrival_refusal_in k.regs.board k.regs.words k.irq e (length b) (length f)) (arrived k.regs.words e (length b)) (pasted f (area_in k.regs.board e Out).start b)
  where
    by : (t : Reply Unit) (q : File) (g : List ℕ)
        → record { event = record { answer = answer_by t; «record» = with_regs k (left_by t k.regs.words q) }; fifo = left_by t f g }
        ≡ unless_arrived t k f (record { event = done k q; fifo = g })
    by (Err x) q g = refl
    by (Ok tt) q g = refl

-- the test of a collection, after the first ones
pub collection_passed : (t : Reply Unit) (waits : Bool) → collection_by t waits ≡ (Ok tt) → t ≡ (Ok tt)
collection_passed (Err x) v d = unlike d
collection_passed (Ok tt) v d = refl

module _ (b : Board) (w : File) (f : Flags) (e m : ℕ) where
  pub collection_first : {t : Reply Unit} {x : Refusal} → t ≡ entry_in b w f e m → t ≡ Err x → Err x ≡ collection_refusal_in b w f e m
  unfolding collection_refusal_in
  collection_first is p = rw (sym is ∙ p)

  pub collection_clear : {t : Reply Unit} {v : Bool} → t ≡ entry_in b w f e m → t ≡ (Ok tt) → v ≡ (side_at w e In).ready → v ≡ true
      → (Ok tt) ≡ collection_refusal_in b w f e m
  unfolding collection_refusal_in
  collection_clear is p r y = rw (sym is ∙ p, sym r ∙ y)

  pub collection_none : {t : Reply Unit} {v : Bool} → t ≡ entry_in b w f e m → t ≡ (Ok tt) → v ≡ (side_at w e In).ready → v ≡ false
      → Err OutOfTurn ≡ collection_refusal_in b w f e m
  unfolding collection_refusal_in
  collection_none is p r y = rw (sym is ∙ p, sym r ∙ y)

  pub collecting_below : {t : Reply Unit} → t ≡ collection_refusal_in b w f e m → t ≡ (Ok tt) → e < 6
  unfolding collection_refusal_in
  collecting_below is c = (entering b w f e m (collection_passed (entry_in b w f e m) (side_at w e In).ready (sym is ∙ c))).2

-- the packet's place, where it is given
module _ {t u : Reply Unit} where
  pub not_taking : {x : Refusal} (a : Reply Span) → t ≡ u → t ≡ Err x → Err x ≡ collect_by u a
  not_taking a is e = rw (sym is ∙ e)

  pub taking : {a o : Reply Span} → t ≡ u → t ≡ (Ok tt) → o ≡ a → o ≡ collect_by u a
  taking is e p = rw (sym is ∙ e) p

module _ (k : Record) (e : ℕ) (f : List ℕ) where
  pub collecting : {a : Reply Span} {w : File}
      → a ≡ collect_by (collection_refusal_in k.regs.board k.regs.words k.irq e (length f)) (packet_in k.regs.board k.regs.words e)
      → w ≡ left_by (collection_refusal_in k.regs.board k.regs.words k.irq e (length f)) k.regs.words (collected k.regs.words e)
      → record { answer = a; «record» = with_regs k w } ≡ collection_call k e f
  unfolding collection_call collection_refusal collected_from
  collecting says left =
      (λ i. record { answer = says i; «record» = with_regs k (left i) })
      ∙ by (collection_refusal_in k.regs.board k.regs.words k.irq e (length f)) (packet_in k.regs.board k.regs.words e) (collected k.regs.words e)
    where
      by : (t : Reply Unit) (p : Reply Span) (q : File)
          → record { answer = collect_by t p; «record» = with_regs k (left_by t k.regs.words q) } ≡ unless_collected t k (record { answer = p; «record» = with_regs k q })
      by (Err x) p q = refl
      by (Ok tt) p q = refl

  -- a waiting packet lies in its area, and the area in the buffer
  pub in_buffer : {a : Answered (Reply Span)} → Admitted k e (length f) → a ≡ collected_from k e → InBuffer a.answer f
  unfolding collected_from area_of
  in_buffer d q =
      rw q (omega (arith, d.enough, area_within k e In, waiting_fits k (record_is_sound k d.sound) e In))

  pub placed : {a : Answered (Reply Span)} → a ≡ collection_call k e f → (a ≡ collection_call k e f) × InBuffer a.answer f
  unfolding collection_call collection_refusal collection_refusal_in
  placed p = (p, rw p (go (entry_in k.regs.board k.regs.words k.irq e (length f)) (side_at k.regs.words e In).ready refl))
    where
      go : (t : Reply Unit) (waits : Bool) → entry_in k.regs.board k.regs.words k.irq e (length f) ≡ t
          → InBuffer (unless_collected (collection_by t waits) k (collected_from k e)).answer f
      go (Err x) v i = tt
      go (Ok tt) true i = in_buffer (admitted k e (length f) i) refl
      go (Ok tt) false i = tt
