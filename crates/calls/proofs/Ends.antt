-- How every operation ends: done, refused by one of its numbers with everything as it was, or blocked. Assumes nothing.
use Rattle.std.specs.Prelude.{Err, None, Ok, Option, Result, Some}
use Rattle.board.specs.declared.Span.{Span}
use Rattle.record.specs.declared.Answered.{Answered}
use Prim.Native.Nat.{ℕ, zero, suc, ◌≤◌}
use mathlib.Core.Path.{◌≡◌, refl, sym, ap, subst, ◌∙◌}
use mathlib.Core.Bool.{Bool, true, false, or-true}
use mathlib.Core.Logic.{inl, inr}
use mathlib.Core.List.{List, [], ◌∷◌}
use native.Mathlib.Omega.{arith}
use native.Mathlib.Decide.{ℕ_discrete}
use borrow.Author.Tests.{eq-eqb, ne_eqb, ltb-false, leb-true}
use lib.Dec.{eqb, ltb, leb}
use lib.ListN.{length, drop}
use Rattle.board.specs.declared.Board.{Board}
use Rattle.board.specs.Boards.{rows, at_least_one}
use Rattle.store_rules.specs.Stores.{Log, log, write_index}
use Rattle.store_list.specs.Stores.{INDEX}
use Rattle.store_rules.proofs.Promises.{index_selects, index_lists}
use Rattle.store_list.proofs.Promises.{listed_first}
use Rattle.endpoints.specs.declared.EndpointAllocError.{EndpointAllocError}
use Rattle.endpoints.specs.declared.EndpointAllocError.TheVariants.{EndpointOverflow, InvalidEndpoint, EpDirNotSupported, EpUsed, MaxPacketSizeBiggerThanEpFifoSize}
use Rattle.endpoints.specs.Allocate.{Allocated}
use Rattle.endpoints.specs.declared.EndpointData.{EndpointData}
use Rattle.endpoints.specs.declared.Ask.{Ask}
use Rattle.endpoints.specs.Allocate.{allocate}
use Rattle.endpoints.specs.Numbers.{error_number, answer_number}
use Rattle.endpoints.specs.Replies as allocation
use Rattle.endpoints.proofs.Answers as alloc
use Rattle.endpoints.proofs.Changes.{refused_keeps}
use Rattle.transfer_rules.specs.declared.Verdict.{Verdict}
use Rattle.transfer_rules.specs.Peek.{short, tests_by, blocked as blockedAfter}
use Rattle.transfer_rules.proofs.Lent.{lent_enough}
use Rattle.record.specs.declared.Record.{Record}
use Rattle.record.specs.Rows.{Row, Given, Replies}
use Rattle.record.specs.Record.{record_sound, admission_by, endpoints_of, with_regs, with_endpoints, reply_number, Reply}
use Rattle.call_rules.specs.Calls as impl
use Rattle.call_rules.specs.Alloc as impl-alloc
use Rattle.call_rules.specs.Stall as impl-stall
use Rattle.call_rules.specs.Replies as simple-rows
use Rattle.call_rules.proofs.Replies as simple
use Rattle.call_rules.proofs.ResetReplies as simple-reset
use Rattle.call_rules.specs.StallReplies as stall-rows
use Rattle.call_rules.proofs.StallReplies as simple-stall
use Rattle.transfer_rules.specs.WriteTests as write_call_lem
use Rattle.transfer_rules.specs.WriteZero.{write_number, tx_size}
use Rattle.transfer_rules.specs.Write.{WriteOutcome, outcome as write-outcome, write_by, write_call}
use Rattle.transfer_rules.proofs.WriteVerdicts.{tests_are}
use Rattle.transfer_rules.proofs.WriteCases as write-cases
use Rattle.transfer_rules.proofs.WriteAnswers as writes
use Rattle.transfer_rules.specs.ReadTests as read_call_lem
use Rattle.transfer_rules.specs.ReadZero.{read_number}
use Rattle.transfer_rules.specs.Read.{ReadOutcome, read_call}
use Rattle.transfer_rules.proofs.ReadVerdicts.{told as read_told}
use Rattle.transfer_rules.proofs.ReadCases as read-cases
use Rattle.transfer_rules.proofs.ReadAnswers as reads
use Rattle.call_rules.specs.Interrupt.{interrupt_by, interrupt_call}
use Rattle.round_rules.specs.Poll.{PollOutcome, outcome_of, poll_number, poll_when, poll_admitted, poll_call}
use Rattle.round_rules.proofs.PollReplies as polls
use Rattle.host_rules.specs.Host as host
use Rattle.host_rules.specs.Replies as event-rows
use Rattle.host_rules.proofs.Replies as events
use Rattle.calls.specs.Calls.{Op, alloc_ep, bus_init, enable, reset, set_device_address, write, read, set_stalled, is_stalled, poll, on_interrupt, force_reset, arrival, collection, bus_reset, suspend, resume, setup_end, underrun, overrun, Outcome, called, told, allocated, written, fetched, polled, answered, arrived, outcome}
use Rattle.calls.specs.Demand.{replies, alloc_replies, among, none_lent, list_lent, lent, unchanged, selected, Blocking, writing, reading}
use Rattle.laws.proofs.Tests.{clash}

-- x is all that an operation leaves
pub data Ends (k : Record) (o : Op) (x : Outcome) : Type 0 where
  done : among 0 (replies o) ≡ true → x.reply ≡ 0 → Ends k o x
  refused : (n : ℕ) → eqb n 6 ≡ false → among n (replies o) ≡ true → x ≡ unchanged n k (lent o) → Ends k o x
  blocked : (e : ℕ) → Blocking o e → among 6 (replies o) ≡ true → x ≡ selected e k (lent o) → Ends k o x

-- the numbers of a call's rows in their order, and 0
abbrev numbers : List Row → List ℕ
numbers [] = 0 ∷ []
numbers (r ∷ rs) = r.number ∷ numbers rs

given_among : (n : ℕ) (rs : List Row) → Given n rs → among n (numbers rs) ≡ true
unfolding Given
given_among n [] g = rw (eq-eqb n 0 g)
given_among n (r ∷ rs) (inl g) = rw (eq-eqb n r.number g.1)
given_among n (r ∷ rs) (inr g) = rw (given_among n rs g.1) (or-true (eqb n r.number))

-- a refused call has no values
no_told : (a : Reply Bool) → (impl-stall.stalled_number a ≡ 0 → ⊥) → impl-stall.stalled_values a ≡ []
no_told (Ok b) n = absurd (n refl)
no_told (Err x) n = refl

no_taken : (a : Reply Span) (f : List ℕ) → (host.collect_number a ≡ 0 → ⊥) → host.collect_values a f ≡ []
no_taken (Ok s) f n = absurd (n refl)
no_taken (Err x) f n = refl

-- a call whose replies are its rows', 6 not among them: where it is refused, all is as it was
module _ (k : Record) (o : Op) (rs : List Row) (is : numbers rs ≡ replies o) (no_six : among 6 (replies o) ≡ false) where
  by_rows : {x : Outcome} → Replies x.reply rs → ((x.reply ≡ 0 → ⊥) → x ≡ unchanged x.reply k (lent o)) → Ends k o x
  by_rows {x} r left = go (ℕ_discrete x.reply 0)
    where
      told_among : among x.reply (replies o) ≡ true
      told_among = rw (← is) (given_among x.reply rs ((r x.reply).0 refl))

      go : Dec (x.reply ≡ 0) → Ends k o x
      go (yes z) = done (rw (← z) told_among) z
      go (no n) =
          refused x.reply (ne_eqb _ 6 (λ e. clash (sym told_among ∙ ap (λ (m : ℕ). among m (replies o)) e ∙ no_six))) told_among (left n)

  called_ends : (l : List ℕ) {a : impl.CallOutcome} → lent o ≡ list_lent l → simple-rows.Answers a k l rs → Ends k o (called a)
  called_ends l {a} p t =
      by_rows t.replies (λ n. ap called (t.unchanged n) ∙ ap (unchanged (reply_number a.call.answer) k) (sym p))

  told_ends : (l : List ℕ) {b : Bool} {a : impl-stall.StalledOutcome} → lent o ≡ list_lent l → stall-rows.Tells a k l rs b → Ends k o (told a)
  told_ends l {b} {a} p t =
      by_rows t.replies
      (λ n. ap told (t.unchanged n) ∙ (λ i. record {
        reply = impl-stall.stalled_number a.call.answer;
        values = no_told a.call.answer n i;
        «record» = k;
        stores = 0;
        fifo = [];
        list = l;
        buf = [];
      }) ∙ ap (unchanged (impl-stall.stalled_number a.call.answer) k) (sym p))

  answered_ends : {a : Answered (Reply Unit)} → lent o ≡ none_lent → event-rows.Answers a k rs → Ends k o (answered a)
  answered_ends {a} p t =
      by_rows t.replies
      (λ n. ap (λ (q : Record). answered (record { answer = a.answer; «record» = q })) (t.unchanged n) ∙ ap (unchanged (reply_number a.answer) k) (sym p))

-- the store that reply 6 has listed, and the endpoint that it has selected
module _ (k : Record) (e : ℕ) (l : List ℕ) where
  abbrev chose : Log
  chose = write_index e (log k.regs.words l 0)

  chose_count : chose.count ≡ 1
  chose_count = (index_lists e (log k.regs.words l 0)).1

  chose_list : 384 ≤ length l → chose.list ≡ 3 ∷ e ∷ e ∷ drop 3 l
  chose_list h =
      (index_lists e (log k.regs.words l 0)).0 ∙ listed_first l INDEX e e (omega arith)

  -- the same in write and read, which differ in what else they are lent
  blocks : (f b : List ℕ) → 384 ≤ length l
      → record { reply = 6; values = []; «record» = with_regs k chose.regs; stores = chose.count; fifo = f; list = chose.list; buf = b }
      ≡ selected e k (record { fifo = f; list = l; buf = b })
  blocks f b h = λ i. record {
    reply = 6;
    values = [];
    «record» = with_regs k (index_selects e (log k.regs.words l 0) i);
    stores = chose_count i;
    fifo = f;
    list = chose_list h i;
    buf = b;
  }

-- replies 1 to 5: none is 6, and each is among those of the number that is wanted
error_other : (x : EndpointAllocError) → eqb (error_number x) 6 ≡ false
error_other EndpointOverflow = refl
error_other InvalidEndpoint = refl
error_other EpDirNotSupported = refl
error_other EpUsed = refl
error_other MaxPacketSizeBiggerThanEpFifoSize = refl

error_among : (b : Board) (es : List EndpointData) (q : Ask) (w : Option ℕ) (x : EndpointAllocError) → allocation.Given (rows b) es q x w
    → among (error_number x) (alloc_replies w) ≡ true
error_among b es q None EndpointOverflow g = refl
error_among b es q None InvalidEndpoint g = clash (sym g)
error_among b es q None MaxPacketSizeBiggerThanEpFifoSize g = clash (sym g.1)
error_among b es q None EpDirNotSupported g = clash (sym g.2)
error_among b es q None EpUsed g = clash (sym g.3)
error_among b es q (Some zero) EndpointOverflow g = let z : ◌≡◌ {A = ℕ} 0 1 = cc in absurd (omega arith)
error_among b es q (Some zero) InvalidEndpoint g = absurd (omega (arith, leb-true (length (rows b)) 0 g, at_least_one b))
error_among b es q (Some zero) MaxPacketSizeBiggerThanEpFifoSize g = clash (sym g.1)
error_among b es q (Some zero) EpDirNotSupported g = clash (sym g.2)
error_among b es q (Some zero) EpUsed g = clash (sym g.3)
error_among b es q (Some (suc n)) EndpointOverflow g = let z : ◌≡◌ {A = ℕ} 0 1 = cc in absurd (omega arith)
error_among b es q (Some (suc n)) InvalidEndpoint g = refl
error_among b es q (Some (suc n)) MaxPacketSizeBiggerThanEpFifoSize g = refl
error_among b es q (Some (suc n)) EpDirNotSupported g = refl
error_among b es q (Some (suc n)) EpUsed g = refl

alloc_among : (w : Option ℕ) → (among 0 (alloc_replies w) ≡ true) × (among 16 (alloc_replies w) ≡ true)
alloc_among None = (refl, refl)
alloc_among (Some zero) = (refl, refl)
alloc_among (Some (suc n)) = (refl, refl)

module _ (k : Record) (q : Ask) (w : Option ℕ) where
  abbrev given : Allocated
  given = allocate (rows k.regs.board) k.endpoints q w

  handed_ends : (a : Result ℕ EndpointAllocError) → given.answer ≡ a → Ends k (alloc_ep q w) (allocated (impl-alloc.handed k given))
  handed_ends (Ok n) e = done (alloc_among w).0 (ap (λ (a : Result ℕ EndpointAllocError). impl-alloc.alloc_number (impl-alloc.allocated a)) e)
  handed_ends (Err x) e =
      refused (error_number x) (error_other x)
      (error_among k.regs.board k.endpoints q w x ((alloc.exactly (rows k.regs.board) k.endpoints q w x).0 (ap answer_number e)))
      (λ i. allocated (record { answer = impl-alloc.allocated (e i); «record» = with_endpoints k (refused_keeps (rows k.regs.board) k.endpoints q w x e i) }))

  alloc_ends : Ends k (alloc_ep q w) (outcome k (alloc_ep q w))
  unfolding impl-alloc.alloc_ep_call impl-alloc.alloc_ep
  alloc_ends = go (record_sound k)
    where
      go : (p : Bool) → Ends k (alloc_ep q w) (allocated (impl-alloc.unless_allocated (admission_by false p false) k (impl-alloc.alloc_ep k q w)))
      go false = refused 16 refl (alloc_among w).1 refl
      go true = handed_ends given.answer refl

-- write and read by their tests, one beside the other
module _ (k : Record) (e : ℕ) (b f l : List ℕ) where
  abbrev first : Reply Unit
  first = admission_by (short k (length f) (length l)) (record_sound k) (leb (endpoints_of k) e)

  abbrev write_tests : Verdict
  write_tests = tests_by first (write_call_lem.own_tests (write-cases.uncollected k e) (write-cases.too_long k e (length b)) (write-cases.not_writable k e (length b)))

  abbrev write_of : Verdict → WriteOutcome
  write_of v = write-outcome k (write_by v k.regs.board k.control_state k.irq (tx_size k) e b f (log k.regs.words l 0))

  write_is : write_call k e b f l ≡ write_of write_tests
  write_is = writes.call_is k e b f l ∙ ap write_of (tests_are k e (length b) (length f) (length l))

  abbrev read_tests : Verdict
  read_tests = tests_by first (read_call_lem.own_tests (read-cases.nothing_waits k e) (read-cases.not_readable k e) (read-cases.not_setup k e (length b)) (read-cases.overflows k e (length b)))

  read_is : read_call k e b f l ≡ reads.tested k e b f l read_tests
  read_is = reads.by_tests k e b f l ∙ ap (reads.tested k e b f l) (read_told k e (length b) (length f) (length l))

-- the operations
module _ (k : Record) where
  abbrev Ended : Op → Type 0
  Ended o = Ends k o (outcome k o)

  write_ends : (e : ℕ) (b f l : List ℕ) {m : ℕ} → write-cases.WriteCase k e (length b) (length f) (length l) m → Ended (write e b f l)
  unfolding blockedAfter
  write_ends e b f l g = subst (λ (o : WriteOutcome). Ends k (write e b f l) (written o)) (sym (write_is k e b f l)) (go g)
    where
      go : {x : ℕ} → write-cases.WriteCase k e (length b) (length f) (length l) x → Ends k (write e b f l) (written (write_of k e b f l (write_tests k e b f l)))
      go (write-cases.done a s t u) =
          done refl (ap (λ (o : WriteOutcome). write_number o.result.answer) (sym (write_is k e b f l)) ∙ (writes.exactly k e b f l 0).1 (write-cases.done a s t u))
      go (write-cases.blocks a s) =
          rw (a.lent, a.passes, a.there, s) (blocked e (writing e b f l) refl (blocks k e l f [] (lent_enough k (length f) (length l) a.lent).1))
      go (write-cases.beyond p q r) = rw (p, q, r) (refused 8 refl refl refl)
      go (write-cases.long a s t) = rw (a.lent, a.passes, a.there, s, t) (refused 9 refl refl refl)
      go (write-cases.untaken a s t u) = rw (a.lent, a.passes, a.there, s, t, u) (refused 11 refl refl refl)
      go (write-cases.little p) = rw p (refused 15 refl refl refl)
      go (write-cases.unsound p q) = rw (p, q) (refused 16 refl refl refl)

  read_ends : (e : ℕ) (b f l : List ℕ) {m : ℕ} → read-cases.ReadCase k e (length b) (length f) (length l) m → Ended (read e b f l)
  unfolding blockedAfter
  read_ends e b f l g = subst (λ (o : ReadOutcome). Ends k (read e b f l) (fetched o)) (sym (read_is k e b f l)) (go g)
    where
      go : {x : ℕ} → read-cases.ReadCase k e (length b) (length f) (length l) x → Ends k (read e b f l) (fetched (reads.tested k e b f l (read_tests k e b f l)))
      go (read-cases.done a s t u v) =
          done refl (ap (λ (o : ReadOutcome). read_number o.result.answer) (sym (read_is k e b f l)) ∙ (reads.exactly k e b f l 0).1 (read-cases.done a s t u v))
      go (read-cases.blocks a s) =
          rw (a.lent, a.passes, a.there, s) (blocked e (reading e b f l) refl (blocks k e l [] b (lent_enough k (length f) (length l) a.lent).1))
      go (read-cases.beyond p q r) = rw (p, q, r) (refused 8 refl refl refl)
      go (read-cases.unreadable a s t) = rw (a.lent, a.passes, a.there, s, t) (refused 12 refl refl refl)
      go (read-cases.unset a s t u) = rw (a.lent, a.passes, a.there, s, t, u) (refused 13 refl refl refl)
      go (read-cases.cut a s t u v) = rw (a.lent, a.passes, a.there, s, t, u, v) (refused 18 refl refl refl)
      go (read-cases.little p) = rw p (refused 15 refl refl refl)
      go (read-cases.unsound p q) = rw (p, q) (refused 16 refl refl refl)

  poll_ends : (l : List ℕ) → Ended (poll l)
  unfolding poll_call poll_admitted record_sound
  poll_ends l = go (ltb (length l) 384) (record_sound k) refl refl
    where
      go : (s p : Bool) → ltb (length l) 384 ≡ s → record_sound k ≡ p
          → Ends k (poll l) (polled (outcome_of k (poll_when (admission_by s p false) k.regs.board (log k.regs.words l 0) k.control_state k.irq)))
      go true p x y = refused 15 refl refl refl
      go false false x y = refused 16 refl refl refl
      go false true x y =
          done refl (sym (ap (λ (o : PollOutcome). poll_number o.result.answer) (polls.served k l (ltb-false _ _ x) y)) ∙ polls.zero_reply k l (ltb-false _ _ x) y)

  interrupt_ends : Ended on_interrupt
  unfolding interrupt_call
  interrupt_ends = go (record_sound k)
    where
      go : (p : Bool) → Ends k on_interrupt (answered (interrupt_by p k))
      go true = done refl refl
      go false = refused 16 refl refl refl

  arrival_ends : (e : ℕ) (b f : List ℕ) → Ended (arrival e b f)
  arrival_ends e b f =
      let t = events.arrival k e b f in
      by_rows k (arrival e b f) (event-rows.arrival_rows k e (length b) (length f)) refl refl t.event.replies
      (λ n i. arrived (record { event = record { answer = (host.arrival_call k e b f).event.answer; «record» = t.event.unchanged n i }; fifo = t.kept n i }))

  collection_ends : (e : ℕ) (f : List ℕ) → Ended (collection e f)
  collection_ends e f =
      let t = events.collection k e f in
      by_rows k (collection e f) (event-rows.collection_rows k e (length f)) refl refl t.replies
      (λ n i. record {
        reply = host.collect_number (host.collection_call k e f).answer;
        values = no_taken (host.collection_call k e f).answer f n i;
        «record» = t.unchanged n i;
        stores = 0;
        fifo = [];
        list = [];
        buf = [];
      })

  pub ends : (o : Op) → Ended o
  ends (bus_init l) = called_ends k (bus_init l) (simple-rows.list_rows k l) refl refl l refl (simple.bus_init_lem k l)
  ends (enable l) = called_ends k (enable l) (simple-rows.list_rows k l) refl refl l refl (simple.enable k l)
  ends (reset l) = called_ends k (reset l) (simple-rows.list_rows k l) refl refl l refl (simple-reset.reset k l)
  ends (set_device_address a l) = called_ends k (set_device_address a l) (simple-rows.address_rows k a l) refl refl l refl (simple.set_device_address_lem k l a)
  ends (set_stalled e d s l) = called_ends k (set_stalled e d s l) (simple-rows.endpoint_rows k e l) refl refl l refl (simple-stall.set_stalled_lem k l e d s)
  ends (is_stalled e d l) = told_ends k (is_stalled e d l) (simple-rows.endpoint_rows k e l) refl refl l refl (simple-stall.is_stalled_lem k e d l)
  ends bus_reset = answered_ends k bus_reset (event-rows.plain_rows k) refl refl refl (events.bus_reset_lem k)
  ends suspend = answered_ends k suspend (event-rows.plain_rows k) refl refl refl (events.suspend k)
  ends resume = answered_ends k resume (event-rows.plain_rows k) refl refl refl (events.resume k)
  ends setup_end = answered_ends k setup_end (event-rows.plain_rows k) refl refl refl (events.setup_end_lem k)
  ends (underrun e) = answered_ends k (underrun e) (event-rows.miss_rows k e) refl refl refl (events.underrun k e)
  ends (overrun e) = answered_ends k (overrun e) (event-rows.miss_rows k e) refl refl refl (events.overrun k e)
  ends (arrival e b f) = arrival_ends e b f
  ends (collection e f) = collection_ends e f
  ends (write e b f l) = write_ends e b f l ((writes.exactly k e b f l _).0 refl)
  ends (read e b f l) = read_ends e b f l ((reads.exactly k e b f l _).0 refl)
  ends (poll l) = poll_ends l
  ends on_interrupt = interrupt_ends
  ends force_reset = refused 7 refl refl refl
  ends (alloc_ep q w) = alloc_ends k q w
