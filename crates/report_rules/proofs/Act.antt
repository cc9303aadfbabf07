-- From a call's contract and the line of its answer to what the entry leaves: one law for each kind of call.
-- Assumes nothing.
use Rattle.std.specs.Prelude.{Bool, Err, Ok, Result}
use Rattle.board.specs.declared.Span.{Span}
use Rattle.round_rules.specs.declared.PollResult.{PollResult}
use Rattle.record.specs.declared.Called.{Called}
use Rattle.record.specs.declared.Answered.{Answered}
use Rattle.call_rules.specs.declared.AllocRefusal.{AllocRefusal}
use Prim.Native.Nat.{ℕ, zero, suc, ◌+◌, ◌-◌, ◌≤◌}
use native.Mathlib.Omega.{arith}
use native.Mathlib.Nat.{add-sub_cancel_left}
use mathlib.Core.Path.{◌≡◌, refl, sym, ap, subst, ◌∙◌}
use mathlib.Core.List.{List, [], ◌∷◌}
use lib.ListN.{length, take, drop, replicate, length-take, length-drop, length-replicate}
use Rattle.board.specs.declared.Direction.TheVariants.{Out}
use Rattle.record.specs.declared.Record.{Record}
use Rattle.record.specs.Record.{reply_number, Reply}
use Rattle.register_file.specs.Registers.{side_at}
use Rattle.call_rules.specs.Calls as impl
use Rattle.call_rules.specs.Alloc as impl-alloc
use Rattle.call_rules.specs.Stall as impl-stall
use Rattle.transfer_rules.specs.Write.{write_call}
use Rattle.transfer_rules.specs.WriteZero.{write_number, write_values}
use Rattle.transfer_rules.proofs.WriteAnswers as write-answers
use Rattle.transfer_rules.specs.Read.{ReadOutcome, read_call}
use Rattle.transfer_rules.specs.ReadZero.{read_number, read_values}
use Rattle.transfer_rules.proofs.Transfers.{copies}
use Rattle.round_rules.specs.Poll.{PollOutcome, poll_number, poll_values}
use Rattle.host_rules.specs.Host as host
use Rattle.calls.specs.Calls as calls
use Rattle.event_rules.specs.declared.BusEvent.{BusEvent}
use Rattle.event_rules.specs.declared.BusEvent.TheVariants as bus
use Rattle.trace_rules.specs.declared.Packet.{Packet}
use Rattle.trace_rules.specs.declared.Entry.{Entry}
use Rattle.trace_rules.specs.declared.Entry.TheVariants.{Allocate, Init, Reset, Address, Write, Read, Stall, IsStalled, Poll, Interrupt, Enable, Arrival, Collect, Bus, SetupEnd, Underrun, Overrun}
use Rattle.trace_rules.specs.Entries.{code_of, Within}
use Rattle.report_rules.specs.Shown.{Gives, WriteFits, ReadFits}
use Rattle.report_rules.specs.declared.Acted.{Acted}
use Rattle.report_rules.specs.Act.{state, bus_operation, packet, operation, code, left, did, acted, Acts}

-- the code of an entry's line is its operation's
pub code_is : (s : List ℕ) (e : Entry) (f l : List ℕ) → code_of e ≡ code (operation s e f l)
code_is s (Allocate d w t n) f l = refl
code_is s Init f l = refl
code_is s Reset f l = refl
code_is s (Address a) f l = refl
code_is s (Write p) f l = refl
code_is s (Read e n) f l = refl
code_is s (Stall e d on) f l = refl
code_is s (IsStalled e d) f l = refl
code_is s Poll f l = refl
code_is s Interrupt f l = refl
code_is s Enable f l = refl
code_is s (Arrival p) f l = refl
code_is s (Collect e) f l = refl
code_is s (Bus bus.Reset) f l = refl
code_is s (Bus bus.Suspend) f l = refl
code_is s (Bus bus.Resume) f l = refl
code_is s SetupEnd f l = refl
code_is s (Underrun e) f l = refl
code_is s (Overrun e) f l = refl

module _ {b a : List ℕ} {r : Acted} {code : ℕ} where
  -- the entry is e'
  pub entry : (s : List ℕ) (k : Record) (f l : List ℕ) {f' l' : List ℕ} {e e' : Entry} → e ≡ e' → code ≡ code_of e → Acts b a r f' l' code (did (state k f l) (operation s e' f l))
      → Acts b a r f' l' (code_of e) (acted s e (state k f l))
  unfolding acted
  entry s k f l {f'} {l'} {e} is c p =
      subst (λ (n : ℕ). Acts b a r f' l' n (did (state k f l) (operation s e f l))) c
      (subst (λ (x : Entry). Acts b a r f' l' code (did (state k f l) (operation s x f l))) (sym is) p)

  -- its operation left o, with the memory m
  by : (m : calls.Outcome → List ℕ × List ℕ) {c o : calls.Outcome} → c ≡ o → Gives b a r code c.«record» c.stores c.reply c.values
      → Acts b a r (m c).0 (m c).1 code (left (m o) o)
  by m {c} e g =
      subst (λ (o : calls.Outcome). Acts b a r (m c).0 (m c).1 code (left (m o) o)) e
      (record { kept = λ i. state (g.kept i) (m c).0 (m c).1; counted = g.counted; shown = g.shown })

  module _ (f : List ℕ) {l : List ℕ} where
    pub by_called : {x : Called (Reply Unit)} {o : impl.CallOutcome} → record { call = x; list = l } ≡ o → Gives b a r code x.«record» x.stores (reply_number x.answer) []
        → Acts b a r f l code (left (f, o.list) (calls.called o))
    by_called e g = by (λ o. (f, o.list)) (ap calls.called e) g

    pub by_told : {x : Called (Reply Bool)} {o : impl-stall.StalledOutcome} → record { call = x; list = l } ≡ o
        → Gives b a r code x.«record» x.stores (impl-stall.stalled_number x.answer) (impl-stall.stalled_values x.answer) → Acts b a r f l code (left (f, o.list) (calls.told o))
    by_told e g = by (λ o. (f, o.list)) (ap calls.told e) g

    pub by_polled : {x : Called (Reply PollResult)} {o : PollOutcome} → record { result = x; list = l } ≡ o
        → Gives b a r code x.«record» x.stores (poll_number x.answer) (poll_values x.answer) → Acts b a r f l code (left (f, o.list) (calls.polled o))
    by_polled e g = by (λ o. (f, o.list)) (ap calls.polled e) g

    pub by_fetched : {x : Called (Reply ℕ)} {buf : List ℕ} {o : ReadOutcome} → record { result = x; list = l; buf = buf } ≡ o
        → Gives b a r code x.«record» x.stores (read_number x.answer) (read_values x.answer buf) → Acts b a r f l code (left (f, o.list) (calls.fetched o))
    by_fetched e g = by (λ o. (f, o.list)) (ap calls.fetched e) g

  module _ (f l : List ℕ) where
    pub by_allocated : {x o : Answered (Result ℕ AllocRefusal)} → x ≡ o
        → Gives b a r code x.«record» 0 (impl-alloc.alloc_number x.answer) (impl-alloc.alloc_values x.answer) → Acts b a r f l code (left (f, l) (calls.allocated o))
    by_allocated e g = by (λ o. (f, l)) (ap calls.allocated e) g

    pub by_answered : {x o : Answered (Reply Unit)} → x ≡ o → Gives b a r code x.«record» 0 (reply_number x.answer) [] → Acts b a r f l code (left (f, l) (calls.answered o))
    by_answered e g = by (λ o. (f, l)) (ap calls.answered e) g

    pub by_bus : (k : Record) (x : Answered (Reply Unit)) (e : BusEvent) → calls.answered x ≡ calls.outcome k (bus_operation e)
        → Gives b a r code x.«record» 0 (reply_number x.answer) [] → Acts b a r f l code (did (state k f l) (bus_operation e))
    by_bus k x bus.Reset e g = by (λ o. (f, l)) e g
    by_bus k x bus.Suspend e g = by (λ o. (f, l)) e g
    by_bus k x bus.Resume e g = by (λ o. (f, l)) e g

    pub by_collected : {x o : Answered (Reply Span)} → x ≡ o → Gives b a r code x.«record» 0 (host.collect_number x.answer) (host.collect_values x.answer f)
        → Acts b a r f l code (left (f, l) (calls.collected f o))
    by_collected e g = by (λ o. (f, l)) (ap (calls.collected f) e) g

  module _ (k : Record) (ep : ℕ) (bytes f : List ℕ) {f' : List ℕ} where
    pub by_written : (l : List ℕ) {l' : List ℕ} {x : Called (Reply ℕ)} → record { result = x; fifo = f'; list = l' } ≡ write_call k ep bytes f l
        → Gives b a r code x.«record» x.stores (write_number x.answer) (write_values x.answer) → Acts b a r f' l' code (did (state k f l) (calls.write ep bytes f l))
    by_written l e g = by (λ o. (o.fifo, o.list)) (ap calls.written e) g

    pub by_arrived : (l : List ℕ) {x : Answered (Reply Unit)} → record { event = x; fifo = f' } ≡ host.arrival_call k ep bytes f
        → Gives b a r code x.«record» 0 (reply_number x.answer) [] → Acts b a r f' l code (did (state k f l) (calls.arrival ep bytes f))
    by_arrived l e g = by (λ o. (o.fifo, l)) (ap calls.arrived e) g

  -- a packet is handed on as a part of the trace
  pub handed_on : (s : List ℕ) (p : Packet) (o : List ℕ → calls.Op) (k : Record) (f l : List ℕ) {f' l' : List ℕ}
      → Acts b a r f' l' code (did (state k f l) (o (take (p.start + p.len - p.start) (drop p.start s)))) → Acts b a r f' l' code (did (state k f l) (o (packet s p.start p.len)))
  handed_on s p o k f l {f'} {l'} =
      subst (λ (m : ℕ). Acts b a r f' l' code (did (state k f l) (o (take m (drop p.start s))))) (add-sub_cancel_left p.start p.len)

-- what `Within` says of the entries that it speaks of
pub write_within : (s : List ℕ) {e : Entry} {p : Packet} → e ≡ Write p → Within s e → p.start + p.len ≤ length s
write_within s e h = rw e at h

pub arrival_within : (s : List ℕ) {e : Entry} {p : Packet} → e ≡ Arrival p → Within s e → p.start + p.len ≤ length s
arrival_within s e h = rw e at h

pub read_within : (s : List ℕ) {e : Entry} {ep n : ℕ} → e ≡ Read ep n → Within s e → n ≤ 512
read_within s e h = rw e at h

-- a packet is no longer than the trace
pub packet_short : (s : List ℕ) (p : Packet) → length s ≤ 65536 → length (take (p.start + p.len - p.start) (drop p.start s)) ≤ 65536
packet_short s p h = omega (arith, h, length-take (p.start + p.len - p.start) (drop p.start s), length-drop p.start s)

-- a written length is that of the bytes that were lent
pub wrote_fits : (k : Record) (ep : ℕ) (bytes f l : List ℕ) {x : Called (Reply ℕ)} {f' l' : List ℕ}
    → record { result = x; fifo = f'; list = l' } ≡ write_call k ep bytes f l → length bytes ≤ 65536 → WriteFits x.answer
wrote_fits k ep bytes f l {x} e h = go x.answer (λ i. (e i).result.answer)
  where
    go : (y : Reply ℕ) → y ≡ (write_call k ep bytes f l).result.answer → WriteFits y
    go (Ok m) q = omega (arith, h, write-answers.value k ep bytes f l m (sym q))
    go (Err z) q = tt

-- a read that is done has its whole packet in the buffer
module _ (k : Record) (ep : ℕ) (buf f l : List ℕ) where
  pub got_fits : {x : Called (Reply ℕ)} {l' buf' : List ℕ} → record { result = x; list = l'; buf = buf' } ≡ read_call k ep buf f l → length buf ≤ 512 → ReadFits x.answer buf'
  got_fits {x} {l'} {buf'} e h = go x.answer (λ i. (e i).result.answer)
    where
      go : (y : Reply ℕ) → y ≡ (read_call k ep buf f l).result.answer → ReadFits y buf'
      go (Ok n) q =
          let c = copies k ep buf f l (ap read_number (sym q)) in
          let said = c.said in
          let is : n ≡ (side_at k.regs.words ep Out).len = cc in
          let whole : length buf' ≡ length buf = ap (λ (o : ReadOutcome). length o.buf) e ∙ c.whole in
          (omega (arith, is, c.room, whole), omega (arith, is, c.room, h))
      go (Err z) q = tt

-- the buffer of a read: the front of 512 zeros
zeros_front : (n m : ℕ) → n ≤ m → take n (replicate {A = ℕ} m 0) ≡ replicate n 0
zeros_front zero m h = refl
zeros_front (suc n) zero h = absurd (omega arith)
zeros_front (suc n) (suc m) h = ap (λ (l : List ℕ). 0 ∷ l) (zeros_front n m (omega arith))

module _ (n : ℕ) (h : n ≤ 512) {z : List ℕ} (is : z ≡ replicate 512 0) where
  zeros : take n z ≡ replicate n 0
  zeros = ap (take n) is ∙ zeros_front n 512 h

  pub buffer_length : n ≡ length (take n z)
  buffer_length = sym (ap length zeros ∙ length-replicate n 0)

  pub buffer_short : length (take n z) ≤ 512
  buffer_short = omega (arith, h, buffer_length)

  pub by_read : (k : Record) (ep : ℕ) (f l : List ℕ) {b a l' : List ℕ} {r : Acted} {code : ℕ} → Acts b a r f l' code (did (state k f l) (calls.read ep (take n z) f l))
      → Acts b a r f l' code (did (state k f l) (calls.read ep (replicate n 0) f l))
  by_read k ep f l {b} {a} {l'} {r} {code} p =
      subst (λ (u : List ℕ). Acts b a r f l' code (did (state k f l) (calls.read ep u f l))) zeros p
