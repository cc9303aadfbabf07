-- T-02's promises hold (specs/Whole.antt). A packet's bytes stand in its endpoint's receive area: a write fills another area, and no packet arrives where one waits.
-- Assumes nothing.
use Rattle.std.specs.Prelude.{Err, Ok}
use Prim.Native.Nat.{ℕ, ◌+◌, ◌≤◌, ◌<◌}
use mathlib.Core.Path.{◌≡◌, refl, sym, ap, subst, ◌∙◌}
use mathlib.Core.Bool.{Bool, true, false, not, ◌&&◌, ◌||◌}
use mathlib.Core.Logic.{◌⊎◌, inl, inr}
use mathlib.Core.List.{List, [], ◌∷◌, ◌++◌}
use native.Mathlib.Nat.{zero-add}
use native.Mathlib.Omega.{arith}
use native.Mathlib.Decide.{ℕ_discrete}
use borrow.Author.Tests.{lt-leb}
use lib.Dec.{T, eqb, eqb_refl, eqb→eq}
use lib.ListN.{length, take, drop}
use lib.Seq.{take_at}
use Rattle.laws.specs.Lists.{pasted}
use Rattle.laws.proofs.Tests.{clash}
use Rattle.laws.proofs.Lists.{from_pasted, part_elsewhere}
use Rattle.board.specs.declared.Board.{Board}
use Rattle.board.specs.declared.Direction.{Direction}
use Rattle.board.specs.declared.Direction.TheVariants.{Out, In}
use Rattle.board.specs.Table.{place, Disjoint}
use Rattle.board.specs.Boards.{at_least_one}
use Rattle.control_state.specs.declared.ControlStateEnum.TheVariants.{DataOut}
use Rattle.register_file.specs.Registers.{Whole}
use Rattle.record.specs.declared.Record.{Record}
use Rattle.record.specs.Record.{area_in, area_of, need_in, need_of, endpoints_in, endpoints_of, reply_number, Reply}
use Rattle.record.specs.Bytes.{Fills}
use Rattle.record.proofs.Areas.{areas_apart}
use Rattle.record.proofs.Numbers.{not_zero}
use Rattle.record.proofs.Passing.{sound_record_passes, waiting_fits}
use Rattle.transfer_rules.specs.Read.{read_call}
use Rattle.transfer_rules.specs.ReadZero.{read_values}
use Rattle.transfer_rules.specs.ReadTests as tests
use Rattle.transfer_rules.proofs.Lent.{lent_enough}
use Rattle.transfer_rules.proofs.ReadCases.{ReadCase, done, blocks, beyond, unreadable, unset, cut, little, unsound}
use Rattle.transfer_rules.proofs.ReadAnswers.{exactly}
use Rattle.transfer_rules.proofs.Transfers.{fills, pasted_there, part_length, copied_there, copies}
use Rattle.host_rules.specs.Host.{Arrival, entry_at, arrival_refusal_in, arrival_refusal, arrival_call}
use Rattle.host_rules.proofs.Host.{admitted, arrival_passed}
use Rattle.host_rules.proofs.Arrivals.{fills_clear}
use Rattle.calls.specs.Calls.{Op, alloc_ep, bus_init, enable, reset, set_device_address, write, read, set_stalled, is_stalled, poll, on_interrupt, force_reset, arrival, collection, bus_reset, suspend, resume, setup_end, underrun, overrun, Outcome, outcome, step}
use Rattle.calls.specs.Kept.{Good}
use Rattle.calls.specs.Memory.{fifo_after, LentFifo, OneFifo, fifo_after_all}
use Rattle.calls.proofs.Demand.{demand_1}
use Rattle.calls.proofs.Kept.{same_board}
use Rattle.rounds.specs.Machine.{arrives_at, run, Stays, taken}
use Rattle.rounds.specs.Sentences.{Endpoint}
use Rattle.rounds.proofs.Tests.{neither, or_left, and_left}
use Rattle.history.specs.Driver.{arrival_event, event, waiting, length_at, takes, driver}
use Rattle.history.specs.Whole.{packet_at, GivesWhole, ReadsWhole, DoneIsWhole, TooShort, SecondRead, SecondReadAtZero, AsSent}
use Rattle.history.proofs.Look.{Kept}
use Rattle.history.proofs.Arrivals.{refusal, arrival_of, arrival_is, none_waited}
use Rattle.history.proofs.Packets.{high, counted, lasts}
use Rattle.history.proofs.Lengths.{arrives_long, still_long, still_there_lem}
use Rattle.history.proofs.Fetching.{enough, there_is, readable, no_setup, roomy, cramped, read_answered}
use Rattle.history.proofs.Demand.{kept_step}

-- bytes that are pasted into a buffer's front
at_front : (d b : List ℕ) → pasted d 0 b ≡ b ++ drop (length b) d
unfolding pasted
at_front d b = ap (λ (n : ℕ). b ++ drop n d) (zero-add (length b))

-- a read that is done has given the whole packet
module _ (k : Record) (e : ℕ) (x f l : List ℕ) (z : (outcome k (read e x f l)).reply ≡ 0) where
  abbrev packet : List ℕ
  packet = packet_at k e f

  long : length packet ≡ length_at k e
  long = part_length k e x f l z

  buffer_is : (read_call k e x f l).buf ≡ packet ++ drop (length packet) x
  buffer_is = copied_there k e x f l z ∙ at_front x packet

  values_are : (outcome k (read e x f l)).values ≡ length packet ∷ packet
  values_are =
      (λ i. read_values ((copies k e x f l z).said i) (buffer_is i))
      ∙ (λ i. sym long i ∷ take_at packet (drop (length packet) x) (length_at k e) long i)

pub done_is_whole : DoneIsWhole
done_is_whole k e x f l z = record {
  gives = record { done = z; says = values_are k e x f l z; buffer = buffer_is k e x f l z };
  all = long k e x f l z;
}

-- what an operation leaves of FIFO memory f, where a packet waits at e
module _ (k : Record) (f : List ℕ) (e : ℕ) where
  abbrev bytes : ℕ → List ℕ → List ℕ
  bytes n g = take n (drop (area_of k e Out).start g)

  -- of memory g: the first bytes of e's receive area are the same, and it is as long
  abbrev Leaves : ℕ → List ℕ → Type 0
  Leaves n g = (bytes n g ≡ bytes n f) × (length g ≡ length f)

  module _ (n : ℕ) (fits : n ≤ (area_of k e Out).size) where
    -- bytes that go to another area
    elsewhere : (i : ℕ) (d : Direction) (b : List ℕ) → (place e Out ≡ place i d → ⊥) → {g : List ℕ} → g ≡ pasted f (area_of k i d).start b → Fills (area_of k i d) b f g
        → Leaves n g
    elsewhere i d b other p w =
        (ap (bytes n) p ∙ part_elsewhere f (area_of k i d).start b (omega (arith, w.within)) (area_of k e Out).start n (beside (areas_apart k e i Out d other)), w.whole)
      where
        beside : Disjoint (area_of k e Out) (area_of k i d)
            → ((area_of k e Out).start + n ≤ (area_of k i d).start) ⊎ ((area_of k i d).start + length b ≤ (area_of k e Out).start)
        beside (inl h) = inl (omega (arith, h, fits))
        beside (inr h) = inr (omega (arith, h, w.fits))

    same : {g : List ℕ} → g ≡ f → Leaves n g
    same p = (ap (bytes n) p, ap length p)

    -- a write fills another area, and one that is not done leaves all
    write_leaves : (i : ℕ) (b l : List ℕ) → Leaves n (outcome k (write i b f l)).fifo
    write_leaves i b l = go (ℕ_discrete (outcome k (write i b f l)).reply 0) (ℕ_discrete (outcome k (write i b f l)).reply 6)
      where
        go : Dec ((outcome k (write i b f l)).reply ≡ 0) → Dec ((outcome k (write i b f l)).reply ≡ 6) → Leaves n (outcome k (write i b f l)).fifo
        go (yes z) s = elsewhere i In b (λ p. omega (arith, p)) (pasted_there k i b f l z) (fills k i b f l z)
        go (no z) (yes s) = same (ap (λ (o : Outcome). o.fifo) ((demand_1 k (write i b f l)).six s).2)
        go (no z) (no s) = same (ap (λ (o : Outcome). o.fifo) ((demand_1 k (write i b f l)).kept z s))

    -- and no packet arrives where one waits
    arrival_leaves : T (waiting k e) → (i : ℕ) (b : List ℕ) → Leaves n (arrival_call k i b f).fifo
    arrival_leaves w i b = subst (λ (a : Arrival). Leaves n a.fifo) (sym (arrival_is k i b f (refusal k i b f) refl)) (go (refusal k i b f) refl)
      where
        same_place : place e Out ≡ place i Out → e ≡ i
        same_place q = omega (arith, q)

        go : (x : Reply Unit) → refusal k i b f ≡ x → Leaves n (arrival_of k i b f x).fifo
        go (Err x) p = (refl, refl)
        go (Ok tt) p =
            elsewhere i Out b
            (λ q. subst T (none_waited k i (length b) (length f) p) (subst (λ (j : ℕ). T (waiting k j)) (same_place q) w)) refl (fills_clear k i b f p)

    leaves : T (waiting k e) → (o : Op) → LentFifo f o → Leaves n (fifo_after f o (outcome k o))
    leaves w (write i b g l) p = subst (λ (g : List ℕ). Leaves n (outcome k (write i b g l)).fifo) (sym p) (write_leaves i b l)
    leaves w (arrival i b g) p = subst (λ (g : List ℕ). Leaves n (outcome k (arrival i b g)).fifo) (sym p) (arrival_leaves w i b)
    leaves w (alloc_ep q v) p = (refl, refl)
    leaves w (bus_init l) p = (refl, refl)
    leaves w (enable l) p = (refl, refl)
    leaves w (reset l) p = (refl, refl)
    leaves w (set_device_address a l) p = (refl, refl)
    leaves w (read i b g l) p = (refl, refl)
    leaves w (set_stalled i d s l) p = (refl, refl)
    leaves w (is_stalled i d l) p = (refl, refl)
    leaves w (poll l) p = (refl, refl)
    leaves w on_interrupt p = (refl, refl)
    leaves w force_reset p = (refl, refl)
    leaves w (collection i g) p = (refl, refl)
    leaves w bus_reset p = (refl, refl)
    leaves w suspend p = (refl, refl)
    leaves w resume p = (refl, refl)
    leaves w setup_end p = (refl, refl)
    leaves w (underrun i) p = (refl, refl)
    leaves w (overrun i) p = (refl, refl)

-- no operation moves an area, or changes what must be lent
module _ (k : Record) (o : Op) (six : Whole k.regs.words) where
  same_area : (e : ℕ) → area_of (step k o) e Out ≡ area_of k e Out
  unfolding area_of
  same_area e = ap (λ (b : Board). area_in b e Out) (same_board k o six)

  same_need : need_of (step k o) ≡ need_of k
  unfolding need_of
  same_need = ap need_in (same_board k o six)

-- a packet that waits before an operation and after it is the same
module _ (b : Board) (k : Record) (g : Kept b k) (f : List ℕ) (o : Op) (p : LentFifo f o) (e : ℕ) (w : T (waiting k e)) where
  abbrev rest : List ℕ
  rest = fifo_after f o (outcome k o)

  left : Leaves k f e (length_at k e) rest
  left = leaves k f e (length_at k e) (waiting_fits k g.good.sound e Out) w o p

  packet_step : T (waiting (step k o) e) → packet_at (step k o) e rest ≡ packet_at k e f
  packet_step v =
      (λ i. take (still_long b k g e o w v i) (drop (same_area k o g.good.six e i).start rest)) ∙ left.0

-- and so it is over any operations
module _ (b : Board) (e : ℕ) where
  first : (k : Record) (h : List Op) → Stays (driver b) e k h → T (waiting k e)
  first k [] s = s
  first k (o ∷ h) s = s.0

  -- all that is known of the record and of FIFO memory after operations during which the packet waits
  record Kept-on (k : Record) (f : List ℕ) (q : Record) (r : List ℕ) : Type 0 where
    kept : Kept b q
    waits : T (waiting q e)
    long : length_at q e ≡ length_at k e
    packet : packet_at q e r ≡ packet_at k e f
    memory : length r ≡ length f
    need : need_of q ≡ need_of k

  stays : (k : Record) (f : List ℕ) (h : List Op) → Kept b k → OneFifo k f h → Stays (driver b) e k h → Kept-on k f (run (driver b) k h) (fifo_after_all k f h)
  stays k f [] g m s = record { kept = g; waits = s; long = refl; packet = refl; memory = refl; need = refl }
  stays k f (o ∷ h) g m s =
      let v = first (step k o) h s.1 in
      let r = stays (step k o) (fifo_after f o (outcome k o)) h (kept_step b k o g) m.1 s.1 in
      record {
        kept = r.kept;
        waits = r.waits;
        long = r.long ∙ still_long b k g e o s.0 v;
        packet = r.packet ∙ packet_step b k g f o m.0 e s.0 v;
        memory = r.memory ∙ (left b k g f o m.0 e s.0).1;
        need = r.need ∙ same_need k o g.good.six;
      }

  -- a read that is done then gives that packet
  the_same : (k : Record) (f : List ℕ) (q : Record) (r : List ℕ) → Kept-on k f q r → (y l : List ℕ) → (outcome q (read e y r l)).reply ≡ 0
      → ReadsWhole k e f y (outcome q (read e y r l))
  the_same k f q r on y l z =
      let w = done_is_whole q e y r l z in
      record {
        gives = subst (λ (c : List ℕ). GivesWhole c y (outcome q (read e y r l))) on.packet w.gives;
        all = sym (ap length on.packet) ∙ w.all ∙ on.long;
      }

  -- at 1 to 5 it waits as long as nothing takes it
  module _ (ep : Endpoint (driver b) e) where
    until_taken_lem : (k : Record) (h : List Op) → Kept b k → T (waiting k e) → T (not (taken (driver b) e k h)) → Stays (driver b) e k h
    until_taken_lem k [] g w n = w
    until_taken_lem k (o ∷ h) g w n =
        let c = neither (takes k o e) (taken (driver b) e (step k o) h) n in
        (w, until_taken_lem (step k o) h (kept_step b k o g) (still_there_lem b k g e ep o w c.0) c.1)

    -- then a read with room, lent enough, is done
    module _ (k : Record) (f : List ℕ) (h : List Op) (g : Kept b k) (m : OneFifo k f h) (w : T (waiting k e)) (n : T (not (taken (driver b) e k h))) where
      abbrev last : Record
      last = run (driver b) k h

      abbrev memory : List ℕ
      memory = fifo_after_all k f h

      on : Kept-on k f last memory
      on = stays k f h g m (until_taken_lem k h g w n)

      granted : (y l : List ℕ) → need_of k ≤ length f → length_at k e ≤ length y → 384 ≤ length l → (outcome last (read e y memory l)).reply ≡ 0
      granted y l need room lent =
          answered
          (read_answered last e y memory l (high b last on.kept e ep) (sound_record_passes last on.kept.good.sound) (counted b last on.kept e ep)
          (omega (arith, on.need, need, on.memory)) lent (omega (arith, on.long, room)) on.waits)
        where
          answered : T (takes last (read e y memory l) e) → (outcome last (read e y memory l)).reply ≡ 0
          answered t = eqb→eq (outcome last (read e y memory l)).reply 0 (and_left (eqb (outcome last (read e y memory l)).reply 0) (eqb e e) t)

      pub given_whole : (y l : List ℕ) → need_of k ≤ length f → length_at k e ≤ length y → 384 ≤ length l
          → ReadsWhole k e f y (outcome last (read e y memory l))
      given_whole y l need room lent = the_same k f last memory on y l (granted y l need room lent)

abbrev board_of : Record → Board
board_of k = k.regs.board

-- what a read that is refused by 18 has passed
module _ (k : Record) (e : ℕ) (x f l : List ℕ) where
  passed : {m : ℕ} → ReadCase k e (length x) (length f) (length l) m → m ≡ 18 → (need_of k ≤ length f) × T (waiting k e)
  passed (cut a s t u v) z = ((lent_enough k (length f) (length l) a.lent).0, is_there (waiting k e) s)
    where
      is_there : (r : Bool) → not r ≡ false → T r
      is_there true p = tt
      is_there false p = clash p
  passed (done a s t u v) z = absurd (omega arith)
  passed (blocks a s) z = absurd (omega arith)
  passed (beyond p q r) z = absurd (omega arith)
  passed (unreadable a s t) z = absurd (omega arith)
  passed (unset a s t u) z = absurd (omega arith)
  passed (little p) z = absurd (omega arith)
  passed (unsound p q) z = absurd (omega arith)

pub second_read : SecondRead
second_read k e x f l h y m p =
    let q = passed k e x f l ((exactly k e x f l 18).0 p.refused) refl in
    given_whole (board_of k) e p.endpoint k f (read e x f l ∷ h) (record { good = p.good; board = refl }) p.memory q.1 p.kept
    y m q.0 p.room p.list

-- in DataOut a read at endpoint 0 where a packet waits, lent enough, is done
module _ (k : Record) (f : List ℕ) (h : List Op) (g : Kept (board_of k) k) (m : OneFifo k f h) (s : Stays (driver (board_of k)) 0 k h) where
  abbrev end : Record
  end = run (driver (board_of k)) k h

  abbrev left_then : List ℕ
  left_then = fifo_after_all k f h

  now_on : Kept-on (board_of k) 0 k f end left_then
  now_on = stays (board_of k) 0 k f h g m s

  first_there : 0 < endpoints_of end
  unfolding endpoints_of endpoints_in
  first_there = at_least_one (board_of end)

  at_zero : (y l : List ℕ) → need_of k ≤ length f → end.control_state.state ≡ DataOut → length_at k 0 ≤ length y → 384 ≤ length l
      → (outcome end (read 0 y left_then l)).reply ≡ 0
  unfolding tests.not_readable tests.not_setup
  at_zero y l need state room lent =
      (exactly end 0 y left_then l 0).1
      (done
      (record {
        lent = enough end 0 y left_then l (omega (arith, now_on.need, need, now_on.memory)) lent;
        passes = sound_record_passes end now_on.kept.good.sound;
        there = lt-leb (endpoints_of end) 0 first_there;
      })
      (there_is end 0 y left_then l now_on.waits) (rw state refl) (rw state refl) (roomy end 0 y left_then l (omega (arith, now_on.long, room))))

pub second_read_at_zero : SecondReadAtZero
second_read_at_zero k x f l h y m p =
    let q = passed k 0 x f l ((exactly k 0 x f l 18).0 p.refused) refl in
    let g : Kept (board_of k) k = record { good = p.good; board = refl } in
    the_same (board_of k) 0 k f (run (driver (board_of k)) k (read 0 x f l ∷ h)) (fifo_after_all k f (read 0 x f l ∷ h))
    (stays (board_of k) 0 k f (read 0 x f l ∷ h) g p.memory p.still) y m
    (at_zero k f (read 0 x f l ∷ h) g p.memory p.still y m q.0 p.state p.room p.list)

-- the premises of `SecondRead` hold wherever a packet waits that the first buffer has no room for
pub too_short : (k : Record) (e : ℕ) (x f l y m : List ℕ) → Good k → Endpoint (driver (board_of k)) e → T (waiting k e) → need_of k ≤ length f → 384 ≤ length l
    → length x < length_at k e → length_at k e ≤ length y → 384 ≤ length m → TooShort k e x f l [] y m
too_short k e x f l y m good ep w need list less room list' = record {
  good = good;
  endpoint = ep;
  refused = is_18;
  memory = (refl, tt);
  kept = subst (λ (n : ℕ). T (not ((eqb n 0 && eqb e e) || false))) (sym is_18) tt;
  room = room;
  list = list';
}
  where
    g : Kept (board_of k) k
    g = record { good = good; board = refl }

    is_18 : (outcome k (read e x f l)).reply ≡ 18
    is_18 =
        (exactly k e x f l 18).1
        (cut
        (record {
          lent = enough k e x f l need list;
          passes = sound_record_passes k good.sound;
          there = lt-leb (endpoints_of k) e (counted (board_of k) k g e ep);
        })
        (there_is k e x f l w) (readable k e x f l (high (board_of k) k g e ep)) (no_setup k e x f l (high (board_of k) k g e ep)) (cramped k e x f l less))

-- an arrival that is answered: the packet waits, whole, in its area
module _ (k : Record) (g : Kept (board_of k) k) (e : ℕ) (ep : Endpoint (driver (board_of k)) e) (b f : List ℕ) (z : (outcome k (arrival e b f)).reply ≡ 0) where
  abbrev then : Record
  then = step k (arrival e b f)

  abbrev filled : List ℕ
  filled = (outcome k (arrival e b f)).fifo

  comes : T (arrives_at e (event k (arrival e b f)))
  comes = go (arrival_call k e b f).event.answer z
    where
      go : (a : Reply Unit) → reply_number a ≡ 0 → T (arrives_at e (arrival_event a e))
      go (Ok tt) p = eqb_refl e
      go (Err x) p = absurd (not_zero x p)

  clear : refusal k e b f ≡ (Ok tt)
  clear = go (refusal k e b f) refl
    where
      go : (x : Reply Unit) → refusal k e b f ≡ x → refusal k e b f ≡ (Ok tt)
      go (Ok tt) p = p
      go (Err x) p =
          absurd (not_zero x (sym (ap (λ (a : Arrival). reply_number a.event.answer) (arrival_is k e b f (Err x) p)) ∙ z))

  fill : Fills (area_of k e Out) b f (pasted f (area_of k e Out).start b)
  fill = fills_clear k e b f clear

  filled_is : filled ≡ pasted f (area_of k e Out).start b
  filled_is = ap (λ (a : Arrival). a.fifo) (arrival_is k e b f (Ok tt) clear)

  needed : need_of k ≤ length f
  unfolding arrival_refusal arrival_refusal_in
  needed = (admitted k e (length f) (arrival_passed (entry_at k e (length f)) _ _ clear).0).enough

  waits_then : T (waiting then e)
  waits_then = subst T (sym (lasts (board_of k) k g e ep (arrival e b f))) (or_left (arrives_at e (event k (arrival e b f))) _ comes)

  long_then : length_at then e ≡ length b
  long_then = arrives_long (board_of k) k g e (arrival e b f) comes

  packet_then : packet_at then e filled ≡ b
  packet_then =
      (λ i. take (long_then i) (drop (same_area k (arrival e b f) g.good.six e i).start (filled_is i)))
      ∙ ap (take (length b)) (from_pasted f (area_of k e Out).start b (omega (arith, fill.within)))
      ∙ take_at b (drop ((area_of k e Out).start + length b) f) (length b) refl

  module _ (h : List Op) (p : OneFifo then filled h) (n : T (not (taken (driver (board_of k)) e then h))) where
    enough_then : need_of then ≤ length filled
    enough_then = omega (arith, same_need k (arrival e b f) g.good.six, needed, ap length filled_is, fill.whole)

    read_then : (y m : List ℕ) → length b ≤ length y → 384 ≤ length m → GivesWhole b y (outcome (run (driver (board_of k)) then h) (read e y (fifo_after_all then filled h) m))
    read_then y m room list =
        subst (λ (c : List ℕ). GivesWhole c y (outcome (run (driver (board_of k)) then h) (read e y (fifo_after_all then filled h) m))) packet_then
        (given_whole (board_of k) e ep then filled h (kept_step (board_of k) k (arrival e b f) g) p waits_then n y m enough_then (omega (arith, long_then, room)) list).gives

pub as_sent : AsSent
as_sent k e b f h y m p =
    read_then k (record { good = p.good; board = refl }) e p.endpoint b f p.arrived h p.memory.1 p.kept y m p.room p.list
