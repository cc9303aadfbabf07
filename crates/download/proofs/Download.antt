-- Document 02, T-12: specs/Download.antt's sentence. Three phases, each kept by every operation: Setup until the read, DataIn until the write that ends it, and
-- neither after it. Assumes nothing.
use Prim.Native.Nat.{ℕ, ◌+◌}
use mathlib.Core.Path.{◌≡◌, refl, sym, ap, subst, ◌∙◌}
use mathlib.Core.Bool.{Bool, true, false, not, ◌&&◌, ◌||◌, cond}
use mathlib.Core.Logic.{◌⊎◌, inl, inr}
use mathlib.Core.List.{List, [], ◌∷◌, ◌++◌, foldl-append}
use native.Mathlib.Omega.{arith}
use borrow.Author.Tests.{eq-eqb, eqb-true, leb-true, leb-false, ltb-true, ltb-false, le-ltb, lt-leb}
use lib.Dec.{T, eqb, leb, ltb}
use Rattle.laws.proofs.Tests.{clash, neither}
use Rattle.rounds.proofs.Tests.{is_up, is_down, and_left, and_right}
use Rattle.register_file.specs.Registers.{Whole, setupend}
use Rattle.control_state.specs.declared.ControlState.{ControlState}
use Rattle.control_state.specs.declared.ControlStateEnum.{ControlStateEnum}
use Rattle.control_state.specs.declared.ControlStateEnum.TheVariants.{Idle, Setup, DataIn, DataOut, Accepted, NodataPhase}
use Rattle.control_state.specs.Numbers.{state_number}
use Rattle.board.specs.Boards.{rows, at_least_one}
use Rattle.record.specs.declared.Record.{Record}
use Rattle.record.specs.Record.{area_of, need_in, need_of, endpoints_in, endpoints_of}
use Rattle.record.proofs.Passing.{record_is_sound, sound_record_passes}
use Rattle.transfer_rules.specs.Peek.{short_in, short}
use Rattle.transfer_rules.specs.WriteTests as tests
use Rattle.transfer_rules.specs.WriteTests.{untaken_in}
use Rattle.transfer_rules.proofs.WriteCases.{too_long, not_writable, done}
use Rattle.transfer_rules.proofs.WriteAnswers.{exactly}
use lib.ListN.{length}
use Rattle.transfer_rules.specs.WriteZero.{tx_size}
use Rattle.calls.specs.Calls.{Op, write, read, poll, outcome, step, runs}
use Rattle.calls.specs.Control.{answered, state, remaining, reports_setup, Role, writes, reads, stalls, polls, resets, cuts as cut, others, Part, sending, reading, reporting, polling, halting, cutting, beside, part_by, part, SameControl, Idles, Reports, Polls, Turns, SetupEnds, role}
use Rattle.calls.specs.DataEnd.{NoDataEnd, DataEndOnce, is_state, ends, transfers}
use Rattle.download.specs.Download.{disturbs, sent, total, finishes, finished, is_reading, is_reporting, none, none_anew, Silent, Reported, Asked, opening, Waits, InData, Sendable, Download, EveryDownloadEndsOnce}
use Rattle.calls.specs.Kept.{Good}
use Rattle.calls.proofs.Kept.{good_step, whole_step}
use Rattle.calls.proofs.DataEnds.{stores_end_lem}
use Rattle.calls.proofs.PollTurning.{poll_sound}
use Rattle.calls.proofs.Control.{turned}

-- two states that are not the same
apart : {s t u : ControlStateEnum} → s ≡ t → s ≡ u → state_number t ≡ state_number u
apart p q = ap state_number (sym p ∙ q)

-- an operation stores no DataEnd where it ends no data
module _ (k : Record) (o : Op) (six : Whole k.regs.words) where
  by_turn : {s t : ControlStateEnum} → state k ≡ s → state (step k o) ≡ t → ends s t ≡ false → NoDataEnd (outcome k o)
  by_turn {s} {t} p q e =
      (stores_end_lem k o six).other
      (go (transfers (role o)) (ap (λ (x : ControlStateEnum). ends x (state (step k o))) p ∙ ap (ends s) q ∙ e))
    where
      go : (b : Bool) → ends (state k) (state (step k o)) ≡ false → (b && ends (state k) (state (step k o))) ≡ false
      go true p = p
      go false p = refl

  stays : SameControl k (step k o) → state (step k o) ≡ state k
  stays p = ap (λ (c : ControlState). c.state) p

-- 1. Setup, until an answered read at endpoint 0 or what gives it up
record InSetup (k : Record) : Type 0 where
  good : Good k
  setup : state k ≡ Setup
  down : setupend k.regs.words ≡ false

-- a write at endpoint 0 is not taken in Setup
not_written : (k : Record) → state k ≡ Setup → (state k ≡ NodataPhase) ⊎ ((state k ≡ Idle) ⊎ (state k ≡ DataIn)) → ⊥
not_written k s (inl p) = omega (arith, apart s p)
not_written k s (inr (inl p)) = omega (arith, apart s p)
not_written k s (inr (inr p)) = omega (arith, apart s p)

-- SetupEnd stays clear but for setup end
stays_down : (p : Part) (x y : Bool) → SetupEnds p x y → disturbs p ≡ false → x ≡ false → y ≡ false
stays_down p x y c d z = go p y refl c d
  where
    up : (v : Bool) → y ≡ v → (v ≡ true → x ≡ true) → v ≡ false
    up true e f = clash (sym (f refl) ∙ z)
    up false e f = refl

    go : (p : Part) (v : Bool) → y ≡ v → SetupEnds p x v → disturbs p ≡ false → v ≡ false
    go cutting v e c d = clash d
    go reporting v e c d = c
    go (sending n) v e c d = up v e c
    go reading v e c d = up v e c
    go polling v e c d = up v e c
    go halting v e c d = up v e c
    go beside v e c d = up v e c

module _ (k : Record) (o : Op) (six : Whole k.regs.words) where
  goes_down : disturbs (part k o) ≡ false → setupend k.regs.words ≡ false → setupend (step k o).regs.words ≡ false
  goes_down = stays_down (part k o) (setupend k.regs.words) (setupend (step k o).regs.words) (turned k o six).setup_end

  -- a poll in a state that it does not leave
  poll_stays : {q : Record} → (state k ≡ Accepted → ⊥) → (state k ≡ DataIn → setupend k.regs.words ≡ true → ⊥) → Polls k q → SameControl k q
  poll_stays a d (inl p) = absurd (a p.0)
  poll_stays a d (inr (inl p)) = absurd (d p.0 p.1)
  poll_stays a d (inr (inr p)) = p

  waits_turn : state k ≡ Setup → (p : Part) → disturbs p ≡ false → is_reading p ≡ false → Turns p k (outcome k o) → state (step k o) ≡ Setup
  waits_turn s (sending n) d r t = absurd (not_written k s t.only)
  waits_turn s reading d r t = clash r
  waits_turn s reporting d r t = t.setup
  waits_turn s polling d r t = stays k o six (poll_stays (λ p. omega (arith, apart s p)) (λ p q. omega (arith, apart s p)) t) ∙ s
  waits_turn s halting d r t = clash d
  waits_turn s cutting d r t = clash d
  waits_turn s beside d r t = stays k o six t ∙ s

  -- of an operation that does not disturb and is no read
  waits_step : InSetup k → disturbs (part k o) ≡ false → is_reading (part k o) ≡ false → InSetup (step k o) × NoDataEnd (outcome k o)
  waits_step w d r =
      let s = waits_turn w.setup (part k o) d r (turned k o six).turns in
      (record { good = good_step k o w.good; setup = s; down = goes_down d w.down }, by_turn k o six w.setup s refl)

-- 2. DataIn, until a write that ends it: n bytes are asked, t were sent
record Sends (n t : ℕ) (k : Record) : Type 0 where
  good : Good k
  within : InData n t k
  down : setupend k.regs.words ≡ false

-- one of two tests
either : (a b : Bool) → (a || b) ≡ true → (a ≡ true) ⊎ (b ≡ true)
either true b p = inl refl
either false b p = inr p

module _ (n t : ℕ) (k : Record) (o : Op) (s : Sends n t k) where
  abbrev x : Record
  x = step k o

  not_read : {A : Type 0} → (state k ≡ Setup) ⊎ (state k ≡ DataOut) → A
  not_read (inl p) = absurd (omega (arith, apart s.within.still p))
  not_read (inr p) = absurd (omega (arith, apart s.within.still p))

  not_taken : {A : Type 0} {q : Record} → Reports k q → A
  not_taken {A = A} {q = q} w = go w.from
    where
      go : ((state k ≡ Idle) × (remaining q ≡ remaining k)) ⊎ ((state k ≡ DataIn) × (setupend k.regs.words ≡ true) × (remaining q ≡ 0)) → A
      go (inl p) = absurd (omega (arith, apart s.within.still p.0))
      go (inr p) = clash (sym p.1 ∙ s.down)

  same_data : SameControl k x → InData n (t + 0) x
  same_data c = record {
    still = stays k o s.good.six c ∙ s.within.still;
    left = omega (arith, s.within.left, ap (λ (d : ControlState). d.tx_len) c);
    more = omega (arith, s.within.more);
  }

  data_turn : (p : Part) → disturbs p ≡ false → finishes n t (tx_size k) p ≡ false → Turns p k (outcome k o) → InData n (t + sent p) x
  data_turn (sending m) d f w =
      let z = neither (leb n (t + m)) (ltb m (tx_size k)) f in
      let g = w.more s.within.still (omega (arith, leb-false n (t + m) z.0, s.within.left)) (ltb-false m (tx_size k) z.1) in
      record { still = g.still; left = omega (arith, g.left, s.within.left); more = leb-false n (t + m) z.0 }
  data_turn reading d f w = not_read w.only
  data_turn reporting d f w = not_taken w
  data_turn polling d f w = same_data (poll_stays k o s.good.six (λ p. omega (arith, apart s.within.still p)) (λ p q. clash (sym q ∙ s.down)) w)
  data_turn halting d f w = clash d
  data_turn cutting d f w = clash d
  data_turn beside d f w = same_data w

  data_step : disturbs (part k o) ≡ false → finishes n t (tx_size k) (part k o) ≡ false → Sends n (t + sent (part k o)) x × NoDataEnd (outcome k o)
  data_step d f =
      let a = data_turn (part k o) d f (turned k o s.good.six).turns in
      (record { good = good_step k o s.good; within = a; down = goes_down k o s.good.six d s.down }, by_turn k o s.good.six s.within.still a.still refl)

  -- the write that ends it: the running total reaches n, or the packet is short
  end_turn : (p : Part) → finishes n t (tx_size k) p ≡ true → Turns p k (outcome k o) → Idles x
  end_turn (sending m) f w = go (either (leb n (t + m)) (ltb m (tx_size k)) f)
    where
      go : (leb n (t + m) ≡ true) ⊎ (ltb m (tx_size k) ≡ true) → Idles x
      go (inl p) = w.all s.within.still (omega (arith, leb-true n (t + m) p, s.within.left))
      go (inr p) = w.short s.within.still (ltb-true m (tx_size k) p)
  end_turn reading f w = clash (sym f)
  end_turn reporting f w = clash (sym f)
  end_turn polling f w = clash (sym f)
  end_turn halting f w = clash (sym f)
  end_turn cutting f w = clash (sym f)
  end_turn beside f w = clash (sym f)

  -- only a write is such a part
  is_write : (b : Bool) (r : Role) → finishes n t (tx_size k) (cond b (part_by r (outcome k o)) beside) ≡ true → transfers r ≡ true
  is_write true (writes e m) f = refl
  is_write true (reads e) f = refl
  is_write true (stalls e v) f = by (eqb e 0 && v) f
    where
      by : (c : Bool) → finishes n t (tx_size k) (cond c halting beside) ≡ true → false ≡ true
      by true f = f
      by false f = f
  is_write true polls f = by (reports_setup (outcome k o)) f
    where
      by : (c : Bool) → finishes n t (tx_size k) (cond c reporting polling) ≡ true → false ≡ true
      by true f = f
      by false f = f
  is_write true resets f = f
  is_write true cut f = f
  is_write true others f = f
  is_write false r f = clash (sym f)

  end_step : finishes n t (tx_size k) (part k o) ≡ true → Idles x × DataEndOnce (outcome k o)
  end_step f =
      let i = end_turn (part k o) f (turned k o s.good.six).turns in (
        i,
        (stores_end_lem k o s.good.six).ends
            (ap (λ (b : Bool). b && ends (state k) (state x)) (is_write (answered k o) (role o) f)
            ∙ ap (λ (u : ControlStateEnum). ends u (state x)) s.within.still ∙ ap (is_state Idle) i.idle),
      )

-- 3. Afterwards: Idle or Accepted, and Setup once another is reported, until it is read
abbrev Rests : Bool → ControlStateEnum → Type 0
Rests told s = (s ≡ Idle) ⊎ ((s ≡ Accepted) ⊎ ((told ≡ true) × (s ≡ Setup)))

rests_later : (told b : Bool) {s : ControlStateEnum} → Rests told s → Rests (told || b) s
rests_later told b (inl p) = inl p
rests_later told b (inr (inl p)) = inr (inl p)
rests_later told b (inr (inr p)) = inr (inr (rw p.0 refl, p.1))

-- none of these is DataIn, DataOut or NodataPhase, whose numbers are 2, 3 and 5
rests_low : {told : Bool} {s t : ControlStateEnum} → Rests told s → s ≡ t → (state_number t ≡ 0) ⊎ ((state_number t ≡ 4) ⊎ (state_number t ≡ 1))
rests_low (inl p) q = inl (apart q p)
rests_low (inr (inl p)) q = inr (inl (apart q p))
rests_low (inr (inr p)) q = inr (inr (apart q p.1))

-- so no turn from one to another ends data
rests_end : {told later : Bool} {s t : ControlStateEnum} → Rests told s → Rests later t → ends s t ≡ false
rests_end (inl p) r = rw p refl
rests_end (inr (inl p)) r = rw p refl
rests_end {t = t} (inr (inr p)) r = rw p.1 (no_data r)
  where
    no_data : {later : Bool} → Rests later t → is_state NodataPhase t ≡ false
    no_data (inl p) = ap (is_state NodataPhase) p
    no_data (inr (inl p)) = ap (is_state NodataPhase) p
    no_data (inr (inr p)) = ap (is_state NodataPhase) p.1

module _ (told : Bool) (k : Record) (o : Op) (six : Whole k.regs.words) (r : Rests told (state k)) where
  never : {A : Type 0} (s : ControlStateEnum) → (state_number s ≡ 0 → ⊥) → (state_number s ≡ 4 → ⊥) → (state_number s ≡ 1 → ⊥) → state k ≡ s → A
  never s a b c p = absurd (by (rests_low r p))
    where
      by : (state_number s ≡ 0) ⊎ ((state_number s ≡ 4) ⊎ (state_number s ≡ 1)) → ⊥
      by (inl p) = a p
      by (inr (inl p)) = b p
      by (inr (inr p)) = c p

  -- a read is refused, but of a Setup that was reported
  unread : (b : Bool) → told ≡ b → (b && true) ≡ false → (state k ≡ Setup) ⊎ (state k ≡ DataOut) → ⊥
  unread true e u c = clash u
  unread false e u (inr p) = never DataOut (λ z. omega arith) (λ z. omega arith) (λ z. omega arith) p
  unread false e u (inl p) = by r
    where
      by : Rests told (state k) → ⊥
      by (inl q) = omega (arith, apart p q)
      by (inr (inl q)) = omega (arith, apart p q)
      by (inr (inr q)) = clash (sym q.0 ∙ e)

  rest_same : SameControl k (step k o) → Rests told (state (step k o))
  rest_same c = subst (Rests told) (sym (stays k o six c)) r

  rest_turn : (p : Part) → (told && is_reading p) ≡ false → Turns p k (outcome k o) → Rests (told || is_reporting p) (state (step k o))
  rest_turn (sending n) u w = by w.only
    where
      by : (state k ≡ NodataPhase) ⊎ ((state k ≡ Idle) ⊎ (state k ≡ DataIn)) → Rests (told || false) (state (step k o))
      by (inl p) = never NodataPhase (λ z. omega arith) (λ z. omega arith) (λ z. omega arith) p
      by (inr (inl p)) = inr (inl (w.accepted p).1.to)
      by (inr (inr p)) = never DataIn (λ z. omega arith) (λ z. omega arith) (λ z. omega arith) p
  rest_turn reading u w = absurd (unread told refl u w.only)
  rest_turn reporting u w = inr (inr (by told, w.setup))
    where
      by : (b : Bool) → (b || true) ≡ true
      by true = refl
      by false = refl
  rest_turn polling u (inl w) = inl w.1.to
  rest_turn polling u (inr (inl w)) = inl w.2.idle
  rest_turn polling u (inr (inr w)) = rests_later told false (rest_same w)
  rest_turn halting u w = inl w.idle
  rest_turn cutting u w = rests_later told false (rest_same w)
  rest_turn beside u w = rests_later told false (rest_same w)

  rest_step : (told && is_reading (part k o)) ≡ false → Rests (told || is_reporting (part k o)) (state (step k o)) × NoDataEnd (outcome k o)
  rest_step u = let t = rest_turn (part k o) u (turned k o six).turns in (t, by_turn k o six refl refl (rests_end r t))

-- The operations one after another -----------------------------------------------------------------------------------------------

both : (a b : Bool) → T (a && b) → T a × T b
both a b t = (and_left a b t, and_right a b t)

waits_all : (a : List Op) (k : Record) → InSetup k → T (none disturbs k a) → T (none is_reading k a) → InSetup (runs k a) × Silent k a
waits_all [] k w d r = (w, tt)
waits_all (o ∷ a) k w d r =
    let c = both (not (disturbs (part k o))) (none disturbs (step k o) a) d in
    let u = both (not (is_reading (part k o))) (none is_reading (step k o) a) r in
    let s = waits_step k o w.good.six w (is_down _ c.0) (is_down _ u.0) in
    let t = waits_all a (step k o) s.0 c.1 u.1 in
    (t.0, (s.1, t.1))

data_all : (n t : ℕ) (h : List Op) (k : Record) → Sends n t k → T (none disturbs k h) → T (not (finished n t k h)) → Sends n (t + total k h) (runs k h) × Silent k h
data_all n t [] k s d f = (subst (λ (m : ℕ). Sends n m k) (omega arith) s, tt)
data_all n t (o ∷ h) k s d f =
    let c = both (not (disturbs (part k o))) (none disturbs (step k o) h) d in
    let u = neither (finishes n t (tx_size k) (part k o)) (finished n (t + sent (part k o)) (step k o) h) (is_down _ f) in
    let a = data_step n t k o s (is_down _ c.0) u.0 in
    let b = data_all n (t + sent (part k o)) h (step k o) a.0 c.1 (on u.1) in
    (subst (λ (m : ℕ). Sends n m (runs (step k o) h)) (omega arith) b.0, (a.1, b.1))
  where
    on : {b : Bool} → b ≡ false → T (not b)
    on p = rw p tt

rest_all : (told : Bool) (c : List Op) (k : Record) → Whole k.regs.words → Rests told (state k) → T (none_anew told k c)
    → Silent k c × (state (runs k c) ≡ DataIn → ⊥)
rest_all told [] k six r u = (tt, λ p. by (rests_low r p))
  where
    by : (state_number DataIn ≡ 0) ⊎ ((state_number DataIn ≡ 4) ⊎ (state_number DataIn ≡ 1)) → ⊥
    by (inl p) = omega arith
    by (inr (inl p)) = omega arith
    by (inr (inr p)) = omega arith
rest_all told (o ∷ c) k six r u =
    let v = both (not (told && is_reading (part k o))) (none_anew (told || is_reporting (part k o)) (step k o) c) u in
    let s = rest_step told k o six r (is_down _ v.0) in
    let t = rest_all (told || is_reporting (part k o)) c (step k o) (whole_step k o six) s.0 v.1 in
    ((s.1, t.0), t.1)

-- operations after others
silent_then : (a b : List Op) (k : Record) → Silent k a → Silent (runs k a) b → Silent k (a ++ b)
silent_then [] b k s t = t
silent_then (o ∷ a) b k s t = (s.0, silent_then a b (step k o) s.1 t)

-- a poll that reports Setup was answered, and so was given a record that passes
reporting_answered : (b : Bool) (p : Part) → cond b p beside ≡ reporting → b ≡ true
reporting_answered true p e = refl
reporting_answered false p e = ap is_reporting e

module _ (k : Record) (l : List ℕ) (a : List Op) (q : Reported k l a) where
  abbrev polled : Record
  polled = step k (poll l)

  abbrev later : Record
  later = runs polled a

  good : Good k
  good = record { sound = record_is_sound k (poll_sound k l (eqb-true _ 0 (reporting_answered (answered k (poll l)) _ q.reported))); six = q.whole }

  reports_setup_lem : Turns reporting k (outcome k (poll l))
  reports_setup_lem = subst (λ (p : Part). Turns p k (outcome k (poll l))) q.reported (turned k (poll l) q.whole).turns

  in_setup : InSetup polled
  in_setup = record {
    good = good_step k (poll l) good;
    setup = reports_setup_lem.setup;
    down = subst (λ (p : Part). SetupEnds p (setupend k.regs.words) (setupend polled.regs.words)) q.reported (turned k (poll l) q.whole).setup_end;
  }

  -- the operations up to the read
  waited : InSetup later × Silent polled a
  waited = waits_all a polled in_setup q.calm q.unread

  -- a write would be one of the parts that Setup has none of
  unsent : (b f m : List ℕ) → answered later (write 0 b f m) ≡ false
  unsent b f m = go (answered later (write 0 b f m)) refl (turned later (write 0 b f m) waited.0.good.six).turns
    where
      go : (v : Bool) → answered later (write 0 b f m) ≡ v → Turns (cond v (sending (length b)) beside) later (outcome later (write 0 b f m)) → answered later (write 0 b f m) ≡ false
      go true e t = absurd (not_written later waited.0.setup t.only)
      go false e t = e

  waits : Waits k l a
  waits = record { setup = waited.0.setup; unsent = unsent; silent = ((stores_end_lem k (poll l) q.whole).other refl, waited.1) }

-- the tests of a write that is sendable in DataIn
module _ (k : Record) (b f m : List ℕ) (good : Good k) (s : Sendable k b f m) where
  lent_enough : short k (length f) (length m) ≡ false
  unfolding short short_in need_in need_of
  lent_enough = rw (le-ltb (length f) (need_of k) s.fifo, le-ltb (length m) 384 s.list)

  at_zero : leb (endpoints_of k) 0 ≡ false
  unfolding endpoints_of endpoints_in
  at_zero = lt-leb (length (rows k.regs.board)) 0 (at_least_one k.regs.board)

  not_long : too_long k 0 (length b) ≡ false
  unfolding tests.too_long area_of
  not_long = le-ltb _ _ s.fits

  in_data_taken : state k ≡ DataIn → not_writable k 0 (length b) ≡ false
  unfolding tests.not_writable
  in_data_taken p = subst (λ (t : ControlStateEnum). untaken_in t (length b) ≡ false) (sym p) refl

  answered_zero : state k ≡ DataIn → answered k (write 0 b f m) ≡ true
  answered_zero p =
      eq-eqb _ 0
      ((exactly k 0 b f m 0).1
      (done (record { lent = lent_enough; passes = sound_record_passes k good.sound; there = at_zero }) s.collected not_long (in_data_taken p)))

module _ (k : Record) (l : List ℕ) (a : List Op) (b f m : List ℕ) (n : ℕ) (q : Asked k l a b f m n) where
  abbrev the_read : Op
  the_read = read 0 b f m

  abbrev before : Record
  before = later k l a q.before

  waiting : InSetup before × Silent (polled k l a q.before) a
  waiting = waited k l a q.before

  is_reading_lem : part before the_read ≡ reading
  is_reading_lem = ap (λ (c : Bool). cond c reading beside) q.given

  asked : (state (step before the_read) ≡ DataIn) × (remaining (step before the_read) ≡ n)
  asked =
      let t = subst (λ (p : Part). Turns p before (outcome before the_read)) is_reading_lem (turned before the_read waiting.0.good.six).turns in
      let d = t.into waiting.0.setup (λ z. omega (arith, q.asks, q.some, z)) q.way in
      (d.0, d.1 ∙ q.asks)

  sends : Sends n 0 (step before the_read)
  sends = record {
    good = good_step before the_read waiting.0.good;
    within = record { still = asked.0; left = omega (arith, asked.1); more = q.some };
    down = goes_down before the_read waiting.0.good.six (rw is_reading_lem refl) waiting.0.down;
  }

  opened : Silent k (opening l a b f m)
  opened = (
    (stores_end_lem k (poll l) q.before.whole).other refl,
    silent_then a (the_read ∷ []) (step k (poll l)) waiting.1
        (by_turn before the_read waiting.0.good.six waiting.0.setup asked.0 refl, tt),
  )

  -- and after it
  module _ (s : Record) (is : s ≡ step before the_read) (h : List Op) (d : T (none disturbs s h)) (u : T (not (finished n 0 s h))) where
    sent_all : Sends n (total s h) (runs s h) × Silent s h
    sent_all = let t = data_all n 0 h s (subst (Sends n 0) (sym is) sends) d u in (subst (λ (x : ℕ). Sends n x (runs s h)) (omega arith) t.0, t.1)

    ends_at : (o : Op) → T (finishes n (total s h) (tx_size (runs s h)) (part (runs s h) o)) → Idles (step (runs s h) o) × DataEndOnce (outcome (runs s h) o)
    ends_at o t = end_step n (total s h) (runs s h) o sent_all.0 (is_up _ t)

    download : Download n s h
    download = record {
      lasts = sent_all.0.within;
      silent = sent_all.1;
      taken = λ x y z c. ap (λ (v : Bool). cond v (sending (length x)) beside) (answered_zero (runs s h) x y z sent_all.0.good c sent_all.0.within.still);
      leaves = ends_at;
      over = λ o t c v. rest_all false c (step (runs s h) o) (whole_step (runs s h) o sent_all.0.good.six) (inl (ends_at o t).0.idle) v;
    }

pub every_download_ends_once : EveryDownloadEndsOnce
every_download_ends_once = record {
  waits = waits;
  opened = opened;
  ends = λ k l a b f m n q h d u. download k l a b f m n q _ (foldl-append step (step k (poll l)) a (read 0 b f m ∷ [])) h d u;
}
