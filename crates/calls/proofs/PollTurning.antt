-- What poll makes of the control state and of SetupEnd: specs/Control.antt says. Assumes nothing.
use Rattle.std.specs.Prelude.{Err, Ok}
use Rattle.round_rules.specs.declared.PollResult.{PollResult}
use Prim.Native.Nat.{ℕ, ◌+◌, ◌-◌, ◌*◌}
use mathlib.Core.Path.{◌≡◌, refl, sym, ap, subst, ◌∙◌}
use mathlib.Core.Bool.{Bool, true, false, not, ◌&&◌, ◌||◌, and-false, cond}
use mathlib.Core.Logic.{◌⊎◌, inl, inr}
use mathlib.Core.List.{List, [], ◌∷◌, foldl}
use native.Mathlib.Omega.{arith}
use borrow.Author.Tests.{eqb-true}
use lib.Dec.{eqb, ltb}
use lib.ListN.{length, get_or}
use Rattle.laws.specs.Words.{set_bits}
use Rattle.laws.proofs.Tests.{clash}
use Rattle.board.specs.Boards.{rows, at_least_one}
use Rattle.csr.specs.Control.{csr0l_set}
use Rattle.csr.specs.declared.Csr0lSet.TheVariants.{ServicedSetupEnd}
use Rattle.register_file.specs.Registers.{Whole, setupend}
use Rattle.register_file.specs.Control.{csr0l_read, count0}
use Rattle.register_file.proofs.Modified.{answers}
use Rattle.register_file.proofs.AsWritten.{zero_reads}
use Rattle.store_rules.specs.Stores.{Log, log, write_index, modify_csr0l}
use Rattle.store_rules.specs.Promise.{Store, faddr, power, index, csr0l, csr0h, txcsrl, rxcsrl, iso, maxp, intrusbe, intre, packet, does, ends}
use Rattle.store_rules.proofs.Promises.{rest, modify_csr0l_lem}
use Rattle.store_rules.proofs.Others as noted
use Rattle.control_state.specs.declared.ControlState.{ControlState}
use Rattle.control_state.specs.declared.ControlStateEnum.{ControlStateEnum}
use Rattle.control_state.specs.declared.ControlStateEnum.TheVariants.{Idle, Setup, DataIn, DataOut, Accepted, NodataPhase}
use Rattle.control_state.specs.Control.{with_state, with_tx_len}
use Rattle.record.specs.declared.Flags.{Flags}
use Rattle.record.specs.declared.Record.{Record}
use Rattle.record.specs.Record.{record_sound, passes, admission_by, endpoints_in, list_need, with_ep0, Reply}
use Rattle.record.proofs.Numbers.{not_zero}
use Rattle.record.proofs.Rows.{none_refused}
use Rattle.common_rules.specs.Overrun.{repaired_below, check_overrun}
use Rattle.round_rules.specs.declared.PollResult.TheVariants.{None, Data}
use Rattle.round_rules.specs.Zero.{Round, round, setup_taken, restarted, cut_short, received_by, zero_by, zero_served, endpoint_zero, accepted_by, accept_step}
use Rattle.round_rules.specs.Walk.{Walk, walk, visit, walked}
use Rattle.round_rules.specs.Round.{told, masks}
use Rattle.round_rules.specs.Poll.{After, outcome_of, ended, walked_on, accepted_on, round_out, poll_by, poll_logged, poll_served, poll_when, poll_admitted, poll_call, poll_number, poll_values, result_values}
use Rattle.calls.specs.Calls.{poll, polled, outcome, step}
use Rattle.calls.specs.Control.{state, remaining, reports_setup, reporting, polling, part, Polls, Turns}
use Rattle.calls.proofs.Steps.{Step, one, sent, Reached, none, then, within, Careful, keeps}
use Rattle.calls.proofs.Polling.{repair_all}
use Rattle.calls.proofs.Turning.{by_answer}

-- no store sets SetupEnd
not_set : (b x : Bool) → (b && not x) ≡ true → b ≡ true
not_set true x p = refl
not_set false x p = p

still_ended : (o : Store) (b : Bool) → ends o b ≡ true → b ≡ true
still_ended (csr0l w) b p = not_set b w.serviced_setup_end p
still_ended (faddr a) b p = p
still_ended power b p = p
still_ended (index e) b p = p
still_ended csr0h b p = p
still_ended (txcsrl w) b p = p
still_ended (rxcsrl w) b p = p
still_ended (iso d) b p = p
still_ended (maxp d n) b p = p
still_ended intrusbe b p = p
still_ended (intre d v) b p = p
still_ended (packet n) b p = p

store_ended : (o : Store) (g : Log) → Whole g.regs → setupend (does o g).regs ≡ true → setupend g.regs ≡ true
store_ended o g six p = still_ended o (setupend g.regs) (sym (noted.others o g six).ended ∙ p)

pub path_ended : {May : Step → Log → Type 0} {g : Log} {x : Bool} {h : Log} {c : ℕ} → Whole g.regs → Reached May g x c h → setupend h.regs ≡ true → setupend g.regs ≡ true
path_ended six none p = p
path_ended six (within r d i) p = path_ended six r p
path_ended six (then {h} r (one o) m) p = path_ended six r (store_ended o h (keeps six r).six p)
path_ended six (then {h} r (sent n o) m) p =
    let s = (keeps six r).six in
    path_ended six r (store_ended (packet n) h s (store_ended o (does (packet n) h) ((rest (packet n) h s).whole ∙ s) p))

-- but ServicedSetupEnd clears it
serviced : (g : Log) → Whole g.regs → (setupend (modify_csr0l ServicedSetupEnd g).regs ≡ false) × Whole (modify_csr0l ServicedSetupEnd g).regs
serviced g six =
    let o = csr0l (csr0l_set ServicedSetupEnd (csr0l_read g.regs)) in
    rw (modify_csr0l_lem ServicedSetupEnd g)
    ((noted.others o g six).ended ∙ ap (λ (b : Bool). setupend g.regs && not b) (answers g.regs ServicedSetupEnd).1 ∙ and-false (setupend g.regs), (rest o g six).whole ∙ six)

-- endpoint 0 in a round, before which the control state is c and SetupEnd reads e: a Setup packet is taken; or DataIn is cut short by another; or nothing changes
data Zero (e : Bool) (c : ControlState) : Round → Type 0 where
  took : {x : Log} {d : ControlState} {f : Flags} → d.state ≡ Setup → setupend x.regs ≡ false → Whole x.regs
      → ((c.state ≡ Idle) × (d.tx_len ≡ c.tx_len)) ⊎ ((c.state ≡ DataIn) × (e ≡ true) × (d.tx_len ≡ 0)) → Zero e c (round x d f true)
  cut : {x : Log} {f : Flags} → c.state ≡ DataIn → e ≡ true → Zero e c (round x (with_tx_len (with_state c Idle) 0) f false)
  same : {x : Log} {f : Flags} → Zero e c (round x c f false)

module _ (g : Log) (c : ControlState) (six : Whole g.regs) where
  abbrev Zeroed : Round → Type 0
  Zeroed o = Zero (setupend g.regs) c o

  by_count : (f : Flags) (b : Bool) → c.state ≡ Idle
      → Zeroed (cond b (round (modify_csr0l ServicedSetupEnd g) (with_state c Setup) f true) (round g c f false))
  by_count f true p = let s = serviced g six in took refl s.0 s.1 (inl (p, refl))
  by_count f false p = same

  by_restart : (f : Flags) (b : Bool) → c.state ≡ DataIn → setupend g.regs ≡ true
      → Zeroed (cond b (round (modify_csr0l ServicedSetupEnd g) (with_state (with_tx_len (with_state c Idle) 0) Setup) f true)
      (round (modify_csr0l ServicedSetupEnd g) (with_tx_len (with_state c Idle) 0) f false))
  by_restart f true p e = let s = serviced g six in took refl s.0 s.1 (inr (p, e, refl))
  by_restart f false p e = cut p e

  by_end : (f : Flags) (b : Bool) → c.state ≡ DataIn → (csr0l_read g.regs).setup_end ≡ b → Zeroed (cond b (restarted g c f) (round g c f false))
  unfolding restarted
  by_end f true p e = by_restart f (eqb (count0 g.regs) 8) p (sym (zero_reads g.regs).3 ∙ e)
  by_end f false p e = same

  received : (f : Flags) (s : ControlStateEnum) → c.state ≡ s → Zeroed (received_by s g c f)
  unfolding received_by setup_taken cut_short
  received f Idle p = by_count f (eqb (count0 g.regs) 8) p
  received f DataIn p = by_end f (csr0l_read g.regs).setup_end p refl
  received f DataOut p = same
  received f Setup p = same
  received f Accepted p = same
  received f NodataPhase p = same

  by_bits : (f : Flags) (rx tx : Bool) → Zeroed (zero_by rx tx g c f)
  by_bits f true tx = received f c.state refl
  by_bits f false false = same
  by_bits f false true = same

-- the walk of a round stores selections only
walk_ended : (flags : ℕ) (es : List ℕ) (o : Walk) → Whole o.log.regs → setupend o.log.regs ≡ false → setupend (foldl (visit flags) o es).log.regs ≡ false
unfolding visit
walk_ended flags [] o six p = p
walk_ended flags (e ∷ es) o six p =
    walk_ended flags es (visit flags o e) ((rest (index e) o.log six).whole ∙ six) ((noted.others (index e) o.log six).ended ∙ p)

-- Data's last mask says whether a Setup packet was taken
told_setup : (out tx : ℕ) (s : Bool) → eqb (get_or (result_values (told out tx s)) 3 0) 1 ≡ s
unfolding told
told_setup out tx s = go (not (eqb tx 0)) (not (eqb out 0)) s
  where
    go : (a b s : Bool) → eqb (get_or (result_values (cond (a || b || s) (Data (masks out tx s)) None)) 3 0) 1 ≡ s
    go true true true = refl
    go true true false = refl
    go true false true = refl
    go true false false = refl
    go false true true = refl
    go false true false = refl
    go false false true = refl
    go false false false = refl

module _ (k : Record) (l : List ℕ) where
  abbrev reports : Reply PollResult → Bool
  reports a = eqb (get_or (poll_values a) 3 0) 1

  -- what a served poll leaves: its turn, and no SetupEnd where it reports Setup
  record Served (t : After) : Type 0 where
    turns : Turns (cond (reports t.answer) reporting polling) k (polled (outcome_of k t))
    cleared : reports t.answer ≡ true → setupend t.log.regs ≡ false

  -- the Accepted step, where nothing else has changed
  accepted_step : {q : Record} (s : ControlStateEnum) (f : Flags) → state k ≡ s → q.control_state ≡ (accepted_by s k.control_state f).control_state → Polls k q
  unfolding accepted_by
  accepted_step Accepted f p e = inl (p, record { to = ap (λ (c : ControlState). c.state) e; left = ap (λ (c : ControlState). c.tx_len) e })
  accepted_step Idle f p e = inr (inr e)
  accepted_step Setup f p e = inr (inr e)
  accepted_step DataIn f p e = inr (inr e)
  accepted_step DataOut f p e = inr (inr e)
  accepted_step NodataPhase f p e = inr (inr e)

  kept_setup : (d : ControlState) (f : Flags) → d.state ≡ Setup → (accept_step d f).control_state ≡ d
  unfolding accept_step accepted_by
  kept_setup d f p = subst (λ (s : ControlStateEnum). (accepted_by s d f).control_state ≡ d) (sym p) refl

  kept_idle : (c : ControlState) (f : Flags) → (accept_step (with_tx_len (with_state c Idle) 0) f).control_state ≡ with_tx_len (with_state c Idle) 0
  unfolding accept_step accepted_by
  kept_idle c f = refl

  module _ (e : Bool) (ended-before : e ≡ true → setupend k.regs.words ≡ true) where
    from_before : {c d : ControlState} → c ≡ d
        → ((state k ≡ Idle) × (d.tx_len ≡ remaining k)) ⊎ ((state k ≡ DataIn) × (e ≡ true) × (d.tx_len ≡ 0))
        → ((state k ≡ Idle) × (c.tx_len ≡ remaining k)) ⊎ ((state k ≡ DataIn) × (setupend k.regs.words ≡ true) × (c.tx_len ≡ 0))
    from_before i (inl p) = inl (p.0, ap (λ (d : ControlState). d.tx_len) i ∙ p.1)
    from_before i (inr p) = inr (p.0, ended-before p.1, ap (λ (d : ControlState). d.tx_len) i ∙ p.2)

    -- endpoint 0, the Accepted step, the walk
    round_served : {o : Round} → Zero e k.control_state o → Served (accepted_on o)
    unfolding accepted_on walked_on ended walked accept_step
    round_served (took {x} {d} {f} s down six from) =
        let out = (walked (accept_step d f).irq.ep_rx x).out in
        let is = told_setup out (accept_step d f).irq.ep_tx true in
        record {
          turns = rw is (record { setup = ap (λ (d : ControlState). d.state) (kept_setup d f s) ∙ s; from = from_before (kept_setup d f s) from });
          cleared = λ p. walk_ended _ (set_bits (accept_step d f).irq.ep_rx) (walk x (accept_step d f).irq.ep_rx) six down;
        }
    round_served (cut {x} {f} p q) =
        let c = with_tx_len (with_state k.control_state Idle) 0 in
        let is = told_setup (walked (accept_step c f).irq.ep_rx x).out (accept_step c f).irq.ep_tx false in
        record { turns = rw is (inr (inl (p, ended-before q, record { idle = ap (λ (d : ControlState). d.state) (kept_idle k.control_state f); none = ap (λ (d : ControlState). d.tx_len) (kept_idle k.control_state f) }))); cleared = λ z. clash (sym z ∙ is) }
    round_served (same {x} {f}) =
        let c = k.control_state in
        let is = told_setup (walked (accept_step c f).irq.ep_rx x).out (accept_step c f).irq.ep_tx false in
        record { turns = rw is (accepted_step (state k) f refl refl); cleared = λ z. clash (sym z ∙ is) }

  -- the whole poll
  abbrev begun : Log
  begun = log k.regs.words l 0

  abbrev checked : Log
  checked = check_overrun (endpoints_in k.regs.board) begun

  by_flag : (b : Bool) (g : Log) → Zero (setupend (write_index 0 g).regs) k.control_state (zero_served (write_index 0 g) k.control_state k.irq)
      → Zero (setupend (write_index 0 g).regs) k.control_state (cond b (zero_served (write_index 0 g) k.control_state k.irq) (round g k.control_state k.irq false))
  by_flag true g z = z
  by_flag false g z = same

  module _ (six : Whole k.regs.words) where
    -- the overrun check and the selection of endpoint 0 set no SetupEnd
    looked : Reached (Careful k.regs.board) begun false (0 + (length (rows k.regs.board) - 1) * 3 + 1) (write_index 0 checked)
    unfolding check_overrun repaired_below endpoints_in
    looked =
        then (repair_all k.regs.board begun (length (rows k.regs.board) - 1) 1 begun (omega (arith, at_least_one k.regs.board)) none) (one (index 0))
        ((at_least_one k.regs.board, tt), inl tt)

    round_turns : Served (round_out checked k.control_state k.irq)
    unfolding round_out endpoint_zero zero_served
    round_turns =
        round_served (setupend (write_index 0 checked).regs) (path_ended six looked)
        (by_flag k.irq.ep0 checked (by_bits (write_index 0 checked) k.control_state (keeps six looked).six (with_ep0 k.irq false)
        (csr0l_read (write_index 0 checked).regs).rx_pkt_rdy (csr0l_read (write_index 0 checked).regs).tx_pkt_rdy))

    -- Reset, Resume and Suspend leave the control state
    by_flags : (x y z : Bool) → Served (poll_by x y z checked k.control_state k.irq)
    by_flags true y z = record { turns = inr (inr refl); cleared = λ p. clash (sym p) }
    by_flags false true z = record { turns = inr (inr refl); cleared = λ p. clash (sym p) }
    by_flags false false true = record { turns = inr (inr refl); cleared = λ p. clash (sym p) }
    by_flags false false false = round_turns

    by_tests : (t : Reply Unit) → poll_number (poll_when t k.regs.board begun k.control_state k.irq).answer ≡ 0
        → Served (poll_when t k.regs.board begun k.control_state k.irq)
    unfolding poll_served poll_logged
    by_tests (Err x) p = absurd (not_zero x p)
    by_tests (Ok tt) p = by_flags k.irq.reset k.irq.resume k.irq.suspend

    served : (outcome k (poll l)).reply ≡ 0 → Served (poll_admitted k.regs.board k.regs.words l k.control_state k.irq)
    unfolding poll_call poll_admitted
    served p = by_tests (admission_by (ltb (length l) list_need) (passes k.regs.board k.regs.words k.irq) false) p

    pub poll_turns : Turns (part k (poll l)) k (outcome k (poll l))
    unfolding poll_call
    poll_turns = by_answer k (poll l) (λ p. (served (eqb-true _ 0 p)).turns)

    pub poll_cleared : (outcome k (poll l)).reply ≡ 0 → reports_setup (outcome k (poll l)) ≡ true → setupend (step k (poll l)).regs.words ≡ false
    unfolding poll_call
    poll_cleared p r = (served p).cleared r

  -- and a poll that is answered was given a record that passes
  pub poll_sound : (outcome k (poll l)).reply ≡ 0 → record_sound k ≡ true
  unfolding poll_call poll_admitted record_sound
  poll_sound p = go (admission_by (ltb (length l) list_need) (record_sound k) false) refl p
    where
      go : (t : Reply Unit) → admission_by (ltb (length l) list_need) (record_sound k) false ≡ t
          → poll_number (poll_when t k.regs.board begun k.control_state k.irq).answer ≡ 0 → record_sound k ≡ true
      go (Err x) e z = absurd (not_zero x z)
      go (Ok tt) e z = (none_refused (ltb (length l) list_need) (record_sound k) false e).1
