-- What an account of a call is, and how one is put together from the call's steps. Assumes nothing.
use Rattle.std.specs.Prelude.{Ok}
use Prim.Native.Nat.{ℕ, ◌+◌, ◌^◌, ◌<◌, ◌≤◌}
use mathlib.Core.Path.{◌≡◌, refl, ap, subst}
use mathlib.Core.Bool.{Bool, true, false, not, cond}
use mathlib.Core.List.{List}
use mathlib.Core.Logic.{◌⊎◌, inl, inr}
use borrow.Author.Tests.{leb-false, eqb-true}
use lib.Dec.{eqb, leb, lit≤}
use lib.ListN.{length}
use Rattle.laws.proofs.Tests.{clash}
use Rattle.board.specs.declared.Board.{Board}
use Rattle.board.specs.Boards.{rows}
use Rattle.csr.specs.declared.Csr0lSet.{Csr0lSet}
use Rattle.csr.specs.declared.TxcsrlSet.{TxcsrlSet}
use Rattle.csr.specs.declared.RxcsrlSet.{RxcsrlSet}
use Rattle.csr.specs.declared.RxcsrlSet.TheVariants.{NoOverRun}
use Rattle.register_file.specs.declared.Regs.{Regs}
use Rattle.register_file.proofs.Modified.{is_data_end, sets_data_end}
use Rattle.store_rules.specs.Stores.{Log, log, modify_csr0l, modify_txcsrl, modify_rxcsrl}
use Rattle.register_file.specs.Control.{csr0l_read, txcsrl_read, rxcsrl_read}
use Rattle.csr.specs.Control.{csr0l_set, txcsrl_set, rxcsrl_set}
use Rattle.store_rules.specs.Promise.{Store, csr0l, txcsrl, rxcsrl, does}
use Rattle.store_rules.proofs.Promises.{modify_csr0l_lem, modify_txcsrl_lem, modify_rxcsrl_lem}
use Rattle.store_rules.proofs.Halts.{tx_modified, rx_modified}
use Rattle.control_state.specs.declared.ControlStateEnum.{ControlStateEnum}
use Rattle.control_state.specs.declared.ControlStateEnum.TheVariants.{Idle, Setup, DataIn, DataOut, Accepted, NodataPhase}
use Rattle.record.specs.declared.Flags.{Flags}
use Rattle.record.specs.declared.Record.{Record}
use Rattle.record.specs.Record.{record_sound, endpoints_in, endpoints_of, admission_by}
use Rattle.record.proofs.Rows.{none_refused}
use Rattle.transfer_rules.specs.Peek.{short}
use Rattle.transfer_rules.proofs.Lent.{lent_enough}
use Rattle.calls.specs.DataEnd.{ends}
use Rattle.calls.proofs.Steps.{Step, one, Reached, none, then, within, Sane, Gentle, Careful, gentle_sane, careful_gentle}

-- reply 16: no "flag above bit 5", the board's own last endpoint being the highest
abbrev pub Low : Board → Flags → Type 0
Low b f = (f.ep_tx < 2 ^ length (rows b)) × (f.ep_rx < 2 ^ length (rows b))

-- neither 15 nor 16 is given: "The list must hold 128 stores"
abbrev pub Passes : Record → List ℕ → Type 0
Passes k l = (record_sound k ≡ true) × (384 ≤ length l)

pub lent_passes : (k : Record) (f l : List ℕ) → record_sound k ≡ true → short k (length f) (length l) ≡ false → Passes k l
lent_passes k f l p q = (p, (lent_enough k (length f) (length l) q).1)

-- q is the record k after a call that was lent the list l and leaves m in it, with the count n: allowed steps, at most 128 stores, lead to its
-- registers, to that list and that count, the last of them DataEnd where the call has closed a transfer's data, and none where reply 15 or 16 was given; and no flag comes
-- above the last endpoint's
pub record Account (May : Step → Log → Type 0) (closed : Bool) (k : Record) (l : List ℕ) (q : Record) (m : List ℕ) (n : ℕ) : Type 0 where
  pub path : Reached May (log k.regs.words l 0) closed 128 (log q.regs.words m n)
  pub board : q.regs.board ≡ k.regs.board
  pub served : ((q.regs.words ≡ k.regs.words) × (n ≡ 0)) ⊎ Passes k l
  pub flags : Low k.regs.board k.irq → Low k.regs.board q.irq

-- nothing is stored
pub left : {May : Step → Log → Type 0} {k q : Record} {l : List ℕ} → q.regs ≡ k.regs → q.irq ≡ k.irq → Account May false k l q l 0
left p f =
    let w = ap (λ (r : Regs). r.words) p in
    record { path = rw w (within none 128 (lit≤ tt)); board = ap (λ (r : Regs). r.board) p; served = inl (w, refl); flags = λ h. rw f h }

-- the stores of g, and the flags as they were
pub stores : {May : Step → Log → Type 0} {closed : Bool} {k q : Record} (l : List ℕ) (g : Log) → Passes k l → Reached May (log k.regs.words l 0) closed 128 g
    → q.regs.words ≡ g.regs → q.regs.board ≡ k.regs.board → q.irq ≡ k.irq → Account May closed k l q g.list g.count
stores l g s r p c f = record { path = rw p r; board = c; served = inr s; flags = λ h. rw f h }

pub sane : {b : Board} {closed : Bool} {k q : Record} {l m : List ℕ} {n : ℕ} → Account (Gentle b) closed k l q m n → Account (Sane b) closed k l q m n
sane a = record { path = gentle_sane a.path; board = a.board; served = a.served; flags = a.flags }

pub gentle : {b : Board} {closed : Bool} {k q : Record} {l m : List ℕ} {n : ℕ} → Account (Careful b) closed k l q m n → Account (Gentle b) closed k l q m n
gentle a = record { path = careful_gentle a.path; board = a.board; served = a.served; flags = a.flags }

-- whichever a test decides for
pub by_test : {A : Type 0} (P : A → Type 0) (t : Bool) {x y : A} → P x → P y → P (cond t x y)
by_test P true p q = p
by_test P false p q = q

-- and either way no more than d stores
pub at_most : {May : Step → Log → Type 0} {g x y : Log} {c e : ℕ} (d : ℕ) (t : Bool) → Reached May g false c x → Reached May g false e y → c ≤ d → e ≤ d
    → Reached May g false d (cond t x y)
at_most d true r q i j = within r d i
at_most d false r q i j = within q d j

-- a `modify` is a store of what was read with a bit changed
abbrev pub tx_modify : TxcsrlSet → Log → Store
tx_modify s h = txcsrl (txcsrl_set s (txcsrl_read h.regs))

abbrev pub rx_modify : RxcsrlSet → Log → Store
rx_modify s h = rxcsrl (rxcsrl_set s (rxcsrl_read h.regs))

abbrev pub zero_modify : Csr0lSet → Log → Store
zero_modify s h = csr0l (csr0l_set s (csr0l_read h.regs))

module _ {b : Board} {g h : Log} {c : ℕ} (r : Reached (Careful b) g false c h) where
  pub tx_modifies : (s : TxcsrlSet) → Reached (Careful b) g false (c + 1) (modify_txcsrl s h)
  tx_modifies s = rw (modify_txcsrl_lem s h) (then r (one (tx_modify s h)) ((tt, tx_modified s h.regs), inl tt))

  pub zero_modifies : (s : Csr0lSet) → Reached (Careful b) g (is_data_end s) (c + 1) (modify_csr0l s h)
  zero_modifies s =
      rw (modify_csr0l_lem s h) (subst (λ (x : Bool). Reached (Careful b) g x (c + 1) (does (zero_modify s h) h)) (sets_data_end s h.regs) (then r (one (zero_modify s h)) ((tt, tt), inl tt)))

  -- a repaired overrun keeps the packet; any other `modify` of RXCSRL drops it
  pub rx_repairs : Reached (Careful b) g false (c + 1) (modify_rxcsrl NoOverRun h)
  rx_repairs = rw (modify_rxcsrl_lem NoOverRun h) (then r (one (rx_modify NoOverRun h)) ((tt, rx_modified NoOverRun h.regs), inr refl))

  pub rx_modifies : (s : RxcsrlSet) → Reached (Gentle b) g false (c + 1) (modify_rxcsrl s h)
  rx_modifies s = rw (modify_rxcsrl_lem s h) (then (careful_gentle r) (one (rx_modify s h)) (tt, rx_modified s h.regs))

-- an empty packet
pub is_empty : (n : ℕ) → not (eqb n 0) ≡ false → n ≡ 0
is_empty n e = go (eqb n 0) refl e
  where
    go : (z : Bool) → eqb n 0 ≡ z → not z ≡ false → n ≡ 0
    go true p q = eqb-true n 0 p
    go false p q = clash q

-- a state that stays is no end of data
pub no_end : (s : ControlStateEnum) → ends s s ≡ false
no_end Idle = refl
no_end Setup = refl
no_end DataIn = refl
no_end DataOut = refl
no_end Accepted = refl
no_end NodataPhase = refl

-- reply 8 is not given: the endpoint is one of the board's
pub there : (k : Record) (e : ℕ) → leb (endpoints_of k) e ≡ false → e < length (rows k.regs.board)
unfolding endpoints_of endpoints_in
there k e p = leb-false (length (rows k.regs.board)) e p

-- where the first tests refuse nothing, the endpoint is there
pub below : (k : Record) (e : ℕ) (s p : Bool) → admission_by s p (leb (endpoints_of k) e) ≡ (Ok tt) → e < length (rows k.regs.board)
below k e s p c = there k e (none_refused s p _ c).2
