-- Which operations store DataEnd: specs/DataEnd.antt says. Assumes nothing.
use Prim.Native.Nat.{ℕ, ◌+◌, ◌*◌, ◌<◌, ◌≤◌}
use mathlib.Core.Path.{◌≡◌, refl, sym, ap, subst, ◌∙◌}
use mathlib.Core.Bool.{Bool, true, false, ◌&&◌, cond}
use mathlib.Core.Logic.{◌⊎◌, inl, inr}
use mathlib.Core.List.{List}
use native.Mathlib.Omega.{arith}
use native.Mathlib.Decide.{ℕ_discrete}
use lib.ListN.{length}
use Rattle.laws.specs.Words.{bit}
use Rattle.laws.proofs.Tests.{clash}
use Rattle.board.specs.declared.Direction.TheVariants.{Out, In}
use Rattle.csr.specs.declared.Csr0l.{Csr0l}
use Rattle.csr.specs.Control.{csr0l_number}
use Rattle.csr.proofs.AsWritten.{csr0l_places}
use Rattle.csr.proofs.Bits.{bit_from}
use Rattle.register_file.specs.Registers as file
use Rattle.register_file.specs.Registers.{File, Whole}
use Rattle.store_list.specs.Stores.{listed, CSR0L}
use Rattle.store_list.proofs.Promises.{listed_other, listed_length, listed_register, listed_value}
use Rattle.store_rules.specs.Stores.{Log, log}
use Rattle.store_rules.specs.Promise.{Store, faddr, power, index, csr0l, csr0h, txcsrl, rxcsrl, iso, maxp, intrusbe, intre, packet, does, is_listed, register, value}
use Rattle.store_rules.proofs.Promises.{rest}
use Rattle.store_rules.proofs.Others as noted
use Rattle.record.specs.declared.Record.{Record}
use Rattle.calls.specs.Calls.{Op, alloc_ep, bus_init, enable, reset, set_device_address, write, read, set_stalled, is_stalled, poll, on_interrupt, force_reset, arrival, collection, bus_reset, suspend, resume, setup_end, underrun, overrun, outcome, step}
use Rattle.calls.specs.Control.{state, role}
use Rattle.calls.specs.DataEnd.{DataEndAt, NoDataEnd, DataEndLast, ends, transfers, ends_data, StoresEnd}
use Rattle.calls.specs.Demand.{lent}
use Rattle.calls.specs.Kept.{Stores}
use Rattle.calls.proofs.Steps.{Step, one, sent, has_data_end, Reached, none, then, within, keeps}
use Rattle.calls.proofs.Accounts.{Account, Passes}
use Rattle.calls.proofs.Kept.{Accounted, gentle, stalling, event, interrupt, account}
use Rattle.calls.proofs.Listed.{others, counted, few}

-- DataEnd is bit 3 of CSR0L
end_bit : (w : Csr0l) → bit (csr0l_number w) 3 ≡ w.data_end
end_bit w = bit_from _ (csr0l_places w) 3

-- a store that lists CSR0L has it where it stores DataEnd
tells : (o : Store) → register o ≡ CSR0L → bit (value o) 3 ≡ has_data_end o
tells (csr0l w) p = end_bit w
tells (faddr a) p = absurd (omega (arith, p))
tells power p = absurd (omega (arith, p))
tells (index e) p = absurd (omega (arith, p))
tells csr0h p = absurd (omega (arith, p))
tells (txcsrl w) p = absurd (omega (arith, p))
tells (rxcsrl w) p = absurd (omega (arith, p))
tells (iso Out) p = absurd (omega (arith, p))
tells (iso In) p = absurd (omega (arith, p))
tells (maxp Out n) p = absurd (omega (arith, p))
tells (maxp In n) p = absurd (omega (arith, p))
tells intrusbe p = absurd (omega (arith, p))
tells (intre Out v) p = absurd (omega (arith, p))
tells (intre In v) p = absurd (omega (arith, p))
tells (packet n) p = absurd (omega (arith, p))

-- and one that stores DataEnd is listed, as CSR0L
record Closing (o : Store) : Type 0 where
  zero_low : register o ≡ CSR0L
  listed : is_listed o ≡ true

closing : (o : Store) → has_data_end o ≡ true → Closing o
closing (csr0l w) p = record { zero_low = refl; listed = refl }
closing (faddr a) p = clash (sym p)
closing power p = clash (sym p)
closing (index e) p = clash (sym p)
closing csr0h p = clash (sym p)
closing (txcsrl w) p = clash (sym p)
closing (rxcsrl w) p = clash (sym p)
closing (iso d) p = clash (sym p)
closing (maxp d n) p = clash (sym p)
closing intrusbe p = clash (sym p)
closing (intre d v) p = clash (sym p)
closing (packet n) p = clash (sym p)

one_more : (o : Store) (h : Log) → Whole h.regs → has_data_end o ≡ true → (does o h).count ≡ 0 → ⊥
one_more o h six p z = let c = (noted.others o h six).count ∙ ap (λ (b : Bool). cond b (h.count + 1) h.count) (closing o p).listed in omega (arith, c, z)

module _ (l : List ℕ) where
  -- the list is as long as it was, and none of its stores is DataEnd
  record Quiet (h : Log) : Type 0 where
    long : length h.list ≡ length l
    quiet : (i : ℕ) → DataEndAt h.list h.count i → ⊥

  -- one store more: it stands at its place, and the others where they stood
  module _ (o : Store) (h : Log) (q : Quiet h) (room : h.count * 3 + 3 ≤ length l) where
    abbrev entry : File → List ℕ
    entry r = listed h.list h.count (register o) (file.index r) (value o)

    fits : h.count * 3 + 3 ≤ length h.list
    fits = rw q.long room

    before : (r : File) (n i : ℕ) → i < h.count → DataEndAt (entry r) n i → ⊥
    before r n i b d =
        q.quiet i (record {
          there = b;
          register = sym (listed_other h.list h.count (register o) (file.index r) (value o) (i * 3) 0 (inl (omega arith))) ∙ d.register;
          end =
              ap (λ (v : ℕ). bit v 3) (sym (listed_other h.list h.count (register o) (file.index r) (value o) (i * 3 + 2) 0 (inl (omega arith)))) ∙ d.end;
        })

    -- the one that came is the only one that can be DataEnd
    newest : (r : File) (i : ℕ) → DataEndAt (entry r) (h.count + 1) i → i ≡ h.count
    newest r i d = go (ℕ_discrete i h.count)
      where
        go : Dec (i ≡ h.count) → i ≡ h.count
        go (yes p) = p
        go (no n) = absurd (before r (h.count + 1) i (omega (arith, d.there, n)) d)

    at_end : (r : File) → has_data_end o ≡ false → DataEndAt (entry r) (h.count + 1) h.count → ⊥
    at_end r p d =
        clash (sym (ap (λ (v : ℕ). bit v 3) (sym (listed_value h.list h.count (register o) (file.index r) (value o) fits)) ∙ d.end)
        ∙ tells o (sym (listed_register h.list h.count (register o) (file.index r) (value o) fits) ∙ d.register) ∙ p)

    by_listing : (b : Bool) (r : File) → has_data_end o ≡ false → (i : ℕ) → DataEndAt (cond b (entry r) h.list) (cond b (h.count + 1) h.count) i → ⊥
    by_listing true r p i d = at_end r p (subst (DataEndAt (entry r) (h.count + 1)) (newest r i d) d)
    by_listing false r p i d = q.quiet i d

    long_by : (b : Bool) (r : File) → length (cond b (entry r) h.list) ≡ length l
    long_by true r = listed_length h.list h.count (register o) (file.index r) (value o) ∙ q.long
    long_by false r = q.long

    store : Whole h.regs → has_data_end o ≡ false → Quiet (does o h)
    store six p =
        let n = noted.others o h six in
        record {
          long = ap length n.list ∙ long_by (is_listed o) (does o h).regs;
          quiet = λ i d.
              by_listing (is_listed o) (does o h).regs p i
              (subst (λ (m : List ℕ). DataEndAt m (cond (is_listed o) (h.count + 1) h.count) i) n.list
              (subst (λ (c : ℕ). DataEndAt (does o h).list c i) n.count d));
        }

    -- DataEnd itself
    once_by : (r : File) → has_data_end o ≡ true → DataEndLast (entry r) (h.count + 1)
    once_by r p =
        let z = (closing o p).zero_low in
        record {
          last = (
            h.count,
            omega arith,
            record {
              there = omega arith;
              register = listed_register h.list h.count (register o) (file.index r) (value o) fits ∙ z;
              end = ap (λ (v : ℕ). bit v 3) (listed_value h.list h.count (register o) (file.index r) (value o) fits) ∙ tells o z ∙ p;
            },
          );
          only = λ i d. omega (arith, newest r i d);
        }

    once : Whole h.regs → has_data_end o ≡ true → DataEndLast (does o h).list (does o h).count
    once six p =
        let n = noted.others o h six in
        let c = (closing o p).listed in
        subst (λ (m : List ℕ). DataEndLast m (does o h).count) (sym (n.list ∙ ap (λ (b : Bool). cond b (entry (does o h).regs) h.list) c))
        (subst (DataEndLast (entry (does o h).regs)) (sym (n.count ∙ ap (λ (b : Bool). cond b (h.count + 1) h.count) c)) (once_by (does o h).regs p))

  -- the stores of a call, which the list has room for: none, or one after others of which none is DataEnd
  data Latest (r : File) : Bool → Log → Type 0 where
    begun : Latest r false (log r l 0)
    after : (o : Store) (g : Log) → Quiet g → g.count * 3 + 3 ≤ length l → Whole g.regs → Latest r (has_data_end o) (does o g)

  quiet_of : {r : File} {e : Bool} {h : Log} → Latest r e h → e ≡ false → Quiet h
  quiet_of begun p = record { long = refl; quiet = λ i d. omega (arith, d.there) }
  quiet_of (after o g q room w) p = store o g q room w p

  once_of : {r : File} {e : Bool} {h : Log} → Latest r e h → e ≡ true → DataEndLast h.list h.count
  once_of begun p = clash (sym p)
  once_of (after o g q room w) p = once o g q room w p

  module _ (r : File) (six : Whole r) {May : Step → Log → Type 0} where
    latest : {e : Bool} {c : ℕ} {h : Log} → Reached May (log r l 0) e c h → c * 3 ≤ length l → Latest r e h
    latest none room = begun
    latest (within x d i) room = latest x (omega arith)
    latest (then {h} x (one o) m) room = after o h (quiet_of (latest x (omega arith)) refl) (omega (arith, few six refl x)) (keeps six x).six
    latest (then {h} x (sent n o) m) room =
        let w = (keeps six x).six in
        let f = few six refl x in
        let loaded = store (packet n) h (quiet_of (latest x (omega arith)) refl) (omega (arith, f)) w refl in
        after o (does (packet n) h) loaded (omega (arith, counted (packet n) h w f)) ((rest (packet n) h w).whole ∙ w)

    -- so that where DataEnd was stored the list has a store
    some_stored : {e : Bool} {c : ℕ} {h : Log} → Reached May (log r l 0) e c h → e ≡ true → h.count ≡ 0 → ⊥
    some_stored none p z = clash (sym p)
    some_stored (within x d i) p z = some_stored x p z
    some_stored (then {h} x (one o) m) p z = one_more o h (keeps six x).six p z
    some_stored (then {h} x (sent n o) m) p z = let w = (keeps six x).six in one_more o (does (packet n) h) ((rest (packet n) h w).whole ∙ w) p z

-- an operation that stores nothing
silent : (k : Record) (o : Op) → (outcome k o).stores ≡ 0 → NoDataEnd (outcome k o)
silent k o z i d = omega (arith, d.there, z)

-- the host's events and the interrupt end no data
not_ending : (o : Op) → (Stores o → ⊥) → transfers (role o) ≡ false
not_ending (write e b f l) n = absurd (n tt)
not_ending (read e b f l) n = absurd (n tt)
not_ending (alloc_ep q w) n = refl
not_ending (bus_init l) n = refl
not_ending (enable l) n = refl
not_ending (reset l) n = refl
not_ending (set_device_address a l) n = refl
not_ending (set_stalled e d v l) n = refl
not_ending (is_stalled e d l) n = refl
not_ending (poll l) n = refl
not_ending on_interrupt n = refl
not_ending force_reset n = refl
not_ending (arrival e b f) n = refl
not_ending (collection e f) n = refl
not_ending bus_reset n = refl
not_ending suspend n = refl
not_ending resume n = refl
not_ending setup_end n = refl
not_ending (underrun e) n = refl
not_ending (overrun e) n = refl

module _ (k : Record) (six : Whole k.regs.words) where
  called : {May : Step → Log → Type 0} (o : Op) → Account May (ends_data k o) k (lent o).list (step k o) (outcome k o).list (outcome k o).stores → StoresEnd k o
  called o a = go a.served
    where
      go : (((step k o).regs.words ≡ k.regs.words) × ((outcome k o).stores ≡ 0)) ⊎ Passes k (lent o).list → StoresEnd k o
      go (inl z) = record { ends = λ p. absurd (some_stored (lent o).list k.regs.words six a.path p z.1); other = λ p. silent k o z.1 }
      go (inr s) = record {
        ends = once_of (lent o).list (latest (lent o).list k.regs.words six a.path (omega (arith, s.1)));
        other = λ p. (quiet_of (lent o).list (latest (lent o).list k.regs.words six a.path (omega (arith, s.1))) p).quiet;
      }

  unlisted : (o : Op) → (Stores o → ⊥) → StoresEnd k o
  unlisted o n = record {
    ends = λ p. clash (sym p ∙ ap (λ (b : Bool). b && ends (state k) (state (step k o))) (not_ending o n));
    other = λ p. silent k o (others k o n).count;
  }

  by_account : {o : Op} → Accounted k o → StoresEnd k o
  by_account {o} (gentle a) = called o a
  by_account {o} (stalling w a) = called o a
  by_account {o} (event n h) = unlisted o n
  by_account {o} (interrupt n i) = unlisted o n

pub stores_end_lem : (k : Record) (o : Op) → Whole k.regs.words → StoresEnd k o
stores_end_lem k o six = by_account k six (account k o six)
