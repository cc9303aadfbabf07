-- The tests of replies 4 and 5 say what their rows say.
-- Assumes nothing.
use Prim.Native.Nat.{◌<◌}
use mathlib.Core.Path.{◌≡◌, refl, sym, ap, ◌∙◌}
use mathlib.Core.Bool.{Bool, true, false, not, ◌&&◌, ◌||◌, or-true}
use mathlib.Core.Logic.{◌↔◌}
use borrow.Author.Tests.{ltb-true, lt-ltb}
use Rattle.laws.proofs.Tests.{clash}
use Rattle.board.specs.declared.Row.{Row}
use Rattle.board.specs.declared.Direction.{Direction}
use Rattle.board.specs.declared.Direction.TheVariants.{Out, In}
use Rattle.endpoints.specs.declared.EndpointType.{EndpointType}
use Rattle.endpoints.specs.declared.EndpointType.TheVariants.{Control, Isochronous, Bulk, Interrupt}
use Rattle.endpoints.specs.declared.EndpointData.{EndpointData}
use Rattle.endpoints.specs.declared.Ask.{Ask}
use Rattle.endpoints.specs.Endpoints.{same_type, kind_of, used, used_in}
use Rattle.endpoints.specs.Check.{in_use, over_size}
use Rattle.endpoints.specs.InUse.{Marked, InUse, bulk, another, same}

self : (a : EndpointType) → same_type a a ≡ true
self Control = refl
self Isochronous = refl
self Bulk = refl
self Interrupt = refl

is_bulk : (a : EndpointType) → same_type a Bulk ≡ true → a ≡ Bulk
is_bulk Control h = clash (sym h)
is_bulk Isochronous h = clash (sym h)
is_bulk Bulk h = refl
is_bulk Interrupt h = clash (sym h)

same_type_lem : (a b : EndpointType) → same_type a b ≡ true → a ≡ b
same_type_lem Control Control h = refl
same_type_lem Control Isochronous h = clash (sym h)
same_type_lem Control Bulk h = clash (sym h)
same_type_lem Control Interrupt h = clash (sym h)
same_type_lem Isochronous Control h = clash (sym h)
same_type_lem Isochronous Isochronous h = refl
same_type_lem Isochronous Bulk h = clash (sym h)
same_type_lem Isochronous Interrupt h = clash (sym h)
same_type_lem Bulk Control h = clash (sym h)
same_type_lem Bulk Isochronous h = clash (sym h)
same_type_lem Bulk Bulk h = refl
same_type_lem Bulk Interrupt h = clash (sym h)
same_type_lem Interrupt Control h = clash (sym h)
same_type_lem Interrupt Isochronous h = clash (sym h)
same_type_lem Interrupt Bulk h = clash (sym h)
same_type_lem Interrupt Interrupt h = refl

mark : (e : EndpointData) (d : Direction) → used_in e d ≡ true → Marked e d
mark e Out p = p
mark e In p = p

unmark : (e : EndpointData) (d : Direction) → Marked e d → used_in e d ≡ true
unmark e Out p = p
unmark e In p = p

used_by : (e : EndpointData) → used e ≡ true → (c : Direction) × Marked e c
used_by e h = go e.used_rx refl
  where
    go : (a : Bool) → e.used_rx ≡ a → (c : Direction) × Marked e c
    go true p = (Out, p)
    go false p = (In, ap (λ (a : Bool). a || e.used_tx) (sym p) ∙ h)

in_use_lem : (e : EndpointData) (c : Direction) → Marked e c → used e ≡ true
in_use_lem e Out p = rw p
in_use_lem e In p = rw p (or-true e.used_rx)

module _ (e : EndpointData) (k : EndpointType) (d : Direction) where
  pub in_use_is : in_use e k d ≡ true → InUse e k d
  unfolding in_use
  in_use_is h = go (same_type k Bulk) (same_type (kind_of e) k) (used e) (used_in e d) refl refl refl refl h
    where
      go : (a b u m : Bool) → same_type k Bulk ≡ a → same_type (kind_of e) k ≡ b → used e ≡ u → used_in e d ≡ m
          → ((a && u) || (u && (not b || m))) ≡ true → InUse e k d
      go true b true m p q r s h = let x = used_by e r in bulk x.0 (is_bulk k p) x.1
      go true b false m p q r s h = clash (sym h)
      go false b false m p q r s h = clash (sym h)
      go false false true m p q r s h =
          let x = used_by e r in another x.0 x.1 (λ t. clash (sym (ap (λ (z : EndpointType). same_type z k) t ∙ self k) ∙ q))
      go false true true true p q r s h = same (mark e d s)
      go false true true false p q r s h = clash (sym h)

  pub is_in_use : InUse e k d → in_use e k d ≡ true
  unfolding in_use
  is_in_use (bulk c p m) = rw (p, in_use_lem e c m)
  is_in_use (another c m n) = go (same_type (kind_of e) k) refl
    where
      go : (b : Bool) → same_type (kind_of e) k ≡ b → ((same_type k Bulk && used e) || (used e && (not (same_type (kind_of e) k) || used_in e d))) ≡ true
      go true q = absurd (n (same_type_lem (kind_of e) k q))
      go false q = rw (in_use_lem e c m, q) (or-true (same_type k Bulk && true))
  is_in_use (same m) = rw (in_use_lem e d m, unmark e d m, or-true (not (same_type (kind_of e) k))) (or-true (same_type k Bulk && true))

-- reply 5, "size over the table's"
pub over_size_lem : (r : Row) (q : Ask) → over_size r q ≡ true ↔ r.size < q.size
over_size_lem r q = (ltb-true r.size q.size, lt-ltb r.size q.size)
