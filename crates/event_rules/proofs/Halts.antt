-- No host event changes SendStall of endpoints 1 to 5. Assumes nothing.
use Prim.Native.Nat.{ℕ, ◌<◌}
use mathlib.Core.Path.{◌≡◌, refl, ap, ◌∙◌}
use mathlib.Core.Bool.{Bool, true, false, cond}
use borrow.Author.Tests.{ne_eqb}
use lib.Dec.{eqb}
use Rattle.board.specs.declared.Direction.{Direction}
use Rattle.board.specs.declared.Direction.TheVariants.{Out, In}
use Rattle.csr.specs.declared.Side.{Side}
use Rattle.register_file.specs.Registers.{File, Whole, side_at}
use Rattle.csr.specs.Registers.{towards}
use Rattle.csr.specs.Control.{dropped}
use Rattle.event_rules.specs.Events.{lapsed}
use Rattle.event_rules.specs.Promise.{Event, arrival, collection, on_bus, setupend, miss, happens, leaves, at}
use Rattle.event_rules.proofs.Promises.{sides}

either : (b : Bool) (x y : Side) → x.stall ≡ y.stall → (cond b x y).stall ≡ y.stall
either true x y p = p
either false x y p = refl

towards_stall : (c d : Direction) (f : Side → Side) (s : Side) → (f s).stall ≡ s.stall → (towards c d f s).stall ≡ s.stall
towards_stall Out Out f s p = p
towards_stall Out In f s p = refl
towards_stall In Out f s p = refl
towards_stall In In f s p = p

dropped_stall : (s : Side) → (dropped true s).stall ≡ s.stall
unfolding dropped
dropped_stall s = refl

leaves_stall : (o : Event) (e : ℕ) (d : Direction) (s : Side) → (e ≡ 0 → ⊥) → (leaves o e d s).stall ≡ s.stall
leaves_stall (arrival f n) e Out s m = either (eqb e f) _ s refl
leaves_stall (arrival f n) e In s m = rw (ne_eqb e 0 m) (either (eqb f 0) s s refl)
leaves_stall (collection f) e d s m = either (eqb e f) _ s (towards_stall In d (dropped true) s (dropped_stall s))
leaves_stall (on_bus o) e d s m = refl
leaves_stall setupend e d s m = refl
leaves_stall (miss f c) e d s m = either (eqb e f) _ s (towards_stall c d lapsed s refl)

pub halts : (o : Event) (r : File) → Whole r → at o < 6 → (e : ℕ) (d : Direction) → (e ≡ 0 → ⊥) → (side_at (happens o r) e d).stall ≡ (side_at r e d).stall
halts o r six h e d m = ap (λ (x : Side). x.stall) (sides o r e d six h) ∙ leaves_stall o e d (side_at r e d) m
