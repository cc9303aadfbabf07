-- The pending interrupt registers stand apart: what is done to the rest of the file neither reads nor changes them, so that it is all one whether they are set
-- before it or after. Of any list of numbers, whole or not.
-- Assumes nothing.
use Prim.Native.Nat.{ℕ, zero, suc, ◌+◌, ◌≤◌, ◌<◌}
use mathlib.Core.Path.{◌≡◌, refl, ap, ap₂, ◌∙◌}
use mathlib.Core.Bool.{Bool, true, false, not, ◌&&◌, cond}
use mathlib.Core.List.{List}
use native.Mathlib.Omega.{arith}
use lib.Dec.{eqb, ltb, leb}
use lib.ListN.{get_or, set}
use lib.Seq.{get_or-set_other, set_comm}
use Rattle.board.specs.declared.Direction.{Direction}
use Rattle.board.specs.declared.Direction.TheVariants.{Out, In}
use Rattle.board.specs.Table.{place}
use Rattle.csr.specs.declared.Side.{Side}
use Rattle.csr.specs.declared.Csr0l.{Csr0l}
use Rattle.csr.specs.Control.{zero_tx_stored, dropped, txcsrl_of, rxcsrl_of}
use Rattle.csr.specs.Sound.{side_sound}
use Rattle.laws.specs.Tests.{◌also◌}
use Rattle.register_file.specs.Registers.{File, index, with_index, faddr, with_faddr, with_power, with_intrusbe, enabled_of, with_enabled, setupend, with_setupend, side_word, side_of, side_in, with_side_in, side_at, with_side, chosen}
use Rattle.register_file.specs.Control.{csr0l_read, txcsrl_read, rxcsrl_read, csr0l_stored, csr0h_flushed}
use Rattle.register_file.specs.Sound.{regs_sound, words_below, sides_below}
use Rattle.register_file.proofs.Sides.{set_keeps}
use Rattle.register_file.proofs.Readings.{same_csr0l}

-- the places of the file's pending interrupt registers: 6 the bus's, 7 of transmit, 8 of receive bits
pub record PendingAt (q : ℕ) : Type 0 where
  pub low : 6 ≤ q
  pub high : q ≤ 8

pub at_bus : PendingAt 6
at_bus = record { low = omega arith; high = omega arith }

pub at_tx : PendingAt 7
at_tx = record { low = omega arith; high = omega arith }

pub at_rx : PendingAt 8
at_rx = record { low = omega arith; high = omega arith }

-- what is read of a file is the same whatever they hold
pub record Unseen {A : Type 0} (f : File → A) : Type 0 where
  pub same : (q v : ℕ) → PendingAt q → (w : File) → f (set w q v) ≡ f w

-- a file, or what has one and more: the file of it, and it with a number of the file set
pub record Holder : Type 1 where
  pub X : Type 0
  pub file : X → File
  pub put : ℕ → ℕ → X → X
  pub puts : (q v : ℕ) (x : X) → file (put q v x) ≡ set (file x) q v

-- what is done to it leaves them, and does the same whatever they hold
pub record Steady (H : Holder) (φ : H.X → H.X) : Type 0 where
  pub sets : (q v : ℕ) → PendingAt q → (x : H.X) → φ (H.put q v x) ≡ H.put q v (φ x)
  pub reads : (q : ℕ) → PendingAt q → (x : H.X) → get_or (H.file (φ x)) q 0 ≡ get_or (H.file x) q 0

-- nothing; one thing, and then another; one thing or another, by what is read, or by what is known
module _ {H : Holder} where
  pub nothing_done : Steady H (λ x. x)
  nothing_done = record { sets = λ q v at x. refl; reads = λ q at x. refl }

  pub then_done : {φ ψ : H.X → H.X} → Steady H φ → Steady H ψ → Steady H (λ x. ψ (φ x))
  then_done {φ} {ψ} a b = record {
    sets = λ q v at x. ap ψ (a.sets q v at x) ∙ b.sets q v at (φ x);
    reads = λ q at x. b.reads q at (φ x) ∙ a.reads q at x;
  }

  pub by_done : {A : Type 0} {f : File → A} (φ : A → H.X → H.X) → Unseen f → ((y : A) → Steady H (φ y)) → Steady H (λ x. φ (f (H.file x)) x)
  by_done {A} {f} φ u a = record {
    sets = λ q v at x. ap (λ (y : A). φ y (H.put q v x)) (ap f (H.puts q v x) ∙ u.same q v at (H.file x)) ∙ (a (f (H.file x))).sets q v at x;
    reads = λ q at x. (a (f (H.file x))).reads q at x;
  }

  pub cond_done : {φ ψ : H.X → H.X} (b : Bool) → Steady H φ → Steady H ψ → Steady H (λ x. cond b (φ x) (ψ x))
  cond_done true a c = a
  cond_done false a c = c

-- the file by itself
abbrev pub alone : Holder
alone = record { X = File; file = λ w. w; put = λ q v w. set w q v; puts = λ q v w. refl }

abbrev pub Apart : (File → File) → Type 0
Apart = Steady alone

-- what is read --------------------------------------------------------------------------------------------------------------------

pub index_unseen : Unseen index
unfolding index
index_unseen = record { same = λ q v at w. get_or-set_other w q 0 v 0 (λ e. omega (arith, at.low)) }

faddr_unseen : Unseen faddr
unfolding faddr
faddr_unseen = record { same = λ q v at w. get_or-set_other w q 1 v 0 (λ e. omega (arith, at.low)) }

pub enabled_unseen : (d : Direction) → Unseen (enabled_of d)
unfolding enabled_of
enabled_unseen Out = record { same = λ q v at w. get_or-set_other w q 5 v 0 (λ e. omega (arith, at.low)) }
enabled_unseen In = record { same = λ q v at w. get_or-set_other w q 4 v 0 (λ e. omega (arith, at.low)) }

setupend_unseen : Unseen setupend
unfolding setupend
setupend_unseen = record { same = λ q v at w. ap (λ (n : ℕ). eqb n 1) (get_or-set_other w q 9 v 0 (λ e. omega (arith, at.high))) }

pub side_unseen : (e : ℕ) (d : Direction) → Unseen (λ w. side_at w e d)
side_unseen e d = record { same = λ q v at w. set_keeps w q v e d (omega (arith, at.high)) }

-- of a function of what is read
pub of_unseen : {A B : Type 0} {f : File → A} (h : A → B) → Unseen f → Unseen (λ w. h (f w))
of_unseen h u = record { same = λ q v at w. ap h (u.same q v at w) }

pub chosen_unseen : (d : Direction) → Unseen (λ w. chosen w d)
chosen_unseen d = record {
  same = λ q v at w. (side_unseen (index (set w q v)) d).same q v at w ∙ ap (λ (e : ℕ). side_at w e d) (index_unseen.same q v at w);
}

pub csr0l_unseen : Unseen csr0l_read
csr0l_unseen = record {
  same = λ q v at w. same_csr0l w (set w q v) ((side_unseen 0 In).same q v at w) ((side_unseen 0 Out).same q v at w) (setupend_unseen.same q v at w);
}

pub txcsrl_unseen : Unseen txcsrl_read
txcsrl_unseen = of_unseen txcsrl_of (chosen_unseen In)

pub rxcsrl_unseen : Unseen rxcsrl_read
rxcsrl_unseen = of_unseen rxcsrl_of (chosen_unseen Out)

-- reply 16's test asks nothing of them
words_unseen : (n : ℕ) → Unseen (λ w. words_below w n)
unfolding words_below
words_unseen zero = record { same = λ q v at w. refl }
words_unseen (suc n) = record {
  same = λ q v at w. ap₂ (λ (a : Bool) (x : ℕ). a also ltb x 32) ((words_unseen n).same q v at w) (get_or-set_other w q (10 + n) v 0 (λ e. omega (arith, at.high)));
}

in_unseen : (i : ℕ) → Unseen (λ w. side_in w i)
unfolding side_in
in_unseen i = record { same = same }
  where
    same : (q v : ℕ) → PendingAt q → (w : File) → side_in (set w q v) i ≡ side_in w i
    same q v at w =
        let there : (p : ℕ) → 10 ≤ p → get_or (set w q v) p 0 ≡ get_or w p 0 = λ p h. get_or-set_other w q p v 0 (λ e. omega (arith, at.high)) in
        λ t. side_of (there (10 + i) (omega arith) t) (there (34 + i) (omega arith) t) (there (22 + i) (omega arith) t)

sides_unseen : (sizes : List ℕ) (n : ℕ) → Unseen (λ w. sides_below sizes w n)
unfolding sides_below
sides_unseen sizes zero = record { same = λ q v at w. refl }
sides_unseen sizes (suc n) = record {
  same = λ q v at w. ap₂ (λ (a : Bool) (s : Side). a also side_sound (get_or sizes n 0) s) ((sides_unseen sizes n).same q v at w) ((in_unseen n).same q v at w);
}

pub sound_unseen : (sizes : List ℕ) (count : ℕ) → Unseen (regs_sound sizes count)
unfolding regs_sound
sound_unseen sizes count = record {
  same = λ q v at w. λ i. ltb (index_unseen.same q v at w i) count also leb (faddr_unseen.same q v at w i) 127
      also leb (get_or-set_other w q 9 v 0 (λ e. omega (arith, at.high)) i) 1 also (words_unseen 12).same q v at w i also (sides_unseen sizes 12).same q v at w i;
}

-- what is done ----------------------------------------------------------------------------------------------------------------------

-- a number that is none of them
set_apart : (i x : ℕ) → ((q : ℕ) → PendingAt q → q ≡ i → ⊥) → Apart (λ w. set w i x)
set_apart i x away = record {
  sets = λ q v at w. set_comm w q i v x (away q at);
  reads = λ q at w. get_or-set_other w i q x 0 (away q at);
}

before_apart : (i x : ℕ) → i < 6 → Apart (λ w. set w i x)
before_apart i x h = set_apart i x (λ q at p. omega (arith, at.low, h))

past_apart : (i x : ℕ) → 8 < i → Apart (λ w. set w i x)
past_apart i x h = set_apart i x (λ q at p. omega (arith, at.high, h))

pub selection_apart : (e : ℕ) → Apart (λ w. with_index w e)
unfolding with_index
selection_apart e = before_apart 0 e (omega arith)

pub address_apart : (a : ℕ) → Apart (λ w. with_faddr w a)
unfolding with_faddr
address_apart a = before_apart 1 a (omega arith)

pub power_apart : (v : ℕ) → Apart (λ w. with_power w v)
unfolding with_power
power_apart v = before_apart 2 v (omega arith)

pub bus_apart : (v : ℕ) → Apart (λ w. with_intrusbe w v)
unfolding with_intrusbe
bus_apart v = before_apart 3 v (omega arith)

pub enabled_apart : (d : Direction) (v : ℕ) → Apart (with_enabled d v)
unfolding with_enabled
enabled_apart Out v = before_apart 5 v (omega arith)
enabled_apart In v = before_apart 4 v (omega arith)

pub setupend_apart : (b : Bool) → Apart (λ w. with_setupend w b)
unfolding with_setupend
setupend_apart b = past_apart 9 (cond b 1 0) (omega arith)

-- a side
in_apart : (i : ℕ) (s : Side) → Apart (λ w. with_side_in w i s)
unfolding with_side_in
in_apart i s =
    then_done (past_apart (10 + i) (side_word s) (omega arith)) (then_done (past_apart (34 + i) s.maxp (omega arith)) (past_apart (22 + i) s.len (omega arith)))

pub side_apart : (e : ℕ) (d : Direction) (s : Side) → Apart (λ w. with_side w e d s)
unfolding with_side
side_apart e d s = cond_done (ltb e 6) (in_apart (place e d) s) nothing_done

-- a side that is changed by what it was
pub changed_apart : (e : ℕ) (d : Direction) (f : Side → Side) → Apart (λ w. with_side w e d (f (side_at w e d)))
changed_apart e d f = by_done (λ (s : Side) (w : File). with_side w e d (f s)) (side_unseen e d) (λ s. side_apart e d (f s))

-- CSR0L and CSR0H
pub flushed_apart : Apart csr0h_flushed
unfolding csr0h_flushed
flushed_apart =
    by_done (λ (s : Side) (w : File). with_side (with_side w 0 In (dropped true (side_at w 0 In))) 0 Out (dropped true s)) (side_unseen 0 Out)
    (λ s. then_done (changed_apart 0 In (dropped true)) (side_apart 0 Out (dropped true s)))

pub zero_apart : (x : Csr0l) → Apart (csr0l_stored x)
unfolding csr0l_stored
zero_apart x =
    by_done
    (λ (b : Bool) (w : File).
    with_setupend (with_side (with_side w 0 In (zero_tx_stored x (side_at w 0 In))) 0 Out (dropped x.serviced_rx_pkt_rdy (side_at w 0 Out))) (b && not x.serviced_setup_end))
    setupend_unseen
    (λ b. then_done
    (by_done (λ (s : Side) (w : File). with_side (with_side w 0 In (zero_tx_stored x (side_at w 0 In))) 0 Out (dropped x.serviced_rx_pkt_rdy s)) (side_unseen 0 Out)
    (λ s. then_done (changed_apart 0 In (zero_tx_stored x)) (side_apart 0 Out (dropped x.serviced_rx_pkt_rdy s))))
    (setupend_apart (b && not x.serviced_setup_end)))
