-- The register file that is made: what stands in it, part by part.
-- Assumes nothing.
use Prim.Native.Nat.{ℕ, zero, suc, ◌+◌, ◌≤◌, ◌<◌}
use native.Mathlib.Decide.{ℕ_discrete}
use native.Mathlib.Omega.{arith}
use mathlib.Core.Path.{◌≡◌, refl, ap, ◌∙◌}
use mathlib.Core.Bool.{cond}
use mathlib.Core.List.{List}
use lib.Dec.{eqb}
use lib.ListN.{length, get_or, length-set}
use lib.Seq.{get_or-set_same, get_or-set_other}
use Rattle.laws.specs.Words.{bit}
use Rattle.board.specs.declared.Direction.{Direction}
use Rattle.board.specs.declared.Direction.TheVariants.{Out, In}
use Rattle.csr.specs.declared.Side.{Side}
use Rattle.csr.proofs.Sides.{in_out}
use Rattle.register_file.specs.Registers.{File, Whole, fresh_file, side_at, with_side, setupend, with_setupend, with_faddr, with_power, with_index, with_enabled, with_intrusbe, with_intrusb, with_intr}
use Rattle.register_file.proofs.Sides.{side_same, side_flip, side_other, keeps, keeps_length, set_keeps}
use Rattle.detail_rules.specs.Given.{word_at, with_chip, zero_tx, zero_rx, with_zero, base_of, side_from, with_sides, with_others, file_of}
use Rattle.register_file.proofs.Words.{is_one}

-- a side of an endpoint from 1 to 5
abbrev side_of : List ℕ → ℕ → Direction → Side
side_of ns e Out = side_from ns (base_of e + 1) 5
side_of ns e In = side_from ns (base_of e) 4

module _ (ns : List ℕ) where
  -- both sides of an endpoint
  module _ (e : ℕ) (w : File) where
    sides_length : length (with_sides ns e w) ≡ length w
    unfolding with_sides
    sides_length = keeps_length (with_side w e In (side_of ns e In)) e Out (side_of ns e Out) ∙ keeps_length w e In (side_of ns e In)

    sides_keep : (q : ℕ) → q < 10 → get_or (with_sides ns e w) q 0 ≡ get_or w q 0
    unfolding with_sides
    sides_keep q h = keeps (with_side w e In (side_of ns e In)) e Out (side_of ns e Out) q h ∙ keeps w e In (side_of ns e In) q h

    sides_other : (f : ℕ) (d : Direction) → (f ≡ e → ⊥) → side_at (with_sides ns e w) f d ≡ side_at w f d
    unfolding with_sides
    sides_other f d n = side_other (with_side w e In (side_of ns e In)) e Out (side_of ns e Out) f d n ∙ side_other w e In (side_of ns e In) f d n

    sides_own : (d : Direction) → Whole w → e < 6 → side_at (with_sides ns e w) e d ≡ side_of ns e d
    unfolding with_sides
    sides_own Out k h =
        side_same (with_side w e In (side_of ns e In)) e Out (side_of ns e Out) (keeps_length w e In (side_of ns e In) ∙ k) h
    sides_own In k h =
        side_flip (with_side w e In (side_of ns e In)) e Out (side_of ns e Out) In in_out ∙ side_same w e In (side_of ns e In) k h

  -- the endpoints 1 to n
  others_length : (n : ℕ) (w : File) → length (with_others ns n w) ≡ length w
  unfolding with_others
  others_length zero w = refl
  others_length (suc n) w = sides_length (suc n) (with_others ns n w) ∙ others_length n w

  others_keep : (n : ℕ) (w : File) (q : ℕ) → q < 10 → get_or (with_others ns n w) q 0 ≡ get_or w q 0
  unfolding with_others
  others_keep zero w q h = refl
  others_keep (suc n) w q h = sides_keep (suc n) (with_others ns n w) q h ∙ others_keep n w q h

  others_zero : (n : ℕ) (w : File) (d : Direction) → side_at (with_others ns n w) 0 d ≡ side_at w 0 d
  unfolding with_others
  others_zero zero w d = refl
  others_zero (suc n) w d = sides_other (suc n) (with_others ns n w) 0 d (λ (e : 0 ≡ suc n). omega arith) ∙ others_zero n w d

  others_own : (n : ℕ) (w : File) (e : ℕ) (d : Direction) → Whole w → 0 < e → e ≤ n → n < 6 → side_at (with_others ns n w) e d ≡ side_of ns e d
  unfolding with_others
  others_own zero w e d k p l h = absurd (omega arith)
  others_own (suc n) w e d k p l h = go (ℕ_discrete e (suc n)) (others_own n w e d k p)
    where
      go : Dec (e ≡ suc n) → (e ≤ n → n < 6 → side_at (with_others ns n w) e d ≡ side_of ns e d)
          → side_at (with_sides ns (suc n) (with_others ns n w)) e d ≡ side_of ns e d
      go (yes q) f = rw q (sides_own (suc n) (with_others ns n w) d (others_length n w ∙ k) h)
      go (no q) f = sides_other (suc n) (with_others ns n w) e d q ∙ f (omega arith) (omega arith)

  -- endpoint 0
  module _ (w : File) where
    abbrev sent : File
    sent = with_side w 0 In (zero_tx ns)

    zero_keep : (q : ℕ) → q < 9 → get_or (with_zero ns w) q 0 ≡ get_or w q 0
    unfolding with_zero with_setupend
    zero_keep q h =
        get_or-set_other (with_side sent 0 Out (zero_rx ns)) 9 q (cond (bit (word_at ns 9) 4) 1 0) 0 (λ (e : q ≡ 9). omega arith)
        ∙ keeps sent 0 Out (zero_rx ns) q (omega arith) ∙ keeps w 0 In (zero_tx ns) q (omega arith)

    both_whole : Whole w → length (with_side sent 0 Out (zero_rx ns)) ≡ 46
    both_whole k = keeps_length sent 0 Out (zero_rx ns) ∙ keeps_length w 0 In (zero_tx ns) ∙ k

    zero_whole : Whole w → Whole (with_zero ns w)
    unfolding with_zero with_setupend
    zero_whole k = simp length-set (both_whole k)

    zero_ended : Whole w → get_or (with_zero ns w) 9 0 ≡ cond (bit (word_at ns 9) 4) 1 0
    unfolding with_zero with_setupend
    zero_ended k = get_or-set_same (with_side sent 0 Out (zero_rx ns)) 9 (cond (bit (word_at ns 9) 4) 1 0) 0 (omega (arith, both_whole k))

    zero_tx_lem : Whole w → side_at (with_zero ns w) 0 In ≡ zero_tx ns
    unfolding with_zero with_setupend
    zero_tx_lem k =
        set_keeps (with_side sent 0 Out (zero_rx ns)) 9 (cond (bit (word_at ns 9) 4) 1 0) 0 In (omega arith)
        ∙ side_flip sent 0 Out (zero_rx ns) In in_out ∙ side_same w 0 In (zero_tx ns) k (omega arith)

    zero_rx_lem : Whole w → side_at (with_zero ns w) 0 Out ≡ zero_rx ns
    unfolding with_zero with_setupend
    zero_rx_lem k =
        set_keeps (with_side sent 0 Out (zero_rx ns)) 9 (cond (bit (word_at ns 9) 4) 1 0) 0 Out (omega arith)
        ∙ side_same sent 0 Out (zero_rx ns) (keeps_length w 0 In (zero_tx ns) ∙ k) (omega arith)

  -- the registers that are there once
  chip_whole : Whole (with_chip ns fresh_file)
  unfolding with_chip with_faddr with_power with_index with_enabled with_intrusbe with_intrusb with_intr fresh_file
  chip_whole = refl

  -- the whole file
  pub file_keeps : (q : ℕ) → q < 9 → get_or (file_of ns) q 0 ≡ get_or (with_chip ns fresh_file) q 0
  unfolding file_of
  file_keeps q h = others_keep 5 (with_zero ns (with_chip ns fresh_file)) q (omega arith) ∙ zero_keep (with_chip ns fresh_file) q h

  pub file_ended : setupend (file_of ns) ≡ bit (word_at ns 9) 4
  unfolding file_of setupend
  file_ended =
      ap (λ (n : ℕ). eqb n 1) (others_keep 5 (with_zero ns (with_chip ns fresh_file)) 9 (omega arith) ∙ zero_ended (with_chip ns fresh_file) chip_whole)
      ∙ is_one (bit (word_at ns 9) 4)

  pub file_zero_tx : side_at (file_of ns) 0 In ≡ zero_tx ns
  unfolding file_of
  file_zero_tx = others_zero 5 (with_zero ns (with_chip ns fresh_file)) In ∙ zero_tx_lem (with_chip ns fresh_file) chip_whole

  pub file_zero_rx : side_at (file_of ns) 0 Out ≡ zero_rx ns
  unfolding file_of
  file_zero_rx = others_zero 5 (with_zero ns (with_chip ns fresh_file)) Out ∙ zero_rx_lem (with_chip ns fresh_file) chip_whole

  own : (e : ℕ) (d : Direction) → 0 < e → e < 6 → side_at (file_of ns) e d ≡ side_of ns e d
  unfolding file_of
  own e d p h =
      others_own 5 (with_zero ns (with_chip ns fresh_file)) e d (zero_whole (with_chip ns fresh_file) chip_whole) p (omega arith) (omega arith)

  pub file_tx : (e : ℕ) → 0 < e → e < 6 → side_at (file_of ns) e In ≡ side_from ns (base_of e) 4
  file_tx e p h = own e In p h

  pub file_rx : (e : ℕ) → 0 < e → e < 6 → side_at (file_of ns) e Out ≡ side_from ns (base_of e + 1) 5
  file_rx e p h = own e Out p h
