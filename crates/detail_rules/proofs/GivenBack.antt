-- The record made of a printed record's numbers has these numbers. Assumes nothing.
use Prim.Native.Nat.{ℕ, zero, suc, ◌+◌, ◌<◌}
use native.Mathlib.Omega.{arith}
use mathlib.Core.Path.{◌≡◌, refl, ap, sym, subst, ◌∙◌}
use mathlib.Core.Bool.{cond}
use mathlib.Core.List.{List, [], ◌∷◌, ◌++◌, append_assoc}
use Rattle.laws.specs.Lists.{numbers}
use Rattle.laws.specs.Words.{bit}
use Rattle.board.specs.declared.Direction.TheVariants.{Out, In}
use Rattle.csr.specs.declared.Side.{Side}
use Rattle.csr.specs.Control.{txcsrl_of, rxcsrl_of, txcsrl_number, rxcsrl_number}
use Rattle.register_file.specs.Registers.{File, fresh_file, side_at, index, faddr, power, intrusbe, enabled_of, intrusb, intr_of, with_faddr, with_power, with_index, with_enabled, with_intrusbe, with_intrusb, with_intr}
use Rattle.detail_rules.specs.DetailNumbers.{of_chip, txcsrl_at, rxcsrl_at, registers_at, shown_at, lengths_at, of_data, of_endpoint, of_endpoints, of_flags, record_numbers}
use Rattle.detail_rules.specs.Given.{long_at, word_at, with_chip, zero_tx, zero_rx, base_of, side_from, file_of, data_of, datas_of, control_of, flags_of, record_of}
use Rattle.detail_rules.specs.GivenPrinted.{Csr0lReads, TxcsrlReads, RxcsrlReads, RegistersRead, RestReads, Printed, Back}
use Rattle.detail_rules.proofs.GivenBytes.{listed}
use Rattle.detail_rules.proofs.GivenNumbers.{csr0l_back, txcsrl_back, rxcsrl_back, iso_back, word_back, mark_back, type_back, state_back}
use Rattle.detail_rules.proofs.GivenFile.{file_keeps, file_ended, file_zero_tx, file_zero_rx, file_tx, file_rx}

-- an endpoint's thirteen numbers, the first six of which are registers
abbrev registers_in : List ℕ → ℕ → List ℕ
registers_in ns i = long_at ns i ∷ long_at ns (i + 1) ∷ long_at ns (i + 2) ∷ long_at ns (i + 3) ∷ long_at ns (i + 4) ∷ long_at ns (i + 5) ∷ []

abbrev rest_in : List ℕ → ℕ → List ℕ
rest_in ns i =
    long_at ns (i + 6) ∷ long_at ns (i + 7) ∷ long_at ns (i + 8) ∷ long_at ns (i + 9) ∷ long_at ns (i + 10) ∷ long_at ns (i + 11) ∷ long_at ns (i + 12) ∷ []

rest_back : (ns : List ℕ) (e : ℕ) → RestReads ns (base_of e) → (side_at (file_of ns) e In).len ≡ word_at ns (base_of e + 6)
    → (side_at (file_of ns) e Out).len ≡ word_at ns (base_of e + 7) → lengths_at (file_of ns) e ++ of_data (data_of ns e) ≡ rest_in ns (base_of e)
unfolding lengths_at of_data data_of
rest_back ns e r i o =
    let a = i ∙ word_back ns (base_of e + 6) r.waiting_tx in
    let b = o ∙ word_back ns (base_of e + 7) r.waiting_rx in
    let c = type_back (long_at ns (base_of e + 8)) r.type in
    let d = word_back ns (base_of e + 9) r.size_tx in
    let f = word_back ns (base_of e + 10) r.size_rx in
    let g = mark_back ns (base_of e + 11) r.used_tx_lem in
    let h = mark_back ns (base_of e + 12) r.used_rx_lem in
    λ t. a t ∷ b t ∷ c t ∷ d t ∷ f t ∷ g t ∷ h t ∷ []

module _ (ns : List ℕ) (e : ℕ) (r : RegistersRead ns (base_of e)) (l : 0 < e) (h : e < 6) where
  tx : side_at (file_of ns) e In ≡ side_from ns (base_of e) 4
  tx = file_tx ns e l h

  rx : side_at (file_of ns) e Out ≡ side_from ns (base_of e + 1) 5
  rx = file_rx ns e l h

  registers_back : registers_at (file_of ns) e ≡ registers_in ns (base_of e)
  unfolding registers_at txcsrl_at rxcsrl_at side_from
  registers_back =
      let wt = word_back ns (base_of e) (omega (arith, r.txcsrl.below)) in
      let wr = word_back ns (base_of e + 1) (omega (arith, r.rxcsrl.below)) in
      let three : base_of e + 1 + 2 ≡ base_of e + 3 = omega arith in
      let five : base_of e + 1 + 4 ≡ base_of e + 5 = omega arith in
      let a = ap (λ (s : Side). txcsrl_number (txcsrl_of s)) tx ∙ txcsrl_back ns (base_of e) (subst TxcsrlReads (sym wt) r.txcsrl) ∙ wt in
      let b = ap (λ (s : Side). rxcsrl_number (rxcsrl_of s)) rx ∙ rxcsrl_back ns (base_of e + 1) (subst RxcsrlReads (sym wr) r.rxcsrl) ∙ wr in
      let c = ap {B = ℕ} (λ (s : Side). cond s.iso 64 0) tx ∙ iso_back ns (base_of e + 2) r.txcsrh in
      let d = ap {B = ℕ} (λ (s : Side). cond s.iso 64 0) rx ∙ ap {B = ℕ} (λ (n : ℕ). cond (bit (word_at ns n) 6) 64 0) three ∙ iso_back ns (base_of e + 3) r.rxcsrh in
      let f = ap (λ (s : Side). s.maxp) tx ∙ word_back ns (base_of e + 4) r.txmaxp in
      let g = ap (λ (s : Side). s.maxp) rx ∙ ap (word_at ns) five ∙ word_back ns (base_of e + 5) r.rxmaxp in
      λ t. a t ∷ b t ∷ c t ∷ d t ∷ f t ∷ g t ∷ []

  others_rest : RestReads ns (base_of e) → lengths_at (file_of ns) e ++ of_data (data_of ns e) ≡ rest_in ns (base_of e)
  unfolding side_from
  others_rest q =
      let seven : base_of e + 1 + 6 ≡ base_of e + 7 = omega arith in
      rest_back ns e q (ap (λ (s : Side). s.len) tx) (ap (λ (s : Side). s.len) rx ∙ ap (word_at ns) seven)

shown : (r : File) (e : ℕ) → 0 < e → shown_at r e ≡ registers_at r e
unfolding shown_at
shown r zero h = absurd (omega arith)
shown r (suc e) h = refl

module _ (ns : List ℕ) (p : Printed ns) where
  chip_back : of_chip (file_of ns)
      ≡ long_at ns 0 ∷ long_at ns 1 ∷ long_at ns 2 ∷ long_at ns 3 ∷ long_at ns 4 ∷ long_at ns 5 ∷ long_at ns 6 ∷ long_at ns 7 ∷ long_at ns 8 ∷ long_at ns 9 ∷ []
  unfolding of_chip index faddr power intrusbe enabled_of intrusb intr_of with_chip with_faddr with_power with_index with_enabled with_intrusbe with_intrusb with_intr fresh_file
  chip_back =
      let word : (i : ℕ) → i < 9 → word_at ns i ≡ long_at ns i = λ i h. word_back ns i (p.chip i h) in
      let nine = word_back ns 9 (omega (arith, p.csr0l.below)) in
      let a = file_keeps ns 1 (omega arith) ∙ word 0 (omega arith) in
      let b = file_keeps ns 2 (omega arith) ∙ word 1 (omega arith) in
      let c = file_keeps ns 0 (omega arith) ∙ word 2 (omega arith) in
      let d = file_keeps ns 4 (omega arith) ∙ word 3 (omega arith) in
      let e = file_keeps ns 5 (omega arith) ∙ word 4 (omega arith) in
      let f = file_keeps ns 3 (omega arith) ∙ word 5 (omega arith) in
      let g = file_keeps ns 6 (omega arith) ∙ word 6 (omega arith) in
      let h = file_keeps ns 7 (omega arith) ∙ word 7 (omega arith) in
      let i = file_keeps ns 8 (omega arith) ∙ word 8 (omega arith) in
      let j = csr0l_back ns (file_of ns) (subst Csr0lReads (sym nine) p.csr0l) (file_zero_tx ns) (file_zero_rx ns) (file_ended ns) ∙ nine in
      λ t. a t ∷ b t ∷ c t ∷ d t ∷ e t ∷ f t ∷ g t ∷ h t ∷ i t ∷ j t ∷ []

  zero_back : of_endpoint (file_of ns) (data_of ns 0) 0 ≡ registers_in ns 10 ++ rest_in ns 10
  unfolding of_endpoint shown_at zero_tx zero_rx
  zero_back =
      let none : (i : ℕ) → i < 6 → 0 ≡ long_at ns (10 + i) = λ i h. sym (p.none i h) in
      let rest = rest_back ns 0 (p.rest 0 (omega arith)) (ap (λ (s : Side). s.len) (file_zero_tx ns)) (ap (λ (s : Side). s.len) (file_zero_rx ns)) in
      λ t. none 0 (omega arith) t ∷ none 1 (omega arith) t ∷ none 2 (omega arith) t ∷ none 3 (omega arith) t ∷ none 4 (omega arith) t ∷ none 5 (omega arith) t ∷ rest t

  endpoint_back : (e : ℕ) → 0 < e → e < 6 → of_endpoint (file_of ns) (data_of ns e) e ≡ registers_in ns (base_of e) ++ rest_in ns (base_of e)
  unfolding of_endpoint
  endpoint_back e l h =
      let registers = shown (file_of ns) e l ∙ registers_back ns e (p.registers e l h) l h in
      let rest = others_rest ns e (p.registers e l h) l h (p.rest e h) in
      append_assoc (shown_at (file_of ns) e) (lengths_at (file_of ns) e) (of_data (data_of ns e)) ∙ λ t. registers t ++ rest t

  endpoints_back : of_endpoints (file_of ns) (datas_of ns) 6
      ≡ registers_in ns 10 ++ rest_in ns 10 ++ (registers_in ns 23 ++ rest_in ns 23) ++ (registers_in ns 36 ++ rest_in ns 36)
      ++ (registers_in ns 49 ++ rest_in ns 49) ++ (registers_in ns 62 ++ rest_in ns 62) ++ (registers_in ns 75 ++ rest_in ns 75)
  unfolding of_endpoints datas_of
  endpoints_back =
      let one = endpoint_back 1 (omega arith) (omega arith) in
      let two = endpoint_back 2 (omega arith) (omega arith) in
      let three = endpoint_back 3 (omega arith) (omega arith) in
      let four = endpoint_back 4 (omega arith) (omega arith) in
      let five = endpoint_back 5 (omega arith) (omega arith) in
      λ t. zero_back t ++ one t ++ two t ++ three t ++ four t ++ five t

  flags_back : of_flags (control_of ns) (flags_of ns)
      ≡ long_at ns 88 ∷ long_at ns 89 ∷ long_at ns 90 ∷ long_at ns 91 ∷ long_at ns 92 ∷ long_at ns 93 ∷ long_at ns 94 ∷ long_at ns 95 ∷ []
  unfolding of_flags control_of flags_of
  flags_back =
      let a = state_back (long_at ns 88) p.state in
      let b = mark_back ns 90 (p.flags 0 (omega arith)) in
      let c = mark_back ns 91 (p.flags 1 (omega arith)) in
      let d = mark_back ns 92 (p.flags 2 (omega arith)) in
      let e = mark_back ns 93 (p.flags 3 (omega arith)) in
      let f = word_back ns 94 (p.words 0 (omega arith)) in
      let g = word_back ns 95 (p.words 1 (omega arith)) in
      λ t. a t ∷ long_at ns 89 ∷ b t ∷ c t ∷ d t ∷ e t ∷ f t ∷ g t ∷ []

pub back : Back
unfolding record_numbers record_of numbers
back ns p = (λ t. chip_back ns p t ++ endpoints_back ns p t ++ flags_back ns p t) ∙ listed ns p.count
