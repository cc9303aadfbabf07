-- The record line has 96 numbers, whatever the record. Assumes nothing.
use Prim.Native.Nat.{ℕ, zero, suc, ◌*◌}
use native.Mathlib.Omega.{arith}
use mathlib.Core.Path.{◌≡◌, refl, ◌∙◌}
use mathlib.Core.List.{List, ◌++◌}
use lib.ListN.{length, get_or, length-append}
use Rattle.register_file.specs.Registers.{File}
use Rattle.endpoints.specs.declared.EndpointData.{EndpointData}
use Rattle.endpoints.specs.Endpoints.{blank}
use Rattle.record.specs.declared.Record.{Record}
use Rattle.detail_rules.specs.DetailNumbers.{of_chip, registers_at, shown_at, lengths_at, of_data, of_endpoint, of_endpoints, of_flags, record_numbers}

six : (r : File) (e : ℕ) → length (shown_at r e) ≡ 6
unfolding shown_at registers_at
six r zero = refl
six r (suc e) = refl

thirteen : (r : File) (d : EndpointData) (e : ℕ) → length (of_endpoint r d e) ≡ 13
unfolding of_endpoint lengths_at of_data
thirteen r d e = length-append (shown_at r e ++ lengths_at r e) (of_data d) ∙ omega (arith, length-append (shown_at r e) (lengths_at r e), six r e)

of_endpoints_lem : (r : File) (ds : List EndpointData) (n : ℕ) → length (of_endpoints r ds n) ≡ 13 * n
unfolding of_endpoints
of_endpoints_lem r ds zero = refl
of_endpoints_lem r ds (suc n) =
    length-append (of_endpoints r ds n) (of_endpoint r (get_or ds n blank) n) ∙ omega (arith, of_endpoints_lem r ds n, thirteen r (get_or ds n blank) n)

pub ninety_six : (k : Record) → length (record_numbers k) ≡ 96
unfolding record_numbers of_chip of_flags
ninety_six k =
    length-append (of_chip k.regs.words ++ of_endpoints k.regs.words k.endpoints 6) (of_flags k.control_state k.irq)
    ∙ omega (arith, length-append (of_chip k.regs.words) (of_endpoints k.regs.words k.endpoints 6), of_endpoints_lem k.regs.words k.endpoints 6)
