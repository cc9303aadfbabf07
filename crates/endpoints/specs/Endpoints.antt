-- One endpoint's record: its type, and a size and a mark for each direction.
-- Assumes nothing.
use Rattle.std.specs.Prelude.{ℕ, ◌≡◌, Bool, true, false, ◌||◌, cond, eqb}
use Rattle.board.specs.declared.Direction.{Direction}
use Rattle.board.specs.declared.Direction.TheVariants.{Out, In}
use Rattle.endpoints.specs.declared.EndpointType.{EndpointType}
use Rattle.endpoints.specs.declared.EndpointType.TheVariants.{Control, Isochronous, Bulk, Interrupt}
use Rattle.endpoints.specs.declared.EndpointData.{EndpointData}
use Rattle.endpoints.specs.declared.Ask.{Ask}

-- what a call asks of an endpoint
abbrev pub ask : EndpointType → Direction → ℕ → Ask
ask k d n = record { kind = k; way = d; size = n }

-- document 01, 'Event trace': "type 0 control 1 isochronous 2 bulk 3 interrupt"
abbrev pub type_number : EndpointType → ℕ
type_number Control = 0
type_number Isochronous = 1
type_number Bulk = 2
type_number Interrupt = 3

-- and back; a number over 3 is taken for 3
abbrev pub type_of : ℕ → EndpointType
type_of n = cond (eqb n 0) Control (cond (eqb n 1) Isochronous (cond (eqb n 2) Bulk Interrupt))

abbrev pub same_type : EndpointType → EndpointType → Bool
same_type a b = eqb (type_number a) (type_number b)

-- document 01, of a fresh record: "endpoints unused, Bulk, sizes 0"
abbrev pub fresh : EndpointData
fresh = record { ep_conf = record { ep_type = Bulk; tx_max_packet_size = 0; rx_max_packet_size = 0 }; used_tx = false; used_rx = false }

-- what reading past an array's end is taken to give: zeros
abbrev pub blank : EndpointData
blank = record { ep_conf = record { ep_type = Control; tx_max_packet_size = 0; rx_max_packet_size = 0 }; used_tx = false; used_rx = false }

abbrev pub kind_of : EndpointData → EndpointType
kind_of e = e.ep_conf.ep_type

-- a direction's size and mark
abbrev pub size_in : EndpointData → Direction → ℕ
size_in e Out = e.ep_conf.rx_max_packet_size
size_in e In = e.ep_conf.tx_max_packet_size

abbrev pub used_in : EndpointData → Direction → Bool
used_in e Out = e.used_rx
used_in e In = e.used_tx

abbrev pub used : EndpointData → Bool
used e = e.used_rx || e.used_tx

-- document 01: "Success changes only that record's type and the asked direction's size and mark."
abbrev pub marked : EndpointData → EndpointType → Direction → ℕ → EndpointData
marked e k Out n =
    record {
      ep_conf = record { ep_type = k; tx_max_packet_size = size_in e In; rx_max_packet_size = n };
      used_tx = e.used_tx;
      used_rx = true;
    }
marked e k In n =
    record {
      ep_conf = record { ep_type = k; tx_max_packet_size = n; rx_max_packet_size = size_in e Out };
      used_tx = true;
      used_rx = e.used_rx;
    }

unfoldable pub granted : EndpointData → Ask → EndpointData
granted e q = marked e q.kind q.way q.size

abbrev pub opposite : Direction → Direction
opposite Out = In
opposite In = Out

-- the same in the sentence's own words: next is what becomes of e
pub record Granted (e next : EndpointData) (q : Ask) : Type 0 where
  pub kind : kind_of next ≡ q.kind
  pub size : size_in next q.way ≡ q.size
  pub mark : used_in next q.way ≡ true
  pub other_size : size_in next (opposite q.way) ≡ size_in e (opposite q.way)
  pub other_mark : used_in next (opposite q.way) ≡ used_in e (opposite q.way)
