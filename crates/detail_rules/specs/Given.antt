-- The record that the 96 numbers of a detail report are of. The order of the numbers is that of `record_numbers` (DetailNumbers.antt).
-- Assumes nothing.
use Rattle.std.specs.Prelude.{ℕ, zero, suc, ◌+◌, ◌*◌, ◌%◌, Bool, false, cond, List, [], ◌∷◌, map, eqb, get_or}
use Rattle.laws.specs.Lists.{numbers}
use Rattle.laws.specs.Words.{bit}
use Rattle.board.specs.declared.Board.TheVariants.{Display}
use Rattle.board.specs.declared.Direction.TheVariants.{Out, In}
use Rattle.csr.specs.declared.Side.{Side}
use Rattle.register_file.specs.Registers.{File, fresh_file, with_faddr, with_power, with_index, with_enabled, with_intrusbe, with_intrusb, with_intr, with_setupend, with_side}
use Rattle.endpoints.specs.declared.EndpointData.{EndpointData}
use Rattle.control_state.specs.declared.ControlStateEnum.{ControlStateEnum}
use Rattle.control_state.specs.declared.ControlStateEnum.TheVariants.{Idle, Setup, DataIn, DataOut, Accepted, NodataPhase}
use Rattle.control_state.specs.declared.ControlState.{ControlState}
use Rattle.record.specs.declared.Flags.{Flags}
use Rattle.record.specs.declared.Record.{Record}
use Rattle.endpoints.specs.Endpoints.{type_of}

-- a number stands in four bytes, low byte first; past the end of the bytes stand zeros
unfoldable pub number_at : List ℕ → ℕ → ℕ
number_at h i = get_or h (4 * i) 0 + 256 * get_or h (4 * i + 1) 0 + 65536 * get_or h (4 * i + 2) 0 + 16777216 * get_or h (4 * i + 3) 0

-- the 96 numbers that stand in the bytes
unfoldable pub numbers_of : List ℕ → List ℕ
numbers_of h = map (number_at h) (numbers 0 96)

-- the number in a place: as it is, as a word of 16 bits, as a mark
abbrev pub long_at : List ℕ → ℕ → ℕ
long_at ns i = get_or ns i 0

unfoldable pub word_at : List ℕ → ℕ → ℕ
word_at ns i = long_at ns i % 65536

unfoldable pub truth_at : List ℕ → ℕ → Bool
truth_at ns i = eqb (long_at ns i) 1

-- faddr, power, index, intrtxe, intrrxe, intrusbe, intrusb, intrtx, intrrx
unfoldable pub with_chip : List ℕ → File → File
with_chip ns w0 =
    let w1 = with_faddr w0 (word_at ns 0) in
    let w2 = with_power w1 (word_at ns 1) in
    let w3 = with_index w2 (word_at ns 2) in
    let w4 = with_enabled In (word_at ns 3) w3 in
    let w5 = with_enabled Out (word_at ns 4) w4 in
    let w6 = with_intrusbe w5 (word_at ns 5) in
    let w7 = with_intrusb w6 (word_at ns 6) in
    let w8 = with_intr w7 In (word_at ns 7) in
    with_intr w8 Out (word_at ns 8)

-- csr0l, which has endpoint 0's bits: RxPktRdy is bit 0, TxPktRdy 1, SentStall 2, SetupEnd 4, SendStall 5; its waiting lengths stand later
unfoldable pub zero_tx : List ℕ → Side
zero_tx ns =
    record { ready = bit (word_at ns 9) 1; missed = false; stall = bit (word_at ns 9) 5; stalled = bit (word_at ns 9) 2; iso = false; maxp = 0; len = word_at ns 16 }

unfoldable pub zero_rx : List ℕ → Side
zero_rx ns =
    record { ready = bit (word_at ns 9) 0; missed = false; stall = false; stalled = false; iso = false; maxp = 0; len = word_at ns 17 }

unfoldable pub with_zero : List ℕ → File → File
with_zero ns w = with_setupend (with_side (with_side w 0 In (zero_tx ns)) 0 Out (zero_rx ns)) (bit (word_at ns 9) 4)

-- an endpoint's thirteen numbers begin here: txcsrl, rxcsrl, txcsrh, rxcsrh, txmaxp, rxmaxp, the waiting transmit and receive length, type,
-- recorded transmit and receive size, used transmit, used receive
abbrev pub base_of : ℕ → ℕ
base_of e = 10 + 13 * e

-- a side from where its txcsrl or rxcsrl stands: every other number is the other side's. Of the control register ready is bit 0, missed 2;
-- SendStall, and SentStall after it, have not the same bits in the two
unfoldable pub side_from : List ℕ → ℕ → ℕ → Side
side_from ns i s =
    record {
      ready = bit (word_at ns i) 0;
      missed = bit (word_at ns i) 2;
      stall = bit (word_at ns i) s;
      stalled = bit (word_at ns i) (s + 1);
      iso = bit (word_at ns (i + 2)) 6;
      maxp = word_at ns (i + 4);
      len = word_at ns (i + 6);
    }

unfoldable pub with_sides : List ℕ → ℕ → File → File
with_sides ns e w = with_side (with_side w e In (side_from ns (base_of e) 4)) e Out (side_from ns (base_of e + 1) 5)

-- the sides of the endpoints 1 to n
unfoldable pub with_others : List ℕ → ℕ → File → File
with_others ns zero w = w
with_others ns (suc n) w = with_sides ns (suc n) (with_others ns n w)

unfoldable pub file_of : List ℕ → File
file_of ns = with_others ns 5 (with_zero ns (with_chip ns fresh_file))

unfoldable pub data_of : List ℕ → ℕ → EndpointData
data_of ns e =
    record {
      ep_conf = record { ep_type = type_of (long_at ns (base_of e + 8)); tx_max_packet_size = word_at ns (base_of e + 9); rx_max_packet_size = word_at ns (base_of e + 10) };
      used_tx = truth_at ns (base_of e + 11);
      used_rx = truth_at ns (base_of e + 12);
    }

unfoldable pub datas_of : List ℕ → List EndpointData
datas_of ns = data_of ns 0 ∷ data_of ns 1 ∷ data_of ns 2 ∷ data_of ns 3 ∷ data_of ns 4 ∷ data_of ns 5 ∷ []

-- the source's `From<u8>`
abbrev pub state_of : ℕ → ControlStateEnum
state_of n = cond (eqb n 0) Idle (cond (eqb n 1) Setup (cond (eqb n 2) DataIn (cond (eqb n 3) DataOut (cond (eqb n 4) Accepted NodataPhase))))

-- control state, remaining length, the flags reset, suspend, resume and ep0, the transmit and receive flag words
unfoldable pub control_of : List ℕ → ControlState
control_of ns = record { state = state_of (long_at ns 88); tx_len = long_at ns 89 }

unfoldable pub flags_of : List ℕ → Flags
flags_of ns =
    record { reset = truth_at ns 90; suspend = truth_at ns 91; resume = truth_at ns 92; ep0 = truth_at ns 93; ep_tx = word_at ns 94; ep_rx = word_at ns 95 }

unfoldable pub record_of : List ℕ → Record
record_of ns =
    record {
      regs = record { words = file_of ns; board = Display };
      endpoints = datas_of ns;
      control_state = control_of ns;
      irq = flags_of ns;
    }
