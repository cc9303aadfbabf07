-- The numbers that a detail report can print of a record, and the promise: the record made of such numbers has them.
-- Assumes nothing.
use Rattle.std.specs.Prelude.{ℕ, ◌+◌, ◌/◌, ◌%◌, ◌^◌, ◌<◌, ◌≡◌, ◌⊎◌, false, List, [], ◌∷◌, length, get_or}
use Rattle.laws.specs.Words.{bit}
use Rattle.endpoints.specs.Endpoints.{blank}
use Rattle.record.specs.declared.Record.{Record}
use Rattle.detail_rules.specs.DetailNumbers.{record_numbers}
use Rattle.detail_rules.specs.Given.{numbers_of, long_at, base_of, record_of}

-- of CSR0L "DataEnd, Serviced .. read 0": the bits 0, 1, 2, 4 and 5
pub record Csr0lReads (v : ℕ) : Type 0 where
  pub below : v < 64
  pub data_end : bit v 3 ≡ false

-- of TXCSRL "Flush and ClrDataTog read 0", "FIFONotEmpty reads as TxPktRdy": the bits 0, 2, 4 and 5, and bit 1 as bit 0
pub record TxcsrlReads (v : ℕ) : Type 0 where
  pub below : v < 64
  pub not_empty_lem : bit v 1 ≡ bit v 0
  pub flush : bit v 3 ≡ false

-- of RXCSRL "Flush and ClrDataTog read 0", "FIFOFull and DataError read 0": the bits 0, 2, 5 and 6
pub record RxcsrlReads (v : ℕ) : Type 0 where
  pub below : v < 128
  pub full : bit v 1 ≡ false
  pub data_error : bit v 3 ≡ false
  pub flush : bit v 4 ≡ false

-- "ISO is bit 6 of TXCSRH and RXCSRH", all else of which reads 0
abbrev pub IsoReads : ℕ → Type 0
IsoReads v = (v ≡ 0) ⊎ (v ≡ 64)

-- the six registers of an endpoint from 1 to 5, whose numbers begin at i
pub record RegistersRead (ns : List ℕ) (i : ℕ) : Type 0 where
  pub txcsrl : TxcsrlReads (long_at ns i)
  pub rxcsrl : RxcsrlReads (long_at ns (i + 1))
  pub txcsrh : IsoReads (long_at ns (i + 2))
  pub rxcsrh : IsoReads (long_at ns (i + 3))
  pub txmaxp : long_at ns (i + 4) < 65536
  pub rxmaxp : long_at ns (i + 5) < 65536

-- and the seven others of any endpoint
pub record RestReads (ns : List ℕ) (i : ℕ) : Type 0 where
  pub waiting_tx : long_at ns (i + 6) < 65536
  pub waiting_rx : long_at ns (i + 7) < 65536
  pub type : long_at ns (i + 8) < 4
  pub size_tx : long_at ns (i + 9) < 65536
  pub size_rx : long_at ns (i + 10) < 65536
  pub used_tx_lem : long_at ns (i + 11) < 2
  pub used_rx_lem : long_at ns (i + 12) < 2

-- the remaining length, number 89, may be any
pub record Printed (ns : List ℕ) : Type 0 where
  pub count : length ns ≡ 96
  pub chip : (i : ℕ) → i < 9 → long_at ns i < 65536
  pub csr0l : Csr0lReads (long_at ns 9)
  -- endpoint 0 has none of the six registers: 0 stands there
  pub none : (i : ℕ) → i < 6 → long_at ns (10 + i) ≡ 0
  pub registers : (e : ℕ) → 0 < e → e < 6 → RegistersRead ns (base_of e)
  pub rest : (e : ℕ) → e < 6 → RestReads ns (base_of e)
  pub state : long_at ns 88 < 6
  pub flags : (i : ℕ) → i < 4 → long_at ns (90 + i) < 2
  pub words : (i : ℕ) → i < 2 → long_at ns (94 + i) < 65536

-- the record made of a printed record's numbers has these numbers: proofs/GivenBack.antt
abbrev pub Back : Type 0
Back = (ns : List ℕ) → Printed ns → record_numbers (record_of ns) ≡ ns

-- the bytes that numbers stand in, four each, low byte first, are read as these numbers: proofs/GivenBytes.antt
unfoldable pub bytes_of : List ℕ → List ℕ
bytes_of [] = []
bytes_of (n ∷ ns) = n % 256 ∷ n / 256 % 256 ∷ n / 65536 % 256 ∷ n / 16777216 % 256 ∷ bytes_of ns

abbrev pub Read : Type 0
Read = (ns : List ℕ) → length ns ≡ 96 → ((i : ℕ) → long_at ns i < 2 ^ 32) → numbers_of (bytes_of ns) ≡ ns

-- what the types of the code say of a record: every number but the remaining length is of 16 bits
pub record Held (k : Record) : Type 0 where
  pub words : (i : ℕ) → get_or k.regs.words i 0 < 65536
  pub tx_size_lem : (e : ℕ) → (get_or k.endpoints e blank).ep_conf.tx_max_packet_size < 65536
  pub rx_size_lem : (e : ℕ) → (get_or k.endpoints e blank).ep_conf.rx_max_packet_size < 65536
  pub tx_flags : k.irq.ep_tx < 65536
  pub rx_flags : k.irq.ep_rx < 65536

-- every record's numbers are such numbers, so that the record made of them prints the same: proofs/GivenEver.antt
abbrev pub Ever : Type 0
Ever = (k : Record) → Held k → Printed (record_numbers k)

abbrev pub Again : Type 0
Again = (k : Record) → Held k → record_numbers (record_of (record_numbers k)) ≡ record_numbers k
