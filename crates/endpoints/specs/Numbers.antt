-- Document 01's number and values for each answer, and what `alloc_ep` tells the trait.
-- Assumes nothing.
use Rattle.std.specs.Prelude.{ℕ, List, [], ◌∷◌, Err, Ok, Result}
use Rattle.endpoints.specs.declared.EndpointAllocError.{EndpointAllocError}
use Rattle.endpoints.specs.declared.EndpointAllocError.TheVariants.{EndpointOverflow, InvalidEndpoint, EpDirNotSupported, EpUsed, MaxPacketSizeBiggerThanEpFifoSize}
use Rattle.endpoints.specs.declared.UsbError.{UsbError}
use Rattle.endpoints.specs.declared.UsbError.TheVariants.{EndpointOverflow as UsbOverflow, EndpointMemoryOverflow as UsbMemoryOverflow, InvalidEndpoint as UsbInvalid}

-- document 01, 'Reply numbers'
abbrev pub error_number : EndpointAllocError → ℕ
error_number EndpointOverflow = 1
error_number InvalidEndpoint = 2
error_number EpDirNotSupported = 3
error_number EpUsed = 4
error_number MaxPacketSizeBiggerThanEpFifoSize = 5

-- "0: done, with its value"
abbrev pub answer_number : Result ℕ EndpointAllocError → ℕ
answer_number (Ok n) = 0
answer_number (Err x) = error_number x

abbrev pub answer_values : Result ℕ EndpointAllocError → List ℕ
answer_values (Ok n) = n ∷ []
answer_values (Err x) = []

-- the source's `alloc_ep`, its `map_err`
abbrev pub usb_error : EndpointAllocError → UsbError
usb_error EndpointOverflow = UsbOverflow
usb_error InvalidEndpoint = UsbInvalid
usb_error EpDirNotSupported = UsbInvalid
usb_error EpUsed = UsbInvalid
usb_error MaxPacketSizeBiggerThanEpFifoSize = UsbMemoryOverflow
