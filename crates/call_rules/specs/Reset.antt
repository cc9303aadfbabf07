-- What the call `reset` of the source's usb_device_impl/mod.rs gives back and leaves in the lent list, refused too.
-- Assumes nothing.
use Rattle.std.specs.Prelude.{ℕ, zero, suc, false, cond, List, get_or}
use Rattle.endpoints.specs.declared.EndpointData.{EndpointData}
use Rattle.endpoints.specs.Endpoints.{blank}
use Rattle.store_rules.specs.Stores.{Log, write_power}
use Rattle.common_rules.specs.Enable.{ep_tx_enable, ep_rx_enable}
use Rattle.record.specs.declared.Record.{Record}
use Rattle.record.specs.Record.{record_sound, admission_by, endpoints_of}
use Rattle.call_rules.specs.Calls.{CallOutcome, stored, unless, short, begun, idled}

-- the body of `reset`'s `for_each`: `if ep.used_tx { .. }`, then `if ep.used_rx { .. }`
unfoldable pub tx_enabled : ℕ → EndpointData → Log → Log
tx_enabled e ep g = cond ep.used_tx (ep_tx_enable e ep.ep_conf g) g

unfoldable pub rx_enabled : ℕ → EndpointData → Log → Log
rx_enabled e ep g = cond ep.used_rx (ep_rx_enable e ep.ep_conf g) g

unfoldable pub used_enabled : ℕ → EndpointData → Log → Log
used_enabled e ep g = rx_enabled e ep (tx_enabled e ep g)

-- every endpoint below n, lowest first
unfoldable pub enabled_below : List EndpointData → ℕ → Log → Log
enabled_below es zero g = g
enabled_below es (suc n) g = used_enabled n (get_or es n blank) (enabled_below es n g)

-- `power().write(|w| w.set_suspend_mode(true))`, then the endpoints
unfoldable pub reset_stores : Record → Log → Log
reset_stores k g = enabled_below k.endpoints (endpoints_of k) (write_power g)

-- `reset`
unfoldable pub reset_call : Record → List ℕ → CallOutcome
reset_call k l = unless (admission_by (short l) (record_sound k) false) k l (stored k (idled k.control_state) (reset_stores k (begun k l)))
