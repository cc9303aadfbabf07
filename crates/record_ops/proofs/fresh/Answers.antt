use mathlib.Core.Path.{◌≡◌}
use Rattle.endpoints.specs.Endpoints.{fresh}
use Rattle.record.specs.Record.{fresh_record, no_flags}
use Rattle.record_ops.proofs.fresh.Goals as goal

pub returns : goal.returns
unfolding fresh_record
returns c =
    let d = c.default.ensures in
    let f = c.default-2.ensures in
    let e : c.default.result ≡ fresh = λ i. record {
      ep_conf = record { ep_type = d.0.0 i; tx_max_packet_size = d.0.1.0 i; rx_max_packet_size = d.0.1.1 i };
      used_tx = d.1.0 i;
      used_rx = d.1.1 i;
    } in
    let g : c.default-2.result ≡ no_flags = λ i. record {
      reset = f.0 i;
      suspend = f.1.0 i;
      resume = f.1.1.0 i;
      ep0 = f.1.1.1.0 i;
      ep_tx = f.1.1.1.1.0 i;
      ep_rx = f.1.1.1.1.1 i;
    } in
    rw (c.fresh.ensures, e, c.new.ensures, g)
