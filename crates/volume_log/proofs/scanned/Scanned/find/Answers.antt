use Rattle.std.proofs.Common.{◌+◌, ◌-◌, arith}
use Rattle.volume_log.specs.Sectors.{log_of}
use Rattle.volume_log.proofs.Outcomes.{one_value}
use Rattle.volume_log.proofs.Window.{head_le, head_ge}
use Rattle.volume_log.proofs.Backwards.{back_below}
use Rattle.volume_log.proofs.Outcomes.{accepted}
use Rattle.model.specs.View.{newest}
use Rattle.volume_log.proofs.scanned.Scanned.find.Goals as goal

pub newest-requires : goal.newest-requires
newest-requires g c =
    let a = c.args.self.now in
    let L = a.log.geometry.label in
    let log = log_of (g.D.Device.state a.log.device.now) L in
    let e = one_value c.head.result _ _ c.in_ok-head.was c.head.ensures in
    record { high = omega (arith, e, head_le L log a.greatest (omega arith)); low = omega (arith, e, head_ge L log a.greatest) }

pub ended-requires : goal.ended-requires
ended-requires g c =
    let a = c.args.self.now in
    let L = a.log.geometry.label in
    let log = log_of (g.D.Device.state a.log.device.now) L in
    let h = c.in_ok-head.head in
    let m = a.greatest in
    let n = c.in_ok-newest.newest in
    let e = one_value c.head.result _ _ c.in_ok-head.was c.head.ensures in
    let w = accepted c.newest.result n (newest L log m h) c.newest.ensures c.in_ok-newest.was in
    let b = back_below L log h (m + 1 - L.count) (h - (m + 1 - L.count)) n w in
    omega (arith, e, head_le L log m (omega arith), head_ge L log m)
