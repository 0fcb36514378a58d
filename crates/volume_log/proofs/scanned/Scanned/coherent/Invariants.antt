use Rattle.std.proofs.Common.{◌≡◌, ◌-◌}
use Rattle.volume_log.specs.Sectors.{log_of}
use Rattle.model.specs.View.{coherent_from}
use Rattle.volume_log.proofs.scanned.Scanned.coherent.Given as goal

abbrev pub invariant-loop-i : goal.invariant-loop-i
invariant-loop-i g l =
    let L = l.self.log.geometry.label in
    let log = log_of (g.D.Device.state l.self.log.device.now) L in
    coherent_from L log l.self.greatest l.i (L.count - l.i) ≡ coherent_from L log l.self.greatest 0 L.count
