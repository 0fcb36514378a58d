use Rattle.std.proofs.Common.{◌≡◌, ◌+◌, ◌-◌}
use Rattle.volume_log.specs.Sectors.{log_of}
use Rattle.model.specs.View.{newest_of, newest}
use Rattle.volume_log.proofs.scanned.Scanned.newest.Given as goal

abbrev pub invariant-loop-position : goal.invariant-loop-position
invariant-loop-position g l =
    let L = l.self.log.geometry.label in
    let log = log_of (g.D.Device.state l.self.log.device.now) L in
    let low = l.self.greatest + 1 - L.count in
    newest_of L log l.head low (l.position - low) ≡ newest L log l.self.greatest l.head
