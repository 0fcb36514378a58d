use Rattle.std.proofs.Common.{◌≡◌, ◌+◌, ◌-◌}
use Rattle.volume_log.specs.Sectors.{log_of}
use Rattle.model.specs.View.{first_free}
use Rattle.volume_log.proofs.scanned.Scanned.first_free.Given as goal

abbrev pub invariant-loop-position : goal.invariant-loop-position
invariant-loop-position g l =
    let L = l.self.log.geometry.label in
    let log = log_of (g.D.Device.state l.self.log.device.now) L in
    first_free L log l.position (l.first + l.n - l.position) ≡ first_free L log l.first l.n
