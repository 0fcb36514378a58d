use Rattle.std.proofs.Common.{◌≡◌, ◌^◌, ◌<◌}
use Rattle.volume_log.specs.Sectors.{log_of}
use Rattle.volume_log.proofs.Rows.{Each, along}
use Rattle.model.specs.View.{greatest_of}
use Rattle.volume_log.proofs.scanned.Scanned.of.Given as goal

abbrev pub invariant-loop-i : goal.invariant-loop-i
invariant-loop-i g l =
    let s = g.D.Device.state l.log.device.now in
    let L = l.log.geometry.label in
    Each s (along L.start) l.i × (l.greatest ≡ greatest_of L (log_of s L) l.i) × (l.greatest < 2 ^ 53)
