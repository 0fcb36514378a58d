use Rattle.std.proofs.Common.{◌∙◌, arith}
use Rattle.volume_log.proofs.Rows.{read_at}
use Rattle.volume_log.proofs.scanned.Scanned.sector_at.Goals as goal

pub returns : goal.returns
returns g c =
    let s = c.args.self.now in
    c.read.ensures ∙ read_at (g.D.Device.state s.log.device.now) s.log.geometry.label c.args.position (omega arith) s.readable
