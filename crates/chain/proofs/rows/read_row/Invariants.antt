use Rattle.std.proofs.Common.{◌≡◌, ◌*◌, length}
use Rattle.codec.specs.Fields.{joined}
use Rattle.chain.specs.Rows.{row, over}
use Rattle.volume_log.proofs.Rows.{Each}
use Rattle.chain.proofs.Positions.{along}
use Rattle.chain.proofs.rows.read_row.Given as goal

abbrev pub invariant-loop-k : goal.invariant-loop-k
invariant-loop-k g l =
    let s = g.D.Device.state l.log.device.now in
    let L = l.log.geometry.label in
    Each s (along L l.first) l.k × (l.buffer ≡ over l.k (joined (row s L l.first l.k)) l.initial.buffer) × (length (joined (row s L l.first l.k)) ≡ 512 * l.k)
