use Rattle.std.proofs.Common.{◌≡◌, ◌+◌, ◌*◌, ◌^◌, ◌<◌, ap, ◌∙◌, arith}
use Rattle.std.proofs.lemmas.Nat.{mul-add-lt}
use Rattle.std.proofs.lemmas.Result.{err_from_is_err_and}
use Rattle.label.specs.Position.{position}
use Rattle.volume_log.proofs.Rows.{along, read_own, reads_stop, each_more, greatest_more, greatest_all, greatest_least}
use Rattle.volume_log.specs.Sectors.{log_of}
use Rattle.volume_log.proofs.scanned.Scanned.of.Goals as goal

pub loop-i-preserved : goal.loop-i-preserved
loop-i-preserved g c =
    let s = g.D.Device.state c.args.log.device.now in
    let L = c.args.log.geometry.label in
    let i = c.loop-i.i in
    let b = c.in_ok-sector.sector in
    let e = read_own s L i c.read.result _ c.loop-i-test.true c.read.ensures c.in_ok-sector.was in
    let small : c.held_cycle.result * L.count + i < L.count * 2 ^ 32 = mul-add-lt c.held_cycle.result L.count i (2 ^ 32) c.held_cycle.type_inv c.loop-i-test.true in
    let held = c.join.ensures ∙ ap (λ x. position L x i) c.held_cycle.ensures in
    (each_more s (along L.start) i b c.loop-i.invariant.0 e, greatest_more s L i c.loop-i.greatest _ _ b c.loop-i-test.true e c.loop-i.invariant.1 held c.max-greatest.ensures, omega (arith, c.join.ensures, c.max-greatest.ensures))

pub returns-in_err-sector : goal.returns-in_err-sector
returns-in_err-sector g c =
    let s = g.D.Device.state c.args.log.device.now in
    let L = c.args.log.geometry.label in
    let p = err_from_is_err_and c.from_residual.result c.from_residual.ensures.1 in
    let e = read_own s L c.loop-i.i c.read.result _ c.loop-i-test.true c.read.ensures c.in_err-sector.was in
    rw (p.1, p.2) (reads_stop s L.start L.count c.loop-i.i _ c.loop-i-test.true c.loop-i.invariant.0 e)

pub invariant_of-result : goal.invariant_of-result
invariant_of-result g c =
    let s = g.D.Device.state c.args.log.device.now in
    let L = c.args.log.geometry.label in
    let i : c.loop-i.i ≡ L.count = omega arith in
    let p = greatest_all s L c.loop-i.i c.loop-i.greatest i c.loop-i.invariant.0 c.loop-i.invariant.1 in
    record { readable = p.0; is = p.1; least = omega (arith, p.1, greatest_least L (log_of s L) (omega arith)); small = c.loop-i.invariant.2 }
