use Rattle.std.proofs.Common.{◌≤◌, sym, subst, arith}
use Rattle.chain.specs.Standing.{Stands}
use Rattle.chain.proofs.Chained.{stands}
use Rattle.chain.proofs.records.Chain.read_record.Goals as goal

pub returns : goal.returns
returns g c =
    let a = c.args.self.now in
    let s = g.D.Device.state a.log.device.now in
    let L = a.log.geometry.label in
    let some : 1 ≤ L.count = omega arith in
    record {
      read = c.read_at.ensures;
      stands = λ log h m. subst (Stands L log a.end c.args.position c.args.buffer.now) (sym c.read_at.ensures) (stands s L log a.end c.args.position c.args.buffer.now some h m);
    }
