use Rattle.std.proofs.Common.{◌≡◌, ◌+◌, arith}
use Rattle.std.proofs.lemmas.Result.{err_from_is_err_and}
use Rattle.device.proofs.Turns.{accepted, refused, ended, on_device}
use Rattle.device.proofs.actions.write_each.Goals as goal

pub loop-offset-preserved : goal.loop-offset-preserved
loop-offset-preserved g c =
    let S = g.D.Device.state in
    let i = c.loop-offset.invariant in
    let it = c.loop-offset.offset-iterator in
    let e = c.in-Some.ensures.steps in
    let p = c.in-Some.ensures.goes.on i.1 in
    let w = c.write.ensures in
    let at : c.args.first + c.in-Some.offset ≡ c.args.first + it.count = omega (arith, e.1) in
    let next : c.args.first + c.next.new.self.count ≡ c.args.first + it.count + 1 = omega (arith, e.2) in
    let l = on_device (S c.loop-offset.d) (c.args.first + c.in-Some.offset) c.write.result w.answer c.in_ok-write.was in (
      p.0,
      p.1,
      g.D.Device.joins _ _ _ i.2 w.kept,
      omega (arith, l, at, next, g.D.Device.small c.loop-offset.d),
      λ bs y. accepted g.I.Iterator.next_gives (c.args.first + it.count) (c.args.first + c.in-Some.offset) (c.args.first + c.next.new.self.count) it.iter c.next.new.self.iter c.in-Some.bytes (S c.loop-offset.d) (S c.write.new.self) c.write.result _ (i.4 bs y) e.0 at next w.answer w.after c.in_ok-write.was,
    )

pub returns-in_err-write : goal.returns-in_err-write
returns-in_err-write g c =
    let S = g.D.Device.state in
    let i = c.loop-offset.invariant in
    let it = c.loop-offset.offset-iterator in
    let e = c.in-Some.ensures.steps in
    let w = c.write.ensures in
    let at : c.args.first + c.in-Some.offset ≡ c.args.first + it.count = omega (arith, e.1) in
    let p = err_from_is_err_and c.from_residual.result c.from_residual.ensures.1 in
    record {
      ran = λ bs y. refused g.I.Iterator.next_gives (c.args.first + it.count) (c.args.first + c.in-Some.offset) it.iter c.next.new.self.iter c.in-Some.bytes (S c.loop-offset.d) (S c.write.new.self) c.write.result c.from_residual.result _ p.0 _ (i.4 bs y) e.0 at w.answer w.after c.in_err-write.was p.1 p.2;
      kept = g.D.Device.joins _ _ _ i.2 w.kept;
    }

pub returns : goal.returns
returns g c =
    let i = c.loop-offset.invariant in
    let it = c.loop-offset.offset-iterator in
    record {
      ran = λ bs y. ended g.I.Iterator.next_gives (c.args.first + it.count) it.iter c.next.new.self.iter (g.D.Device.state c.loop-offset.d) _ (i.4 bs y) c.in-None.ensures.steps.0;
      kept = i.2;
    }
