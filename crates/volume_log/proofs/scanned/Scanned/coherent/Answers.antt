use Rattle.std.proofs.Common.{◌+◌, Err, sym, ap, ◌∙◌}
use Rattle.std.proofs.Math.Nat.{mod-eq_of_lt}
use Rattle.model.specs.Refusals.{refusal, by_record}
use Rattle.volume_log.specs.Sectors.{log_of, sector_in_order}
use Rattle.volume_log.proofs.Outcomes.{one_value}
use Rattle.volume_log.proofs.Ordered.{order_goes, order_stops, own_order}
use Rattle.volume_log.proofs.scanned.Scanned.coherent.Goals as goal

pub loop-i-preserved : goal.loop-i-preserved
loop-i-preserved g c =
    let L = c.args.self.now.log.geometry.label in
    let m = c.args.self.now.greatest in
    let i = c.loop-i.i in
    let log = log_of (g.D.Device.state c.args.self.now.log.device.now) L in
    let b = one_value c.sector_at.result _ _ c.sector_at.ensures c.in_ok-sector_at.was in
    order_goes L log m L.count i c.loop-i-test.true (sym (own_order L log m i c.loop-i-test.true) ∙ ap (sector_in_order L m i) b ∙ sym c.in_order.ensures ∙ c.if-not-in_order.false) ∙ c.loop-i.invariant

pub returns-then-not-in_order : goal.returns-then-not-in_order
returns-then-not-in_order g c =
    let L = c.args.self.now.log.geometry.label in
    let m = c.args.self.now.greatest in
    let i = c.loop-i.i in
    let log = log_of (g.D.Device.state c.args.self.now.log.device.now) L in
    let b = one_value c.sector_at.result _ _ c.sector_at.ensures c.in_ok-sector_at.was in
    ap (λ k. Err (refusal 5 by_record k 0)) (c.sector_of-sector.ensures ∙ ap (λ k. L.start + k) (mod-eq_of_lt c.loop-i-test.true))
    ∙ sym (order_stops L log m L.count i c.loop-i-test.true (sym (own_order L log m i c.loop-i-test.true) ∙ ap (sector_in_order L m i) b ∙ sym c.in_order.ensures ∙ c.if-not-in_order.true)) ∙ c.loop-i.invariant
