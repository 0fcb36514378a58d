use Rattle.std.proofs.Common.{◌≡◌, true, false, Ok, sym, ap, ◌∙◌}
use Rattle.model.specs.View.{held}
use Rattle.volume_log.specs.Sectors.{log_of}
use Rattle.volume_log.proofs.Outcomes.{one_value}
use Rattle.volume_log.proofs.Window.{free_goes, free_here}
use Rattle.volume_log.proofs.scanned.Scanned.first_free.Goals as goal

pub loop-position-preserved : goal.loop-position-preserved
loop-position-preserved g c =
    let L = c.args.self.now.log.geometry.label in
    let log = log_of (g.D.Device.state c.args.self.now.log.device.now) L in
    let h : held L log c.loop-position.position ≡ true = one_value c.holds.result _ _ c.holds.ensures c.in_ok-holds.was ∙ c.if-not-branch.false in
    free_goes L log _ c.loop-position.position c.loop-position-test.true h ∙ c.loop-position.invariant

pub returns-then-not-branch : goal.returns-then-not-branch
returns-then-not-branch g c =
    let L = c.args.self.now.log.geometry.label in
    let log = log_of (g.D.Device.state c.args.self.now.log.device.now) L in
    let h : held L log c.loop-position.position ≡ false = one_value c.holds.result _ _ c.holds.ensures c.in_ok-holds.was ∙ c.if-not-branch.true in
    ap Ok (sym (free_here L log _ c.loop-position.position c.loop-position-test.true h) ∙ c.loop-position.invariant)
