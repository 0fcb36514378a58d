use Rattle.std.proofs.Common.{◌≡◌, ◌+◌, ◌-◌, ◌<◌, Bool, true, false, Ok, Err, Result, sym, ap, ◌∙◌, arith}
use Rattle.std.proofs.lemmas.Result.{err_from_is_err_and}
use Rattle.model.specs.View.{newest_of, newest}
use Rattle.volume_log.specs.declared.cause.LogFault.{LogFault}
use Rattle.volume_log.specs.Faults.{outcome}
use Rattle.volume_log.specs.Sectors.{log_of}
use Rattle.volume_log.specs.Seeking.{look_at}
use Rattle.volume_log.proofs.Outcomes.{one_value}
use Rattle.volume_log.proofs.Backwards.{after_look, back_step}
use Rattle.volume_log.proofs.scanned.Scanned.newest.Given as given
use Rattle.volume_log.proofs.scanned.Scanned.newest.Goals as goal
use Rattle.volume_log.proofs.scanned.Scanned.newest.Goals.{After-look_at}

-- one step back with the answer v of the look: what is left to find is what is found
step : (g : given.Over) (c : After-look_at g) (v : Result Bool LogFault) → c.look_at.result ≡ v
    → after_look (outcome v) (c.loop-position.position - 1)
    (newest_of c.args.self.now.log.geometry.label (log_of (g.D.Device.state c.args.self.now.log.device.now) c.args.self.now.log.geometry.label) c.args.head (c.args.self.now.greatest + 1 - c.args.self.now.log.geometry.label.count)
    (c.loop-position.position - 1 - (c.args.self.now.greatest + 1 - c.args.self.now.log.geometry.label.count)))
    ≡ newest c.args.self.now.log.geometry.label (log_of (g.D.Device.state c.args.self.now.log.device.now) c.args.self.now.log.geometry.label) c.args.self.now.greatest c.args.head
step g c v k =
    let L = c.args.self.now.log.geometry.label in
    let x = c.loop-position.position in
    let b = one_value c.sector_at.result _ _ c.sector_at.ensures c.in_ok-sector_at.was in
    let low : c.args.self.now.greatest + 1 - L.count < x = omega arith in
    sym (back_step L (log_of (g.D.Device.state c.args.self.now.log.device.now) L) c.args.head (c.args.self.now.greatest + 1 - L.count) x (outcome v) low (ap (look_at L c.args.head (x - 1)) b ∙ sym c.look_at.ensures ∙ ap outcome k))
    ∙ c.loop-position.invariant

pub loop-position-preserved : goal.loop-position-preserved
loop-position-preserved g c = step g (goal.at.loop-position-preserved g c).After-look_at (Ok false) (c.in_ok-look_at.was ∙ ap Ok c.if-branch.false)

pub returns-in_err-look_at : goal.returns-in_err-look_at
returns-in_err-look_at g c =
    let p = err_from_is_err_and c.from_residual-in_err-look_at.result c.from_residual-in_err-look_at.ensures.1 in
    ap outcome (p.1 ∙ ap Err p.2) ∙ step g (goal.at.returns-in_err-look_at g c).After-look_at (Err _) c.in_err-look_at.was

pub returns-then-branch : goal.returns-then-branch
returns-then-branch g c = step g (goal.at.returns-then-branch g c).After-look_at (Ok true) (c.in_ok-look_at.was ∙ ap Ok c.if-branch.true)
