use Rattle.std.proofs.Common.{◌≤◌, Err, sym, refl, ap, ◌∙◌, arith}
use Rattle.std.proofs.lemmas.Result.{err_from_is_err_and}
use Rattle.volume_log.specs.Faults.{meaning}
use Rattle.volume_log.proofs.Outcomes.{refused, accepted}
use Rattle.chain.specs.Records.{due_answer}
use Rattle.chain.proofs.Heads.{refused_on, found_on}
use Rattle.chain.proofs.records.Chain.due_header.Goals as goal

pub returns-in_err-header-clause-found : goal.returns-in_err-header-clause-found
returns-in_err-header-clause-found g c =
    let a = c.args.self.now in
    let L = a.log.geometry.label in
    let b = c.in_ok-sector.sector in
    let m : L.most ≤ c.args.room = omega arith in
    let p = err_from_is_err_and c.from_residual-in_err-header.result c.from_residual-in_err-header.ensures.1 in
    let q = refused c.header_due.result _ (due_answer L a.end c.args.position b) c.header_due.ensures.answer c.in_err-header.was in
    rw p.1 (refused_on (g.D.Device.state a.log.device.now) L a.end c.args.position c.args.room b _ m (sym c.read.ensures ∙ c.in_ok-sector.was) q ∙ ap (λ f. Err (meaning f)) (sym p.2))

pub invariant_of-result : goal.invariant_of-result
invariant_of-result g c =
    let a = c.args.self.now in
    let L = a.log.geometry.label in
    let b = c.in_ok-sector.sector in
    let m : L.most ≤ c.args.room = omega arith in
    let h = c.in_ok-header.header in
    let q = accepted c.header_due.result h (due_answer L a.end c.args.position b) c.header_due.ensures.answer c.in_ok-header.was in
    let f = found_on (g.D.Device.state a.log.device.now) L a.end c.args.position c.args.room b h m (sym c.read.ensures ∙ c.in_ok-sector.was) q in
    let e = ap (λ k. k.length) f.1 in
    record { tells = f.1; whole = omega (arith, e, f.2.whole); most = omega (arith, e, f.2.most); fits = c.in_ok-header.ensures.fits }

pub returns : goal.returns
returns g c =
    let a = c.args.self.now in
    let L = a.log.geometry.label in
    let b = c.in_ok-sector.sector in
    let m : L.most ≤ c.args.room = omega arith in
    let h = c.in_ok-header.header in
    let q = accepted c.header_due.result h (due_answer L a.end c.args.position b) c.header_due.ensures.answer c.in_ok-header.was in
    let f = found_on (g.D.Device.state a.log.device.now) L a.end c.args.position c.args.room b h m (sym c.read.ensures ∙ c.in_ok-sector.was) q in
    let e = ap (λ k. k.length) f.1 in
    record { found = f.0; place = refl; room = omega (arith, e, f.2.most, f.2.room_for) }
