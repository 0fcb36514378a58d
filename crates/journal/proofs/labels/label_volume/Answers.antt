use Rattle.std.proofs.Common.{Err, sym, ap, ◌∙◌}
use Rattle.std.proofs.lemmas.Result.{err_from_is_err_and}
use Rattle.faults.specs.Refusals.{outcome}
use Rattle.journal.proofs.Acting.{ran}
use Rattle.journal.proofs.Deciding.{left, told, labelled, made_from, within}
use Rattle.journal.proofs.labels.label_volume.Goals as goal

pub returns-in_err-write_label-clause-call : goal.returns-in_err-write_label-clause-call
returns-in_err-write_label-clause-call g c =
    let S = g.D.Device.state in
    let s = S c.args.device.now in
    let e = S c.write_label.new.device in
    let p = err_from_is_err_and c.from_residual-in_err-write_label.result c.from_residual-in_err-write_label.ensures.1 in
    let w = within c.geometry_of.result c.in_ok-geometry.geometry _ c.args.label c.size-size.result s.size c.size-size.ensures c.geometry_of.ensures (sym c.ok_or.ensures.value ∙ c.in_ok-geometry.was) in
    labelled s e c.args.label c.in_ok-geometry.geometry.label c.write_label.result w.0 w.1 c.write_label.ensures.ran
    ∙ ap (λ r. left (told r) e) c.in_err-write_label.was ∙ ap (λ f. left (outcome (Err f)) e) (sym p.2) ∙ ap (λ r. left (outcome r) e) (sym p.1)

pub returns-clause-call : goal.returns-clause-call
returns-clause-call g c =
    let S = g.D.Device.state in
    let s = S c.args.device.now in
    let e = S c.write_label.new.device in
    let w = within c.geometry_of.result c.in_ok-geometry.geometry _ c.args.label c.size-size.result s.size c.size-size.ensures c.geometry_of.ensures (sym c.ok_or.ensures.value ∙ c.in_ok-geometry.was) in
    labelled s e c.args.label c.in_ok-geometry.geometry.label c.write_label.result w.0 w.1 c.write_label.ensures.ran ∙ ap (λ r. left (told r) e) c.in_ok-write_label.was

pub returns-clause-made : goal.returns-clause-made
returns-clause-made g c =
    let S = g.D.Device.state in
    let s = S c.args.device.now in
    let e = S c.write_label.new.device in
    let w = within c.geometry_of.result c.in_ok-geometry.geometry _ c.args.label c.size-size.result s.size c.size-size.ensures c.geometry_of.ensures (sym c.ok_or.ensures.value ∙ c.in_ok-geometry.was) in
    λ _. made_from s e c.args.label c.in_ok-geometry.geometry.label w.0 w.1 (g.D.Device.sized c.args.device.now) (c.write_label.ensures.ran ∙ ap (λ r. ran r e) c.in_ok-write_label.was)
