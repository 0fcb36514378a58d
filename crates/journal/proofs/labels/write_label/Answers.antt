use Rattle.std.proofs.Common.{[], ◌∷◌, ◌++◌, ◌∙◌}
use Rattle.std.proofs.lemmas.Result.{err_from_is_err_and}
use Rattle.device.specs.Actions.{force, zero_writes}
use Rattle.model.specs.Calls.{first_writes}
use Rattle.journal.proofs.Acting.{goes_on, ends_there}
use Rattle.journal.proofs.Labelling.{begun, zeroed}
use Rattle.journal.proofs.labels.write_label.Goals as goal

pub returns-in_err-write_zeros-clause-ran : goal.returns-in_err-write_zeros-clause-ran
returns-in_err-write_zeros-clause-ran g c =
    let L = c.args.geometry.label in
    let S = g.D.Device.state in
    let z = zeroed L c.start.result c.count.result (S c.write.new.self) _ c.start.ensures.value c.count.ensures c.write_zeros.ensures.ran in
    let p = err_from_is_err_and c.from_residual-in_err-write_zeros.result c.from_residual-in_err-write_zeros.ensures.1 in
    begun L c.from.result (S c.args.device.now) (S c.write.new.self) c.write.result c.from.ensures c.write.ensures.answer c.write.ensures.after c.in_ok-write.was
    ∙ ends_there (zero_writes L.start L.count) (first_writes L ++ (force ∷ [])) (S c.write.new.self) (S c.write_zeros.new.d) c.write_zeros.result c.from_residual-in_err-write_zeros.result _ p.0 z c.in_err-write_zeros.was p.1 p.2

pub returns-in_err-write_first : goal.returns-in_err-write_first
returns-in_err-write_first g c =
    let L = c.args.geometry.label in
    let S = g.D.Device.state in
    let z = zeroed L c.start.result c.count.result (S c.write.new.self) _ c.start.ensures.value c.count.ensures c.write_zeros.ensures.ran in
    let p = err_from_is_err_and c.from_residual-in_err-write_first.result c.from_residual-in_err-write_first.ensures.1 in
    record {
      ran = begun L c.from.result (S c.args.device.now) (S c.write.new.self) c.write.result c.from.ensures c.write.ensures.answer c.write.ensures.after c.in_ok-write.was
          ∙ goes_on (zero_writes L.start L.count) (first_writes L ++ (force ∷ [])) (S c.write.new.self) (S c.write_zeros.new.d) c.write_zeros.result z c.in_ok-write_zeros.was
          ∙ ends_there (first_writes L) (force ∷ []) (S c.write_zeros.new.d) (S c.write_first.new.device) c.write_first.result c.from_residual-in_err-write_first.result _ p.0 c.write_first.ensures.ran c.in_err-write_first.was p.1 p.2;
      kept = g.D.Device.joins _ _ _ (g.D.Device.joins _ _ _ c.write.ensures.kept c.write_zeros.ensures.kept) c.write_first.ensures.kept;
    }

pub returns : goal.returns
returns g c =
    let L = c.args.geometry.label in
    let S = g.D.Device.state in
    let z = zeroed L c.start.result c.count.result (S c.write.new.self) _ c.start.ensures.value c.count.ensures c.write_zeros.ensures.ran in
    record {
      ran = begun L c.from.result (S c.args.device.now) (S c.write.new.self) c.write.result c.from.ensures c.write.ensures.answer c.write.ensures.after c.in_ok-write.was
          ∙ goes_on (zero_writes L.start L.count) (first_writes L ++ (force ∷ [])) (S c.write.new.self) (S c.write_zeros.new.d) c.write_zeros.result z c.in_ok-write_zeros.was
          ∙ goes_on (first_writes L) (force ∷ []) (S c.write_zeros.new.d) (S c.write_first.new.device) c.write_first.result c.write_first.ensures.ran c.in_ok-write_first.was
          ∙ c.settle.ensures.ran;
      kept = g.D.Device.joins _ _ _ (g.D.Device.joins _ _ _ (g.D.Device.joins _ _ _ c.write.ensures.kept c.write_zeros.ensures.kept) c.write_first.ensures.kept) c.settle.ensures.kept;
    }
