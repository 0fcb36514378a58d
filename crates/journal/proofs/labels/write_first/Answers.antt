use Rattle.std.proofs.Common.{sym, ap, ◌∙◌}
use Rattle.device.specs.Actions.{run, writes}
use Rattle.journal.proofs.Clearing.{first_in_a_row}
use Rattle.journal.proofs.labels.write_first.Goals as goal

pub returns : goal.returns
returns g c =
    let L = c.args.geometry.label in
    let s = g.D.Device.state c.args.device.now in
    record {
      ran = ap (λ xs. run xs s) (first_in_a_row L c.args.geometry.least) ∙ ap (λ bs. run (writes L.start bs) s) (sym c.clearing_record-record.ensures) ∙ ap (λ i. run (writes i c.clearing_record-record.result) s) (sym c.start.ensures.value) ∙ c.write_range.ensures.ran;
      kept = c.write_range.ensures.kept;
    }
