use Rattle.std.proofs.Common.{◌++◌, drop, Ok, Err, sym, ap, ◌∙◌}
use Rattle.std.proofs.lemmas.Result.{err_from_is_err_and}
use Rattle.volume_log.specs.Faults.{meaning, outcome}
use Rattle.volume_log.proofs.Outcomes.{refused, accepted}
use Rattle.model.specs.Refusals.{◌>>=◌}
use Rattle.record.specs.Record.{header_of}
use Rattle.chain.specs.Records.{left, sum_answer, restored_data}
use Rattle.chain.proofs.Whole.{Asked, no_data, all_data}
use Rattle.chain.proofs.records.Chain.read_at.Given as given
use Rattle.chain.proofs.records.Chain.read_at.Goals as goal
use Rattle.chain.proofs.records.Chain.read_at.Goals.{After-read_row}

-- what is known once the data sectors were asked for
asked : (g : given.Over) (c : After-read_row g)
    → Asked (g.D.Device.state c.args.self.now.log.device.now) c.args.self.now.log.geometry.label c.args.self.now.end c.args.position c.args.buffer.now c.in_ok-due.due.sector c.in_ok-due.due.header c.read_row.result c.read_row.new.buffer
asked g c = record {
  due = c.in_ok-due.ensures.found;
  whole = c.in_ok-due.due.whole;
  room = c.in_ok-due.ensures.room;
  answer = c.read_row.ensures.answer;
  laid = c.read_row.ensures.buffer;
  all = c.read_row.ensures.whole;
}

pub returns-in_err-read_row : goal.returns-in_err-read_row
returns-in_err-read_row g c =
    let a = c.args.self.now in
    let L = a.log.geometry.label in
    let old = c.args.buffer.now in
    let due = c.in_ok-due.due in
    let p = err_from_is_err_and c.from_residual-in_err-read_row.result c.from_residual-in_err-read_row.ensures.1 in
    let w = no_data (g.D.Device.state a.log.device.now) L a.end c.args.position old due.sector due.header c.read_row.result _ c.read_row.new.buffer due.tells (asked g (goal.at.returns-in_err-read_row g c).After-read_row) c.in_err-read_row.was in
    ap (λ r. left (outcome r) (c.read_row.new.buffer ++ drop due.header.length old)) (p.1 ∙ ap Err p.2) ∙ sym w

pub returns-in_err-restore : goal.returns-in_err-restore
returns-in_err-restore g c =
    let a = c.args.self.now in
    let L = a.log.geometry.label in
    let old = c.args.buffer.now in
    let due = c.in_ok-due.due in
    let b = due.sector in
    let stored = c.read_row.new.buffer in
    let rest = drop due.header.length old in
    let p = err_from_is_err_and c.from_residual-in_err-restore.result c.from_residual-in_err-restore.ensures.1 in
    let q = refused c.restore.result _ (sum_answer L c.args.position b stored) (c.restore.ensures.answer ∙ ap (λ i. sum_answer L i b stored) c.in_ok-due.ensures.place) c.in_err-restore.was in
    let w = all_data (g.D.Device.state a.log.device.now) L a.end c.args.position old b due.header c.read_row.result stored due.tells (asked g (goal.at.returns-in_err-restore g c).After-read_row) c.in_ok-read_row.was in
    ap (λ r. left (outcome r) (c.restore.new.stored ++ rest)) (p.1 ∙ ap Err p.2) ∙ ap (λ y. left (Err (meaning c.in_err-restore.field-0.0)) (y ++ rest)) c.restore.ensures.buffer
    ∙ ap (λ y. left (y >>= λ _. Ok (header_of b)) (restored_data b stored ++ rest)) (sym q) ∙ sym w

pub returns : goal.returns
returns g c =
    let a = c.args.self.now in
    let L = a.log.geometry.label in
    let old = c.args.buffer.now in
    let due = c.in_ok-due.due in
    let b = due.sector in
    let stored = c.read_row.new.buffer in
    let rest = drop due.header.length old in
    let q = accepted c.restore.result tt (sum_answer L c.args.position b stored) (c.restore.ensures.answer ∙ ap (λ i. sum_answer L i b stored) c.in_ok-due.ensures.place) c.in_ok-restore.was in
    let w = all_data (g.D.Device.state a.log.device.now) L a.end c.args.position old b due.header c.read_row.result stored due.tells (asked g (goal.at.returns g c).After-read_row) c.in_ok-read_row.was in
    ap (λ h. left (Ok h) (c.restore.new.stored ++ rest)) due.tells ∙ ap (λ y. left (Ok (header_of b)) (y ++ rest)) c.restore.ensures.buffer
    ∙ ap (λ y. left (y >>= λ _. Ok (header_of b)) (restored_data b stored ++ rest)) (sym q) ∙ sym w
