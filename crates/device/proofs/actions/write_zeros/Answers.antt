use Rattle.std.proofs.Common.{rules}
use Rattle.device.proofs.Turns.{repeated}
use Rattle.device.proofs.actions.write_zeros.Goals as goal

pub returns-clause-ran : goal.returns-clause-ran
returns-clause-ran g c = c.write_each.ensures.ran _ (repeated c.args.count _ c.repeat_n.result (search rules) c.repeat_n.ensures.item)
