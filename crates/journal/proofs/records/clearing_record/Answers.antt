use Rattle.std.proofs.Common.{◌∙◌}
use Rattle.journal.proofs.Clearing.{cleared}
use Rattle.journal.proofs.records.clearing_record.Goals as goal

pub returns : goal.returns
returns c =
    c.short_record.ensures ∙ cleared c.args.geometry.label c.args.place c.args.previous c.clearing_data.result c.requires c.clearing_data.ensures
