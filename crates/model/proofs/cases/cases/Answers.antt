use Rattle.model.proofs.Worked.{table_holds}
use Rattle.model.proofs.cases.cases.Goals as goal

pub returns-clause-table : goal.returns-clause-table
returns-clause-table c = table_holds
