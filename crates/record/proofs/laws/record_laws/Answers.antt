use Rattle.record.proofs.Back.{record_laws}
use Rattle.record.proofs.laws.record_laws.Goals as goal

pub returns-clause-laws : goal.returns-clause-laws
returns-clause-laws c = record_laws
