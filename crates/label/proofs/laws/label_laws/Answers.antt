use Rattle.label.proofs.Back.{label_laws}
use Rattle.label.proofs.laws.label_laws.Goals as goal

pub returns : goal.returns
returns c = label_laws
