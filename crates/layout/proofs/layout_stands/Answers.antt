-- The laws of the layout, for the contract of layout_stands.
use Rattle.layout.proofs.Laws.{layout_stands}
use Rattle.layout.proofs.layout_stands.Goals as goal

pub returns : goal.returns
returns c = layout_stands
