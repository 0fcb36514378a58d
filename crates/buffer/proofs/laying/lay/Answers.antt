use Rattle.std.proofs.Common.{sym}
use Rattle.item.specs.Items.{regions_of}
use Rattle.item.specs.Whole.{patched}
use Rattle.buffer.proofs.Lays.{laid_past}
use Rattle.buffer.proofs.laying.lay.Goals as goal

pub returns-else-k-key : goal.returns-else-k-key
returns-else-k-key c = laid_past _ _ _ _ (patched (regions_of c.args.item) _ (sym c.in-Patch.ensures)) c.if-k-key.false
