use Rattle.std.proofs.Common.{◌≡◌, ◌+◌, ◌-◌, ◌*◌, sym, ◌∙◌, arith}
use Rattle.std.proofs.lemmas.Bool.{le-ltb}
use Rattle.item.specs.Items.{regions_of}
use Rattle.item.specs.Whole.{patched}
use Rattle.buffer.proofs.Covered.{covered_in, covered_past}
use Rattle.buffer.proofs.laying.covers.Goals as goal

pub returns-then-k-key : goal.returns-then-k-key
returns-then-k-key c =
    let s = covered_in _ _ (patched (regions_of c.args.item) c.in-Patch.key (sym c.in-Patch.ensures)) _ c.if-k-key.true in
    let e : (4 * c.args.k + 4) - 4 * c.args.k ≡ 4 = omega arith in
    cc

pub returns-else-k-key : goal.returns-else-k-key
returns-else-k-key c = le-ltb _ _ c.if-k-key.false ∙ covered_past _ _ (patched (regions_of c.args.item) c.in-Patch.key (sym c.in-Patch.ensures)) _ c.if-k-key.false
