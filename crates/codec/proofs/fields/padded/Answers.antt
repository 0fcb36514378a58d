use Rattle.std.proofs.Common.{rules, ◌∙◌, length-set}
use Rattle.codec.proofs.Padding.{one_more}
use Rattle.codec.proofs.fields.padded.Goals as goal

pub loop-k-preserved : goal.loop-k-preserved
loop-k-preserved g c =
    let long = c.loop-k.invariant.0 in
    (length-set c.loop-k.whole c.loop-k.k c.byte.result ∙ long, one_more c.loop-k.whole c.args.bytes.now c.loop-k.k c.byte.result (search rules) c.byte.ensures c.loop-k.invariant.1)
