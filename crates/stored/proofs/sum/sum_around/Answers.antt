use mathlib.Core.Path.{ap, ◌∙◌}
use lib.Bits.{bit_xor}
use Rattle.codec.specs.Fields.{zeros}
use Rattle.crc.specs.Crc.{crc_of}
use Rattle.stored.proofs.Summed.{four_parts}
use Rattle.stored.proofs.sum.sum_around.Goals as goal

pub returns : goal.returns
returns c =
    let a = c.args.before.now in
    let b = c.args.after.now in
    let d = c.args.stored.now in
    c.finish.ensures ∙ ap (λ s. bit_xor s 4294967295)
    (c.update-4.ensures ∙ ap (λ s. crc_of s d)
    (c.update-3.ensures ∙ ap (λ s. crc_of s b)
    (c.update-2.ensures ∙ ap (λ s. crc_of s (zeros 4))
    (c.update.ensures ∙ ap (λ s. crc_of s a) c.new-sum.ensures)))
    ∙ four_parts 4294967295 a (zeros 4) b d)
