-- The fields one after the other, then zeros.
use Rattle.std.proofs.Common.{◌≡◌, ◌++◌, length, refl, ap, ◌∙◌, arith}
use Rattle.codec.specs.Fields.{put, be32_bytes}
use Rattle.codec.proofs.Puts.{fill_at}
use Rattle.label.proofs.labelling.ArrayU8512FromLabel.from.Goals as goal

pub returns : goal.returns
returns c =
    let l = c.args.label in
    let front = be32_bytes l.start ++ be32_bytes l.count ++ be32_bytes l.window ++ be32_bytes l.most in
    let n : length l.uuid ≡ 16 = omega arith in
    c.put_bytes.ensures ∙ ap (λ x. put x 16 l.uuid)
    (c.put_be-4.ensures ∙ ap (λ x. put x 12 (be32_bytes l.most))
    (c.put_be-3.ensures ∙ ap (λ x. put x 8 (be32_bytes l.window))
    (c.put_be-2.ensures ∙ ap (λ x. put x 4 (be32_bytes l.count)) c.put_be.ensures)))
    ∙ fill_at front l.uuid 16 496 480 refl (omega arith)
