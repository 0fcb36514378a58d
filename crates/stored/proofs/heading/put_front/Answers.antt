use mathlib.Core.Path.{ap, ◌∙◌}
use Rattle.codec.specs.Fields.{put, be32_bytes, le32_bytes}
use Rattle.stored.proofs.Filled.{front_filled}
use Rattle.stored.proofs.heading.put_front.Goals as goal

pub returns : goal.returns
returns c =
    let h = c.args.header.now in
    (c.put_be-10.ensures ∙ ap (λ b. put b 40 (be32_bytes h.ops))
    (c.put_be-9.ensures ∙ ap (λ b. put b 36 (be32_bytes h.previous))
    (c.put_le.ensures ∙ ap (λ b. put b 32 (le32_bytes h.sum))
    (c.put_be-8.ensures ∙ ap (λ b. put b 28 (be32_bytes h.tail.1))
    (c.put_be-7.ensures ∙ ap (λ b. put b 24 (be32_bytes h.tail.0))
    (c.put_be-6.ensures ∙ ap (λ b. put b 20 (be32_bytes h.own.1))
    (c.put_be-5.ensures ∙ ap (λ b. put b 16 (be32_bytes h.own.0))
    (c.put_be-4.ensures ∙ ap (λ b. put b 12 (be32_bytes h.length))
    (c.put_be-3.ensures ∙ ap (λ b. put b 8 (be32_bytes h.version))
    (c.put_be-2.ensures ∙ ap (λ b. put b 4 (be32_bytes h.cycle))
    c.put_be.ensures))))))))))
    ∙ front_filled h c.args.b.now c.requires
