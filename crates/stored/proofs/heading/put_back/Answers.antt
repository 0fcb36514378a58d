use mathlib.Core.Path.{◌≡◌, ap, ◌∙◌}
use native.Mathlib.Omega.{arith}
use lib.ListN.{length}
use Rattle.codec.specs.Fields.{put, be32_bytes}
use Rattle.stored.proofs.Filled.{header_filled}
use Rattle.stored.proofs.heading.put_back.Goals as goal

pub returns : goal.returns
returns c =
    let h = c.args.header.now in
    let u : length h.uuid ≡ 16 = omega arith in
    let n : length c.args.saved.now ≡ 256 = omega arith in
    c.put_be-2.ensures ∙ ap (λ b. put b 320 (be32_bytes h.most))
    (c.put_bytes-2.ensures ∙ ap (λ b. put b 304 h.uuid)
    (c.put_be.ensures ∙ ap (λ b. put b 300 (be32_bytes h.format)) c.put_bytes.ensures))
    ∙ header_filled h c.args.saved.now c.args.b.now n u c.requires
