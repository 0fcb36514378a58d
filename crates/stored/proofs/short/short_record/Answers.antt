use Rattle.std.proofs.Common.{List, ℕ, ◌+◌, [], ◌∷◌, ap, ◌∙◌}
use Rattle.record.specs.Record.{whole_sectors, saved_words, stored, header_at, sealed}
use Rattle.label.specs.Position.{position}
use Rattle.stored.proofs.short.short_record.Goals as goal

pub returns : goal.returns
returns c =
    let a = c.args in
    let L = a.geometry.label in
    let h = header_at L a.own a.tail a.previous a.ops 1 in
    let s = stored L (position L a.own.0 a.own.1 + 1) (whole_sectors a.bytes) a.bytes in
    let w = saved_words (whole_sectors a.bytes) a.bytes in
    let e = c.sealed.ensures
    ∙ ap (λ k. sealed k c.pack-saved.result c.pack-saved.new.bytes) c.header_at-header.ensures
    ∙ ap (λ k. sealed h k c.pack-saved.new.bytes) c.pack-saved.ensures.saved
    ∙ ap (λ k. sealed h w k) c.pack-saved.ensures.after in
    ap (λ (k : List ℕ). k ∷ (c.pack-saved.new.bytes ∷ [])) e ∙ ap (λ (k : List ℕ). sealed h w s ∷ (k ∷ [])) c.pack-saved.ensures.after
