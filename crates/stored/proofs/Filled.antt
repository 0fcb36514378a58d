-- A sector filled from its front. Assumes nothing.
use mathlib.Core.Path.{◌≡◌, refl, ap, ◌∙◌}
use mathlib.Core.List.{List, ◌++◌, append_assoc}
use Prim.Native.Nat.{ℕ}
use native.Mathlib.Omega.{arith}
use lib.ListN.{length, length-append}
use Rattle.codec.proofs.Puts.{fill_at}
use Rattle.codec.specs.Fields.{put, be32_bytes, le32_bytes, zeros}
use Rattle.record.specs.Record.{header_front, header_bytes}
use Rattle.record.specs.declared.header.RecordHeader.{RecordHeader}

-- eleven fields, one after the other, into zeros
pub front_filled : (h : RecordHeader) (b : List ℕ) → b ≡ zeros 512 →
    put (put (put (put (put (put (put (put (put (put (put b 0 (be32_bytes 0xFEEDBABE)) 4 (be32_bytes h.cycle)) 8 (be32_bytes h.version)) 12 (be32_bytes h.length))
    16 (be32_bytes h.own.0)) 20 (be32_bytes h.own.1)) 24 (be32_bytes h.tail.0)) 28 (be32_bytes h.tail.1)) 32 (le32_bytes h.sum)) 36 (be32_bytes h.previous))
    40 (be32_bytes h.ops)
    ≡ header_front h ++ zeros 468
front_filled h b e = rw e

regrouped : (a b c d e f : List ℕ) → ((((a ++ b) ++ c) ++ d) ++ e) ++ f ≡ a ++ (b ++ (c ++ (d ++ (e ++ f))))
regrouped a b c d e f = simp append_assoc

-- the saved words and the fields behind them, after the front
pub header_filled : (h : RecordHeader) (saved b : List ℕ) → length saved ≡ 256 → length h.uuid ≡ 16 → b ≡ header_front h ++ zeros 468 →
    put (put (put (put b 44 saved) 300 (be32_bytes h.format)) 304 h.uuid) 320 (be32_bytes h.most) ≡ header_bytes h saved
header_filled h saved b n u e =
    let a = header_front h in
    let f = be32_bytes h.format in
    let m = be32_bytes h.most in
    let l₁ : length (a ++ saved) ≡ 300 = omega (arith, length-append a saved) in
    let l₂ : length ((a ++ saved) ++ f) ≡ 304 = omega (arith, length-append (a ++ saved) f) in
    let l₃ : length (((a ++ saved) ++ f) ++ h.uuid) ≡ 320 = omega (arith, length-append ((a ++ saved) ++ f) h.uuid) in
    ap (λ x. put (put (put (put x 44 saved) 300 f) 304 h.uuid) 320 m) e
    ∙ ap (λ x. put (put (put x 300 f) 304 h.uuid) 320 m) (fill_at a saved 44 468 212 refl (omega arith))
    ∙ ap (λ x. put (put x 304 h.uuid) 320 m) (fill_at (a ++ saved) f 300 212 208 l₁ refl)
    ∙ ap (λ x. put x 320 m) (fill_at ((a ++ saved) ++ f) h.uuid 304 208 192 l₂ (omega arith))
    ∙ fill_at (((a ++ saved) ++ f) ++ h.uuid) m 320 192 188 l₃ refl
    ∙ regrouped a saved f h.uuid m (zeros 188)
