use Rattle.std.proofs.Common.{◌≡◌, ◌+◌, ◌*◌, ◌/◌, ◌≤◌, length, take, drop, sym, ap, ◌∙◌, arith, lit≤}
use Rattle.std.proofs.lemmas.Iterator.{YieldsList-from_slice, YieldsList-from_take}
use Rattle.std.proofs.lemmas.Iterator.Consumers.{YieldsList-from_enumerate, YieldsList-turn, YieldsList-end}
use Rattle.std.proofs.lemmas.List.{length_push, take-take}
use Rattle.std.specs.Simd.{first_chunks}
use Rattle.codec.specs.Fields.{put, part}
use Rattle.codec.proofs.Puts.{length_put}
use Rattle.record.specs.Record.{saved_words}
use Rattle.record.proofs.Words.{saved_more}
use Rattle.stored.proofs.Chunks.{length_numbered, numbered_at}
use Rattle.stored.proofs.saved.saved_words.Goals as goal

pub loop-k-preserved : goal.loop-k-preserved
loop-k-preserved c =
    let b = c.args.bytes.now in
    let m = length b / 512 in
    let i = length c.loop-k.yielded in
    let k = c.in-Some.k in
    let s = c.in-Some.sector.now in
    let y = YieldsList-from_enumerate (YieldsList-from_take 64 (YieldsList-from_slice (first_chunks 512 m b) cc) cc) cc in
    let t = numbered_at 64 512 m b i k s (YieldsList-turn y c.loop-k.yielded _ c.loop-k.yielded_by _ _ (k, c.in-Some.sector) c.in-Some.is c.next.ensures.steps) in
    let w : take 4 s ≡ part (512 * i) 4 b = ap (take 4) t.3 ∙ take-take 4 512 (drop (512 * i) b) (lit≤ tt) in
    let h : 512 * (i + 1) ≤ length b = omega (arith, t.1) in
    let l : i + 1 ≤ 64 = omega (arith, t.0) in (
      ap length c.put_bytes.ensures ∙ length_put c.loop-k.saved (4 * k) (take 4 s) ∙ c.loop-k.invariant.0,
      c.put_bytes.ensures ∙ ap (λ x. put x (4 * k) (take 4 s)) c.loop-k.invariant.1 ∙ ap (λ j. put (saved_words i b) (4 * j) (take 4 s)) t.2
          ∙ ap (put (saved_words i b) (4 * i)) w ∙ saved_more i b l h ∙ ap (λ j. saved_words j b) (sym (length_push c.loop-k.yielded (k, c.in-Some.sector))),
    )

pub returns : goal.returns
returns c =
    let b = c.args.bytes.now in
    let m = length b / 512 in
    let y = YieldsList-from_enumerate (YieldsList-from_take 64 (YieldsList-from_slice (first_chunks 512 m b) cc) cc) cc in
    let e = YieldsList-end y c.loop-k.yielded _ c.loop-k.yielded_by _ _ c.in-None.is c.next.ensures.steps in
    c.loop-k.invariant.1 ∙ ap (λ j. saved_words j b) (e.1 ∙ length_numbered 64 512 m b)
