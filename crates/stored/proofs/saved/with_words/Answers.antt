use Rattle.std.proofs.Common.{◌≡◌, ◌+◌, ◌*◌, ◌/◌, ◌≤◌, length, sym, ap, ◌∙◌, arith}
use Rattle.std.proofs.lemmas.Iterator.{YieldsList-from_slice, YieldsList-from_take}
use Rattle.std.proofs.lemmas.Iterator.Consumers.{YieldsList-from_enumerate, YieldsList-turn, YieldsList-end}
use Rattle.std.proofs.lemmas.List.{length_push}
use Rattle.std.specs.Simd.{first_chunks}
use Rattle.codec.specs.Fields.{put}
use Rattle.std.proofs.Common.{min}
use Rattle.record.specs.Record.{with_words}
use Rattle.record.proofs.Words.{word_more}
use Rattle.stored.proofs.Chunks.{length_numbered, numbered_at}
use Rattle.stored.proofs.saved.with_words.Goals as goal

pub loop-k-preserved : goal.loop-k-preserved
loop-k-preserved c =
    let w = c.args.words.now in
    let b = c.args.bytes.now in
    let q = c.whole_sectors-sectors.result in
    let m = length w / 4 in
    let i = length c.loop-k.yielded in
    let k = c.in-Some.k in
    let s = c.in-Some.word.now in
    let y = YieldsList-from_enumerate (YieldsList-from_take q (YieldsList-from_slice (first_chunks 4 m w) cc) cc) cc in
    let t = numbered_at q 4 m w i k s (YieldsList-turn y c.loop-k.yielded _ c.loop-k.yielded_by _ _ (k, c.in-Some.word) c.in-Some.is c.next.ensures.steps) in
    let h : 512 * (i + 1) ≤ length b = omega (arith, t.0, c.whole_sectors-sectors.ensures) in
    let l : 4 * (i + 1) ≤ length w = omega (arith, t.1) in
    c.put_bytes.ensures ∙ ap (λ x. put x (512 * k) s) c.loop-k.invariant ∙ ap (λ j. put (with_words i w b) (512 * j) s) t.2
    ∙ ap (put (with_words i w b) (512 * i)) t.3 ∙ word_more i w b h l ∙ ap (λ j. with_words j w b) (sym (length_push c.loop-k.yielded (k, c.in-Some.word)))

pub returns : goal.returns
returns c =
    let w = c.args.words.now in
    let b = c.args.bytes.now in
    let q = c.whole_sectors-sectors.result in
    let m = length w / 4 in
    let y = YieldsList-from_enumerate (YieldsList-from_take q (YieldsList-from_slice (first_chunks 4 m w) cc) cc) cc in
    let e = YieldsList-end y c.loop-k.yielded _ c.loop-k.yielded_by _ _ c.in-None.is c.next.ensures.steps in
    let n : length c.loop-k.yielded ≡ min 64 (length b / 512) = omega (arith, e.1, length_numbered q 4 m w, c.whole_sectors-sectors.ensures) in
    c.loop-k.invariant ∙ ap (λ j. with_words j w b) n
