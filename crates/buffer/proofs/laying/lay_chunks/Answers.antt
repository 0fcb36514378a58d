use Rattle.std.proofs.Common.{ℕ, ◌+◌, ◌*◌, List, get_or, sym, ap, ◌∙◌, arith}
use Rattle.codec.specs.Fields.{joined}
use Rattle.item.specs.Buffer.{cover}
use Rattle.item.specs.Covers.{cover_of}
use Rattle.item.specs.Items.{regions_of}
use Rattle.buffer.specs.Bits.{bits_of}
use Rattle.buffer.proofs.Lays.{small_at, has_room, stepped, turn_set, turn_clear, laid_all, Laid}
use Rattle.buffer.proofs.laying.lay_chunks.Goals as goal
use Rattle.buffer.proofs.laying.lay_chunks.Goals.{then-here, else-here}

pub lay_chunk-requires-clause-room : goal.lay_chunk-requires-clause-room
lay_chunk-requires-clause-room c = has_room _ _ _ c.requires.fits _ _ c.loop-i-test.true c.requires.within _ c.loop-i.invariant.0 _ (sym c.if-here.ensures) c.region.ensures

pub step_past-at-requires-clause-few : goal.step_past-at-requires-clause-few
step_past-at-requires-clause-few c = omega (arith, small_at)

pub step_past-at-requires-clause-near : goal.step_past-at-requires-clause-near
step_past-at-requires-clause-near c = omega (arith, small_at)

pub loop-i-preserved : goal.loop-i-preserved
loop-i-preserved c =
    let fit = c.requires.fits in
    let in_range = c.requires.within in
    let low = c.loop-i-test.true in
    let here = c.loop-i.invariant.0 in
    let before = c.loop-i.invariant.2 in
    let laid : Laid (cover_of (cover (bits_of c.args.map) (joined (regions_of c.args.rest))) c.args.k) c.args.sector.now c.if-here.sector (128 * (c.loop-i.i + 1)) =
    elim c.if-here.branch [
      | then-here w ↦ (λ j. ap (λ (xs : List ℕ). get_or xs j 0) w.sector-is ∙ turn_set _ _ _ fit _ _ low in_range _ here _ _ _ _ (sym w.if-here.ensures) w.region.ensures before w.lay_chunk.ensures.inside w.lay_chunk.ensures.before w.lay_chunk.ensures.behind j)
      | else-here w ↦ turn_clear _ _ _ fit _ _ low in_range _ here _ _ _ (sym w.if-here.ensures) w.sector-is before
    ] in
    (stepped _ (4 * c.args.k + c.loop-i.i) _ _ _ _ (omega arith) here c.bit-here.ensures c.step_past-at.ensures, c.if-here.array_long, laid)

pub returns : goal.returns
returns c = laid_all _ _ _ (128 * c.loop-i.i) (omega arith) (omega arith) c.loop-i.invariant.2
