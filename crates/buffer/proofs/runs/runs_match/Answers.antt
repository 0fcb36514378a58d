use Rattle.std.proofs.Common.{◌≡◌, ◌+◌, ◌-◌, true, false, drop, sym, ◌∙◌, arith}
use Rattle.item.specs.Items.{regions_of}
use Rattle.buffer.proofs.Matching.{left_none, left_end, data_length, turn}
use Rattle.buffer.proofs.runs.runs_match.Goals as goal
use Rattle.buffer.proofs.runs.runs_match.Goals.{then-first-map-via-then-first-map, then-first-map-via-else-first-map+then-not-is_run}

pub returns-then-first-map : goal.returns-then-first-map
returns-then-first-map c =
    let m = data_length c.args.item.bytes.now c.args.item.places.now in
    let first = c.first-first.ensures in
    elim c.then-first-map.branch [
      | then-first-map-via-then-first-map w ↦ sym (left_none _ _ (drop 1 (regions_of c.args.item)) (c.loop-i.i - 1) _ _ first w.if-first-map.true (omega arith)) ∙ c.loop-i.invariant.1
      | then-first-map-via-else-first-map+then-not-is_run w ↦ sym (turn _ _ _ _ c.loop-i.i _ _ _ false first (omega (arith, first.1)) c.first-end.ensures (omega arith) c.loop-i-test.true w.if-not-is_run.ensures) ∙ c.loop-i.invariant.1
    ]

pub loop-i-preserved : goal.loop-i-preserved
loop-i-preserved c =
    let first = c.first-first.ensures in
    let t = turn _ _ c.args.item.bytes.now c.args.item.places.now _ _ _ _ true first (omega (arith, first.1)) c.first-end.ensures (omega arith) c.loop-i-test.true c.if-not-is_run.ensures in
    let j : (c.loop-i.i + 1) - 1 ≡ c.loop-i.i = omega arith in
    (c.first-end.ensures.1, rw j (sym t ∙ c.loop-i.invariant.1))

pub returns : goal.returns
returns c =
    let m = data_length c.args.item.bytes.now c.args.item.places.now in
    let e = left_end _ _ (drop 1 (regions_of c.args.item)) (c.loop-i.i - 1) _ _ c.first.ensures (omega arith) in
    cc
