use Rattle.std.proofs.Common.{◌≡◌, ◌-◌, ◌≤◌, drop}
use Rattle.item.specs.Buffer.{regions_fit}
use Rattle.item.specs.Items.{regions_of}
use Rattle.buffer.specs.Bits.{bits_of}
use Rattle.buffer.proofs.Matching.{left}
use Rattle.buffer.proofs.runs.runs_match.Given as goal

abbrev pub invariant-loop-i : goal.invariant-loop-i
invariant-loop-i l = (l.b ≤ l.map.bits) × (left l.map.head.now l.map.bits (drop 1 (regions_of l.item)) (l.i - 1) l.b ≡ regions_fit (bits_of l.map) (drop 1 (regions_of l.item)))
