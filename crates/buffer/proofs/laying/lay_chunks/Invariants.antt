use Rattle.std.proofs.Common.{◌≡◌, ◌+◌, ◌*◌, length}
use Rattle.codec.specs.Fields.{joined}
use Rattle.item.specs.Buffer.{cover}
use Rattle.item.specs.Covers.{cover_of}
use Rattle.item.specs.Items.{regions_of}
use Rattle.buffer.specs.Bits.{bits_of}
use Rattle.buffer.specs.Walk.{cursor}
use Rattle.buffer.proofs.Lays.{Laid}
use Rattle.buffer.proofs.laying.lay_chunks.Given as goal

abbrev pub invariant-loop-i : goal.invariant-loop-i
invariant-loop-i l =
    (l.at ≡ cursor l.map.head.now (4 * l.k + l.i))
    × (length l.sector ≡ 512)
    × Laid (cover_of (cover (bits_of l.map) (joined (regions_of l.rest))) l.k) l.initial.sector l.sector (128 * l.i)
