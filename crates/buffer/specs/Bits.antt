-- The bits of a buffer's map that stand for chunks. Assumes nothing.
use Rattle.std.specs.Prelude.{Bool, List}
use Rattle.item.specs.Buffer.{map_bits}
use Rattle.buffer.specs.declared.map.Map.{Map}

-- from the first on, as many as the map has
abbrev pub bits_of : Map → List Bool
bits_of map = map_bits map.head.now 0 map.bits
