-- The regions of an item, told by their places in a buffer. Assumes nothing.
use Rattle.std.specs.Prelude.{ℕ, List, map}
use Rattle.codec.specs.Fields.{part}
use Rattle.item.specs.declared.place.Place.{Place}

-- a place that passes the end of the bytes is cut off there
abbrev pub region : List ℕ → Place → List ℕ
region b p = part p.offset p.length b

-- the regions at places, in order
abbrev pub regions : List ℕ → List Place → List (List ℕ)
regions b ps = map (region b) ps
