-- The regions of an item. Assumes nothing.
use Rattle.std.specs.Prelude.{ℕ, List}
use Rattle.item.specs.Regions.{regions}
use Rattle.item.specs.declared.item.Item.{Item}

-- those at its places, in order: of bytes 5, 6, 7 and one place, of 2 bytes from 1 on, they are (6 ∷ 7 ∷ []) ∷ []
abbrev pub regions_of : Item → List (List ℕ)
regions_of item = regions item.bytes.now item.places.now
