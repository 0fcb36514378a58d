-- What a cell of memory is as a sector, and how many of them are lost. Assumes nothing.
use Rattle.std.specs.Prelude.{ℕ, ◌+◌, List, [], ◌∷◌, Option, Some, None}
use Rattle.device.specs.State.{Sector, holds, unreadable}

-- a cell: its bytes, or none where it is lost
abbrev pub Cell : Type 0
Cell = Option (List ℕ)

-- a cell as a sector
abbrev pub cell_sector : Cell → Sector
cell_sector (Some b) = holds b
cell_sector None = unreadable

-- 1 for a lost cell
abbrev pub lost_one : Cell → ℕ
lost_one (Some b) = 0
lost_one None = 1

-- how many cells are lost
abbrev pub lost_count : List Cell → ℕ
lost_count [] = 0
lost_count (x ∷ xs) = lost_one x + lost_count xs
