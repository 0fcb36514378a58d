-- What a device in memory answers, and what a write leaves of its lost cells. Assumes nothing.
use Rattle.std.proofs.Common.{◌≡◌, ℕ, zero, suc, ◌≤◌, List, [], ◌∷◌, map, length, set, Some, None, is_none, filter, refl, arith}
use Rattle.std.proofs.lemmas.List.{map-set}
use Rattle.device.specs.State.{holds}
use Rattle.memory.specs.Cells.{Cell, cell_sector, lost_count}

-- the sectors of memory once cell i holds b
pub held_cells : (xs : List Cell) (i : ℕ) (b : List ℕ) → map cell_sector (set xs i (Some b)) ≡ set (map cell_sector xs) i (holds b)
held_cells xs i b = map-set cell_sector xs i (Some b)

-- a write loses no cell
pub lost_set : (xs : List Cell) (i : ℕ) (b : List ℕ) → lost_count (set xs i (Some b)) ≤ lost_count xs
lost_set [] i b = omega arith
lost_set (x ∷ xs) zero b = omega arith
lost_set (x ∷ xs) (suc i) b = let h = lost_set xs i b in omega arith

-- the lost cells counted by a filter
pub lost_filter : (xs : List Cell) → length (filter is_none xs) ≡ lost_count xs
lost_filter [] = refl
lost_filter (Some b ∷ xs) = let h = lost_filter xs in omega arith
lost_filter (None ∷ xs) = let h = lost_filter xs in omega arith
