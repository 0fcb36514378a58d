-- Where runs of set bits of a buffer's map begin and end. Assumes nothing.
use Rattle.std.specs.Prelude.{◌≡◌, ℕ, ◌<◌, ◌≤◌, Bool, true, false, not, List}
use Rattle.item.specs.Buffer.{map_bit}

-- r is the first bit of the map h from b on that is as wanted, or n if none below it is
abbrev pub FirstBit : Bool → List ℕ → ℕ → ℕ → ℕ → Type 0
FirstBit wanted h n b r = (b ≤ r) × (r ≤ n) × ((k : ℕ) → b ≤ k → k < r → map_bit h k ≡ not wanted) × (r < n → map_bit h r ≡ wanted)

-- r is the first set bit of the map h from b on, or n if there is none below it
abbrev pub FirstSet : List ℕ → ℕ → ℕ → ℕ → Type 0
FirstSet = FirstBit true

-- the bits from b to r are set, and r is not, or is n
abbrev pub RunTo : List ℕ → ℕ → ℕ → ℕ → Type 0
RunTo = FirstBit false
