-- What the regions of an item mean, kinds, and banks of kinds. Assumes nothing.
use Rattle.std.specs.Prelude.{◌≡◌, ℕ, ◌*◌, Bool, List, length, Some, Option}
use Rattle.keys.specs.declared.patch.PatchKey.{PatchKey}

-- what an item asks; a key is a range of sectors, and a patch gives each byte of its range a value or nothing
pub data Meaning : Type 0 where
  malformed : Meaning
  patch : PatchKey → List (Option ℕ) → Meaning
  cancel : PatchKey → Meaning
  opens : ℕ → Meaning
  closes : ℕ → Meaning

-- a kind: whether its patches come first in their transaction, and what regions mean
pub record Kind : Type 0 where
  pub early : Bool
  pub meaning : List (List ℕ) → Meaning

-- a bank has one kind or none for a type number
abbrev pub Bank : Type 0
Bank = ℕ → Option Kind

-- a patch of the kind says of each byte of its range what it gives: 512 to a sector
abbrev pub WholePatches : Kind → Type 0
WholePatches kind = (rs : List (List ℕ)) (k : PatchKey) (c : List (Option ℕ)) → kind.meaning rs ≡ patch k c → length c ≡ 512 * k.length

-- each kind of a bank does
abbrev pub WholeBank : Bank → Type 0
WholeBank bank = (type : ℕ) (k : Kind) → bank type ≡ Some k → WholePatches k
