-- When two keys are the same, and where an entry is found by one. Assumes nothing.
use Rattle.std.specs.Prelude.{Bool, false, ◌&&◌, ◌==◌, ℤ, pos, negsuc}
pub use Rattle.search.specs.Places.{further, place_of}
use Rattle.keys.specs.declared.patch.PatchKey.{PatchKey}

-- two numbers with a sign are the same
abbrev pub same_number : ℤ → ℤ → Bool
same_number (pos m) (pos n) = m == n
same_number (pos m) (negsuc n) = false
same_number (negsuc m) (pos n) = false
same_number (negsuc m) (negsuc n) = m == n

-- two keys of patches are the same: the sector and the length are
abbrev pub same_key : PatchKey → PatchKey → Bool
same_key k l = same_number k.sector l.sector && k.length == l.length
