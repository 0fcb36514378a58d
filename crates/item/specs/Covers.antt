-- What a cover gives to a sector of its range, and what a sector holds after it is laid. Assumes nothing.
use Rattle.std.specs.Prelude.{ℕ, ◌*◌, Bool, true, false, List, [], ◌∷◌, take, drop, Some, None, Option}
use Rattle.item.specs.Meaning.{Meaning, malformed, patch, cancel, opens, closes}

-- a sector's part of a cover
abbrev pub cover_of : List (Option ℕ) → ℕ → List (Option ℕ)
cover_of c j = take 512 (drop (512 * j) c)

-- some byte is given
abbrev pub gives_any : List (Option ℕ) → Bool
gives_any [] = false
gives_any (None ∷ os) = gives_any os
gives_any (Some v ∷ os) = true

-- what a byte holds after a value or nothing is given
abbrev pub give : Option ℕ → ℕ → ℕ
give (Some v) old = v
give None old = old

-- values laid over the bytes of a sector; a byte past the values stays
abbrev pub overlay : List (Option ℕ) → List ℕ → List ℕ
overlay os [] = []
overlay [] (b ∷ bs) = b ∷ bs
overlay (o ∷ os) (b ∷ bs) = give o b ∷ overlay os bs

-- sector j of a patch's range is covered in part or whole
abbrev pub covers_sector : Meaning → ℕ → Bool
covers_sector malformed j = false
covers_sector (patch k c) j = gives_any (cover_of c j)
covers_sector (cancel k) j = false
covers_sector (opens i) j = false
covers_sector (closes i) j = false

-- what sector j of the range holds after the item is laid over its bytes b; only a patch changes any
abbrev pub laid : Meaning → ℕ → List ℕ → List ℕ
laid malformed j b = b
laid (patch k c) j b = overlay (cover_of c j) b
laid (cancel k) j b = b
laid (opens i) j b = b
laid (closes i) j b = b
