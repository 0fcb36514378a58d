-- What replay and clear write: patches over sectors, and blanks over what lies past the end. Assumes nothing.
use Rattle.std.specs.Prelude.{ℕ, zero, suc, ◌+◌, ◌-◌, cond, List, [], ◌∷◌, ◌++◌, map, slice_index_or}
use Rattle.codec.specs.Fields.{be32_bytes, zeros}
use Rattle.device.specs.State.{Sector, unreadable, bytes_of}
use Rattle.device.specs.Actions.{Action, write, effect}
use Rattle.label.specs.declared.label.Label.{Label}
use Rattle.label.specs.Position.{cycle, volume_sector}
use Rattle.model.specs.View.{held}
pub use Rattle.item.specs.Covers.{give, overlay}
use Rattle.model.specs.Items.{Patch, covered_from, cover_of, first_sector}

-- the write of a patch to the sector j of its range, over the contents c
abbrev pub patch_write : Patch → List Sector → ℕ → Action
patch_write p c j =
    let i = first_sector p.key.sector + j in
    write i (overlay (cover_of p.cover j) (bytes_of (slice_index_or c i unreadable)))

-- a patch rewrites each sector that it covers in part or whole, ascending, once
abbrev pub patch_writes : Patch → List Sector → List Action
patch_writes p c = map (patch_write p c) (covered_from p.cover 0 p.key.length)

-- patches one after the other, each over what those before it leave
abbrev pub lays : List Patch → List Sector → List Action
lays [] c = []
lays (p ∷ ps) c = patch_writes p c ++ lays ps (effect (patch_writes p c) c)

-- a position's sector as zeros with the cycle of the position a turn before; only positions past a sound record are blanked, none of
-- them in cycle 0, so nothing is cut off
abbrev pub blank : Label → ℕ → List ℕ
blank L x = be32_bytes (cycle L (x - L.count)) ++ zeros 508

-- of n positions from x on each that is held is blanked
abbrev pub blanks : Label → List (List ℕ) → ℕ → ℕ → List Action
blanks L log x zero = []
blanks L log x (suc n) = cond (held L log x) (write (volume_sector L x) (blank L x) ∷ []) [] ++ blanks L log (x + 1) n

-- the sectors of a record, written from position x on
abbrev pub record_writes : Label → ℕ → List (List ℕ) → List Action
record_writes L x [] = []
record_writes L x (b ∷ bs) = write (volume_sector L x) b ∷ record_writes L (x + 1) bs
