-- The sectors of a log on a device, and whether one of them is in order. Assumes nothing.
use Rattle.std.specs.Prelude.{◌≡◌, ℕ, zero, suc, ◌+◌, Bool, ◌&&◌, ◌||◌, List, [], ◌∷◌, Ok, ◌==◌, nat_lt}
use Rattle.device.specs.State.{DevState, sector_at, bytes_of}
use Rattle.device.specs.Steps.{reads}
use Rattle.label.specs.declared.label.Label.{Label}
use Rattle.record.specs.Record.{held_cycle, held_position}
use Rattle.model.specs.View.{due, greatest}

-- the bytes of n sectors from i on, none for one that is unreadable
abbrev pub sectors_of : DevState → ℕ → ℕ → List (List ℕ)
sectors_of d i zero = []
sectors_of d i (suc n) = bytes_of (sector_at d i) ∷ sectors_of d (i + 1) n

-- the sectors of the log
abbrev pub log_of : DevState → Label → List (List ℕ)
log_of d L = sectors_of d L.start L.count

-- each of them can be read
abbrev pub Readable : DevState → Label → Type 0
Readable d L = reads d L.start L.count ≡ Ok (log_of d L)

-- the greatest position that they hold
abbrev pub greatest_on : DevState → Label → ℕ
greatest_on d L = greatest L (log_of d L)

-- log sector i, with the bytes b, is in order beside the greatest position M
abbrev pub sector_in_order : Label → ℕ → ℕ → List ℕ → Bool
sector_in_order L M i b =
    (held_position L i b == due L M i || (held_position L i b + L.count == due L M i && nat_lt M (due L M i + L.window)))
    && nat_lt (held_cycle b) 2147483648
