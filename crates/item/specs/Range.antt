-- The sectors that an item may touch. Assumes nothing.
use Rattle.std.specs.Prelude.{◌≡◌, ℕ, ◌+◌, Bool, true, false, ◌&&◌, ◌||◌, List, ℤ, pos, negsuc, nat_le}
use Rattle.label.specs.declared.label.Label.{Label}

-- a range lies inside the device, past its first sector and off the log; none does from a negative sector on
abbrev pub in_bounds : Label → ℕ → ℤ → ℕ → Bool
in_bounds L size (pos n) k = nat_le 1 n && nat_le (n + k) size && (nat_le (n + k) L.start || nat_le (L.start + L.count) n)
in_bounds L size (negsuc n) k = false

-- a volume of 64 sectors with its log from 32 to 63: of ranges of one sector, 31 passes; 0, 32 and -1 do not
abbrev pub log_at_32 : List ℕ → Label
log_at_32 uuid = record { start = 32; count = 32; window = 16; most = 4096; uuid = uuid }

pub record RangeCases (uuid : List ℕ) : Type 0 where
  pub before : in_bounds (log_at_32 uuid) 64 (pos 31) 1 ≡ true
  pub label_sector : in_bounds (log_at_32 uuid) 64 (pos 0) 1 ≡ false
  pub log_sector : in_bounds (log_at_32 uuid) 64 (pos 32) 1 ≡ false
  pub negative : in_bounds (log_at_32 uuid) 64 (negsuc 0) 1 ≡ false
