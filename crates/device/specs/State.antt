-- What a device is: its size in sectors, what each sector holds, the actions left, and whether it is settled. Assumes nothing.
use Rattle.std.specs.Prelude.{ℕ, Bool, List, [], slice_index_or}

-- a sector: its 512 bytes, or unreadable
pub data Sector : Type 0 where
  holds : List ℕ → Sector
  unreadable : Sector

-- the four parts of a device's meaning
pub record DevState : Type 0 where
  pub size : ℕ
  pub contents : List Sector
  pub actions : ℕ
  pub settled : Bool

-- a state by its four parts
abbrev pub bundle : ℕ → List Sector → ℕ → Bool → DevState
bundle n c a b = record { size = n; contents = c; actions = a; settled = b }

-- what sector i holds
abbrev pub sector_at : DevState → ℕ → Sector
sector_at d i = slice_index_or d.contents i unreadable

-- the bytes of a sector, none where it is unreadable
abbrev pub bytes_of : Sector → List ℕ
bytes_of (holds b) = b
bytes_of unreadable = []
