-- Sectors of consecutive positions on a device. Assumes nothing.
use Rattle.std.specs.Prelude.{ℕ, zero, suc, ◌+◌, ◌*◌, List, [], ◌∷◌, ◌++◌, drop, Ok, Err, Result}
use Rattle.device.specs.State.{DevState, sector_at, bytes_of}
use Rattle.device.specs.Steps.{Answer, read, then_read}
use Rattle.device.specs.declared.fault.DeviceFault.{DeviceFault}
use Rattle.label.specs.declared.label.Label.{Label}
use Rattle.label.specs.Position.{volume_sector}

-- the bytes of n positions from x on, none for one that is unreadable
abbrev pub row : DevState → Label → ℕ → ℕ → List (List ℕ)
row d L x zero = []
row d L x (suc n) = bytes_of (sector_at d (volume_sector L x)) ∷ row d L (x + 1) n

-- reading n positions from x on; the first refusal stands
abbrev pub sectors_on : DevState → Label → ℕ → ℕ → Result (List (List ℕ)) DeviceFault
sectors_on d L x zero = Ok []
sectors_on d L x (suc n) = then_read (read d (volume_sector L x)) (sectors_on d L (x + 1) n)

-- whether all were read
abbrev pub told : Result (List (List ℕ)) DeviceFault → Answer
told (Ok bs) = Ok tt
told (Err f) = Err f

-- one more, where a sector was read
abbrev pub one_more : Result (List ℕ) DeviceFault → ℕ → ℕ
one_more (Ok b) k = suc k
one_more (Err f) k = 0

-- how many of n positions from x on are read before the first refusal
abbrev pub read_before : DevState → Label → ℕ → ℕ → ℕ
read_before d L x zero = 0
read_before d L x (suc n) = one_more (read d (volume_sector L x)) (read_before d L (x + 1) n)

-- a buffer with n sectors of data at its front
abbrev pub over : ℕ → List ℕ → List ℕ → List ℕ
over n b buffer = b ++ drop (512 * n) buffer
