-- The number of each cause of a refusal. Assumes nothing.
use Rattle.std.specs.Prelude.{ℕ}
use Rattle.device.specs.declared.fault.Cause.{Cause}
use Rattle.device.specs.declared.fault.Cause.TheVariants.{Spent, Unreadable, Beyond}

-- 2: no action is left; 3: the sector is unreadable; 13: the sector lies beyond the end
abbrev pub cause_number : Cause → ℕ
cause_number Spent = 2
cause_number Unreadable = 3
cause_number Beyond = 13
