-- Why a call is refused, and where. Assumes nothing.
use Rattle.std.specs.Prelude.{ℕ, Bool, cond, Ok, Err, Result}
use Rattle.device.specs.Faults.{cause_number}
use Rattle.device.specs.declared.fault.DeviceFault.{DeviceFault}

-- who refuses
pub data Layer : Type 0 where
  by_device : Layer
  by_record : Layer
  by_transaction : Layer
  by_item : Layer
  by_session : Layer

-- a refusal: its number, its layer, and its place on the volume
pub record Refusal : Type 0 where
  pub number : ℕ
  pub layer : Layer
  pub sector : ℕ
  pub byte : ℕ

-- a refusal by its parts
abbrev pub refusal : ℕ → Layer → ℕ → ℕ → Refusal
refusal n l s b = record { number = n; layer = l; sector = s; byte = b }

-- a value, or a refusal
abbrev pub Outcome : Type 0 → Type 0
Outcome A = Result A Refusal

-- go on with the value; a refusal stands
infixl 1 ◌>>=◌
abbrev pub ◌>>=◌ : {A B : Type 0} → Outcome A → (A → Outcome B) → Outcome B
Ok x >>= f = f x
Err r >>= f = Err r

-- a refusal where the condition fails
abbrev pub need : Bool → Refusal → Outcome (Unit {0})
need b r = cond b (Ok tt) (Err r)

-- the device's refusal: 2, 3 or 13, at the sector that was asked for
abbrev pub device_refusal : DeviceFault → Refusal
device_refusal f = refusal (cause_number f.cause) by_device f.sector 0

-- what a device answers; its refusal is told as it was
abbrev pub from_device : {A : Type 0} → Result A DeviceFault → Outcome A
from_device (Ok x) = Ok x
from_device (Err f) = Err (device_refusal f)
