-- What the answer of a call says. Assumes nothing.
use Rattle.std.proofs.Common.{◌≡◌, ℕ, Ok, Err, Result, sym, ap, ◌∙◌, arith}
use Rattle.device.specs.declared.fault.DeviceFault.{DeviceFault}
use Rattle.model.specs.Refusals.{Outcome}
use Rattle.volume_log.specs.declared.cause.LogFault.{LogFault}
use Rattle.volume_log.specs.Faults.{meaning, outcome}

-- a value is no refusal
pub not_both : {A B : Type 0} (r : Result A DeviceFault) (x : A) (f : DeviceFault) → r ≡ Ok x → r ≡ Err f → B
not_both r x f p q = let e : ◌≡◌ {A = Result _ DeviceFault} (Ok x) (Err f) = sym p ∙ q in let z : ◌≡◌ {A = ℕ} 0 1 = cc in let y : ⊥ = omega arith in absurd y

-- a call gives one value
pub one_value : {A : Type 0} (r : Result A DeviceFault) (x y : A) → r ≡ Ok x → r ≡ Ok y → x ≡ y
one_value r x y a b = cc

-- an outcome of a callee
pub refused : {A : Type 0} (r : Result A LogFault) (f : LogFault) (x : Outcome A) → outcome r ≡ x → r ≡ Err f → x ≡ Err (meaning f)
refused r f x e h = sym e ∙ ap outcome h

pub accepted : {A : Type 0} (r : Result A LogFault) (y : A) (x : Outcome A) → outcome r ≡ x → r ≡ Ok y → x ≡ Ok y
accepted r y x e h = sym e ∙ ap outcome h
