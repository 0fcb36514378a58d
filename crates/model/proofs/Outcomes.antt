-- What a value tells of the steps that led to it. Assumes nothing.
use Rattle.std.proofs.Common.{◌≡◌, ℕ, Bool, true, false, cond, ltb, List, Ok, Err, Result, refl, ap, arith}
use Rattle.device.specs.State.{DevState, sector_at}
use Rattle.device.specs.Steps.{fault, readable, read}
use Rattle.device.specs.declared.fault.Cause.TheVariants.{Beyond}
use Rattle.device.specs.declared.fault.DeviceFault.{DeviceFault}
use Rattle.model.specs.Refusals.{Refusal, Outcome, ◌>>=◌, need, from_device}

-- a refusal is no value
pub need_ok : {A : Type 0} (t : Bool) (r : Refusal) (f : Unit {0} → Outcome A) (x : A) → (need t r >>= f) ≡ Ok x → (t ≡ true) × (f tt ≡ Ok x)
need_ok true r f x e = (refl, e)
need_ok false r f x e = let z : ◌≡◌ {A = ℕ} 0 1 = cc in let y : ⊥ = omega arith in elim y [ ]

pub bind_ok : {A B : Type 0} (m : Outcome A) (f : A → Outcome B) (x : B) → (m >>= f) ≡ Ok x → (a : A) × (m ≡ Ok a) × (f a ≡ Ok x)
bind_ok (Ok a) f x e = (a, refl, e)
bind_ok (Err r) f x e = let z : ◌≡◌ {A = ℕ} 0 1 = cc in let y : ⊥ = omega arith in elim y [ ]

pub device_ok : {A : Type 0} (m : Result A DeviceFault) (x : A) → from_device m ≡ Ok x → m ≡ Ok x
device_ok (Ok a) x e = let q : a ≡ x = cc in ap Ok q
device_ok (Err r) x e = let z : ◌≡◌ {A = ℕ} 0 1 = cc in let y : ⊥ = omega arith in elim y [ ]

-- what was read is what the sector holds
pub read_held : (d : DevState) (i : ℕ) (b : List ℕ) → read d i ≡ Ok b → readable i (sector_at d i) ≡ Ok b
read_held d i b e = go (ltb i d.size) e
  where
    go : (t : Bool) → cond t (readable i (sector_at d i)) (Err (fault Beyond i)) ≡ Ok b → readable i (sector_at d i) ≡ Ok b
    go true e = e
    go false e = let z : ◌≡◌ {A = ℕ} 0 1 = cc in let y : ⊥ = omega arith in elim y [ ]
