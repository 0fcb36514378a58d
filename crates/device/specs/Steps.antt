-- What each call on a device answers, and what it leaves. Assumes nothing.
use Rattle.std.specs.Prelude.{ℕ, zero, suc, ◌+◌, ◌-◌, true, false, cond, List, [], ◌∷◌, Ok, Err, Result, ◌==◌, nat_lt, slice_set}
use Rattle.device.specs.State.{DevState, Sector, holds, unreadable, sector_at}
use Rattle.device.specs.declared.fault.Cause.{Cause}
use Rattle.device.specs.declared.fault.Cause.TheVariants.{Spent, Unreadable, Beyond}
use Rattle.device.specs.declared.fault.DeviceFault.{DeviceFault}

-- what a call that gives no value answers
abbrev pub Answer : Type 0
Answer = Result (Unit {0}) DeviceFault

-- a refusal with its cause, told of sector i
abbrev pub fault : Cause → ℕ → DeviceFault
fault c i = record { cause = c; sector = i }

-- the bytes of sector i, where they can be read
abbrev pub readable : ℕ → Sector → Result (List ℕ) DeviceFault
readable i (holds b) = Ok b
readable i unreadable = Err (fault Unreadable i)

-- reading sector i: its bytes, or a refusal beyond the end or of an unreadable sector
abbrev pub read : DevState → ℕ → Result (List ℕ) DeviceFault
read d i = cond (nat_lt i d.size) (readable i (sector_at d i)) (Err (fault Beyond i))

-- what was read, put before the rest
abbrev pub then_rest : List ℕ → Result (List (List ℕ)) DeviceFault → Result (List (List ℕ)) DeviceFault
then_rest b (Ok bs) = Ok (b ∷ bs)
then_rest b (Err f) = Err f

-- go on with the rest after a sector that was read; a refusal stands
abbrev pub then_read : Result (List ℕ) DeviceFault → Result (List (List ℕ)) DeviceFault → Result (List (List ℕ)) DeviceFault
then_read (Ok b) rest = then_rest b rest
then_read (Err f) rest = Err f

-- reading n sectors from i on; the first refusal stands
abbrev pub reads : DevState → ℕ → ℕ → Result (List (List ℕ)) DeviceFault
reads d i zero = Ok []
reads d i (suc n) = then_read (read d i) (reads d (i + 1) n)

-- whether a value was given
abbrev pub done : Result (List ℕ) DeviceFault → Answer
done (Ok b) = Ok tt
done (Err f) = Err f

-- the value that was given, or else the one before
abbrev pub given_or : Result (List ℕ) DeviceFault → List ℕ → List ℕ
given_or (Ok b) old = b
given_or (Err f) old = old

-- what a read answers
abbrev pub read_answer : DevState → ℕ → Answer
read_answer d i = done (read d i)

-- what a read leaves in the buffer that held `old`
abbrev pub read_bytes : DevState → ℕ → List ℕ → List ℕ
read_bytes d i old = given_or (read d i) old

-- an answer that refuses
abbrev pub refusal : Cause → ℕ → Answer
refusal c i = Err (fault c i)

-- what a write answers: refused beyond the end, then with no action left
abbrev pub write_answer : DevState → ℕ → Answer
write_answer d i = cond (nat_lt i d.size) (cond (d.actions == 0) (refusal Spent i) (Ok tt)) (refusal Beyond i)

-- an accepted write spends an action and leaves the device not settled
abbrev pub written : DevState → ℕ → List ℕ → DevState
written d i b = record { size = d.size; contents = slice_set d.contents i (holds b); actions = d.actions - 1; settled = false }

-- what a write leaves; a refused one changes nothing
abbrev pub write_step : DevState → ℕ → List ℕ → DevState
write_step d i b = cond (nat_lt i d.size) (cond (d.actions == 0) d (written d i b)) d

-- what a force answers: refused with no action left
abbrev pub force_answer : DevState → Answer
force_answer d = cond (d.actions == 0) (refusal Spent 0) (Ok tt)

-- an accepted force spends an action and leaves the device settled
abbrev pub forced : DevState → DevState
forced d = record { size = d.size; contents = d.contents; actions = d.actions - 1; settled = true }

-- what a force leaves; a refused one changes nothing
abbrev pub force_step : DevState → DevState
force_step d = cond (d.actions == 0) d (forced d)
