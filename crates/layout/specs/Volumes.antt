-- A volume: a device, and all that each of its sectors has held since the last accepted force. Assumes nothing.
use Rattle.std.specs.Prelude.{ℕ, Bool, true, false, cond, List, [], ◌∷◌, Ok, Err}
use Rattle.device.specs.State.{DevState, Sector, sector_at, holds}
use Rattle.device.specs.Steps.{Answer}
use Rattle.device.specs.Actions.{Action, write, force, answers, acts, run}
use Rattle.life.specs.Disk.{Disk, put}
use Rattle.model.specs.Refusals.{Outcome}
use Rattle.model.specs.Calls.{Plan}

-- a device with its history: for each sector what it has held since the last accepted force, its present contents among them
pub record Volume : Type 0 where
  pub device : DevState
  pub past : ℕ → List Sector

-- whether an answer accepts
abbrev pub accepted : Answer → Bool
accepted (Ok x) = true
accepted (Err f) = false

-- the history after an accepted action: a write adds to what its sector has held, a force leaves each sector its present contents only
abbrev pub noted : Action → DevState → (ℕ → List Sector) → ℕ → List Sector
noted (write i b) d p = put p i (holds b ∷ p i)
noted force d p = λ j. sector_at d j ∷ []

-- the history after actions in turn, up to the first that the device refuses
abbrev pub histories : List Action → DevState → (ℕ → List Sector) → ℕ → List Sector
histories [] d p = p
histories (a ∷ rest) d p = cond (accepted (answers a d)) (histories rest (acts a d) (noted a d p)) p

-- a volume after actions
abbrev pub after_run : List Action → Volume → Volume
after_run xs v = record { device = (run xs v.device).after; past = histories xs v.device v.past }

-- a volume after a call that decided so: untouched by a refusal, else its actions are run
abbrev pub served : {A S : Type 0} → Outcome (Plan A S) → Volume → Volume
served (Err r) v = v
served (Ok p) v = after_run p.actions v

-- a volume as lives see one
abbrev pub disk_of : Volume → Disk
disk_of v = record { now = sector_at v.device; past = v.past; left = v.device.actions; settled = v.device.settled }
