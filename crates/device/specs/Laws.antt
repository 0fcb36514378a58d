-- What is true of every run of actions, and of reading sectors in a row. Assumes nothing.
use Rattle.std.specs.Prelude.{◌≡◌, ℕ, ◌+◌, ◌-◌, ◌<◌, ◌≤◌, Bool, true, false, List, [], ◌∷◌, ◌++◌, length, Ok, Err, slice_index_or}
use Rattle.std.specs.List.{AllByRecursion}
use Rattle.device.specs.State.{DevState, sector_at}
use Rattle.device.specs.Steps.{refusal, read, reads}
use Rattle.device.specs.Actions.{Action, write, force, answers, acts, then, run, effect}
use Rattle.device.specs.declared.fault.Cause.TheVariants.{Spent}
use Rattle.device.specs.declared.fault.DeviceFault.{DeviceFault}

-- a run of one action is the action
abbrev pub RunAlone : Type 0
RunAlone = (x : Action) (d : DevState) → run (x ∷ []) d ≡ record { answer = answers x d; after = acts x d }

-- a list of actions in two parts: the second is run where the first was accepted
abbrev pub RunJoins : Type 0
RunJoins = (xs ys : List Action) (d : DevState) → run (xs ++ ys) d ≡ then (run xs d).answer (run xs d).after (run ys (run xs d).after)

-- a run that stops with f at e: the actions before x were accepted and left e, and there x is refused
pub record Stopped (xs : List Action) (d : DevState) (f : DeviceFault) (e : DevState) : Type 0 where
  pub front : List Action
  pub x : Action
  pub rest : List Action
  pub split : xs ≡ front ++ (x ∷ rest)
  pub accepted : run front d ≡ record { answer = Ok tt; after = e }
  pub refused : answers x e ≡ Err f

-- so it is with every run that stops
abbrev pub RunStops : Type 0
RunStops = (xs : List Action) (d : DevState) (f : DeviceFault) → (run xs d).answer ≡ Err f → Stopped xs d f (run xs d).after

-- an action that does not write sector i
abbrev pub Leaves : ℕ → Action → Type 0
Leaves i (write j b) = i ≡ j → ⊥
Leaves i force = Unit {0}

-- a run changes only sectors that it writes
abbrev pub RunLeaves : Type 0
RunLeaves = (xs : List Action) (d : DevState) (i : ℕ) → AllByRecursion (Leaves i) xs → sector_at (run xs d).after i ≡ sector_at d i

-- a run changes no size
abbrev pub RunSized : Type 0
RunSized = (xs : List Action) (d : DevState) → ((run xs d).after.size ≡ d.size) × (length (run xs d).after.contents ≡ length d.contents)

-- an action that lies on a device of this size
abbrev pub Inside : ℕ → Action → Type 0
Inside size (write i b) = i < size
Inside size force = Unit {0}

-- whether a device is settled after actions that were accepted
abbrev pub settled_after : List Action → Bool → Bool
settled_after [] s = s
settled_after (write i b ∷ rest) s = settled_after rest false
settled_after (force ∷ rest) s = settled_after rest true

-- what actions leave of a device that accepts them all
abbrev pub after_all : List Action → DevState → DevState
after_all xs d = record { size = d.size; contents = effect xs d.contents; actions = d.actions - length xs; settled = settled_after xs d.settled }

-- the sector that a refused action names
abbrev pub sector_of : Action → ℕ
sector_of (write i b) = i
sector_of force = 0

-- with an action left for each, all are accepted; with fewer, just those are, and the next one is refused
pub record Runs (d : DevState) (xs : List Action) : Type 0 where
  pub accepted : length xs ≤ d.actions → run xs d ≡ record { answer = Ok tt; after = after_all xs d }
  pub refused : (front rest : List Action) (x : Action) → xs ≡ front ++ (x ∷ rest) → length front ≡ d.actions →
      run xs d ≡ record { answer = refusal Spent (sector_of x); after = after_all front d }

-- so it is for all actions that lie on the device
abbrev pub RunSays : Type 0
RunSays = (d : DevState) (xs : List Action) → AllByRecursion (Inside d.size) xs → Runs d xs

-- the laws of runs
pub record RunLaws : Type 0 where
  pub alone : RunAlone
  pub joins : RunJoins
  pub stops : RunStops
  pub leaves : RunLeaves
  pub sized : RunSized
  pub says : RunSays

-- n sectors that were read are the device's own, each read by itself
abbrev pub ReadsEach : Type 0
ReadsEach = (d : DevState) (i n : ℕ) (bs : List (List ℕ)) → reads d i n ≡ Ok bs → (length bs ≡ n) × ((j : ℕ) → j < n → read d (i + j) ≡ Ok (slice_index_or bs j []))

-- where reading n sectors is refused, one of them is refused so, and each before it can be read
abbrev pub ReadsStops : Type 0
ReadsStops = (d : DevState) (i n : ℕ) (f : DeviceFault) → reads d i n ≡ Err f → (j : ℕ) × (j < n) × (read d (i + j) ≡ Err f) × ((k : ℕ) → k < j → (b : List ℕ) × (read d (i + k) ≡ Ok b))

-- the laws of reading
pub record ReadLaws : Type 0 where
  pub each : ReadsEach
  pub stops : ReadsStops
