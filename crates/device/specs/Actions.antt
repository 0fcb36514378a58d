-- Lists of actions on a device, and what it is to run one until the first refusal. Assumes nothing.
use Rattle.std.specs.Prelude.{ℕ, ◌+◌, List, [], ◌∷◌, replicate, Ok, Err, slice_set}
use Rattle.device.specs.State.{DevState, Sector, holds}
use Rattle.device.specs.Steps.{Answer, write_answer, write_step, force_answer, force_step}

-- what changes a device
pub data Action : Type 0 where
  write : ℕ → List ℕ → Action
  force : Action

-- what an action answers
abbrev pub answers : Action → DevState → Answer
answers (write i b) d = write_answer d i
answers force d = force_answer d

-- what an action leaves
abbrev pub acts : Action → DevState → DevState
acts (write i b) d = write_step d i b
acts force d = force_step d

-- what a run answers, and the device that it leaves
pub record Ran : Type 0 where
  pub answer : Answer
  pub after : DevState

-- go on after an accepted action, stop at a refused one
abbrev pub then : Answer → DevState → Ran → Ran
then (Ok x) d next = next
then (Err f) d next = record { answer = Err f; after = d }

-- actions in turn, up to the first that is refused
abbrev pub run : List Action → DevState → Ran
run [] d = record { answer = Ok tt; after = d }
run (x ∷ xs) d = then (answers x d) (acts x d) (run xs (acts x d))

-- what actions leave of the contents where all are accepted
abbrev pub effect : List Action → List Sector → List Sector
effect [] c = c
effect (write i b ∷ rest) c = effect rest (slice_set c i (holds b))
effect (force ∷ rest) c = effect rest c

-- one write for each of the sectors, from sector i on: writes 7 (a ∷ b ∷ []) is write 7 a ∷ write 8 b ∷ []
abbrev pub writes : ℕ → List (List ℕ) → List Action
writes i [] = []
writes i (b ∷ bs) = write i b ∷ writes (i + 1) bs

-- writes of n sectors of zeros, from sector i on
abbrev pub zero_writes : ℕ → ℕ → List Action
zero_writes i n = writes i (replicate n (replicate 512 0))
