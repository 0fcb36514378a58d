-- A device with what each sector has held since the last accepted force, runs of actions on it, and what a cut may leave. Assumes nothing.
use Rattle.std.specs.Prelude.{◌≡◌, ℕ, zero, suc, Bool, true, false, cond, ◌⊎◌, List, [], ◌∷◌, length, ◌==◌}
pub use Rattle.std.specs.List.{AllByRecursion}
pub use Rattle.device.specs.State.{Sector, holds, unreadable}
pub use Rattle.device.specs.Actions.{Action, write, force}

-- a device: what each sector holds, all that it has held since the last accepted force (its present contents among them), the actions left, and
-- whether the device is settled
pub record Disk : Type 0 where
  pub now : ℕ → Sector
  pub past : ℕ → List Sector
  pub left : ℕ
  pub settled : Bool

-- x is one of the list
abbrev pub In : {S : Type 0} → S → List S → Type 0
In x [] = ⊥
In x (y ∷ ys) = (x ≡ y) ⊎ In x ys

-- a function changed at one place
abbrev pub put : {A : Type 0} → (ℕ → A) → ℕ → A → ℕ → A
put f i v j = cond (j == i) v (f j)

-- an accepted action, after which k are left: a write adds to what its sector has held, a force leaves each sector its present contents only
abbrev pub act : Action → ℕ → Disk → Disk
act (write i b) k d = record { now = put d.now i (holds b); past = put d.past i (holds b ∷ d.past i); left = k; settled = false }
act force k d = record { now = d.now; past = λ j. d.now j ∷ []; left = k; settled = true }

-- actions in turn, and whether all were accepted; the first that finds none left is refused, and those before it stand
abbrev pub run : List Action → Disk → Disk × Bool
run [] d = (d, true)
run (a ∷ rest) d = elim d.left [ zero ↦ (d, false) | suc k ↦ run rest (act a k d) ]

-- each write of the actions has P: its sector, and what that then holds
abbrev pub Writes : (ℕ → Sector → Type 0) → List Action → Type 0
Writes P [] = Unit {0}
Writes P (write i b ∷ rest) = P i (holds b) × Writes P rest
Writes P (force ∷ rest) = Writes P rest

-- a cut of d leaves e: each sector holds something that it has held since the last accepted force, which no cut forgets; any number of actions is left
pub record Cut (d e : Disk) : Type 0 where
  pub each : (j : ℕ) → In (e.now j) (d.past j)
  pub same : (j : ℕ) → e.past j ≡ d.past j

-- nothing was written since the last accepted force
abbrev pub Fixed : Disk → Type 0
Fixed d = (j : ℕ) → d.past j ≡ (d.now j ∷ [])

-- a sector that can be read, and gives 512 bytes
abbrev pub Whole : Sector → Type 0
Whole s = (b : List ℕ) × (s ≡ holds b) × (length b ≡ 512)
