-- What is found in a log, in the words of lives. Assumes nothing.
use Rattle.std.specs.Prelude.{◌≡◌, ℕ, ◌+◌, ◌<◌, List, [], Ok, slice_index_or}
use Rattle.label.specs.declared.label.Label.{Label}
use Rattle.model.specs.View.{search_log}
use Rattle.life.specs.Disk.{Sector, holds}
use Rattle.life.specs.Format.{Rec, Format}
use Rattle.life.specs.Calls.{Plan}

-- the sectors of the log can be read, and hold these bytes
abbrev pub HasLog : Label → (ℕ → Sector) → List (List ℕ) → Type 0
HasLog L c log = (i : ℕ) → i < L.count → c (L.start + i) ≡ holds (slice_index_or log i [])

-- where contents have a plan, just that is found in their log
abbrev pub SeekPlans : Label → Format → Type 0
SeekPlans L F = (c : ℕ → Sector) (log : List (List ℕ)) (m h n e t : ℕ) (chain : List Rec) → HasLog L c log → Plan F c m h n e t chain →
    search_log L log ≡ Ok (record { log = log; M = m; h = h; n = n; e = e; t = t })
