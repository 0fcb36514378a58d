-- What label leaves, in words. Assumes nothing.
use Rattle.std.specs.Prelude.{◌≡◌, ℕ, ◌+◌, ◌<◌, ◌≤◌, true, ◌⊎◌, [], slice_index_or}
use Rattle.codec.specs.Fields.{zeros}
use Rattle.device.specs.State.{DevState, holds, sector_at}
use Rattle.label.specs.declared.label.Label.{Label}
use Rattle.label.specs.Label.{label_bytes}
use Rattle.model.specs.Calls.{clearing}

-- e is the device d with a volume made on it: the label on sector 0, on the log a clearing record and then zeros, every other
-- sector as it was; each of the writes and the force spent an action, and all of it is settled
pub record Labelled (L : Label) (d e : DevState) : Type 0 where
  pub size : e.size ≡ d.size
  pub label : sector_at e 0 ≡ holds (label_bytes L)
  pub header : sector_at e L.start ≡ holds (slice_index_or (clearing L L.count 0xFFFFFFFF) 0 [])
  pub op : sector_at e (L.start + 1) ≡ holds (slice_index_or (clearing L L.count 0xFFFFFFFF) 1 [])
  pub log : (i : ℕ) → 2 ≤ i → i < L.count → sector_at e (L.start + i) ≡ holds (zeros 512)
  pub home : (i : ℕ) → 1 ≤ i → (i < L.start) ⊎ (L.start + L.count ≤ i) → sector_at e i ≡ sector_at d i
  pub spent : e.actions + (L.count + 4) ≡ d.actions
  pub settled : e.settled ≡ true
