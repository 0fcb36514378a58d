-- What a slice of a device is, and what a write to it does to the device. Assumes nothing.
use Rattle.std.specs.Prelude.{◌≡◌, ℕ, ◌+◌, ◌-◌, min, cond, List, take, drop, nat_lt}
use Rattle.device.specs.State.{DevState}
use Rattle.device.specs.Steps.{write_step}

-- count sectors from start on, cut off at the device's end; a start beyond the end leaves none
abbrev pub slice_state : DevState → ℕ → ℕ → DevState
slice_state d start count = record { size = min (d.size - start) count; contents = take count (drop start d.contents); actions = d.actions; settled = d.settled }

-- what the device d is after a write of the slice's sector i: that of its sector start + i, and none where i is beyond the slice's end
abbrev pub slice_write : DevState → ℕ → ℕ → ℕ → List ℕ → DevState
slice_write d start count i b = cond (nat_lt i (slice_state d start count).size) (write_step d (start + i) b) d

-- two states with the same sectors before the slice and after it
abbrev pub Outside : ℕ → ℕ → DevState → DevState → Type 0
Outside start count d e = (d.size ≡ e.size) × (take start d.contents ≡ take start e.contents) × (drop (start + count) d.contents ≡ drop (start + count) e.contents)
