-- What a device in memory is, and when one is made. Assumes nothing.
use Rattle.std.specs.Prelude.{ℕ, ◌^◌, Bool, cond, List, map, length, Ok, Err, vec_items, vec_len, Result, nat_le, nat_lt}
use Rattle.device.specs.State.{DevState, bundle}
use Rattle.memory.specs.Cells.{Cell, cell_sector, lost_count}
use Rattle.memory.specs.declared.ram.Memory.{Memory}
use Rattle.memory.specs.declared.ram.MemoryLimit.{MemoryLimit}
use Rattle.memory.specs.declared.ram.MemoryLimit.TheVariants.{Sectors, Unreadable, Actions}

-- the state of a device in memory
abbrev pub memory_state : Memory → DevState
memory_state m = bundle (vec_len m.cells) (map cell_sector (vec_items m.cells)) m.left m.settled

-- the state of the device that was made, or the limit that is broken
abbrev pub made_state : Result Memory MemoryLimit → Result DevState MemoryLimit
made_state (Ok m) = Ok (memory_state m)
made_state (Err l) = Err l

-- what making a device of these cells gives: at most 2^30 cells, then at most 16 lost ones, then fewer than 2^62 actions
abbrev pub new_memory : List Cell → ℕ → Bool → Result DevState MemoryLimit
new_memory cs left settled = cond (nat_le (length cs) (2 ^ 30)) (cond (nat_le (lost_count cs) 16) (cond (nat_lt left (2 ^ 62)) (Ok (bundle (length cs) (map cell_sector cs) left settled)) (Err Actions)) (Err Unreadable)) (Err Sectors)
