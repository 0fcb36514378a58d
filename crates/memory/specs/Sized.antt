-- Each sector of a device in memory has its contents. Assumes nothing.
use Rattle.std.specs.Prelude.{◌≡◌, length}
use Rattle.std.proofs.Common.{sym}
use Rattle.std.proofs.lemmas.List.{length-map}
use Rattle.memory.specs.Memories.{memory_state}
use Rattle.memory.specs.declared.ram.Memory.{Memory}

pub memory_sized : (m : Memory) → length (memory_state m).contents ≡ (memory_state m).size
memory_sized m = simp length-map (sym m.cells.ok.0)
