-- A walk over the chunks of a range, and the bytes that the set ones take. Assumes nothing.
use Rattle.std.specs.Prelude.{ℕ, zero, suc, ◌+◌, Bool, cond, List, ◌==◌}
use Rattle.item.specs.Buffer.{map_bit}
use Rattle.buffer.specs.declared.cursor.Cursor.{Cursor}

-- past one chunk: a set one takes 128 bytes of its region; at one that is not set, a region that was begun is at its end
abbrev pub moved : Bool → Cursor → Cursor
moved here c = cond here (record { region = c.region; byte = c.byte + 128 }) (cond (c.byte == 0) c (record { region = c.region + 1; byte = 0 }))

-- the data region, and the byte in it, that the walk over the map h stands at before chunk b
abbrev pub cursor : List ℕ → ℕ → Cursor
cursor h zero = record { region = 0; byte = 0 }
cursor h (suc b) = moved (map_bit h b) (cursor h b)
