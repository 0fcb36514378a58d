-- The label of a volume: its sector and its limits. Assumes nothing.
use Rattle.std.specs.Prelude.{ℕ, ◌+◌, ◌*◌, ◌/◌, ◌%◌, Bool, ◌&&◌, List, ◌++◌, ◌==◌, nat_le}
use Rattle.codec.specs.Fields.{be32, be32_bytes, part, zeros}
use Rattle.label.specs.declared.label.Label.{Label}

-- the label that a sector tells: four 32-bit numbers, then 16 bytes of uuid; what follows is not looked at
abbrev pub label_of : List ℕ → Label
label_of b = record { start = be32 b 0; count = be32 b 4; window = be32 b 8; most = be32 b 12; uuid = part 16 16 b }

-- the sector of a label
abbrev pub label_bytes : Label → List ℕ
label_bytes L =
    be32_bytes L.start ++ be32_bytes L.count ++ be32_bytes L.window ++ be32_bytes L.most ++ L.uuid ++ zeros 480

-- each field keeps its limit on a device of this many sectors: the log lies behind sector 0 and on the device, it has 16 to
-- 2,097,152 sectors, a record has 512 to 32,768 bytes of data, a multiple of 512, and the window has room for one record at
-- least and for half of the log at most. Example: start 32, count 32, window 16, most 4096 on 64 sectors
abbrev pub limits : Label → ℕ → Bool
limits L size =
    nat_le 1 L.start && (nat_le (L.start + L.count) size && (nat_le 16 L.count && (nat_le L.count 2097152
    && (L.most % 512 == 0 && (nat_le 512 L.most && (nat_le L.most 32768
    && (nat_le (1 + L.most / 512) L.window && nat_le (2 * L.window) L.count)))))))
