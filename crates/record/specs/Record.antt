-- A record: a header sector and its data sectors, at consecutive positions. Assumes nothing.
use Rattle.std.specs.Prelude.{ℕ, zero, suc, ◌+◌, ◌-◌, ◌*◌, ◌/◌, ◌%◌, min, Bool, cond, not, ◌&&◌, List, [], ◌∷◌, ◌++◌, length, take, drop, ◌==◌, nat_le}
use Rattle.std.specs.Str.{bytes_eq}
use Rattle.codec.specs.Fields.{be32, le32, be32_bytes, le32_bytes, part, zeros}
use Rattle.crc.specs.Crc.{crc32c}
use Rattle.label.specs.Position.{position, cycle, log_sector, place}
use Rattle.label.specs.declared.label.Label.{Label}
use Rattle.record.specs.declared.header.RecordHeader.{RecordHeader}

-- What a sector of the log tells.

-- a sector is a header if its first word says so
abbrev pub is_header : List ℕ → Bool
is_header b = be32 b 0 == 0xFEEDBABE

-- the cycle that a log sector holds: its first word, or the second in a header
abbrev pub held_cycle : List ℕ → ℕ
held_cycle b = cond (is_header b) (be32 b 4) (be32 b 0)

-- the position that log sector i holds
abbrev pub held_position : Label → ℕ → List ℕ → ℕ
held_position L i b = position L (held_cycle b) i

-- the fields of a header
abbrev pub header_of : List ℕ → RecordHeader
header_of b = record {
  cycle = be32 b 4;
  version = be32 b 8;
  length = be32 b 12;
  own = (be32 b 16, be32 b 20);
  tail = (be32 b 24, be32 b 28);
  sum = le32 b 32;
  previous = be32 b 36;
  ops = be32 b 40;
  format = be32 b 300;
  uuid = part 304 16 b;
  most = be32 b 320;
}

-- the position after a record whose header stands at x
abbrev pub end_of : RecordHeader → ℕ → ℕ
end_of h x = x + 1 + h.length / 512

-- a header at position x is sound: version 2, format 1, the volume's uuid, its own position, a cycle that is not 0, and as
-- many bytes of data as a record may have
abbrev pub sound : Label → RecordHeader → ℕ → Bool
sound L h x =
    (h.version == 2) && (h.format == 1 && (bytes_eq h.uuid L.uuid
    && (h.own.0 == cycle L x && (h.own.1 == log_sector L x && (not (h.cycle == 0)
    && (h.length % 512 == 0 && (nat_le 512 h.length && nat_le h.length L.most)))))))

-- the checksum: the first 328 bytes of the header with the stored sum as zeros, then the data sectors as stored
abbrev pub checksum : List ℕ → List ℕ → ℕ
checksum b stored = crc32c (take 32 b ++ (zeros 4 ++ (part 36 292 b ++ stored)))

-- Saved words.

-- the first words of n sectors of data
abbrev pub first_words : ℕ → List ℕ → List ℕ
first_words zero b = []
first_words (suc n) b = take 4 b ++ first_words n (drop 512 b)

-- n sectors of data with other words for their first ones
abbrev pub with_words : ℕ → List ℕ → List ℕ → List ℕ
with_words zero w b = b
with_words (suc n) w b = take 4 w ++ (part 4 508 b ++ with_words n (drop 4 w) (drop 512 b))

-- the 64 saved words: those of n sectors of data, then zeros
abbrev pub saved_words : ℕ → List ℕ → List ℕ
saved_words n b = first_words n b ++ zeros (4 * (64 - n))

-- the cycles of n positions from x on, as words
abbrev pub cycle_words : Label → ℕ → ℕ → List ℕ
cycle_words L x zero = []
cycle_words L x (suc n) = be32_bytes (cycle L x) ++ cycle_words L (x + 1) n

-- n sectors of data as they are stored at the positions from x on: the cycle in place of each first word
abbrev pub stored : Label → ℕ → ℕ → List ℕ → List ℕ
stored L x n b = with_words n (cycle_words L x n) b

-- the data of a record: its stored sectors with the saved words put back
abbrev pub restored : ℕ → List ℕ → List ℕ → List ℕ
restored n b stored = with_words n (part 44 256 b) stored

-- how many whole sectors a run of bytes has, 64 at most: a record has no more
abbrev pub whole_sectors : List ℕ → ℕ
whole_sectors b = min 64 (length b / 512)

-- How a record is written.

-- a header: magic, cycle, version, bytes of data, own position, tail, checksum, the record before, number of ops; the saved
-- words; format, uuid, the most bytes of data, zeros. First the part before the saved words
abbrev pub header_front : RecordHeader → List ℕ
header_front h =
    be32_bytes 0xFEEDBABE ++ be32_bytes h.cycle ++ be32_bytes h.version ++ be32_bytes h.length
    ++ be32_bytes h.own.0 ++ be32_bytes h.own.1 ++ be32_bytes h.tail.0 ++ be32_bytes h.tail.1
    ++ le32_bytes h.sum ++ be32_bytes h.previous ++ be32_bytes h.ops

-- the part behind the saved words
abbrev pub header_back : RecordHeader → List ℕ
header_back h = be32_bytes h.format ++ (h.uuid ++ (be32_bytes h.most ++ zeros 188))

-- the sector
abbrev pub header_bytes : RecordHeader → List ℕ → List ℕ
header_bytes h saved = header_front h ++ (saved ++ header_back h)

-- a header with another checksum
abbrev pub with_sum : RecordHeader → ℕ → RecordHeader
with_sum h x = record {
  cycle = h.cycle;
  version = h.version;
  length = h.length;
  own = h.own;
  tail = h.tail;
  sum = x;
  previous = h.previous;
  ops = h.ops;
  format = h.format;
  uuid = h.uuid;
  most = h.most;
}

-- the sector of a header, with the checksum that it and the stored data sectors have
abbrev pub sealed : RecordHeader → List ℕ → List ℕ → List ℕ
sealed h saved stored = header_bytes (with_sum h (checksum (header_bytes h saved) stored)) saved

-- the header, still without its checksum, of a record with n data sectors: its own position and its tail as pairs, the log sector
-- of the record before and the number of ops
abbrev pub header_at : Label → ℕ × ℕ → ℕ × ℕ → ℕ → ℕ → ℕ → RecordHeader
header_at L own tail previous ops n = record {
  cycle = own.0;
  version = 2;
  length = 512 * n;
  own = own;
  tail = tail;
  sum = 0;
  previous = previous;
  ops = ops;
  format = 1;
  uuid = L.uuid;
  most = L.most;
}

-- the fewest sectors for n bytes
abbrev pub sectors_for : ℕ → ℕ
sectors_for n = (n + 511) / 512

-- bytes filled up with the fewest zeros to whole sectors
abbrev pub padded : List ℕ → List ℕ
padded b = b ++ zeros (512 * sectors_for (length b) - length b)

-- the n sectors of a run of bytes
abbrev pub sectors : ℕ → List ℕ → List (List ℕ)
sectors zero b = []
sectors (suc n) b = take 512 b ∷ sectors n (drop 512 b)

-- a record with one data sector of the bytes b, header first: its own place and its tail as pairs, the log sector of the record before
-- and the number of ops; with the places of positions it is `packed` of its ops
abbrev pub short_record : Label → ℕ × ℕ → ℕ × ℕ → ℕ → ℕ → List ℕ → List (List ℕ)
short_record L own tail previous ops b =
    let s = stored L (position L own.0 own.1 + 1) (whole_sectors b) b in
    sealed (header_at L own tail previous ops 1) (saved_words (whole_sectors b) b) s ∷ (s ∷ [])

-- the sectors of a record at position x, header first: its tail, the log sector of the record before, the number of ops and
-- their bytes
abbrev pub packed : Label → ℕ → ℕ → ℕ → ℕ → List ℕ → List (List ℕ)
packed L x tail previous ops b =
    let n = sectors_for (length b) in
    let d = padded b in
    let s = stored L (x + 1) n d in
    sealed (header_at L (place L x) (place L tail) previous ops n) (saved_words n d) s ∷ sectors n s
