-- What the definitions of this crate give together. Assumes nothing.
use Rattle.std.specs.Prelude.{◌≡◌, ℕ, ◌*◌, ◌^◌, ◌<◌, ◌≤◌, true, List, length}
use Rattle.codec.specs.Fields.{part}
use Rattle.record.specs.Record.{is_header, header_of, header_bytes, with_sum, checksum, saved_words, stored, restored}
use Rattle.label.specs.declared.label.Label.{Label}
use Rattle.record.specs.declared.header.RecordHeader.{RecordHeader}

-- the numbers of a header have 32 bits, its uuid 16 bytes
pub record HeaderFits (h : RecordHeader) : Type 0 where
  pub cycle : h.cycle < 2 ^ 32
  pub version : h.version < 2 ^ 32
  pub data_length : h.length < 2 ^ 32
  pub own_cycle : h.own.0 < 2 ^ 32
  pub own_sector : h.own.1 < 2 ^ 32
  pub tail_cycle : h.tail.0 < 2 ^ 32
  pub tail_sector : h.tail.1 < 2 ^ 32
  pub sum : h.sum < 2 ^ 32
  pub previous : h.previous < 2 ^ 32
  pub ops : h.ops < 2 ^ 32
  pub format : h.format < 2 ^ 32
  pub uuid : length h.uuid ≡ 16
  pub most : h.most < 2 ^ 32

-- a header that is written is a header, of 512 bytes, and is read back with its saved words
pub record HeaderRead (h : RecordHeader) (saved : List ℕ) : Type 0 where
  pub marked : is_header (header_bytes h saved) ≡ true
  pub whole : length (header_bytes h saved) ≡ 512
  pub fields : header_of (header_bytes h saved) ≡ h
  pub words : part 44 256 (header_bytes h saved) ≡ saved

abbrev pub HeaderBack : Type 0
HeaderBack = (h : RecordHeader) (saved : List ℕ) → HeaderFits h → length saved ≡ 256 → HeaderRead h saved

-- the checksum does not depend on the sum that the header has, so a header can be given its own
abbrev pub SumAside : Type 0
SumAside = (h : RecordHeader) (x : ℕ) (saved sectors : List ℕ) →
    checksum (header_bytes (with_sum h x) saved) sectors ≡ checksum (header_bytes h saved) sectors

-- data that is packed for the positions from x on and unpacked again by the header that saved its words is as it was
abbrev pub WordsBack : Type 0
WordsBack = (L : Label) (x n : ℕ) (b : List ℕ) (h : RecordHeader) → n ≤ 64 → 512 * n ≤ length b →
    restored n (header_bytes h (saved_words n b)) (stored L x n b) ≡ b

-- all of these
pub record RecordLaws : Type 0 where
  pub header : HeaderBack
  pub sum : SumAside
  pub words : WordsBack
