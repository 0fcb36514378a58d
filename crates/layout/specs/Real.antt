-- The real layout: how positions, records, labels and blanks stand in sectors. Assumes nothing.
use Rattle.std.specs.Prelude.{◌≡◌, ℕ, ◌+◌, ◌-◌, ◌/◌, ◌≤◌, Bool, true, cond, List, [], length, slice_index_or}
use Rattle.codec.specs.Fields.{Bytes}
use Rattle.label.specs.declared.label.Label.{Label}
use Rattle.label.specs.Label.{limits, label_bytes}
use Rattle.label.specs.Position.{volume_sector}
use Rattle.record.specs.Record.{is_header, held_position, header_of, packed}
use Rattle.record.specs.Record as records
use Rattle.item.specs.Meaning.{Bank}
use Rattle.model.specs.View.{tail_of}
use Rattle.model.specs.Lay.{blank}
use Rattle.life.specs.Disk.{Sector}
use Rattle.life.specs.Format.{Rec, Format}
use Rattle.life.specs.Calls.{bytes_of}
use Rattle.layout.specs.Read.{reads, pass, items}

-- a label that keeps its limits on a volume of n sectors
pub record Usable (L : Label) (n : ℕ) : Type 0 where
  pub small : n ≤ 1073741824
  pub kept : limits L n ≡ true
  pub uuid : length L.uuid ≡ 16
  pub bytes : Bytes L.uuid

-- the position that sector i of the volume holds
abbrev pub pos : Label → ℕ → Sector → ℕ
pos L i s = held_position L (i - L.start) (bytes_of s)

-- the sectors of the record whose header this is, 0 where it is none
abbrev pub len : Sector → ℕ
len s = cond (is_header (bytes_of s)) (1 + (header_of (bytes_of s)).length / 512) 0

-- the tail that a header tells
abbrev pub tail : Label → Sector → ℕ
tail L s = tail_of L (header_of (bytes_of s))

-- a header is sound for position x
abbrev pub sound : Label → ℕ → Sector → Bool
sound L x s = records.sound L (header_of (bytes_of s)) x

-- sector j of a record at position p with the tail t
abbrev pub sec : Label → Rec → ℕ → ℕ → ℕ → List ℕ
sec L r t p j = slice_index_or (packed L p t r.previous r.ops r.payload) j []

-- a format is the real layout, under the label L on a volume of n sectors, with the kinds of a bank
pub record Real (L : Label) (n : ℕ) (bank : Bank) (F : Format) : Type 0 where
  pub sectors : F.ring.sectors ≡ n
  pub count : F.ring.N ≡ L.count
  pub window : F.ring.W ≡ L.window
  pub most : F.ring.R ≡ L.most
  pub slots : (x : ℕ) → F.ring.slot x ≡ volume_sector L x
  pub positions : (i : ℕ) (s : Sector) → F.ring.pos i s ≡ pos L i s
  pub lengths : (s : Sector) → F.ring.len s ≡ len s
  pub tails : (s : Sector) → F.ring.tail s ≡ tail L s
  pub sounds : (x : ℕ) (s : Sector) → F.ring.sound x s ≡ sound L x s
  pub label : F.label ≡ label_bytes L
  pub secs : (r : Rec) (t p j : ℕ) → F.sec r t p j ≡ sec L r t p j
  pub blanks : (x : ℕ) → F.blank x ≡ blank L x
  pub transactions : (chain : List Rec) → F.reads chain ≡ reads n L bank chain
  pub passes : (chain : List Rec) → F.pass chain ≡ pass n L bank chain
  pub meant : (rs : List (List ℕ)) → F.items rs ≡ items bank rs
