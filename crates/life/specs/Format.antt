-- Records, transactions, and what a format of records has to keep to. Assumes nothing.
use Rattle.std.specs.Prelude.{◌≡◌, ℕ, suc, ◌+◌, ◌*◌, ◌<◌, ◌≤◌, Bool, true, List, [], ◌∷◌, ◌++◌, length, replicate}
use Rattle.life.specs.Disk.{Sector, holds, AllByRecursion}
use Rattle.life.specs.Items.{Item}
use Rattle.life.specs.Log.{Ring, limit}

-- a record: the log sector of the record before it, the number of its ops, its sectors after the header, and the bytes that they carry
pub record Rec : Type 0 where
  pub previous : ℕ
  pub ops : ℕ
  pub more : ℕ
  pub payload : List ℕ

-- its sectors: the header and the data
abbrev pub size : Rec → ℕ
size r = suc r.more

-- a record that can be written at all: its numbers fit their fields of 32 bits, and its data are whole sectors of bytes, one at least, R bytes at most
pub record Small (g : Ring) (r : Rec) : Type 0 where
  pub previous_low : r.previous < 4294967296
  pub ops_low : r.ops < 4294967296
  pub some : 1 ≤ r.more
  pub most : 512 * r.more ≤ g.R
  pub whole : length r.payload ≡ 512 * r.more
  pub bytes : AllByRecursion (λ b. b < 256) r.payload

-- a record that can be written at position p with the tail t: past the first turn, not before its tail, and no sector of it in cycle 2^31
pub record Fits (g : Ring) (r : Rec) (t p : ℕ) : Type 0 where
  pub small : Small g r
  pub begun : g.N ≤ p
  pub behind : t ≤ p
  pub last : p + r.more < limit g

-- a transaction is the regions handed to commit, each a list of bytes
abbrev pub Transaction : Type 0
Transaction = List (List ℕ)

-- a format: how records, labels and blanks stand in sectors, and what chains of records mean
pub record Format : Type 0 where
  pub ring : Ring
  -- the sector of the label
  pub label : List ℕ
  -- sector j of a record at position p with the tail t
  pub sec : Rec → ℕ → ℕ → ℕ → List ℕ
  -- it has 512 bytes and holds its position; the header is sound, and tells the record's length and tail; no other sector of it is a header
  pub sec_whole : (r : Rec) (t p j : ℕ) → Fits ring r t p → j < size r → length (sec r t p j) ≡ 512
  pub sec_pos : (r : Rec) (t p j : ℕ) → Fits ring r t p → j < size r → ring.pos (ring.slot (p + j)) (holds (sec r t p j)) ≡ p + j
  pub sec_sound : (r : Rec) (t p : ℕ) → Fits ring r t p → ring.sound p (holds (sec r t p 0)) ≡ true
  pub sec_len : (r : Rec) (t p : ℕ) → Fits ring r t p → ring.len (holds (sec r t p 0)) ≡ size r
  pub sec_tail : (r : Rec) (t p : ℕ) → Fits ring r t p → ring.tail (holds (sec r t p 0)) ≡ t
  pub sec_data : (r : Rec) (t p j : ℕ) → Fits ring r t p → suc j < size r → ring.len (holds (sec r t p (suc j))) ≡ 0
  -- a record is told by its sectors
  pub sec_one : (r q : Rec) (t u p : ℕ) → Fits ring r t p → Fits ring q u p → ((j : ℕ) → j < size r → sec r t p j ≡ sec q u p j) → size r ≡ size q → r ≡ q
  -- what the sector of a position is rewritten with when the position is given up: it holds the position a turn before
  pub blank : ℕ → List ℕ
  pub blank_whole : (x : ℕ) → ring.N ≤ x → x < limit ring → length (blank x) ≡ 512
  pub blank_pos : (x : ℕ) → ring.N ≤ x → x < limit ring → ring.pos (ring.slot x) (holds (blank x)) + ring.N ≡ x
  -- a sector of zeros holds its position in the first turn
  pub zero_pos : (x : ℕ) → x < ring.N → ring.pos (ring.slot x) (holds (replicate 512 0)) ≡ x
  -- the transactions that a chain of records commits, oldest first; more records commit no fewer
  pub reads : List Rec → List Transaction
  pub reads_more : (l m : List Rec) → (w : List Transaction) × (reads (l ++ m) ≡ reads l ++ w)
  -- every check of the ops and items of a chain passes; where it does on a chain, it does on each front of it
  pub pass : List Rec → Bool
  pub pass_front : (l m : List Rec) → pass (l ++ m) ≡ true → pass l ≡ true
  -- what the regions of a transaction mean, in replay order
  pub items : Transaction → List Item

-- the items of transactions, in replay order
abbrev pub all_items : Format → List Transaction → List Item
all_items F [] = []
all_items F (x ∷ xs) = F.items x ++ all_items F xs

-- the items of a chain of records
abbrev pub chain_items : Format → List Rec → List Item
chain_items F chain = all_items F (F.reads chain)

-- sector j of a record, as it stands on the device
abbrev pub sector : Format → Rec → ℕ → ℕ → ℕ → Sector
sector F r t p j = holds (F.sec r t p j)

-- the sector of a position
abbrev pub slot : Format → ℕ → ℕ
slot F x = F.ring.slot x
