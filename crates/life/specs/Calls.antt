-- What the calls decide and do: when commit, clear and replay act, and what they write. Assumes nothing.
use Rattle.std.specs.Prelude.{◌≡◌, ℕ, zero, suc, ◌+◌, ◌-◌, ◌*◌, ◌/◌, ◌%◌, ◌<◌, ◌≤◌, true, cond, List, [], ◌∷◌, ◌++◌, length, replicate, Some, None, Option, ◌==◌, ◌≢◌, slice_index}
use Rattle.life.specs.Disk.{Sector, holds, unreadable, Action, write, force, Whole, In, AllByRecursion, put, Writes}
use Rattle.life.specs.Items.{Item, patch, cancel, opens, closes, covered, Covers, applied, skipped, open_ids}
use Rattle.life.specs.Log.{limit, at, Greatest, Coherent, Head, Newest}
use Rattle.life.specs.Format.{Rec, size, Small, Fits, Transaction, Format, chain_items, sector, slot}

-- Bytes.

-- the bytes of a sector that can be read
abbrev pub bytes_of : Sector → List ℕ
bytes_of (holds b) = b
bytes_of unreadable = []

-- byte o of a sector, if it can be read
abbrev pub byte : Sector → ℕ → Option ℕ
byte (holds b) o = Some (slice_index b o)
byte unreadable o = None

-- byte x of a volume with these contents
abbrev pub byte_at : (ℕ → Sector) → ℕ → Option ℕ
byte_at c x = byte (c (x / 512)) (x % 512)

-- a sector that items may write: on the device, neither the label nor of the log
pub record Home (F : Format) (i : ℕ) : Type 0 where
  pub later : 1 ≤ i
  pub inside : i < F.ring.sectors
  pub free : (x : ℕ) → slot F x ≢ i

-- an item that commit accepts: it covers sectors of the volume's own, and each byte that it gives a value lies in one of them
pub record Sound (F : Format) (i : Item) : Type 0 where
  pub home : AllByRecursion (Home F) (covered i)
  pub within : (x : ℕ) → Covers i x → In (x / 512) (covered i)

-- each sector that the items cover can be read
abbrev pub Readable : (ℕ → Sector) → List Item → Type 0
Readable c items = AllByRecursion (λ i. AllByRecursion (λ n. Whole (c n)) (covered i)) items

-- What is written.

-- each write is to a sector of the device past the label
abbrev pub Inside : Format → List Action → Type 0
Inside F actions = Writes (λ i s. (1 ≤ i) × (i < F.ring.sectors)) actions

-- a value or nothing laid over a byte
abbrev pub over : Option ℕ → ℕ → ℕ
over (Some v) old = v
over None old = old

-- values laid over bytes, from byte o of a sector on
abbrev pub overlay : (ℕ → Option ℕ) → ℕ → List ℕ → List ℕ
overlay f o [] = []
overlay f o (b ∷ bs) = over (f o) b ∷ overlay f (o + 1) bs

-- the bytes of sector i with what a patch gives them
abbrev pub mended : (ℕ → Option ℕ) → ℕ → Sector → List ℕ
mended f i s = overlay (λ o. f (i * 512 + o)) 0 (bytes_of s)

-- what writes leave of the contents where all are accepted
abbrev pub effect : List Action → (ℕ → Sector) → ℕ → Sector
effect [] c = c
effect (write i b ∷ rest) c = effect rest (put c i (holds b))
effect (force ∷ rest) c = effect rest c

-- a patch rewrites each sector that it covers
abbrev pub patch_writes : (ℕ → Option ℕ) → List ℕ → (ℕ → Sector) → List Action
patch_writes f [] c = []
patch_writes f (i ∷ l) c = write i (mended f i (c i)) ∷ patch_writes f l c

-- patches one after the other, each over what those before it leave
abbrev pub all_writes : List Item → (ℕ → Sector) → List Action
all_writes [] c = []
all_writes (patch k l f ∷ rest) c = patch_writes f l c ++ all_writes rest (effect (patch_writes f l c) c)
all_writes (cancel k ∷ rest) c = all_writes rest c
all_writes (opens i ∷ rest) c = all_writes rest c
all_writes (closes i ∷ rest) c = all_writes rest c

-- the patches of items in replay order that are applied
abbrev pub lays : List Item → (ℕ → Sector) → List Action
lays items c = all_writes (applied items) c

-- of n positions from x on each that is held is given up
abbrev pub blanks : Format → (ℕ → Sector) → ℕ → ℕ → List Action
blanks F c x zero = []
blanks F c x (suc n) = cond (at F.ring c x == x) (write (slot F x) (F.blank x) ∷ []) [] ++ blanks F c (x + 1) n

-- n sectors of a record at p, from its sector j on
abbrev pub puts : Format → Rec → ℕ → ℕ → ℕ → ℕ → List Action
puts F r t p j zero = []
puts F r t p j (suc n) = write (slot F (p + j)) (F.sec r t p j) ∷ puts F r t p (j + 1) n

-- the sectors of a record at p with the tail t, ascending
abbrev pub record_writes : Format → Rec → ℕ → ℕ → List Action
record_writes F r t p = puts F r t p 0 (size r)

-- Replay.

-- the record r stands in the log at p
abbrev pub Stands : Format → (ℕ → Sector) → ℕ → Rec → Type 0
Stands F c p r = (t : ℕ) × Fits F.ring r t p × ((j : ℕ) → j < size r → c (slot F (p + j)) ≡ sector F r t p j)

-- the records stand one after the other from p to e
abbrev pub Chain : Format → (ℕ → Sector) → ℕ → ℕ → List Rec → Type 0
Chain F c p e [] = p ≡ e
Chain F c p e (r ∷ rs) = (p < e) × Stands F c p r × Chain F c (p + size r) e rs

-- what a reading of the log finds: the greatest position m, the head h, the newest record's position n, its end e, the tail t, and the records from t to e
pub record Plan (F : Format) (c : ℕ → Sector) (m h n e t : ℕ) (chain : List Rec) : Type 0 where
  pub greatest : Greatest F.ring c m
  pub coherent : Coherent F.ring c m
  pub head : Head F.ring c m h
  pub newest : Newest F.ring c h n
  pub within : m + 1 ≤ n + F.ring.N
  pub ends : e ≡ n + F.ring.len (c (slot F n))
  pub told : t ≡ F.ring.tail (c (slot F n))
  pub range : m + 1 ≤ t + F.ring.N
  pub before : t < e
  pub chained : Chain F c t e chain

-- force; the patches that are applied; the positions from e to m that are held are given up; force
abbrev pub replays : Format → (ℕ → Sector) → ℕ → ℕ → List Rec → List Action
replays F c m e chain = force ∷ (lays (chain_items F chain) c ++ blanks F c e (m + 1 - e)) ++ (force ∷ [])

-- what replay counts: records from the tail on, transactions, patches applied and skipped, intents open
pub record Counts : Type 0 where
  pub records : ℕ
  pub transactions : ℕ
  pub applied : ℕ
  pub skipped : ℕ
  pub intents : ℕ

-- the counts of a chain
abbrev pub counts : Format → List Rec → Counts
counts F chain = record {
  records = length chain;
  transactions = length (F.reads chain);
  applied = length (applied (chain_items F chain));
  skipped = length (skipped (chain_items F chain));
  intents = length (open_ids (chain_items F chain));
}

-- Sessions.

-- a session: the end e of the log, its tail t, the end a at the last accepted force, clear or replay, the position of the newest record, and the chain
-- of records from t to e, which its book of open intents and cancelled keys is made from
pub record Session : Type 0 where
  pub e : ℕ
  pub t : ℕ
  pub a : ℕ
  pub newest : ℕ
  pub chain : List Rec

-- a session as calls leave it: N ≤ t < a ≤ e, e within a turn of t and the window of a, and every check passes on its chain
pub record Steady (F : Format) (s : Session) : Type 0 where
  pub turn : F.ring.N ≤ s.t
  pub begun : s.t < s.a
  pub low : s.a ≤ s.e
  pub window : s.e ≤ s.a + F.ring.W
  pub room : s.e ≤ s.t + F.ring.N
  pub passes : F.pass s.chain ≡ true

-- the ids in the book of a session
abbrev pub book_ids : Format → Session → List ℕ
book_ids F s = open_ids (chain_items F s.chain)

-- the session that an accepted replay gives
abbrev pub replayed : ℕ → ℕ → ℕ → List Rec → Session
replayed n e t chain = record { e = e; t = t; a = e; newest = n; chain = chain }

-- commit writes the record r for the transaction x: it keeps the window and the room, can be written, and reading it gives x and nothing else, whose
-- items are accepted after those of the chain
pub record Commits (F : Format) (s : Session) (r : Rec) (x : Transaction) : Type 0 where
  pub window : s.e + size r ≤ s.a + F.ring.W
  pub room : s.e + size r ≤ s.t + F.ring.N
  pub small : Small F.ring r
  pub last : s.e + r.more < limit F.ring
  pub reads : F.reads (s.chain ++ (r ∷ [])) ≡ F.reads s.chain ++ (x ∷ [])
  pub sound : AllByRecursion (Sound F) (F.items x)
  pub passes : F.pass (s.chain ++ (r ∷ [])) ≡ true

-- the session after it
abbrev pub committed : Session → Rec → Session
committed s r = record { e = s.e + size r; t = s.t; a = s.a; newest = s.e; chain = s.chain ++ (r ∷ []) }

-- the session after an accepted force
abbrev pub settles : Session → Session
settles s = record { e = s.e; t = s.t; a = s.e; newest = s.newest; chain = s.chain }

-- q is a clearing record: it commits nothing, passes every check, and can be written
pub record Clearing (F : Format) (q : Rec) : Type 0 where
  pub empty : F.reads (q ∷ []) ≡ []
  pub passes : F.pass (q ∷ []) ≡ true
  pub short : size q ≤ F.ring.W
  pub small : Small F.ring q

-- clear acts, with the clearing record q: no intent is open, q keeps the room, and no sector of it lies in cycle 2^31
pub record Clears (F : Format) (s : Session) (q : Rec) : Type 0 where
  pub closed : book_ids F s ≡ []
  pub clearing : Clearing F q
  pub last : s.e + q.more < limit F.ring
  pub room : s.e + size q ≤ s.t + F.ring.N

-- the session after it
abbrev pub cleared : Session → Rec → Session
cleared s q = record { e = s.e + size q; t = s.e; a = s.e + size q; newest = s.e; chain = q ∷ [] }

-- force; the patches that are applied; force; the clearing record at e, whose tail is its own position; force
abbrev pub clearings : Format → (ℕ → Sector) → ℕ → List Rec → Rec → List Action
clearings F c e chain q = force ∷ (lays (chain_items F chain) c ++ (force ∷ (record_writes F q e e ++ (force ∷ []))))

-- Label.

-- n log sectors as zeros, from position x on
abbrev pub zero_writes : Format → ℕ → ℕ → List Action
zero_writes F x zero = []
zero_writes F x (suc n) = write (slot F x) (replicate 512 0) ∷ zero_writes F (x + 1) n

-- the label acts, with the clearing record q, where no sector of it lies in cycle 2^31
pub record Labels (F : Format) (q : Rec) : Type 0 where
  pub clearing : Clearing F q
  pub last : F.ring.N + q.more < limit F.ring

-- the label on sector 0; the log as zeros; the clearing record at position N, whose tail is its own position; force
abbrev pub labels : Format → Rec → List Action
labels F q = write 0 F.label ∷ ((zero_writes F 0 F.ring.N ++ record_writes F q F.ring.N F.ring.N) ++ (force ∷ []))
