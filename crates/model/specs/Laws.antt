-- What the definitions give together, in words: records that are written are read back, what is found in a log, what runs and patches leave. Assumes nothing.
use Rattle.std.specs.Prelude.{◌≡◌, ℕ, zero, suc, ◌+◌, ◌-◌, ◌*◌, ◌/◌, ◌%◌, ◌<◌, ◌≤◌, true, false, cond, ◌⊎◌, List, [], ◌∷◌, ◌++◌, map, length, Some, None, Ok, Option, ◌≢◌, nat_le, slice_index, slice_index_or}
use Rattle.std.specs.List.{AllByRecursion}
use Rattle.codec.specs.Fields.{Bytes, zeros, joined}
use Rattle.device.specs.State.{DevState, Sector, sector_at, holds, unreadable, bytes_of}
use Rattle.device.specs.Actions.{effect}
use Rattle.label.specs.declared.label.Label.{Label}
use Rattle.label.specs.Position.{cycle, log_sector, volume_sector}
use Rattle.record.specs.Record.{is_header, held_cycle, header_of, sound, end_of, checksum, restored, padded, sectors_for, packed}
use Rattle.item.specs.Meaning.{Meaning, Bank}
use Rattle.model.specs.Refusals.{◌>>=◌}
use Rattle.model.specs.Lay.{give, lays, record_writes}
use Rattle.model.specs.Items.{Patch, first_sector, gives_any, cover_of, Region, Item, Book, items_after, replay_order, check_all, reading, committing, verdict, meant}
use Rattle.model.specs.Ops.{Op, start, commit, region, idle}
use Rattle.model.specs.View.{read_log, at, log_header, held, held_by, tail_of, Found, search_log}
use Rattle.model.specs.Reading.{Reading, saw, joins, counted, data_sectors, read_ops, read_record, read_records}
use Rattle.model.specs.Calls.{Session, Plan, Counts, replay_plan, clearing, first_region, commit_ops, placed, number_of, end_after, region_bytes, lengthened, commit_plan, commit_call, force_call, clear_call}

-- what a label keeps to, as far as records are concerned
pub record Sane (L : Label) : Type 0 where
  pub some : 1 ≤ L.count
  pub few : L.count ≤ 2097152
  pub short : L.most ≤ 32768
  pub uuid : length L.uuid ≡ 16
  pub bytes : Bytes L.uuid

-- a record of the bytes b can be written at position x
pub record Fits (L : Label) (x tail previous ops : ℕ) (b : List ℕ) : Type 0 where
  pub begun : L.count ≤ x
  pub last : x + sectors_for (length b) < 2147483648 * L.count
  pub behind : tail ≤ x
  pub previous_low : previous < 4294967296
  pub ops_low : ops < 4294967296
  pub some : 1 ≤ length b
  pub most : 512 * sectors_for (length b) ≤ L.most
  pub bytes : Bytes b

-- a header sector h and data sectors are the record of b at x: sound, with its cycles, end, tail, the record before, number of ops,
-- checksum and data, and no data sector looks like a header
pub record ReadsBack (L : Label) (x tail previous ops : ℕ) (b h : List ℕ) (secs : List (List ℕ)) : Type 0 where
  pub is_one : is_header h ≡ true
  pub turn : held_cycle h ≡ cycle L x
  pub stands : sound L (header_of h) x ≡ true
  pub ends : end_of (header_of h) x ≡ x + 1 + sectors_for (length b)
  pub tells : tail_of L (header_of h) ≡ tail
  pub tells_low : (header_of h).tail.1 < L.count
  pub before : (header_of h).previous ≡ previous
  pub counts : (header_of h).ops ≡ ops
  pub sums : checksum h (joined secs) ≡ (header_of h).sum
  pub gives : restored (data_sectors (header_of h)) h (joined secs) ≡ padded b
  pub whole : length h ≡ 512
  pub wholes : (j : ℕ) → j < length secs → length (slice_index_or secs j []) ≡ 512
  pub as_many : length secs ≡ sectors_for (length b)
  pub turns : (j : ℕ) → j < length secs → held_cycle (slice_index_or secs j []) ≡ cycle L (x + 1 + j)
  pub no_header : (j : ℕ) → j < length secs → is_header (slice_index_or secs j []) ≡ false

-- a record that is written is read back
abbrev pub WrittenReads : Type 0
WrittenReads = (L : Label) (x tail previous ops : ℕ) (b : List ℕ) → Sane L → Fits L x tail previous ops b →
    (h : List ℕ) × (secs : List (List ℕ)) × (packed L x tail previous ops b ≡ h ∷ secs) × ReadsBack L x tail previous ops b h secs

-- the regions that a transaction was given, each with the byte of its op
abbrev pub located : ℕ → ℕ → List (List ℕ) → List Region
located sector at [] = []
located sector at (r ∷ rs) = record { bytes = r; sector = sector; byte = at } ∷ located sector (at + 12 + length r) rs

-- the byte after the ops of regions
abbrev pub after_regions : ℕ → List (List ℕ) → ℕ
after_regions at [] = at
after_regions at (r ∷ rs) = after_regions (at + 12 + length r) rs

-- their ops
abbrev pub region_ops : ℕ → ℕ → ℕ → List (List ℕ) → List Op
region_ops number sector at [] = []
region_ops number sector at (r ∷ rs) =
    record { number = number; sort = region true true; bytes = r; sector = sector; byte = at } ∷ region_ops number sector (at + 12 + length r) rs

-- the ops of a transaction: start, the first region, the regions, commit
abbrev pub transaction_ops : ℕ → ℕ → ℕ → List (List ℕ) → List Op
transaction_ops number items sector rs =
    record { number = number; sort = start; bytes = []; sector = sector; byte = 0 }
    ∷ record { number = number; sort = region true true; bytes = first_region number items; sector = sector; byte = 12 }
    ∷ region_ops number sector 40 rs

-- its last op
abbrev pub commit_op : ℕ → ℕ → List (List ℕ) → Op
commit_op number sector rs = record { number = number; sort = commit; bytes = []; sector = sector; byte = after_regions 40 rs }

-- a reading after these ops, with no transaction open
abbrev pub having_seen : Reading → List Op → Reading
having_seen r os = record { records = r.records; seen = r.seen ++ os; pending = []; done = r.done; book = r.book }

-- the ops that commit writes are read as one transaction of just the regions it was given
abbrev pub OpsRead : Type 0
OpsRead = (d : DevState) (L : Label) (bank : Bank) (sector number items : ℕ) (rs : List (List ℕ)) (rest : List ℕ) (r : Reading) →
    number < 4294967296 → AllByRecursion (λ b. length b < 4294967296) rs → r.pending ≡ [] →
    read_ops d L bank sector (commit_ops number items rs ++ rest) 0 (3 + length rs) r
    ≡ (items_after 0 (located sector 40 rs) >>= λ is.
    check_all reading d L bank (replay_order bank is) r.book >>= λ b.
    Ok (joins bank (located sector 40 rs) (replay_order bank is) b
    (having_seen r (transaction_ops number items sector rs ++ (commit_op number sector rs ∷ [])))))

-- sectors stand in a log from position x on
abbrev pub Stand : Label → List (List ℕ) → ℕ → List (List ℕ) → Type 0
Stand L log x secs = (j : ℕ) → j < length secs → at L log (x + j) ≡ slice_index_or secs j []

-- what the writes of a record's sectors leave: each of them on its sector, and every other sector as it was
pub record Written (L : Label) (x : ℕ) (secs : List (List ℕ)) (c c' : List Sector) : Type 0 where
  pub put : (j : ℕ) → j < length secs → slice_index_or c' (volume_sector L (x + j)) unreadable ≡ holds (slice_index_or secs j [])
  pub kept : (i : ℕ) → ((j : ℕ) → j < length secs → volume_sector L (x + j) ≢ i) → slice_index_or c' i unreadable ≡ slice_index_or c i unreadable

-- so do the writes of a record where the log lies on the device
abbrev pub WritesPut : Type 0
WritesPut = (L : Label) (x : ℕ) (secs : List (List ℕ)) (c : List Sector) → 1 ≤ L.count → length secs ≤ L.count → L.start + L.count ≤ length c →
    Written L x secs c (effect (record_writes L x secs) c)

-- sectors that a device holds stand in the log that is read from it
abbrev pub HeldStand : Type 0
HeldStand = (d : DevState) (L : Label) (log : List (List ℕ)) (x : ℕ) (secs : List (List ℕ)) → 1 ≤ L.count → read_log d L ≡ Ok log →
    ((j : ℕ) → j < length secs → sector_at d (volume_sector L (x + j)) ≡ holds (slice_index_or secs j [])) → Stand L log x secs

-- where the record that commit builds stands in a log and ends by e, reading it is reading one transaction of just the regions that commit was given
abbrev pub CommitRead : Type 0
CommitRead = (d : DevState) (L : Label) (bank : Bank) (log : List (List ℕ)) (e x tail previous number items : ℕ) (rs : List (List ℕ)) (r : Reading) →
    Sane L → Fits L x tail previous (3 + length rs) (commit_ops number items rs) → number < 4294967296 → AllByRecursion (λ b. length b < 4294967296) rs →
    r.pending ≡ [] → Stand L log x (packed L x tail previous (3 + length rs) (commit_ops number items rs)) →
    x + 1 + sectors_for (length (commit_ops number items rs)) ≤ e →
    read_record d L bank log e x r
    ≡ (items_after 0 (located (volume_sector L x) 40 rs) >>= λ is.
    check_all reading d L bank (replay_order bank is) r.book >>= λ b.
    Ok (joins bank (located (volume_sector L x) 40 rs) (replay_order bank is) b
    (having_seen (counted r) (transaction_ops number items (volume_sector L x) rs ++ (commit_op number (volume_sector L x) rs ∷ [])))))

-- where a clearing record stands, reading it is reading one op with no effect
abbrev pub ClearingRead : Type 0
ClearingRead = (d : DevState) (L : Label) (bank : Bank) (log : List (List ℕ)) (e x previous : ℕ) (r : Reading) →
    Sane L → 512 ≤ L.most → L.count ≤ x → x + 1 < 2147483648 * L.count → previous < 4294967296 →
    Stand L log x (clearing L x previous) → x + 2 ≤ e →
    read_record d L bank log e x r
    ≡ Ok (saw (record { number = 0; sort = idle; bytes = 0x6E ∷ 0x55 ∷ zeros 6; sector = volume_sector L x; byte = 0 }) r.pending (counted r))

-- the position after k records from x on
abbrev pub after_records : Label → List (List ℕ) → ℕ → ℕ → ℕ
after_records L log x zero = x
after_records L log x (suc k) = after_records L log (end_of (log_header L log x) x) k

-- where a chain of records passes, its first k records pass
abbrev pub FrontPasses : Type 0
FrontPasses = (d : DevState) (L : Label) (bank : Bank) (log : List (List ℕ)) (e x n k : ℕ) (r r' : Reading) →
    read_records d L bank log e x n r ≡ Ok r' → after_records L log x k ≤ e →
    (q : Reading) × (read_records d L bank log (after_records L log x k) x n r ≡ Ok q)

-- every sector of a device can be read
abbrev pub AllReadable : DevState → Type 0
AllReadable d = (i : ℕ) → i < d.size → (b : List ℕ) × (sector_at d i ≡ holds b)

-- what items mean
abbrev pub meanings : Bank → List Item → List Meaning
meanings bank is = map (λ i. meant (verdict bank i)) is

-- items that a commit accepts are accepted, with the same book and the same meanings, by a reading of the same regions on a device of the same
-- size, all of which can be read
abbrev pub ChecksAgain : Type 0
ChecksAgain = (d d' : DevState) (L : Label) (bank : Bank) (rs : List (List ℕ)) (s s' byte' : ℕ) (is : List Item) (b b' : Book) →
    d.size ≡ d'.size → AllReadable d' →
    items_after 0 (placed s 0 rs) ≡ Ok is → check_all committing d L bank (replay_order bank is) b ≡ Ok b' →
    (js : List Item) × (items_after 0 (located s' byte' rs) ≡ Ok js) × (check_all reading d' L bank (replay_order bank js) b ≡ Ok b')
    × (meanings bank (replay_order bank js) ≡ meanings bank (replay_order bank is))

-- a session as calls leave it
pub record Steady (s : Session) : Type 0 where
  pub sane : Sane s.label
  pub even : s.label.most % 512 ≡ 0
  pub begun : s.label.count ≤ s.e
  pub behind : s.t ≤ s.e
  pub low : s.newest < s.label.count

-- the ops of a commit of regions rs with so many items
abbrev pub ops_of : Session → List (List ℕ) → ℕ → List ℕ
ops_of s rs items = commit_ops (number_of s.e) items rs

-- what a commit that its checks accept does, in words: its items are framed and accepted, the record fits and keeps the window and the room
-- for closing, and just its sectors are written
pub record Commits (d : DevState) (s : Session) (bank : Bank) (rs : List (List ℕ)) (p : Plan ℕ Session) (is : List Item) (book : Book) : Type 0 where
  pub there : s.label.start + s.label.count ≤ d.size
  pub framed : items_after 0 (placed (volume_sector s.label s.e) 0 rs) ≡ Ok is
  pub checked : check_all committing d s.label bank (replay_order bank is) s.book ≡ Ok book
  pub fits : Fits s.label s.e s.t s.newest (3 + length rs) (ops_of s rs (length is))
  pub small : AllByRecursion (λ b. length b < 4294967296) rs
  pub window : end_after s.e (ops_of s rs (length is)) ≤ s.a + s.label.window
  pub room : end_after s.e (ops_of s rs (length is)) + 2 + 2 * length book.intents ≤ s.t + s.label.count
  pub plan : p ≡ record {
    actions = record_writes s.label s.e (packed s.label s.e s.t s.newest (3 + length rs) (ops_of s rs (length is)));
    answer = number_of s.e;
    session = lengthened s (end_after s.e (ops_of s rs (length is))) book;
  }

-- so it is for every commit that is planned
abbrev pub CommitSays : Type 0
CommitSays = (d : DevState) (s : Session) (bank : Bank) (bytes : List ℕ) (regions : List (ℕ × ℕ)) (p : Plan ℕ Session) → Steady s → Bytes bytes →
    commit_plan d s bank bytes regions ≡ Ok p → (is : List Item) × (book : Book) × Commits d s bank (region_bytes bytes regions) p is book

-- what was found in a log that is not refused, in words
pub record Searched (L : Label) (f : Found) : Type 0 where
  -- M is held, and no greater position is
  pub top : held L f.log f.M ≡ true
  pub most : (x : ℕ) → held L f.log x ≡ true → x ≤ f.M
  -- each of the last `count` positions is held, or is among the last `window` and its sector holds the position a turn before
  pub coherent : (x : ℕ) → f.M < x + L.count → x ≤ f.M →
      (held L f.log x ≡ true) ⊎ ((held_by L f.log (log_sector L x) + L.count ≡ x) × (f.M < x + L.window))
  -- h is the least position from M + 1 - window on that is not held
  pub near : f.M + 1 ≤ f.h + L.window
  pub free : held L f.log f.h ≡ false
  pub full : (x : ℕ) → f.M + 1 ≤ x + L.window → x < f.h → held L f.log x ≡ true
  -- n is the first header from h - 1 back whose record ends by h; all headers down to it are sound
  pub header : is_header (at L f.log f.n) ≡ true
  pub sound_one : sound L (log_header L f.log f.n) f.n ≡ true
  pub within : f.M + 1 ≤ f.n + L.count
  pub by_head : f.e ≤ f.h
  pub later : (x : ℕ) → f.n < x → x < f.h → (is_header (at L f.log x) ≡ false) ⊎ ((sound L (log_header L f.log x) x ≡ true) × (f.h < end_of (log_header L f.log x) x))
  -- e is the position after it, t the tail that it tells
  pub end : f.e ≡ end_of (log_header L f.log f.n) f.n
  pub tail : f.t ≡ tail_of L (log_header L f.log f.n)
  pub range : f.M + 1 ≤ f.t + L.count
  pub before : f.t < f.e

-- so it is for every log that is not refused
abbrev pub SearchSays : Type 0
SearchSays = (L : Label) (log : List (List ℕ)) (f : Found) → 1 ≤ L.window → 2 * L.window ≤ L.count → search_log L log ≡ Ok f → (f.log ≡ log) × Searched L f

-- and where these words are true, no cycle is too high and the tail's sector is on the log, just that is found
abbrev pub SearchFinds : Type 0
SearchFinds = (L : Label) (f : Found) → 1 ≤ L.window → 2 * L.window ≤ L.count → Searched L f →
    ((i : ℕ) → i < L.count → held_cycle (slice_index_or f.log i []) < 2147483648) → (log_header L f.log f.n).tail.1 < L.count →
    search_log L f.log ≡ Ok f

-- byte x of the volume
abbrev pub byte_at : List Sector → ℕ → ℕ
byte_at c x = slice_index (bytes_of (slice_index_or c (x / 512) unreadable)) (x % 512)

-- the first sector of a patch
abbrev pub start_of : Patch → ℕ
start_of p = first_sector p.key.sector

-- what a patch gives byte x of the volume
abbrev pub given : Patch → ℕ → Option ℕ
given p x = cond (nat_le (512 * start_of p) x) (slice_index_or p.cover (x - 512 * start_of p) None) None

-- what patches one after the other leave of a byte
abbrev pub laid : List Patch → ℕ → ℕ → ℕ
laid [] x v = v
laid (p ∷ ps) x v = laid ps x (give (given p x) v)

-- a patch has a value or nothing for each byte of its range, and each sector that it covers is there and can be read
pub record Ready (c : List Sector) (p : Patch) : Type 0 where
  pub whole : length p.cover ≡ 512 * p.key.length
  pub readable : (j : ℕ) → gives_any (cover_of p.cover j) ≡ true →
      (b : List ℕ) × (slice_index_or c (start_of p + j) unreadable ≡ holds b) × (length b ≡ 512)

-- laying changes each byte as the patches that cover it say, the last one last, and no other byte
abbrev pub LaysBytes : Type 0
LaysBytes = (ps : List Patch) (c : List Sector) → AllByRecursion (Ready c) ps → (x : ℕ) → byte_at (effect (lays ps c) c) x ≡ laid ps x (byte_at c x)

-- the same in words: a byte that no patch gives a value keeps its own; another has the value of the last patch that gives it one
pub record LaidWords (ps : List Patch) (x v : ℕ) : Type 0 where
  pub bare : AllByRecursion (λ p. given p x ≡ None) ps → laid ps x v ≡ v
  pub last : (front rest : List Patch) (p : Patch) (w : ℕ) → ps ≡ front ++ (p ∷ rest) → given p x ≡ Some w → AllByRecursion (λ q. given q x ≡ None) rest → laid ps x v ≡ w

-- so it is for all patches
abbrev pub LaidSays : Type 0
LaidSays = (ps : List Patch) (x v : ℕ) → LaidWords ps x v

-- a commit that was accepted leaves the sectors of the log from the tail to the end as they were
abbrev pub CommitLeaves : Type 0
CommitLeaves = (d : DevState) (s : Session) (bank : Bank) (bytes : List ℕ) (regions : List (ℕ × ℕ)) (number : ℕ) →
    Steady s → Bytes bytes → length d.contents ≡ d.size → (commit_call d s bank bytes regions).answer ≡ Ok number →
    (x : ℕ) → s.t ≤ x → x < s.e →
    sector_at (commit_call d s bank bytes regions).device (volume_sector s.label x) ≡ sector_at d (volume_sector s.label x)

-- after a commit that was accepted the record that it wrote is read from the device, by a reader that has come to its place with the session's
-- book: as one transaction of the regions that commit was given, and with the session's new book
abbrev pub CommitKept : Type 0
CommitKept = (d : DevState) (s : Session) (bank : Bank) (bytes : List ℕ) (regions : List (ℕ × ℕ)) (number : ℕ) (log : List (List ℕ)) (r : Reading) →
    Steady s → Bytes bytes → length d.contents ≡ d.size →
    (commit_call d s bank bytes regions).answer ≡ Ok number →
    read_log (commit_call d s bank bytes regions).device s.label ≡ Ok log → AllReadable (commit_call d s bank bytes regions).device →
    r.pending ≡ [] → r.book ≡ s.book →
    (q : Reading) × (items : List Meaning) ×
    (read_record (commit_call d s bank bytes regions).device s.label bank log (commit_call d s bank bytes regions).session.e s.e r ≡ Ok q) ×
    (q.done ≡ r.done ++ (record { regions = region_bytes bytes regions; items = items } ∷ [])) ×
    (q.book ≡ (commit_call d s bank bytes regions).session.book) × (q.pending ≡ []) × (q.records ≡ r.records + 1)

-- a session stays steady through the calls that it is handed to, accepted or refused
pub record SteadyKept : Type 0 where
  pub after_commit : (d : DevState) (s : Session) (bank : Bank) (bytes : List ℕ) (regions : List (ℕ × ℕ)) → Steady s → Bytes bytes →
      Steady (commit_call d s bank bytes regions).session
  pub after_force : (d : DevState) (s : Session) → Steady s → Steady (force_call d s).session
  pub after_clear : (d : DevState) (s : Session) (bank : Bank) (work : ℕ) → Steady s → Steady (clear_call d s bank work).session

-- every sector that can be read holds 512 bytes
abbrev pub Whole : DevState → Type 0
Whole d = (i : ℕ) (b : List ℕ) → sector_at d i ≡ holds b → (length b ≡ 512) × Bytes b

-- and the session that a replay of a device with whole sectors gives is steady
abbrev pub ReplaySteady : Type 0
ReplaySteady = (d : DevState) (bank : Bank) (work : ℕ) (p : Plan Counts (Option Session)) (s : Session) → Whole d →
    replay_plan d bank work ≡ Ok p → p.session ≡ Some s → Steady s

-- the laws of records, of calls, of what is found, and of laying
pub record ModelLaws : Type 0 where
  pub written : WrittenReads
  pub ops : OpsRead
  pub says : CommitSays
  pub commit : CommitRead
  pub clearing_one : ClearingRead
  pub put : WritesPut
  pub stand : HeldStand
  pub checks : ChecksAgain
  pub fronts : FrontPasses
  pub kept : CommitKept
  pub leaves : CommitLeaves
  pub steady : SteadyKept
  pub begins : ReplaySteady
  pub search : SearchSays
  pub finds : SearchFinds
  pub lays_each : LaysBytes
  pub laid_last : LaidSays
