-- Lives of a volume by the five calls and by cuts, the account of a life, and what is true in every life. Assumes nothing.
use Rattle.std.specs.Prelude.{◌≡◌, ℕ, ◌+◌, ◌/◌, ◌<◌, ◌≤◌, Bool, true, false, cond, ◌⊎◌, List, [], ◌∷◌, ◌++◌, length, Some, None, Ok, Err, Option}
use Rattle.std.specs.List.{AllByRecursion}
use Rattle.codec.specs.Fields.{Bytes}
use Rattle.device.specs.State.{DevState, Sector, sector_at, holds}
use Rattle.device.specs.Actions.{force}
use Rattle.label.specs.declared.label.Label.{Label}
use Rattle.label.specs.Label.{label_bytes}
use Rattle.label.specs.Position.{volume_sector}
use Rattle.item.specs.Meaning.{Bank, WholeBank}
use Rattle.model.specs.Refusals.{Refusal, Outcome}
use Rattle.model.specs.Calls.{Session, Counts, region_bytes, label_plan, label_call, replay_plan, replay_call, commit_plan, commit_call, force_call, clear_plan, clear_call}
use Rattle.life.specs.Disk.{In}
use Rattle.life.specs.Items.{Item, ByteHolds, Touched, Open, Distinct, applied, skipped}
use Rattle.life.specs.Format.{Rec, size, Transaction}
use Rattle.life.specs.Calls.{byte_at}
use Rattle.life.specs.Life.{Entry, transactions, secure}
use Rattle.layout.specs.Read.{reads, items}
use Rattle.layout.specs.Real.{Usable, sec}
use Rattle.layout.specs.Chains.{Full}
use Rattle.layout.specs.Volumes.{Volume, after_run, served}

-- a device of n sectors, as every device is: it has so many contents, and each that can be read gives 512 bytes
pub record Sectored (n : ℕ) (d : DevState) : Type 0 where
  pub size : d.size ≡ n
  pub listed : length d.contents ≡ n
  pub full : Full d

-- a cut of v leaves w: each sector holds something that it has held since the last accepted force, which no cut forgets; any number of actions is left
pub record Cut (v w : Volume) : Type 0 where
  pub size : w.device.size ≡ v.device.size
  pub listed : length w.device.contents ≡ v.device.size
  pub each : (j : ℕ) → j < v.device.size → In (sector_at w.device j) (v.past j)
  pub same : (j : ℕ) → w.past j ≡ v.past j

-- a volume whose history begins now; that of a life begins before its label, and the label's force ends all that was before
abbrev pub fresh : DevState → Volume
fresh d = record { device = d; past = λ j. sector_at d j ∷ [] }

-- A life: an accepted label on a device of n sectors with any contents, then calls with any arguments and cuts, in any number and order. A call is
-- accepted, refused, or refused half-way, as its definition says. A cut ends the session. The life ends with a volume and a session, if one stands; `base` is
-- what the sectors held right after the label.
pub data Life (L : Label) (n : ℕ) (bank : Bank) (base : ℕ → Sector) : Volume → Option Session → Type 0 where
  labelled : (d : DevState) → Sectored n d → (label_call d L).answer ≡ Ok tt → ((i : ℕ) → sector_at (label_call d L).device i ≡ base i) →
      Life L n bank base (served (label_plan d L) (fresh d)) None
  commits : {v : Volume} {s : Session} → Life L n bank base v (Some s) → (bytes : List ℕ) (regions : List (ℕ × ℕ)) → Bytes bytes →
      Life L n bank base (served (commit_plan v.device s bank bytes regions) v) (Some (commit_call v.device s bank bytes regions).session)
  forces : {v : Volume} {s : Session} → Life L n bank base v (Some s) → Life L n bank base (after_run (force ∷ []) v) (Some (force_call v.device s).session)
  clears : {v : Volume} {s : Session} → Life L n bank base v (Some s) → (work : ℕ) →
      Life L n bank base (served (clear_plan v.device s bank work) v) (Some (clear_call v.device s bank work).session)
  replays : {v : Volume} {o : Option Session} → Life L n bank base v o → (work : ℕ) →
      Life L n bank base (served (replay_plan v.device bank work) v) (replay_call v.device o bank work).session
  cuts : {v w : Volume} {o : Option Session} → Life L n bank base v o → Cut v w → Life L n bank base w None

-- whether a call was accepted
abbrev pub went : {A : Type 0} → Outcome A → Bool
went (Ok x) = true
went (Err r) = false

-- the items of transactions, in replay order
abbrev pub all_items : Bank → List Transaction → List Item
all_items bank [] = []
all_items bank (x ∷ xs) = items bank x ++ all_items bank xs

-- a sector that is neither the label nor of the log
pub record Home (L : Label) (n i : ℕ) : Type 0 where
  pub later : 1 ≤ i
  pub inside : i < n
  pub free : (i < L.start) ⊎ (L.start + L.count ≤ i)

-- the record r stands at position p
abbrev pub Stands : Label → (ℕ → Sector) → ℕ → Rec → Type 0
Stands L c p r = (tail : ℕ) × ((j : ℕ) → j < size r → c (volume_sector L (p + j)) ≡ holds (sec L r tail p j))

-- records stand one after the other from p to e
abbrev pub Chain : Label → (ℕ → Sector) → ℕ → ℕ → List Rec → Type 0
Chain L c p e [] = p ≡ e
Chain L c p e (r ∷ rs) = (p < e) × Stands L c p r × Chain L c (p + size r) e rs

-- What an accepted replay has done: `before` and `after` are the account before and after it, d and d' the device, `answer` what it counts, s the session that it gives.
pub record Replayed (L : Label) (n : ℕ) (bank : Bank) (base : ℕ → Sector) (before after : List Entry) (d d' : DevState) (answer : Counts) (s : Session) : Type 0 where
  -- it drops none or some of the youngest transactions, none of them safe, and keeps the others, which are safe from now on
  pub kept : List Entry
  pub dropped : List Entry
  pub split : before ≡ kept ++ dropped
  pub unsafe : AllByRecursion (λ x. x.safe ≡ false) dropped
  pub now_safe : after ≡ secure kept
  -- it read the records that stood from the tail to the end; their transactions are the youngest of those kept, and its counts are theirs
  pub chain : List Rec
  pub stood : Chain L (sector_at d) s.t s.e chain
  pub older : List Transaction
  pub read : List Transaction
  pub committed : read ≡ reads n L bank chain
  pub youngest : transactions kept ≡ older ++ read
  pub counts_records : answer.records ≡ length chain
  pub counts_read : answer.transactions ≡ length read
  pub counts_applied : answer.applied ≡ length (applied (all_items bank read))
  pub counts_skipped : answer.skipped ≡ length (skipped (all_items bank read))
  pub counts_open : answer.intents ≡ length s.book.intents
  -- each byte that is neither the label's nor the log's holds what the items kept ask for
  pub bytes : (x : ℕ) → Home L n (x / 512) → ByteHolds (all_items bank (transactions kept)) x (byte_at base x) (byte_at (sector_at d') x)
  -- and what it held before replay, if no applied patch that was read gives it a value
  pub still : (x : ℕ) → Home L n (x / 512) → (Touched (all_items bank read) x → ⊥) → byte_at (sector_at d') x ≡ byte_at (sector_at d) x
  -- the book lists just the intents that the items kept leave open, each once
  pub listed_open : (i : ℕ) → In i s.book.intents → Open (all_items bank (transactions kept)) i
  pub open_listed : (i : ℕ) → Open (all_items bank (transactions kept)) i → In i s.book.intents
  pub once : Distinct s.book.intents

-- The account of a life sees only the calls and which were accepted: label empties it, commit adds the regions it was handed, not safe, force and clear make all
-- safe, and an accepted replay drops none or some of the youngest, by one choice with which all is true that Replayed says.
abbrev pub Account : {L : Label} {n : ℕ} {bank : Bank} {base : ℕ → Sector} {v : Volume} {o : Option Session} → Life L n bank base v o → List Entry → Type 0
Account (labelled d q ok same) acc = acc ≡ []
Account {L} {n} {bank} (commits {v} {s} l bytes regions k) acc =
    (old : List Entry) × Account l old ×
    (acc ≡ cond (went (commit_call v.device s bank bytes regions).answer) (old ++ (record { transaction = region_bytes bytes regions; safe = false } ∷ [])) old)
Account (forces {v} {s} l) acc = (old : List Entry) × Account l old × (acc ≡ cond (went (force_call v.device s).answer) (secure old) old)
Account {L} {n} {bank} (clears {v} {s} l work) acc = (old : List Entry) × Account l old × (acc ≡ cond (went (clear_call v.device s bank work).answer) (secure old) old)
Account {L} {n} {bank} {base} (replays {v} {o} l work) acc =
    (old : List Entry) × Account l old ×
    (went (replay_call v.device o bank work).answer ≡ false → acc ≡ old) ×
    ((answer : Counts) → (replay_call v.device o bank work).answer ≡ Ok answer →
    (s : Session) × ((replay_call v.device o bank work).session ≡ Some s) × Replayed L n bank base old acc v.device (replay_call v.device o bank work).device answer s)
Account (cuts l k) acc = Account l acc

-- A second replay gave the same answer and session as the first, and left each byte of the volume as it was.
pub record Again (d' d'' : DevState) (o' o'' : Option Session) (answer answer' : Counts) : Type 0 where
  pub same_answer : answer' ≡ answer
  pub same_session : o'' ≡ o'
  pub same_bytes : (x : ℕ) → byte_at (sector_at d'') x ≡ byte_at (sector_at d') x

-- What is true of a life.
pub record Lived {L : Label} {n : ℕ} {bank : Bank} {base : ℕ → Sector} {v : Volume} {o : Option Session} (l : Life L n bank base v o) : Type 0 where
  -- it has an account, by one choice at each accepted replay
  pub account : List Entry
  pub accounted : Account l account
  -- sector 0 has held nothing but the label
  pub label : AllByRecursion (λ s. s ≡ holds (label_bytes L)) (v.past 0)
  -- a replay is refused only for want of actions, because a covered sector cannot be read, or for a short work buffer
  pub refused : (work : ℕ) (r : Refusal) → (replay_call v.device o bank work).answer ≡ Err r → (r.number ≡ 2) ⊎ ((r.number ≡ 3) ⊎ (r.number ≡ 4))
  -- and a replay that is accepted right after an accepted replay finds the same and changes nothing
  pub again : (work work' : ℕ) (answer answer' : Counts) → (replay_call v.device o bank work).answer ≡ Ok answer →
      (replay_call (replay_call v.device o bank work).device (replay_call v.device o bank work).session bank work').answer ≡ Ok answer' →
      Again (replay_call v.device o bank work).device
      (replay_call (replay_call v.device o bank work).device (replay_call v.device o bank work).session bank work').device
      (replay_call v.device o bank work).session
      (replay_call (replay_call v.device o bank work).device (replay_call v.device o bank work).session bank work').session answer answer'

-- So it is in every life, under every label that keeps its limits, with every bank of kinds.
abbrev pub LivesStand : Type 0
LivesStand = (L : Label) (n : ℕ) (bank : Bank) → Usable L n → WholeBank bank →
    (base : ℕ → Sector) (v : Volume) (o : Option Session) (l : Life L n bank base v o) → Lived l
