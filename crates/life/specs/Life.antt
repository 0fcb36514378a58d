-- Lives of a volume, the account of a life, and what is true in every life. Assumes nothing.
use Rattle.std.specs.Prelude.{◌≡◌, ℕ, ◌/◌, Bool, true, false, cond, List, [], ◌∷◌, ◌++◌, Some, None, Option}
use Rattle.life.specs.Disk.{Sector, holds, Disk, force, run, Cut, Whole, In, AllByRecursion}
use Rattle.life.specs.Items.{ByteHolds, Touched, open_ids, Open, Distinct}
use Rattle.life.specs.Format.{Rec, Transaction, Format, all_items, chain_items, slot}
use Rattle.life.specs.Calls.{byte_at, Home, Sound, Readable, Inside, record_writes, Plan, replays, Counts, counts, Session}
use Rattle.life.specs.Calls.{Steady, replayed, Commits, committed, settles, Clears, cleared, clearings, Labels, labels}

-- What the calls leave: the device, and whether all their actions were accepted.

-- label, with the clearing record q
abbrev pub on_label : Format → Rec → Disk → Disk × Bool
on_label F q d = run (labels F q) d

-- commit of the record r
abbrev pub on_commit : Format → Session → Rec → Disk → Disk × Bool
on_commit F s r d = run (record_writes F r s.t s.e) d

-- force
abbrev pub on_force : Disk → Disk × Bool
on_force d = run (force ∷ []) d

-- clear with the clearing record q, where the chain was read
abbrev pub on_clear : Format → Session → Rec → List Rec → Disk → Disk × Bool
on_clear F s q chain d = run (clearings F d.now s.e chain q) d

-- replay, where m, e and the chain were found
abbrev pub on_replay : Format → ℕ → ℕ → List Rec → Disk → Disk × Bool
on_replay F m e chain d = run (replays F d.now m e chain) d

-- A life: an accepted label on any device, then calls and cuts in any number and order. A call is accepted, or refused for want of actions, maybe
-- half-way, and then the session stays; a call that is refused for any other cause changes nothing and is not listed. A cut ends the session. The
-- life ends with a device and a session, if one stands; `base` is what the volume held right after the label.
pub data Life (F : Format) (base : ℕ → Sector) : Disk → Option Session → Type 0 where
  labelled : (d : Disk) (q : Rec) → Labels F q → (on_label F q d).1 ≡ true → ((i : ℕ) → (on_label F q d).0.now i ≡ base i) → Life F base (on_label F q d).0 None
  commits : {d : Disk} {s : Session} → Life F base d (Some s) → (r : Rec) (x : Transaction) → Commits F s r x →
      Life F base (on_commit F s r d).0 (Some (cond (on_commit F s r d).1 (committed s r) s))
  forces : {d : Disk} {s : Session} → Life F base d (Some s) → Life F base (on_force d).0 (Some (cond (on_force d).1 (settles s) s))
  clears : {d : Disk} {s : Session} → Life F base d (Some s) → (q : Rec) → Clears F s q → {m h n : ℕ} {chain : List Rec} →
      Plan F d.now m h n s.e s.t chain → Readable d.now (chain_items F chain) →
      Life F base (on_clear F s q chain d).0 (Some (cond (on_clear F s q chain d).1 (cleared s q) s))
  replay : {d : Disk} {o : Option Session} → Life F base d o → {m h n e t : ℕ} {chain : List Rec} →
      Plan F d.now m h n e t chain → Readable d.now (chain_items F chain) →
      Life F base (on_replay F m e chain d).0 (cond (on_replay F m e chain d).1 (Some (replayed n e t chain)) o)
  cuts : {d f : Disk} {o : Option Session} → Life F base d o → Cut d f → Life F base f None

-- An account lists transactions, oldest first, each safe or not.
pub record Entry : Type 0 where
  pub transaction : Transaction
  pub safe : Bool

-- its transactions
abbrev pub transactions : List Entry → List Transaction
transactions [] = []
transactions (x ∷ l) = x.transaction ∷ transactions l

-- all made safe
abbrev pub secure : List Entry → List Entry
secure [] = []
secure (x ∷ l) = record { transaction = x.transaction; safe = true } ∷ secure l

-- What an accepted replay has done: `before` and `after` are the account before and after it, c and c' the contents; the chain is what it read, and
-- `answer` what it counts.
pub record Replayed (F : Format) (base : ℕ → Sector) (before after : List Entry) (c c' : ℕ → Sector) (chain : List Rec) (answer : Counts) : Type 0 where
  -- it drops none or some of the youngest transactions, none of them safe, and keeps the others, which are safe from now on
  pub kept : List Entry
  pub dropped : List Entry
  pub split : before ≡ kept ++ dropped
  pub unsafe : AllByRecursion (λ x. x.safe ≡ false) dropped
  pub now_safe : after ≡ secure kept
  -- the transactions that it read are the youngest of those kept, and its counts are theirs
  pub older : List Transaction
  pub youngest : transactions kept ≡ older ++ F.reads chain
  pub counted : answer ≡ counts F chain
  -- each byte that is neither the label's nor the log's holds what the items kept ask for
  pub bytes : (x : ℕ) → Home F (x / 512) → ByteHolds (all_items F (transactions kept)) x (byte_at base x) (byte_at c' x)
  -- and what it held before replay, if no applied patch gives it a value
  pub still : (x : ℕ) → Home F (x / 512) → (Touched (chain_items F chain) x → ⊥) → byte_at c' x ≡ byte_at c x
  -- the book lists just the intents that the items kept leave open, each once
  pub listed_open : (i : ℕ) → In i (open_ids (chain_items F chain)) → Open (all_items F (transactions kept)) i
  pub open_listed : (i : ℕ) → Open (all_items F (transactions kept)) i → In i (open_ids (chain_items F chain))
  pub once : Distinct (open_ids (chain_items F chain))

-- The account of a life sees only the calls and which were accepted: label empties it, commit adds a transaction, not safe, force and clear make all
-- safe, and replay drops none or some of the youngest, by one choice with which all is true that Replayed says. No call writes on the label, or past
-- the device's end.
abbrev pub Account : {F : Format} {base : ℕ → Sector} {d : Disk} {o : Option Session} → Life F base d o → List Entry → Type 0
Account (labelled d q l ok same) acc = acc ≡ []
Account {F} (commits {d} {s} l r x k) acc =
    (old : List Entry) × Account l old × Inside F (record_writes F r s.t s.e) ×
    (acc ≡ cond (on_commit F s r d).1 (old ++ (record { transaction = x; safe = false } ∷ [])) old)
Account (forces {d} {s} l) acc = (old : List Entry) × Account l old × (acc ≡ cond (on_force d).1 (secure old) old)
Account {F} (clears {d} {s} l q k {m} {h} {n} {chain} p r) acc =
    (old : List Entry) × Account l old × Inside F (clearings F d.now s.e chain q) ×
    (acc ≡ cond (on_clear F s q chain d).1 (secure old) old)
Account {F} {base} (replay {d} {o} l {m} {h} {n} {e} {t} {chain} p r) acc =
    (old : List Entry) × Account l old × Inside F (replays F d.now m e chain) ×
    ((on_replay F m e chain d).1 ≡ false → acc ≡ old) ×
    ((on_replay F m e chain d).1 ≡ true → Replayed F base old acc d.now (on_replay F m e chain d).0.now chain (counts F chain))
Account (cuts l k) acc = Account l acc

-- What a reading finds at any point of a life: a log whose ends are found without fault, and a chain of records on which every check passes.
pub record Finds (F : Format) (c : ℕ → Sector) : Type 0 where
  pub m : ℕ
  pub h : ℕ
  pub n : ℕ
  pub e : ℕ
  pub t : ℕ
  pub chain : List Rec
  pub plan : Plan F c m h n e t chain
  pub passes : F.pass chain ≡ true
  pub sound : AllByRecursion (Sound F) (chain_items F chain)

-- A second replay found the same as the first, and left each byte and each log sector as it was.
pub record Again (F : Format) (c c' : ℕ → Sector) (n e t : ℕ) (chain : List Rec) (n' e' t' : ℕ) (chain' : List Rec) : Type 0 where
  pub session : replayed n' e' t' chain' ≡ replayed n e t chain
  pub answer : counts F chain' ≡ counts F chain
  pub bytes : (x : ℕ) → Home F (x / 512) → byte_at c' x ≡ byte_at c x
  pub log : (x : ℕ) → c' (slot F x) ≡ c (slot F x)

-- What is true of a life.
pub record Lived {F : Format} {base : ℕ → Sector} {d : Disk} {o : Option Session} (l : Life F base d o) : Type 0 where
  -- it has an account, by one choice at each accepted replay
  pub account : List Entry
  pub accounted : Account l account
  -- sector 0 has held nothing but the label, and the sectors of the log nothing that cannot be read
  pub label : AllByRecursion (λ s. s ≡ holds F.label) (d.past 0)
  pub log : (x : ℕ) → AllByRecursion Whole (d.past (slot F x))
  -- a session that stands is in order
  pub steady : (s : Session) → o ≡ Some s → Steady F s
  -- a reading finds a chain on which every check passes
  pub finds : Finds F d.now
  -- and a replay that is accepted right after an accepted replay finds the same and changes nothing
  pub again : (m h n e t : ℕ) (chain : List Rec) → Plan F d.now m h n e t chain → Readable d.now (chain_items F chain) → (on_replay F m e chain d).1 ≡ true →
      (m' h' n' e' t' : ℕ) (chain' : List Rec) → Plan F (on_replay F m e chain d).0.now m' h' n' e' t' chain' →
      Readable (on_replay F m e chain d).0.now (chain_items F chain') → (on_replay F m' e' chain' (on_replay F m e chain d).0).1 ≡ true →
      Again F (on_replay F m e chain d).0.now (on_replay F m' e' chain' (on_replay F m e chain d).0).0.now n e t chain n' e' t' chain'

-- So it is in every life, for every format.
abbrev pub LifeStands : Type 0
LifeStands = (F : Format) (base : ℕ → Sector) (d : Disk) (o : Option Session) (l : Life F base d o) → Lived l
