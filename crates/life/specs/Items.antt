-- Keys and items: which patches are applied, which intents are open, and in words what a byte then holds. Assumes nothing.
use Rattle.std.specs.Prelude.{◌≡◌, ℕ, Bool, true, false, cond, ◌&&◌, List, [], ◌∷◌, ◌++◌, ℤ, pos, negsuc, Some, Option, ◌==◌}
use Rattle.life.specs.Disk.{In}

-- a key: the range of sectors that a patch is for, by its first sector and its length
pub record Key : Type 0 where
  pub sector : ℤ
  pub length : ℕ

-- two signed numbers are the same
abbrev pub same_number : ℤ → ℤ → Bool
same_number (pos m) (pos n) = m == n
same_number (pos m) (negsuc n) = false
same_number (negsuc m) (pos n) = false
same_number (negsuc m) (negsuc n) = m == n

-- two keys are the same
abbrev pub same_key : Key → Key → Bool
same_key k l = same_number k.sector l.sector && k.length == l.length

-- an item of a transaction: a patch with its key, the sectors that it covers in part or whole, and the value or nothing that it gives each byte of
-- the volume; a cancel of a key; an open and a close of an intent by its id
pub data Item : Type 0 where
  patch : Key → List ℕ → (ℕ → Option ℕ) → Item
  cancel : Key → Item
  opens : ℕ → Item
  closes : ℕ → Item

-- the sectors that an item covers
abbrev pub covered : Item → List ℕ
covered (patch k l f) = l
covered (cancel k) = []
covered (opens i) = []
covered (closes i) = []

-- some cancel in the list has the key
abbrev pub cancelled : Key → List Item → Bool
cancelled k [] = false
cancelled k (patch l q f ∷ rest) = cancelled k rest
cancelled k (cancel l ∷ rest) = cond (same_key k l) true (cancelled k rest)
cancelled k (opens i ∷ rest) = cancelled k rest
cancelled k (closes i ∷ rest) = cancelled k rest

-- of items in replay order, the patches that are applied: those whose key no later cancel has
abbrev pub applied : List Item → List Item
applied [] = []
applied (patch k l f ∷ rest) = cond (cancelled k rest) [] (patch k l f ∷ []) ++ applied rest
applied (cancel k ∷ rest) = applied rest
applied (opens i ∷ rest) = applied rest
applied (closes i ∷ rest) = applied rest

-- and those that are skipped
abbrev pub skipped : List Item → List Item
skipped [] = []
skipped (patch k l f ∷ rest) = cond (cancelled k rest) (patch k l f ∷ []) [] ++ skipped rest
skipped (cancel k ∷ rest) = skipped rest
skipped (opens i ∷ rest) = skipped rest
skipped (closes i ∷ rest) = skipped rest

-- ids but one
abbrev pub without : ℕ → List ℕ → List ℕ
without i [] = []
without i (j ∷ ids) = cond (i == j) [] (j ∷ []) ++ without i ids

-- the ids open after items, oldest first, from those open before; a close of an id that is not open does nothing
abbrev pub open_after : List ℕ → List Item → List ℕ
open_after ids [] = ids
open_after ids (patch k l f ∷ rest) = open_after ids rest
open_after ids (cancel k ∷ rest) = open_after ids rest
open_after ids (opens i ∷ rest) = open_after (without i ids ++ (i ∷ [])) rest
open_after ids (closes i ∷ rest) = open_after (without i ids) rest

-- the ids of the intents that items leave open
abbrev pub open_ids : List Item → List ℕ
open_ids items = open_after [] items

-- In words.

-- the item gives byte x a value
abbrev pub Covers : Item → ℕ → Type 0
Covers (patch k l f) x = (w : ℕ) × (f x ≡ Some w)
Covers (cancel k) x = ⊥
Covers (opens i) x = ⊥
Covers (closes i) x = ⊥

-- none of the items gives byte x a value
abbrev pub Uncovered : List Item → ℕ → Type 0
Uncovered items x = (i : Item) → In i items → Covers i x → ⊥

-- byte x holds v, where it held `before` and these items are kept, oldest first
pub record ByteHolds (items : List Item) (x : ℕ) (before v : Option ℕ) : Type 0 where
  -- what it held before, if none of them covers it
  pub uncovered : Uncovered items x → v ≡ before
  -- else what the last that covers it gives, unless a later cancel has the key of that one
  pub last : (earlier later : List Item) (k : Key) (l : List ℕ) (f : ℕ → Option ℕ) (w : ℕ) → items ≡ earlier ++ (patch k l f ∷ later) →
      f x ≡ Some w → Uncovered later x → (In (cancel k) later → ⊥) → v ≡ Some w

-- a patch that gives byte x a value is applied: no later cancel has its key
pub record Touched (items : List Item) (x : ℕ) : Type 0 where
  pub earlier : List Item
  pub later : List Item
  pub key : Key
  pub sectors : List ℕ
  pub values : ℕ → Option ℕ
  pub split : items ≡ earlier ++ (patch key sectors values ∷ later)
  pub covers : Covers (patch key sectors values) x
  pub uncancelled : In (cancel key) later → ⊥

-- the intent i is open: there is an open of it and no later close of it
pub record Open (items : List Item) (i : ℕ) : Type 0 where
  pub earlier : List Item
  pub later : List Item
  pub split : items ≡ earlier ++ (opens i ∷ later)
  pub unclosed : In (closes i) later → ⊥

-- no number stands twice
abbrev pub Distinct : List ℕ → Type 0
Distinct [] = Unit {0}
Distinct (i ∷ ids) = (In i ids → ⊥) × Distinct ids
