-- Items: their order in a replay, their checks, and the book. Assumes nothing.
use Rattle.std.specs.Prelude.{ℕ, zero, suc, ◌+◌, ◌-◌, Bool, true, false, cond, not, ◌&&◌, ◌||◌, List, [], ◌∷◌, ◌++◌, map, length, take, drop, ℤ, pos, negsuc, Some, None, Ok, Err, Option, ◌==◌, nat_eq, nat_le, nat_lt}
use Rattle.model.specs.Refusals.{Refusal, refusal, by_transaction, by_item, Outcome, ◌>>=◌, need, from_device}
use Rattle.codec.specs.Fields.{le16, joined}
use Rattle.device.specs.State.{DevState}
use Rattle.device.specs.Steps.{read}
use Rattle.keys.specs.Keys.{same_key, place_of}
use Rattle.keys.specs.declared.patch.PatchKey.{PatchKey}
use Rattle.label.specs.declared.label.Label.{Label}
use Rattle.item.specs.Meaning.{Meaning, malformed, patch, cancel, opens, closes, Kind, Bank}
pub use Rattle.item.specs.Range.{in_bounds}
pub use Rattle.item.specs.Covers.{cover_of, gives_any}

-- a region with the place of its first op: the header sector and the byte in the record's data
pub record Region : Type 0 where
  pub bytes : List ℕ
  pub sector : ℕ
  pub byte : ℕ

-- an item: its type, its regions, and the place of its first region's op
pub record Item : Type 0 where
  pub type : ℕ
  pub regions : List (List ℕ)
  pub sector : ℕ
  pub byte : ℕ

-- the item of regions rs, of which r is the first
abbrev pub item_of : Region → List Region → Item
item_of r rs = record { type = le16 r.bytes 0; regions = map (λ x. x.bytes) rs; sector = r.sector; byte = r.byte }

-- an item's first region has 4 bytes or more and its count at byte 2, which is not 0, and so many regions there are from it on
abbrev pub framed : Region → List Region → Bool
framed r rs = nat_le 4 (length r.bytes) && nat_le 1 (le16 r.bytes 2) && nat_le (le16 r.bytes 2) (length rs)

-- the items of regions, after the first `skip` that belong to the item before; 10 at the first item that is not framed; the count of a framed one is 1 or more, so the - 1 cuts nothing off
abbrev pub items_after : ℕ → List Region → Outcome (List Item)
items_after skip [] = Ok []
items_after zero (r ∷ rs) =
    need (framed r (r ∷ rs)) (refusal 10 by_transaction r.sector r.byte) >>= λ _.
    items_after (le16 r.bytes 2 - 1) rs >>= λ is.
    Ok (item_of r (take (le16 r.bytes 2) (r ∷ rs)) ∷ is)
items_after (suc k) (r ∷ rs) = items_after k rs

-- Judging and order.

-- what a bank makes of an item: it has no kind for the type, or the item is too large, or it means something
pub data Verdict : Type 0 where
  unknown : Verdict
  too_large : Verdict
  means : Bool → Meaning → Verdict

-- more than 32 regions or 32,768 bytes
abbrev pub large : List (List ℕ) → Bool
large rs = nat_lt 32 (length rs) || nat_lt 32768 (length (joined rs))

-- by the kind found, if any
abbrev pub verdict_of : Option Kind → List (List ℕ) → Verdict
verdict_of None rs = unknown
verdict_of (Some k) rs = cond (large rs) too_large (means k.early (k.meaning rs))

-- what a bank makes of an item
abbrev pub verdict : Bank → Item → Verdict
verdict bank i = verdict_of (bank i.type) i.regions

-- in a transaction patches of early kinds come first, cancels last, all else between
abbrev pub group : Verdict → ℕ
group unknown = 1
group too_large = 1
group (means early malformed) = 1
group (means early (patch k c)) = cond early 0 1
group (means early (cancel k)) = 2
group (means early (opens i)) = 1
group (means early (closes i)) = 1

-- the items of a group, in log order
abbrev pub in_group : Bank → ℕ → List Item → List Item
in_group bank g [] = []
in_group bank g (i ∷ is) = cond (group (verdict bank i) == g) (i ∷ []) [] ++ in_group bank g is

-- the order in which the items of a transaction are checked and laid
abbrev pub replay_order : Bank → List Item → List Item
replay_order bank is = in_group bank 0 is ++ in_group bank 1 is ++ in_group bank 2 is

-- The book, and the checks of an item.

-- the intents that are open, oldest first, and the distinct keys that were cancelled
pub record Book : Type 0 where
  pub intents : List ℕ
  pub keys : List PatchKey

-- nothing open, nothing cancelled
abbrev pub empty_book : Book
empty_book = record { intents = []; keys = [] }

-- a place was found
abbrev pub present : Option ℕ → Bool
present None = false
present (Some i) = true

-- the place of a cancelled key
abbrev pub key_place : PatchKey → Book → Option ℕ
key_place k b = place_of (same_key k) b.keys

-- the place of an open intent
abbrev pub intent_place : ℕ → Book → Option ℕ
intent_place i b = place_of (nat_eq i) b.intents

-- a list without the element at a place
abbrev pub without : {A : Type 0} → ℕ → List A → List A
without i xs = take i xs ++ drop (suc i) xs

-- the book after a cancel; a key is entered once
abbrev pub with_key : PatchKey → Book → Book
with_key k b = record { intents = b.intents; keys = cond (present (key_place k b)) b.keys (b.keys ++ (k ∷ [])) }

-- the book after an open
abbrev pub with_intent : ℕ → Book → Book
with_intent i b = record { intents = b.intents ++ (i ∷ []); keys = b.keys }

-- the book after a close of the intent at a place
abbrev pub closed_at : Option ℕ → Book → Book
closed_at None b = b
closed_at (Some j) b = record { intents = without j b.intents; keys = b.keys }

-- of n sectors from j on those that a cover gives a byte, as numbers within the range
abbrev pub covered_from : List (Option ℕ) → ℕ → ℕ → List ℕ
covered_from c j zero = []
covered_from c j (suc n) = cond (gives_any (cover_of c j)) (j ∷ []) [] ++ covered_from c (j + 1) n

-- the sector where a range begins; a negative one is refused before anything is read or written there
abbrev pub first_sector : ℤ → ℕ
first_sector (pos n) = n
first_sector (negsuc n) = 0

-- the volume's sectors that a patch covers in part or whole, ascending
abbrev pub covered : PatchKey → List (Option ℕ) → List ℕ
covered k c = map (λ j. first_sector k.sector + j) (covered_from c 0 k.length)

-- 3 for the first of these sectors that cannot be read
abbrev pub all_readable : DevState → List ℕ → Outcome (Unit {0})
all_readable d [] = Ok tt
all_readable d (i ∷ is) = from_device (read d i) >>= λ _. all_readable d is

-- in a commit closing an id that is not open is refused, and covered sectors need not be readable; in a reading it is the other way
pub data Way : Type 0 where
  reading : Way
  committing : Way

-- the 3 of covered sectors, in a reading only
abbrev pub readable_for : Way → DevState → List ℕ → Outcome (Unit {0})
readable_for reading d is = all_readable d is
readable_for committing d is = Ok tt

-- the book after a close; the refusal where the id is not open, in a commit only
abbrev pub closed_for : Way → Refusal → Option ℕ → Book → Outcome Book
closed_for w r (Some j) b = Ok (closed_at (Some j) b)
closed_for reading r None b = Ok b
closed_for committing r None b = Err r

-- the checks of an item in order, and the book after it: 11, 14 for its size, 12, 14 for a full book, 13, 15, 3
abbrev pub check : Way → DevState → Label → ℕ → ℕ → Verdict → Book → Outcome Book
check w d L s y unknown b = Err (refusal 11 by_item s y)
check w d L s y too_large b = Err (refusal 14 by_transaction s y)
check w d L s y (means early malformed) b = Err (refusal 12 by_item s y)
check w d L s y (means early (patch k c)) b =
    need (in_bounds L d.size k.sector k.length) (refusal 13 by_item s y) >>= λ _.
    readable_for w d (covered k c) >>= λ _.
    Ok b
check w d L s y (means early (cancel k)) b =
    need (present (key_place k b) || nat_lt (length b.keys) 256) (refusal 14 by_transaction s y) >>= λ _.
    need (in_bounds L d.size k.sector k.length) (refusal 13 by_item s y) >>= λ _.
    Ok (with_key k b)
check w d L s y (means early (opens i)) b =
    need (not (present (intent_place i b))) (refusal 15 by_item s y) >>= λ _.
    need (nat_lt (length b.intents) 64) (refusal 14 by_transaction s y) >>= λ _.
    Ok (with_intent i b)
check w d L s y (means early (closes i)) b = closed_for w (refusal 15 by_item s y) (intent_place i b) b

-- items one after the other, each through all its checks
abbrev pub check_all : Way → DevState → Label → Bank → List Item → Book → Outcome Book
check_all w d L bank [] b = Ok b
check_all w d L bank (i ∷ is) b = check w d L i.sector i.byte (verdict bank i) b >>= λ b'. check_all w d L bank is b'

-- what an item that was checked means
abbrev pub meant : Verdict → Meaning
meant unknown = malformed
meant too_large = malformed
meant (means early m) = m

-- Two passes.

-- some cancel in the list has the key
abbrev pub cancelled : PatchKey → List Meaning → Bool
cancelled k [] = false
cancelled k (malformed ∷ ms) = cancelled k ms
cancelled k (patch l c ∷ ms) = cancelled k ms
cancelled k (cancel l ∷ ms) = same_key k l || cancelled k ms
cancelled k (opens i ∷ ms) = cancelled k ms
cancelled k (closes i ∷ ms) = cancelled k ms

-- a patch, as it is laid
pub record Patch : Type 0 where
  pub key : PatchKey
  pub cover : List (Option ℕ)

-- of items in replay order, the patches that no later cancel has the key of
abbrev pub applied : List Meaning → List Patch
applied [] = []
applied (malformed ∷ ms) = applied ms
applied (patch k c ∷ ms) = cond (cancelled k ms) [] (record { key = k; cover = c } ∷ []) ++ applied ms
applied (cancel k ∷ ms) = applied ms
applied (opens i ∷ ms) = applied ms
applied (closes i ∷ ms) = applied ms

-- how many patches are skipped
abbrev pub skipped : List Meaning → ℕ
skipped [] = 0
skipped (malformed ∷ ms) = skipped ms
skipped (patch k c ∷ ms) = cond (cancelled k ms) 1 0 + skipped ms
skipped (cancel k ∷ ms) = skipped ms
skipped (opens i ∷ ms) = skipped ms
skipped (closes i ∷ ms) = skipped ms
