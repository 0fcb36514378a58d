-- What chains of records say: their ops read on a volume all of which can be read, and what the items of a transaction ask. Assumes nothing.
use Rattle.std.specs.Prelude.{ℕ, Bool, true, false, cond, List, [], ◌∷◌, map, length, replicate, Ok, Err, ◌==◌}
use Rattle.codec.specs.Fields.{zeros}
use Rattle.device.specs.State.{DevState, holds}
use Rattle.keys.specs.declared.patch.PatchKey.{PatchKey}
use Rattle.label.specs.declared.label.Label.{Label}
use Rattle.item.specs.Meaning.{Meaning, malformed, patch, cancel, opens, closes, Bank}
use Rattle.model.specs.Refusals.{Outcome}
use Rattle.model.specs.Items.{Item, items_after, replay_order, covered}
use Rattle.model.specs.Reading.{Reading, begun, counted, read_ops}
use Rattle.model.specs.Laws.{located, meanings, given}
use Rattle.life.specs.Format.{Rec}
use Rattle.life.specs.Items as life

-- a volume of n sectors, all of which can be read
abbrev pub clean : ℕ → DevState
clean n = record { size = n; contents = replicate n (holds (zeros 512)); actions = 0; settled = true }

-- how far a reading has come, and whether every check has passed
pub record Progress : Type 0 where
  pub reading : Reading
  pub passed : Bool

-- nothing read yet
abbrev pub unread : Progress
unread = record { reading = begun; passed = true }

-- the reading goes on where the ops of a record pass, and stays as it was where they do not; a record of a life leaves no transaction open
abbrev pub taken : Outcome Reading → Reading → Progress
taken (Ok r) old = record { reading = r; passed = (length r.pending == 0) }
taken (Err e) old = record { reading = old; passed = false }

-- the ops of a record; no check of them looks at the place where the record stands
abbrev pub read_rec : ℕ → Label → Bank → Rec → Reading → Outcome Reading
read_rec n L bank q r = read_ops (clean n) L bank 0 q.payload 0 q.ops (counted r)

-- one record more; from the first refusal on nothing is read
abbrev pub goes : ℕ → Label → Bank → Rec → Progress → Progress
goes n L bank q s = cond s.passed (taken (read_rec n L bank q s.reading) s.reading) s

-- records one after the other
abbrev pub progress : ℕ → Label → Bank → List Rec → Progress → Progress
progress n L bank [] s = s
progress n L bank (q ∷ qs) s = progress n L bank qs (goes n L bank q s)

-- the regions of the transactions that records commit on a volume of n sectors
abbrev pub reads : ℕ → Label → Bank → List Rec → List (List (List ℕ))
reads n L bank chain = map (λ x. x.regions) (progress n L bank chain unread).reading.done

-- every check of the ops and items of records passes, and each record ends the transactions that it begins
abbrev pub pass : ℕ → Label → Bank → List Rec → Bool
pass n L bank chain = (progress n L bank chain unread).passed

-- the range of a patch
abbrev pub key : PatchKey → life.Key
key k = record { sector = k.sector; length = k.length }

-- what meanings ask, in turn; one that is malformed asks nothing, and no check lets it pass
abbrev pub asked : List Meaning → List life.Item
asked [] = []
asked (malformed ∷ ms) = asked ms
asked (patch k c ∷ ms) = life.patch (key k) (covered k c) (given (record { key = k; cover = c })) ∷ asked ms
asked (cancel k ∷ ms) = life.cancel (key k) ∷ asked ms
asked (opens i ∷ ms) = life.opens i ∷ asked ms
asked (closes i ∷ ms) = life.closes i ∷ asked ms

-- what items ask, in replay order; nothing where the regions are no items
abbrev pub asked_by : Bank → Outcome (List Item) → List life.Item
asked_by bank (Ok is) = asked (meanings bank (replay_order bank is))
asked_by bank (Err e) = []

-- what the regions of a transaction ask
abbrev pub items : Bank → List (List ℕ) → List life.Item
items bank rs = asked_by bank (items_after 0 (located 0 0 rs))
