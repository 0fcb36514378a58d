-- The kind of free intents: an intent opens, or closes. Assumes nothing.
use Rattle.std.specs.Prelude.{ℕ, ◌+◌, ◌*◌, Bool, false, cond, ◌&&◌, List, [], length, ◌==◌, nat_le, slice_index_or}
use Rattle.codec.specs.Fields.{le16, le32, le64}
use Rattle.item.specs.Meaning.{Meaning, malformed, opens, closes, Kind}

-- an open has 1 to 16 extents of 16 bytes, a close 0 to 16, and nothing after them
abbrev pub intent_fits : List ℕ → Bool
intent_fits r =
    nat_le 16 (length r) && nat_le (cond (le16 r 0 == 0x1236) 1 0) (le32 r 4) && nat_le (le32 r 4) 16
    && length r == 16 + 16 * le32 r 4

-- an intent: one region; the id stands at byte 8
abbrev pub intent_meaning : List (List ℕ) → Meaning
intent_meaning rs =
    let r = slice_index_or rs 0 [] in
    cond (length rs == 1 && intent_fits r) (cond (le16 r 0 == 0x1236) (opens (le64 r 8)) (closes (le64 r 8))) malformed

-- the kind of free intents
abbrev pub free_intent : Kind
free_intent = record { early = false; meaning = intent_meaning }
