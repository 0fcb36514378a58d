-- What the one region of an intent asks. Assumes nothing.
use Rattle.std.specs.Prelude.{ℕ, cond, List, ◌==◌}
use Rattle.codec.specs.Fields.{le16, le64}
use Rattle.item.specs.Meaning.{Meaning, malformed, opens, closes}
use Rattle.item.specs.Intent.{intent_fits}

-- an open or a close of the id at byte 8, by the type at byte 0
abbrev pub intent_of : List ℕ → Meaning
intent_of r = cond (intent_fits r) (cond (le16 r 0 == 0x1236) (opens (le64 r 8)) (closes (le64 r 8))) malformed
