use mathlib.Core.Path.{◌≡◌}
use lib.ListN.{length}
use Rattle.record.specs.Record.{saved_words}
use Rattle.stored.proofs.saved.saved_words.Given as goal

abbrev pub invariant-loop-k : goal.invariant-loop-k
invariant-loop-k l = (length l.saved ≡ 256) × (l.saved ≡ saved_words (length l.yielded) l.bytes)
