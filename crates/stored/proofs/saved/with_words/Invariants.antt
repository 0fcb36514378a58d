use mathlib.Core.Path.{◌≡◌}
use lib.ListN.{length}
use Rattle.record.specs.Record.{with_words}
use Rattle.stored.proofs.saved.with_words.Given as goal

abbrev pub invariant-loop-k : goal.invariant-loop-k
invariant-loop-k l = l.bytes ≡ with_words (length l.yielded) l.words l.initial.bytes
