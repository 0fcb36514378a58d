use mathlib.Core.Path.{◌≡◌}
use Rattle.record.specs.Record.{whole_sectors, with_words, cycle_words}
use Rattle.stored.proofs.saved.stamp.Given as goal

abbrev pub invariant-loop-k : goal.invariant-loop-k
invariant-loop-k l = l.bytes ≡ with_words l.k (cycle_words l.geometry.label l.first (whole_sectors l.initial.bytes)) l.initial.bytes
