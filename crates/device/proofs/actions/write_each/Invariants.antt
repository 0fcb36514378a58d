use Rattle.std.proofs.Common.{◌^◌, ◌<◌, ℕ, List, ◌+◌}
use Rattle.std.specs.Iterator.{AlwaysYields}
use Rattle.device.specs.Actions.{run, writes}
use Rattle.device.proofs.Turns.{Owed}
use Rattle.device.proofs.actions.write_each.Given as goal

abbrev pub invariant-loop-offset : goal.invariant-loop-offset
invariant-loop-offset g l =
    (goal.iterator-loop-offset g).can_next l.offset-iterator
    × (goal.iterator-loop-offset g).is_finite l.offset-iterator
    × g.D.Device.kept l.initial.d l.d
    × (l.first + l.offset-iterator.count < 2 ^ 64)
    × ((bs : List (List ℕ)) → AlwaysYields g.I.Iterator.next_gives (λ b. b.now) l.fn.sectors bs
    → Owed g.I.Iterator.next_gives (l.first + l.offset-iterator.count) l.offset-iterator.iter (g.D.Device.state l.d) (run (writes l.first bs) (g.D.Device.state l.initial.d)))
