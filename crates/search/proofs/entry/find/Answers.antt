-- The first entry that has the key is the place by it and by each key that is the same.
use Rattle.std.proofs.Common.{rules}
use Rattle.search.proofs.Firsts.{first_is, first_alike}
use Rattle.search.proofs.entry.find.Goals as goal

pub returns-clause-place : goal.returns-clause-place
returns-clause-place g c = first_is (λ (e : g.row.E.Denot). g.E.By.Key.same (g.E.Entry.by e) c.args.key.now) c.args.entries.now _ (search rules)

pub returns-clause-alike : goal.returns-clause-alike
returns-clause-alike g c k t =
    let laws = g.met.E.By.Key in
    first_alike g.E.By.Key.same g.E.Entry.by laws.symmetric laws.transitive c.args.entries.now c.args.key.now k t _ (search rules)
