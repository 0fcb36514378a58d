use Rattle.std.proofs.Common.{rules, tests, is_none, ◌∙◌}
use Rattle.std.proofs.lemmas.Iterator.{YieldsList-from_slice}
use Rattle.std.proofs.lemmas.Iterator.Consumers.{YieldsList-from_filter, YieldsList-at, count_from_yields_List}
use Rattle.memory.proofs.Held.{lost_filter}
use Rattle.memory.proofs.ram.calls.count_lost.Goals as goal

pub returns : goal.returns
returns c =
    count_from_yields_List c.filter.result c.count.result c.count.ensures.ran (YieldsList-from_filter _ is_none (YieldsList-at c.filter.ensures.source (YieldsList-from_slice c.args.cells.now cc)) c.filter.ensures.closure (λ x b q k. search (rules, tests)))
    ∙ lost_filter c.args.cells.now
