use Rattle.std.proofs.Common.{refl, rules}
use Rattle.buffer.proofs.Walking.{walk_callable, walk_gives}
use Rattle.buffer.proofs.cursor.Cursor.before.Goals as goal

pub fold-requires-clause-callable : goal.fold-requires-clause-callable
fold-requires-clause-callable c = walk_callable _ c.args.map.head.now _ (λ at k r e call. search rules) c.default.result c.args.b _ refl c.requires c.default.ensures (λ at k few near. search rules)

pub returns : goal.returns
returns c = walk_gives _ c.args.map.head.now _ (λ at k r e call. search rules) c.default.result c.args.b _ c.fold.result refl c.default.ensures c.fold.ensures.ran
