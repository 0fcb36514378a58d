use Rattle.std.proofs.Common.{◌≡◌, not, rules, tests, arith}
use Rattle.std.proofs.lemmas.Iterator.{first_from_Range}
use Rattle.item.specs.Buffer.{map_bit}
use Rattle.buffer.proofs.map.Map.first.Goals as goal

pub returns : goal.returns
returns c =
    let h = c.args.self.now.head.now in
    let m = first_from_Range _ _ _ _ (λ k. map_bit h k ≡ c.args.wanted) (λ k. map_bit h k ≡ not c.args.wanted) c.find.ensures.ran (λ x q k. search (rules, tests)) (λ x q k. (search rules, search (rules, tests))) in
    grind (arith, m)
