use Rattle.std.proofs.Common.{◌-◌, refl, rules, tests}
use Rattle.std.proofs.lemmas.Iterator.{YieldsList-from_range}
use Rattle.std.proofs.lemmas.Iterator.Search.{any_from_yields_List}
use Rattle.item.specs.Buffer.{map_bit}
use Rattle.buffer.proofs.Matching.{bits_beyond, none_any}
use Rattle.buffer.proofs.map.Map.none_set.Goals as goal

pub returns : goal.returns
returns c =
    let h = c.args.self.now.head.now in
    let n = c.args.n in
    let m = c.args.m in
    let any = any_from_yields_List (map_bit h) _ _ _ c.any.ensures.ran (YieldsList-from_range n m (m - n) refl refl) (λ x b q k. search (rules, tests)) in
    let none = none_any h n (m - n) in
    let beyond = bits_beyond h n m in
    record { between = cc; beyond = cc }
