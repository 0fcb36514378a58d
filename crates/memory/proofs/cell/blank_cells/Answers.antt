use Rattle.std.proofs.Common.{Some, None, replicate, ap, ◌≡◌}
use Rattle.std.proofs.lemmas.List.Elements.{same_from_all_zip}
use Rattle.std.proofs.lemmas.Result.{IfOk-weaker}
use Rattle.memory.proofs.cell.blank_cells.Goals as goal

pub returns : goal.returns
returns c =
    IfOk-weaker c.vec.result _ _ (λ v h. h (elim [ None ↦ λ k. absurd k | Some b ↦ λ k. ap (λ x. Some x) (same_from_all_zip (λ x y. y ≡ x) (replicate 512 0) b k.whole (λ x y e. e)) ])) c.vec.ensures.items_if_clones_equal
