-- The words, then the bytes that are left.
use Rattle.std.proofs.Common.{ℕ, ◌/◌, ◌*◌, length, drop, ap, ◌∙◌, rules}
use Rattle.std.proofs.lemmas.Iterator.{YieldsList-from_slice}
use Rattle.std.proofs.lemmas.Iterator.Consumers.{fold_from_yields_List}
use Rattle.std.specs.List.{fold}
use Rattle.crc.specs.Crc.{byte_step, crc_of}
use Rattle.crc.proofs.Linear.{crc_bytes, crc_runs}
use Rattle.crc.proofs.sum.update.Goals as goal

pub returns : goal.returns
returns c =
    let words = fold_from_yields_List _ crc_of c.args.crc c.fold-state.result c.fold-state.ensures.ran (YieldsList-from_slice c.as_chunks.result.0.now cc) (λ a x b q k. search rules) in
    let rest = fold_from_yields_List _ byte_step c.fold-state.result c.fold.result c.fold.ensures.ran (YieldsList-from_slice c.as_chunks.result.1.now cc) (λ a x b q k. search rules) in
    let n : ℕ = length c.args.bytes.now / 8 in
    rest ∙ crc_bytes c.fold-state.result c.as_chunks.result.1.now ∙ ap (crc_of c.fold-state.result) c.as_chunks.ensures.back
    ∙ ap (λ s. crc_of s (drop (n * 8) c.args.bytes.now)) (words ∙ ap (fold crc_of c.args.crc) c.as_chunks.ensures.front) ∙ crc_runs 8 n c.args.crc c.args.bytes.now
