-- One byte by the first table.
use Rattle.std.proofs.Common.{◌≡◌, ◌/◌, ◌%◌, ap, ◌∙◌, arith, get_or}
use lib.Bits.{bit_xor}
use Rattle.crc.specs.Crc.{steps}
use Rattle.crc.proofs.Linear.{byte_by_table}
use Rattle.crc.proofs.sum.step.Goals as goal

pub returns : goal.returns
returns c =
    let x = c.args.c in
    let b = c.args.b in
    let e : get_or c.to_le_bytes.result 0 0 ≡ x % 256 = ap (λ l. get_or l 0 0) c.to_le_bytes.ensures in
    ap (λ y. bit_xor y (x / 256)) (c.entry.ensures ∙ ap (λ y. steps 8 (bit_xor y b)) e) ∙ byte_by_table x b (omega arith)
