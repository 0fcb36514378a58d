use Rattle.std.proofs.Common.{◌≡◌, ◌+◌, ◌*◌, ◌/◌, ◌<◌, ◌≤◌, length, sym, ap, ◌∙◌, arith}
use native.Mathlib.Nat.{mul-le-mul_left}
use lib.Bits.{bit_and, and_mask}
use Rattle.codec.specs.Fields.{put, be32_bytes}
use Rattle.record.specs.Record.{whole_sectors, with_words, cycle_words}
use Rattle.record.proofs.Words.{word_more, cycle_at, length_cycles, low_bytes}
use Rattle.stored.proofs.saved.stamp.Goals as goal

pub overflow_add-cycle : goal.overflow_add-cycle
overflow_add-cycle c = record { fits = omega (arith, c.join-first.ensures, mul-le-mul_left c.args.place.0 c.args.geometry.largest) }

pub loop-k-preserved : goal.loop-k-preserved
loop-k-preserved c =
    let k = c.loop-k.k in
    let b = c.args.bytes.now in
    let n = whole_sectors b in
    let L = c.args.geometry.label in
    let x = c.join-first.result + 1 in
    let y = (x + k) / L.count in
    let w = cycle_words L x n in
    let small : k < n = omega (arith, c.whole_sectors-k-end.ensures) in
    let e : be32_bytes (bit_and y 4294967295) ≡ be32_bytes y = ap be32_bytes (and_mask y 32) ∙ low_bytes y in
    let h : 512 * (k + 1) ≤ length b = omega arith in
    let l : 4 * (k + 1) ≤ length w = omega (arith, length_cycles L x n) in
    c.put_be.ensures ∙ ap (λ m. put c.loop-k.bytes (512 * k) (be32_bytes (bit_and ((x + k) / m) 4294967295))) c.count.ensures ∙ ap (λ r. put r (512 * k) (be32_bytes (bit_and y 4294967295))) c.loop-k.invariant
    ∙ ap (put (with_words k w b) (512 * k)) (e ∙ sym (cycle_at L x n k small)) ∙ word_more k w b h l
